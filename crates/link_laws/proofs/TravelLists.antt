-- Histories of directed links: what of their entries arrives in a slot, and what is in flight.
use Rattle.std.proofs.Common.{◌≡◌, ℕ, suc, ◌+◌, ◌<◌, ◌≤◌, Bool, true, false, ◌||◌, eqb, leb, Option, Some, None, List, [], ◌∷◌, ◌++◌, length, refl, sym, ap, ◌∙◌, subst, arith, inl, inr}
use mathlib.Core.Logic.{◌⊎◌}
use Rattle.std.specs.Prelude.{option_to_list}
use Rattle.std.specs.List.{AllByRecursion}
use Rattle.std.proofs.lemmas.Bool.{cases_lt, cases_order, ne_eqb, eq-eqb, le-leb, lt-leb}
use Rattle.std.proofs.lemmas.List.{append-nil}
use Rattle.std.proofs.lemmas.List.Elements.{filter-append}
use Rattle.xs_base.specs.declared.token.Token.{Token}
use Rattle.xs_base.specs.declared.entry.Entry.{Entry}
use Rattle.xs_base.specs.declared.entry.What.{What}
use Rattle.xs_base.specs.declared.entry.What.TheVariants as what
use Rattle.serial_model.specs.Serial.{arriving, token_or, token_among, is_credit, credit_among, token_entries, credit_entries}
use Rattle.link_laws.specs.Travel.{token_of, tokens_of, count_credit, credits_of, in_flight}

pub all-map : {X : Type 0} (P Q : X → Type 0) → ((x : X) → P x → Q x) → (xs : List X) → AllByRecursion P xs → AllByRecursion Q xs
all-map P Q f [] h = tt
all-map P Q f (x ∷ xs) h = (f x h.0, all-map P Q f xs h.1)

pub all-append : {X : Type 0} (P : X → Type 0) (xs ys : List X) → AllByRecursion P xs → AllByRecursion P ys → AllByRecursion P (xs ++ ys)
all-append P [] ys h k = k
all-append P (x ∷ xs) ys h k = (h.0, all-append P xs ys h.1 k)

-- ---- Tokens and credits among entries

tokens-step : (w : What) (xs ys : List Token) → token_of w ++ (xs ++ ys) ≡ (token_of w ++ xs) ++ ys
tokens-step (what.Token t) xs ys = refl
tokens-step what.Credit xs ys = refl
tokens-step (what.Level level) xs ys = refl

pub tokens-append : (xs ys : List Entry) → tokens_of (xs ++ ys) ≡ tokens_of xs ++ tokens_of ys
tokens-append [] ys = refl
tokens-append (e ∷ es) ys = ap (λ l. token_of e.what ++ l) (tokens-append es ys) ∙ tokens-step e.what (tokens_of es) (tokens_of ys)

pub credits-append : (xs ys : List Entry) → credits_of (xs ++ ys) ≡ credits_of xs + credits_of ys
credits-append [] ys = omega arith
credits-append (e ∷ es) ys = omega (arith, credits-append es ys)

none-of-length : {X : Type 0} (xs : List X) → length xs ≤ 0 → xs ≡ []
none-of-length [] h = refl
none-of-length (x ∷ xs) h = absurd (omega arith)

-- where there is at most one token, it is the first
first-step : (w : What) (es : List Entry) → (length (tokens_of es) ≤ 1 → tokens_of es ≡ option_to_list (token_among es)) → length (token_of w ++ tokens_of es) ≤ 1
    → token_of w ++ tokens_of es ≡ option_to_list (token_or w (token_among es))
first-step (what.Token t) es rest h = ap (λ l. t ∷ l) (none-of-length (tokens_of es) (omega arith))
first-step what.Credit es rest h = rest h
first-step (what.Level level) es rest h = rest h

pub first-token : (es : List Entry) → length (tokens_of es) ≤ 1 → tokens_of es ≡ option_to_list (token_among es)
first-token [] h = refl
first-token (e ∷ es) h = first-step e.what es (first-token es) h

abbrev pub one_if : Bool → ℕ
one_if true = 1
one_if false = 0

-- where there is at most one credit, there is one exactly if one is among the entries
credit-step : (w : What) (es : List Entry) → (credits_of es ≤ 1 → credits_of es ≡ one_if (credit_among es)) → count_credit w + credits_of es ≤ 1
    → count_credit w + credits_of es ≡ one_if (is_credit w || credit_among es)
credit-step (what.Token t) es rest h = omega (arith, rest (omega arith))
credit-step what.Credit es rest h = omega arith
credit-step (what.Level level) es rest h = omega (arith, rest (omega arith))

pub one-credit : (es : List Entry) → credits_of es ≤ 1 → credits_of es ≡ one_if (credit_among es)
one-credit [] h = refl
one-credit (e ∷ es) h = credit-step e.what es (one-credit es) h

-- ---- Entries of a slot, and entries before it

abbrev pub AreBefore : ℕ → List Entry → Type 0
AreBefore slot = AllByRecursion (λ (e : Entry). e.slot < slot)

abbrev pub AreOf : ℕ → List Entry → Type 0
AreOf slot = AllByRecursion (λ (e : Entry). e.slot ≡ slot)

-- no entry was sent before the one that stands before it
abbrev pub Ascend : List Entry → Type 0
Ascend [] = Unit {0}
Ascend (e ∷ es) = AllByRecursion (λ (f : Entry). e.slot ≤ f.slot) es × Ascend es

pub of-ascend : (slot : ℕ) (es : List Entry) → AreOf slot es → Ascend es
of-ascend slot [] h = tt
of-ascend slot (e ∷ es) h = (all-map (λ (f : Entry). f.slot ≡ slot) (λ (f : Entry). e.slot ≤ f.slot) (λ f k. omega (arith, k, h.0)) es h.1, of-ascend slot es h.1)

pub ascend-append : (slot : ℕ) (es new : List Entry) → Ascend es → AreBefore slot es → AreOf slot new → Ascend (es ++ new)
ascend-append slot [] new order before of = of-ascend slot new of
ascend-append slot (e ∷ es) new order before of = (
  all-append (λ (f : Entry). e.slot ≤ f.slot) es new order.0 (all-map (λ (f : Entry). f.slot ≡ slot) (λ (f : Entry). e.slot ≤ f.slot) (λ f k. omega (arith, k, before.0)) new of),
  ascend-append slot es new order.1 before.1 of,
)

pub before-append : (slot : ℕ) (es new : List Entry) → AreBefore slot es → AreOf slot new → AreBefore (suc slot) (es ++ new)
before-append slot es new before of =
    all-append (λ (e : Entry). e.slot < suc slot) es new
    (all-map (λ (e : Entry). e.slot < slot) (λ (e : Entry). e.slot < suc slot) (λ e k. omega (arith, k)) es before)
    (all-map (λ (e : Entry). e.slot ≡ slot) (λ (e : Entry). e.slot < suc slot) (λ e k. omega (arith, k)) new of)

-- ---- What arrives, and what is in flight

-- entries before a slot do not arrive a delay after it or later
pub none-arrives-before : (slot delay u : ℕ) (es : List Entry) → AreBefore slot es → slot + delay ≤ u → arriving u delay es ≡ []
none-arrives-before slot delay u [] before h = refl
none-arrives-before slot delay u (e ∷ es) before h =
    let ne : eqb (e.slot + delay) u ≡ false = ne_eqb (e.slot + delay) u (λ same. omega (arith, before.0)) in
    rw ne (none-arrives-before slot delay u es before.1 h)

-- and entries of a slot not earlier
pub none-arrives-of : (slot delay u : ℕ) (es : List Entry) → AreOf slot es → u < slot + delay → arriving u delay es ≡ []
none-arrives-of slot delay u [] of h = refl
none-arrives-of slot delay u (e ∷ es) of h =
    let ne : eqb (e.slot + delay) u ≡ false = ne_eqb (e.slot + delay) u (λ same. omega (arith, of.0)) in
    rw ne (none-arrives-of slot delay u es of.1 h)

-- what was sent in a slot is in flight in the next
pub all-in-flight : (slot delay : ℕ) (es : List Entry) → AreOf slot es → 1 ≤ delay → in_flight (suc slot) delay es ≡ es
all-in-flight slot delay [] of h = refl
all-in-flight slot delay (e ∷ es) of h =
    let le : leb (suc slot) (e.slot + delay) ≡ true = le-leb (suc slot) (e.slot + delay) (omega (arith, of.0)) in
    rw le (ap (λ l. e ∷ l) (all-in-flight slot delay es of.1 h))

-- of what is in flight those that arrive come first, and the others are in flight in the next slot
module _ (u delay : ℕ) where
  abbrev IsLater : Entry → Type 0
  IsLater e = u < e.slot + delay

  none-later : (es : List Entry) → AllByRecursion IsLater es → arriving u delay es ≡ []
  none-later [] h = refl
  none-later (e ∷ es) h =
      let ne : eqb (e.slot + delay) u ≡ false = ne_eqb (e.slot + delay) u (λ same. omega (arith, h.0)) in
      rw ne (none-later es h.1)

  flight-step : (e : Entry) (es : List Entry) → AllByRecursion (λ (f : Entry). e.slot ≤ f.slot) es → in_flight u delay es ≡ arriving u delay es ++ in_flight (suc u) delay es
      → (e.slot + delay ≡ u) ⊎ ((e.slot + delay < u) ⊎ (u < e.slot + delay)) → in_flight u delay (e ∷ es) ≡ arriving u delay (e ∷ es) ++ in_flight (suc u) delay (e ∷ es)
  flight-step e es order rest (inl now) =
      let eq : eqb (e.slot + delay) u ≡ true = eq-eqb (e.slot + delay) u now in
      let le : leb u (e.slot + delay) ≡ true = le-leb u (e.slot + delay) (omega arith) in
      let gt : leb (suc u) (e.slot + delay) ≡ false = lt-leb (suc u) (e.slot + delay) (omega arith) in
      rw (eq, le, gt) (ap (λ l. e ∷ l) rest)
  flight-step e es order rest (inr (inl past)) =
      let ne : eqb (e.slot + delay) u ≡ false = ne_eqb (e.slot + delay) u (λ same. omega arith) in
      let lt : leb u (e.slot + delay) ≡ false = lt-leb u (e.slot + delay) (omega arith) in
      let gt : leb (suc u) (e.slot + delay) ≡ false = lt-leb (suc u) (e.slot + delay) (omega arith) in
      rw (ne, lt, gt) rest
  flight-step e es order rest (inr (inr later)) =
      let ne : eqb (e.slot + delay) u ≡ false = ne_eqb (e.slot + delay) u (λ same. omega arith) in
      let le : leb u (e.slot + delay) ≡ true = le-leb u (e.slot + delay) (omega arith) in
      let ge : leb (suc u) (e.slot + delay) ≡ true = le-leb (suc u) (e.slot + delay) (omega arith) in
      let none = none-later es (all-map (λ (f : Entry). e.slot ≤ f.slot) IsLater (λ f k. omega (arith, k)) es order) in
      let none_es : in_flight u delay es ≡ in_flight (suc u) delay es = rest ∙ ap (λ l. l ++ in_flight (suc u) delay es) none in
      rw (ne, le, ge, none) (ap (λ l. e ∷ l) none_es)

  pub flight-split : (es : List Entry) → Ascend es → in_flight u delay es ≡ arriving u delay es ++ in_flight (suc u) delay es
  flight-split [] order = refl
  flight-split (e ∷ es) order = flight-step e es order.0 (flight-split es order.1) (cases_order (e.slot + delay) u)

-- ---- What a slot sends

abbrev pub sent_in : ℕ → Option Token → Bool → List Entry
sent_in slot token credit = token_entries slot token ++ credit_entries slot credit

pub sent-of : (slot : ℕ) (token : Option Token) (credit : Bool) → AreOf slot (sent_in slot token credit)
sent-of slot None false = tt
sent-of slot None true = (refl, tt)
sent-of slot (Some t) false = (refl, tt)
sent-of slot (Some t) true = (refl, (refl, tt))

pub sent-tokens : (slot : ℕ) (token : Option Token) (credit : Bool) → tokens_of (sent_in slot token credit) ≡ option_to_list token
sent-tokens slot None false = refl
sent-tokens slot None true = refl
sent-tokens slot (Some t) false = refl
sent-tokens slot (Some t) true = refl

pub sent-credits : (slot : ℕ) (token : Option Token) (credit : Bool) → credits_of (sent_in slot token credit) ≡ one_if credit
sent-credits slot None false = refl
sent-credits slot None true = refl
sent-credits slot (Some t) false = refl
sent-credits slot (Some t) true = refl

-- at most one token and one credit of these arrives in a slot
sent-one : (slot delay u : ℕ) (token : Option Token) (credit test : Bool) → eqb (slot + delay) u ≡ test
    → (length (tokens_of (arriving u delay (sent_in slot token credit))) ≤ 1) × (credits_of (arriving u delay (sent_in slot token credit)) ≤ 1)
sent-one slot delay u None false test e = (omega arith, omega arith)
sent-one slot delay u None true true e = rw e (omega arith, omega arith)
sent-one slot delay u None true false e = rw e (omega arith, omega arith)
sent-one slot delay u (Some t) false true e = rw e (omega arith, omega arith)
sent-one slot delay u (Some t) false false e = rw e (omega arith, omega arith)
sent-one slot delay u (Some t) true true e = rw e (omega arith, omega arith)
sent-one slot delay u (Some t) true false e = rw e (omega arith, omega arith)

-- ---- A history before a slot

pub record History (slot delay : ℕ) (es : List Entry) : Type 0 where
  pub before : AreBefore slot es
  pub order : Ascend es
  -- at most one token and one credit arrives in any slot
  pub one_token : (u : ℕ) → length (tokens_of (arriving u delay es)) ≤ 1
  pub one_credit : (u : ℕ) → credits_of (arriving u delay es) ≤ 1

pub empty-history : (delay : ℕ) → History 0 delay []
empty-history delay = record { before = tt; order = tt; one_token = λ u. omega arith; one_credit = λ u. omega arith }

module _ (slot delay : ℕ) (es : List Entry) (h : History slot delay es) (token : Option Token) (credit : Bool) where
  abbrev new : List Entry
  new = sent_in slot token credit

  abbrev pub OneArrives : ℕ → List Entry → Type 0
  OneArrives u l = (length (tokens_of l) ≤ 1) × (credits_of l ≤ 1)

  one-step : (u : ℕ) → (u < slot + delay) ⊎ (slot + delay ≤ u) → OneArrives u (arriving u delay (es ++ new))
  one-step u (inl earlier) =
      let all = filter-append (λ (e : Entry). eqb (e.slot + delay) u) es new in
      let none = none-arrives-of slot delay u new (sent-of slot token credit) earlier in
      let is : arriving u delay (es ++ new) ≡ arriving u delay es = all ∙ ap (λ l. arriving u delay es ++ l) none ∙ append-nil (arriving u delay es) in
      subst (OneArrives u) (sym is) (h.one_token u, h.one_credit u)
  one-step u (inr later) =
      let all = filter-append (λ (e : Entry). eqb (e.slot + delay) u) es new in
      let none = none-arrives-before slot delay u es h.before later in
      let is : arriving u delay (es ++ new) ≡ arriving u delay new = all ∙ ap (λ l. l ++ arriving u delay new) none in
      subst (OneArrives u) (sym is) (sent-one slot delay u token credit (eqb (slot + delay) u) refl)

  pub next-history : History (suc slot) delay (es ++ new)
  next-history = record {
    before = before-append slot es new h.before (sent-of slot token credit);
    order = ascend-append slot es new h.order h.before (sent-of slot token credit);
    one_token = λ u. (one-step u (cases_lt u (slot + delay))).0;
    one_credit = λ u. (one-step u (cases_lt u (slot + delay))).1;
  }

  -- what is in flight in the next slot: what was in flight and did not arrive, and what was sent
  pub next-flight : 1 ≤ delay → in_flight (suc slot) delay (es ++ new) ≡ in_flight (suc slot) delay es ++ new
  next-flight d =
      filter-append (λ (e : Entry). leb (suc slot) (e.slot + delay)) es new ∙ ap (λ l. in_flight (suc slot) delay es ++ l) (all-in-flight slot delay new (sent-of slot token credit) d)

  pub tokens-next : tokens_of (es ++ new) ≡ tokens_of es ++ option_to_list token
  tokens-next = tokens-append es new ∙ ap (λ l. tokens_of es ++ l) (sent-tokens slot token credit)

  pub credits-next : credits_of (es ++ new) ≡ credits_of es + one_if credit
  credits-next = omega (arith, credits-append es new, sent-credits slot token credit)

  pub tokens-flight-next : 1 ≤ delay → tokens_of (in_flight (suc slot) delay (es ++ new)) ≡ tokens_of (in_flight (suc slot) delay es) ++ option_to_list token
  tokens-flight-next d =
      ap tokens_of (next-flight d) ∙ tokens-append (in_flight (suc slot) delay es) new ∙ ap (λ l. tokens_of (in_flight (suc slot) delay es) ++ l) (sent-tokens slot token credit)

  pub credits-flight-next : 1 ≤ delay → credits_of (in_flight (suc slot) delay (es ++ new)) ≡ credits_of (in_flight (suc slot) delay es) + one_if credit
  credits-flight-next d =
      omega (arith, ap credits_of (next-flight d), credits-append (in_flight (suc slot) delay es) new, sent-credits slot token credit)

-- what arrives of what is in flight
module _ (slot delay : ℕ) (es : List Entry) (h : History slot delay es) where
  pub tokens-arrive : tokens_of (arriving slot delay es) ≡ option_to_list (token_among (arriving slot delay es))
  tokens-arrive = first-token (arriving slot delay es) (h.one_token slot)

  pub credits-arrive : credits_of (arriving slot delay es) ≡ one_if (credit_among (arriving slot delay es))
  credits-arrive = one-credit (arriving slot delay es) (h.one_credit slot)

  pub tokens-split : tokens_of (in_flight slot delay es) ≡ option_to_list (token_among (arriving slot delay es)) ++ tokens_of (in_flight (suc slot) delay es)
  tokens-split =
      ap tokens_of (flight-split slot delay es h.order)
      ∙ tokens-append (arriving slot delay es) (in_flight (suc slot) delay es)
      ∙ ap (λ l. l ++ tokens_of (in_flight (suc slot) delay es)) tokens-arrive

  pub credits-split : credits_of (in_flight slot delay es) ≡ one_if (credit_among (arriving slot delay es)) + credits_of (in_flight (suc slot) delay es)
  credits-split =
      omega (arith, ap credits_of (flight-split slot delay es h.order), credits-append (arriving slot delay es) (in_flight (suc slot) delay es), credits-arrive)
