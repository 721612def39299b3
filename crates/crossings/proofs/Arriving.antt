-- What arrives of a history that is in order stands at one place of it.
use Rattle.std.proofs.Common.{◌≡◌, ℕ, zero, suc, ◌+◌, ◌<◌, ◌≤◌, Bool, true, false, eqb, Option, Some, None, List, [], ◌∷◌, ◌++◌, length, drop, filter, ltb, refl, sym, ◌∙◌, subst, arith, inl, inr}
use mathlib.Core.Logic.{◌⊎◌}
use Rattle.std.specs.Prelude.{slice_get, is_some}
use Rattle.std.specs.List.{AllByRecursion}
use Rattle.std.proofs.lemmas.Bool.{cases_lt, lt-ltb, le-ltb}
use borrow.Author.Tests.{ne_eqb, eq-eqb, clash}
use Rattle.xs_base.specs.declared.token.Token.{Token}
use Rattle.xs_base.specs.declared.entry.Entry.{Entry}
use Rattle.xs_base.specs.declared.entry.What.{What}
use Rattle.xs_base.specs.declared.entry.What.TheVariants as what
use Rattle.serial_model.specs.Serial.{IsNoLevel, arriving, is_credit, token_entries, credit_entries}
use Rattle.crossings.specs.declared.crossing.Crossing.{Crossing}
use Rattle.crossings.specs.Crossings.{ArrivesOf, crossing_of, MayFollow, Later, Beside, AreInSendingOrder, HaveNoLevel, IsDueFrom, due_of, seen_of, one_if, entry_count}

zero-sum : (n : ℕ) → 0 + n ≡ n
zero-sum n = omega arith

suc-sum : (k n : ℕ) → suc k + n ≡ suc (k + n)
suc-sum k n = omega arith

pub all-map : {X : Type 0} (P Q : X → Type 0) → ((x : X) → P x → Q x) → (xs : List X) → AllByRecursion P xs → AllByRecursion Q xs
all-map P Q f [] h = tt
all-map P Q f (x ∷ xs) h = (f x h.0, all-map P Q f xs h.1)

pub all-append : {X : Type 0} (P : X → Type 0) (xs ys : List X) → AllByRecursion P xs → AllByRecursion P ys → AllByRecursion P (xs ++ ys)
all-append P [] ys h k = k
all-append P (x ∷ xs) ys h k = (h.0, all-append P xs ys h.1 k)

module _ (slot delay : ℕ) where
  -- it arrives in a later slot
  abbrev IsLater : Entry → Type 0
  IsLater e = slot < e.slot + delay

  none-later : (es : List Entry) → AllByRecursion IsLater es → arriving slot delay es ≡ []
  none-later [] h = refl
  none-later (e ∷ es) h =
      let ne : eqb (e.slot + delay) slot ≡ false = ne_eqb (e.slot + delay) slot (λ same. omega (arith, h.0)) in
      rw ne (none-later es h.1)

  follows-later : (e f : Entry) → IsLater e → MayFollow e f → IsLater f
  follows-later e f h (Later l) = omega arith
  follows-later e f h (Beside same token credit) = omega arith

  follows-credit : (e f : Entry) → slot ≤ e.slot + delay → is_credit e.what ≡ true → MayFollow e f → IsLater f
  follows-credit e f h c (Later l) = omega arith
  follows-credit e f h c (Beside same token credit) = absurd (clash (sym token ∙ c))

  after-later : (e : Entry) (es : List Entry) → IsLater e → AllByRecursion (MayFollow e) es → AllByRecursion IsLater es
  after-later e es h all = all-map (MayFollow e) IsLater (λ f. follows-later e f h) es all

  after-credit : (e : Entry) (es : List Entry) → slot ≤ e.slot + delay → is_credit e.what ≡ true → AllByRecursion (MayFollow e) es → AllByRecursion IsLater es
  after-credit e es h c all = all-map (MayFollow e) IsLater (λ f. follows-credit e f h c) es all

  abbrev IsNotPast : Entry → Type 0
  IsNotPast e = slot ≤ e.slot + delay

  abbrev at : ℕ → What → Entry
  at s w = record { slot = s; what = w }

  -- of a token that arrives, and what follows it
  seen-beside : (t : Token) (s : ℕ) (f : Entry) (fs : List Entry) → s + delay ≡ slot → MayFollow (at s (what.Token t)) f → AllByRecursion (MayFollow f) fs
      → crossing_of (arriving slot delay (at s (what.Token t) ∷ (f ∷ fs))) ≡ seen_of (due_of slot delay (Some (at s (what.Token t)))) (due_of slot delay (Some f))
  seen-beside t s f fs now (Later l) order =
      let eq : eqb (s + delay) slot ≡ true = eq-eqb (s + delay) slot now in
      let ne : eqb (f.slot + delay) slot ≡ false = ne_eqb (f.slot + delay) slot (λ same. omega (arith, l)) in
      let none = none-later fs (after-later f fs (omega (arith, l)) order) in
      rw (eq, ne, none) refl
  seen-beside t s f fs now (Beside same token credit) order =
      let eq : eqb (s + delay) slot ≡ true = eq-eqb (s + delay) slot now in
      let eq_f : eqb (f.slot + delay) slot ≡ true = eq-eqb (f.slot + delay) slot (omega (arith, same)) in
      rw (eq, eq_f, credit) refl

  seen-now : (s : ℕ) (w : What) (es : List Entry) → s + delay ≡ slot → AllByRecursion (MayFollow (at s w)) es → AreInSendingOrder es → IsNoLevel w
      → crossing_of (arriving slot delay (at s w ∷ es)) ≡ seen_of (due_of slot delay (Some (at s w))) (due_of slot delay (slice_get es 0))
  seen-now s what.Credit es now follow order is =
      let eq : eqb (s + delay) slot ≡ true = eq-eqb (s + delay) slot now in
      let none = none-later es (after-credit (at s what.Credit) es (omega arith) refl follow) in
      rw (eq, none) refl
  seen-now s (what.Token t) [] now follow order is =
      let eq : eqb (s + delay) slot ≡ true = eq-eqb (s + delay) slot now in
      rw eq refl
  seen-now s (what.Token t) (f ∷ fs) now follow order is = seen-beside t s f fs now follow.0 order.0
  seen-now s (what.Level level) es now follow order is = absurd is

  seen-first : (s : ℕ) (w : What) (es : List Entry) → slot ≤ s + delay → AllByRecursion (MayFollow (at s w)) es → AreInSendingOrder es → IsNoLevel w → (slot < s + delay) ⊎ (s + delay ≤ slot)
      → crossing_of (arriving slot delay (at s w ∷ es)) ≡ seen_of (due_of slot delay (Some (at s w))) (due_of slot delay (slice_get es 0))
  seen-first s w es h follow order is (inl later) =
      let ne : eqb (s + delay) slot ≡ false = ne_eqb (s + delay) slot (λ same. omega arith) in
      let none = none-later es (after-later (at s w) es later follow) in
      rw (ne, none) refl
  seen-first s w es h follow order is (inr now) = seen-now s w es (omega arith) follow order is

  -- what arrives of a directed link's history
  pub seen-at : (first : ℕ) (es : List Entry) → IsDueFrom slot delay first es → AreInSendingOrder es → HaveNoLevel es
      → crossing_of (arriving slot delay es) ≡ seen_of (due_of slot delay (slice_get es first)) (due_of slot delay (slice_get es (first + 1)))
  seen-at zero [] due order are = refl
  seen-at zero (e ∷ es) due order are = seen-first e.slot e.what es due.0 order.0 order.1 are.0 (cases_lt slot (e.slot + delay))
  seen-at (suc k) [] due order are = absurd due
  seen-at (suc k) (e ∷ es) due order are =
      let ne : eqb (e.slot + delay) slot ≡ false = ne_eqb (e.slot + delay) slot (λ same. omega (arith, due.0)) in
      let p : suc k + 1 ≡ suc (k + 1) = omega arith in
      rw (ne, p) (seen-at k es due.1 order.1 are.1)

  later-due : (es : List Entry) → AllByRecursion IsLater es → AllByRecursion (λ (e : Entry). slot + 1 ≤ e.slot + delay) es
  later-due es h = all-map IsLater (λ (e : Entry). slot + 1 ≤ e.slot + delay) (λ e l. omega (arith, l)) es h

  next-beside : (t : Token) (s : ℕ) (f : Entry) (fs : List Entry) → s + delay ≡ slot → MayFollow (at s (what.Token t)) f → AllByRecursion (MayFollow f) fs
      → IsDueFrom (slot + 1) delay (entry_count (seen_of (due_of slot delay (Some (at s (what.Token t)))) (due_of slot delay (Some f)))) (at s (what.Token t) ∷ (f ∷ fs))
  next-beside t s f fs now (Later l) order =
      let eq : eqb (s + delay) slot ≡ true = eq-eqb (s + delay) slot now in
      let ne : eqb (f.slot + delay) slot ≡ false = ne_eqb (f.slot + delay) slot (λ same. omega (arith, l)) in
      let rest = later-due fs (after-later f fs (omega (arith, l)) order) in
      rw (eq, ne) (omega arith, (omega (arith, l), rest))
  next-beside t s f fs now (Beside same token credit) order =
      let eq : eqb (s + delay) slot ≡ true = eq-eqb (s + delay) slot now in
      let eq_f : eqb (f.slot + delay) slot ≡ true = eq-eqb (f.slot + delay) slot (omega (arith, same)) in
      let rest = later-due fs (after-credit f fs (omega (arith, same)) credit order) in
      rw (eq, eq_f) (omega arith, (omega (arith, same), rest))

  next-now : (s : ℕ) (w : What) (es : List Entry) → s + delay ≡ slot → AllByRecursion (MayFollow (at s w)) es → AreInSendingOrder es → IsNoLevel w
      → IsDueFrom (slot + 1) delay (entry_count (seen_of (due_of slot delay (Some (at s w))) (due_of slot delay (slice_get es 0)))) (at s w ∷ es)
  next-now s what.Credit es now follow order is =
      let eq : eqb (s + delay) slot ≡ true = eq-eqb (s + delay) slot now in
      let rest = later-due es (after-credit (at s what.Credit) es (omega arith) refl follow) in
      rw eq (omega arith, rest)
  next-now s (what.Token t) [] now follow order is =
      let eq : eqb (s + delay) slot ≡ true = eq-eqb (s + delay) slot now in
      rw eq (omega arith, tt)
  next-now s (what.Token t) (f ∷ fs) now follow order is = next-beside t s f fs now follow.0 order.0
  next-now s (what.Level level) es now follow order is = absurd is

  next-first : (s : ℕ) (w : What) (es : List Entry) → slot ≤ s + delay → AllByRecursion (MayFollow (at s w)) es → AreInSendingOrder es → IsNoLevel w → (slot < s + delay) ⊎ (s + delay ≤ slot)
      → IsDueFrom (slot + 1) delay (entry_count (seen_of (due_of slot delay (Some (at s w))) (due_of slot delay (slice_get es 0)))) (at s w ∷ es)
  next-first s w es h follow order is (inl later) =
      let ne : eqb (s + delay) slot ≡ false = ne_eqb (s + delay) slot (λ same. omega arith) in
      let rest = later-due es (after-later (at s w) es later follow) in
      rw ne (omega arith, rest)
  next-first s w es h follow order is (inr now) = next-now s w es (omega arith) follow order is

  pub next-at : (first : ℕ) (es : List Entry) → IsDueFrom slot delay first es → AreInSendingOrder es → HaveNoLevel es
      → IsDueFrom (slot + 1) delay (first + entry_count (seen_of (due_of slot delay (slice_get es first)) (due_of slot delay (slice_get es (first + 1))))) es
  next-at zero [] due order are = tt
  next-at zero (e ∷ es) due order are = rw zero-sum (next-first e.slot e.what es due.0 order.0 order.1 are.0 (cases_lt slot (e.slot + delay)))
  next-at (suc k) [] due order are = absurd due
  next-at (suc k) (e ∷ es) due order are =
      let p : suc k + 1 ≡ suc (k + 1) = omega arith in
      rw (p, suc-sum) (omega (arith, due.0), next-at k es due.1 order.1 are.1)

pub due-append : (slot delay first : ℕ) (es new : List Entry) → IsDueFrom slot delay first es → AllByRecursion (λ (e : Entry). slot ≤ e.slot + delay) new → IsDueFrom slot delay first (es ++ new)
due-append slot delay zero es new h k = all-append (λ (e : Entry). slot ≤ e.slot + delay) es new h k
due-append slot delay (suc first) [] new h k = absurd h
due-append slot delay (suc first) (e ∷ es) new h k = (h.0, due-append slot delay first es new h.1 k)

pub order-append : (slot : ℕ) (es new : List Entry) → AreInSendingOrder es → AllByRecursion (λ (e : Entry). e.slot < slot) es → AllByRecursion (λ (e : Entry). e.slot ≡ slot) new → AreInSendingOrder new → AreInSendingOrder (es ++ new)
order-append slot [] new order before at order_new = order_new
order-append slot (e ∷ es) new order before at order_new = (
  all-append (MayFollow e) es new order.0 (all-map (λ (f : Entry). f.slot ≡ slot) (MayFollow e) (λ f same. Later (omega (arith, before.0, same))) new at),
  order-append slot es new order.1 before.1 at order_new,
)

-- what a slot sends is in order
pub sent-order : (slot : ℕ) (token : Option Token) (credit : Bool) → AreInSendingOrder (token_entries slot token ++ credit_entries slot credit)
sent-order slot None false = tt
sent-order slot None true = (tt, tt)
sent-order slot (Some t) false = (tt, tt)
sent-order slot (Some t) true = ((Beside refl refl refl, tt), (tt, tt))

pub sent-at : (slot : ℕ) (token : Option Token) (credit : Bool) → AllByRecursion (λ (e : Entry). e.slot ≡ slot) (token_entries slot token ++ credit_entries slot credit)
sent-at slot None false = tt
sent-at slot None true = (refl, tt)
sent-at slot (Some t) false = (refl, tt)
sent-at slot (Some t) true = (refl, (refl, tt))

-- and it has no level
pub sent-no-level : (slot : ℕ) (token : Option Token) (credit : Bool) → HaveNoLevel (token_entries slot token ++ credit_entries slot credit)
sent-no-level slot None false = tt
sent-no-level slot None true = (tt, tt)
sent-no-level slot (Some t) false = (tt, tt)
sent-no-level slot (Some t) true = (tt, (tt, tt))

pub no-level-append : (es new : List Entry) → HaveNoLevel es → HaveNoLevel new → HaveNoLevel (es ++ new)
no-level-append es new are are_new = all-append (λ (e : Entry). IsNoLevel e.what) es new are are_new

one_if-most : (b : Bool) → one_if b ≤ 1
one_if-most false = omega arith
one_if-most true = omega arith

pub count-most : (c : Crossing) → entry_count c ≤ 2
count-most c = omega (arith, one_if-most (is_some c.token), one_if-most c.credit)

-- ---- A queue in which no entry is past

pub order-drop : (k : ℕ) (es : List Entry) → AreInSendingOrder es → AreInSendingOrder (drop k es)
order-drop zero es order = order
order-drop (suc k) [] order = tt
order-drop (suc k) (e ∷ es) order = order-drop k es order.1

no-level-drop : (k : ℕ) (es : List Entry) → HaveNoLevel es → HaveNoLevel (drop k es)
no-level-drop zero es are = are
no-level-drop (suc k) [] are = tt
no-level-drop (suc k) (e ∷ es) are = no-level-drop k es are.1

module _ (slot delay : ℕ) where
  abbrev arrives_later : Entry → Bool
  arrives_later e = ltb slot (e.slot + delay)

  all-later : (es : List Entry) → AllByRecursion (λ (e : Entry). slot + 1 ≤ e.slot + delay) es → es ≡ filter arrives_later es
  all-later [] h = refl
  all-later (e ∷ es) h =
      let yes : arrives_later e ≡ true = lt-ltb slot (e.slot + delay) (omega (arith, h.0)) in
      rw yes (λ i. e ∷ all-later es h.1 i)

  -- what is left behind the entries that arrived before the next slot
  pub due-drop : (k : ℕ) (es : List Entry) → IsDueFrom (slot + 1) delay k es → drop k es ≡ filter arrives_later es
  due-drop zero es due = all-later es due
  due-drop (suc k) [] due = absurd due
  due-drop (suc k) (e ∷ es) due =
      let no : arrives_later e ≡ false = le-ltb slot (e.slot + delay) (omega (arith, due.0)) in
      rw no (due-drop k es due.1)

  due-rest : (k : ℕ) (es : List Entry) → IsDueFrom (slot + 1) delay k es → AllByRecursion (λ (e : Entry). slot + 1 ≤ e.slot + delay) (drop k es)
  due-rest zero es due = due
  due-rest (suc k) [] due = absurd due
  due-rest (suc k) (e ∷ es) due = due-rest k es due.1

  due-count : (k : ℕ) (es : List Entry) → IsDueFrom (slot + 1) delay k es → k ≤ length es
  due-count zero es due = omega arith
  due-count (suc k) [] due = absurd due
  due-count (suc k) (e ∷ es) due = omega (arith, due-count k es due.1)

  -- of a link, its first two entries tell what arrives
  pub arrives-of : (queue : List Entry) → AllByRecursion (λ (e : Entry). slot ≤ e.slot + delay) queue → AreInSendingOrder queue → HaveNoLevel queue
      → ArrivesOf slot delay queue (seen_of (due_of slot delay (slice_get queue 0)) (due_of slot delay (slice_get queue 1)))
  arrives-of queue due order are =
      let c : Crossing = seen_of (due_of slot delay (slice_get queue 0)) (due_of slot delay (slice_get queue 1)) in
      let next : IsDueFrom (slot + 1) delay (entry_count c) queue = subst (λ (n : ℕ). IsDueFrom (slot + 1) delay n queue) (zero-sum (entry_count c)) (next-at slot delay 0 queue due order are) in
      record {
        arrives = seen-at slot delay 0 queue due order are;
        there = due-count (entry_count c) queue next;
        rest = due-drop (entry_count c) queue next;
        later = due-rest (entry_count c) queue next;
        in_order = order-drop (entry_count c) queue order;
        no_level = no-level-drop (entry_count c) queue are;
      }
