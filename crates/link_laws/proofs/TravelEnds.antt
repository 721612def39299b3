-- What arrives at a link end, and when it may send.
use Rattle.std.proofs.Common.{◌≡◌, ℕ, suc, ◌+◌, ◌<◌, ◌≤◌, Bool, true, false, cond, ltb, leb, Option, Some, None, List, [], ◌∷◌, ◌++◌, length, drop, filter, refl, sym, ap, ◌∙◌, arith}
use Rattle.std.specs.Prelude.{option_to_list}
use Rattle.std.specs.List.{AllByRecursion}
use Rattle.std.proofs.lemmas.Bool.{and_parts, ltb-true, lt-ltb, le-leb}
use Rattle.std.proofs.lemmas.List.{append-nil}
use Rattle.xs_base.specs.declared.numbers.TheConstants.{BUFFER_TOKENS, WINDOW_TOKENS}
use Rattle.xs_base.specs.declared.token.Token.{Token}
use Rattle.xs_model.specs.Record.{LinkRec}
use Rattle.net_model.specs.Links.{token_arrives, credit_arrives, gap_is_over, latest, may_send}
use Rattle.link_laws.specs.LinkSlot.{slots_of}
use Rattle.link_laws.proofs.TravelLists.{all-map, one_if}

-- ---- A token arrives

-- it is put into the buffer, where that has room
pub token-buffer : (token : Option Token) (link : LinkRec) → length link.buffer + length (option_to_list token) ≤ BUFFER_TOKENS
    → (token_arrives token link).buffer ≡ link.buffer ++ option_to_list token
token-buffer None link h = sym (append-nil link.buffer)
token-buffer (Some t) link h =
    let lt : ltb (length link.buffer) BUFFER_TOKENS ≡ true = lt-ltb (length link.buffer) BUFFER_TOKENS (omega arith) in
    rw lt refl

same-sent : (b : Bool) (link : LinkRec) (buffer : List Token) → (cond b (record link { buffer = buffer }) link).sent ≡ link.sent
same-sent true link buffer = refl
same-sent false link buffer = refl

same-credited : (b : Bool) (link : LinkRec) (buffer : List Token) → (cond b (record link { buffer = buffer }) link).credited ≡ link.credited
same-credited true link buffer = refl
same-credited false link buffer = refl

token-sent : (token : Option Token) (link : LinkRec) → (token_arrives token link).sent ≡ link.sent
token-sent None link = refl
token-sent (Some t) link = same-sent (ltb (length link.buffer) BUFFER_TOKENS) link (link.buffer ++ t ∷ [])

token-credited : (token : Option Token) (link : LinkRec) → (token_arrives token link).credited ≡ link.credited
token-credited None link = refl
token-credited (Some t) link = same-credited (ltb (length link.buffer) BUFFER_TOKENS) link (link.buffer ++ t ∷ [])

-- ---- A credit arrives

abbrev pub counted : ℕ → Bool → List ℕ
counted slot true = slot ∷ []
counted slot false = []

pub counted-length : (slot : ℕ) (credit : Bool) → length (counted slot credit) ≡ one_if credit
counted-length slot true = omega arith
counted-length slot false = refl

-- it is counted, where a token that was sent has none yet
pub credit-credited : (slot : ℕ) (credit : Bool) (link : LinkRec) → length link.credited + one_if credit ≤ length link.sent
    → (credit_arrives slot credit link).credited ≡ link.credited ++ counted slot credit
credit-credited slot false link h = sym (append-nil link.credited)
credit-credited slot true link h =
    let lt : ltb (length link.credited) (length link.sent) ≡ true = lt-ltb (length link.credited) (length link.sent) (omega arith) in
    rw lt refl

buffer-same : (b : Bool) (link : LinkRec) (credited : List ℕ) → (cond b (record link { credited = credited }) link).buffer ≡ link.buffer
buffer-same true link credited = refl
buffer-same false link credited = refl

sent-same : (b : Bool) (link : LinkRec) (credited : List ℕ) → (cond b (record link { credited = credited }) link).sent ≡ link.sent
sent-same true link credited = refl
sent-same false link credited = refl

-- ---- Both

module _ (slot : ℕ) (token : Option Token) (credit : Bool) (link : LinkRec) where
  abbrev pub arrived : LinkRec
  arrived = credit_arrives slot credit (token_arrives token link)

  pub arrived-buffer : length link.buffer + length (option_to_list token) ≤ BUFFER_TOKENS → arrived.buffer ≡ link.buffer ++ option_to_list token
  arrived-buffer h = buffer-same _ (token_arrives token link) _ ∙ token-buffer token link h

  pub arrived-sent : arrived.sent ≡ link.sent
  arrived-sent = sent-same _ (token_arrives token link) _ ∙ token-sent token link

  pub arrived-credited : length link.credited + one_if credit ≤ length link.sent → arrived.credited ≡ link.credited ++ counted slot credit
  arrived-credited h =
      credit-credited slot credit (token_arrives token link) (omega (arith, ap length (token-credited token link), ap length (token-sent token link)))
      ∙ ap (λ (l : List ℕ). l ++ counted slot credit) (token-credited token link)

-- ---- It sends

filter-all : {X : Type 0} (p : X → Bool) (xs : List X) → AllByRecursion (λ x. p x ≡ true) xs → filter p xs ≡ xs
filter-all p [] h = refl
filter-all p (x ∷ xs) h = let e : p x ≡ true = h.0 in rw e (ap (λ l. x ∷ l) (filter-all p xs h.1))

-- only where fewer tokens than the window's have no credit
pub few-where-allowed : (gap slot : ℕ) (link : LinkRec) → AllByRecursion (λ (s : ℕ). s < slot) link.sent → AllByRecursion (λ (s : ℕ). s ≤ slot) link.credited → may_send gap slot link ≡ true
    → length link.sent < WINDOW_TOKENS + length link.credited
few-where-allowed gap slot link sent credited h =
    let all_sent = filter-all (λ (s : ℕ). ltb s slot) link.sent (all-map (λ (s : ℕ). s < slot) (λ (s : ℕ). ltb s slot ≡ true) (λ s. lt-ltb s slot) link.sent sent) in
    let all_credited = filter-all (λ (s : ℕ). leb s slot) link.credited (all-map (λ (s : ℕ). s ≤ slot) (λ (s : ℕ). leb s slot ≡ true) (λ s. le-leb s slot) link.credited credited) in
    let few = ltb-true _ _ (and_parts _ (gap_is_over gap slot (latest link.sent)) h).0 in
    omega (arith, few, ap length all_sent, ap length all_credited)

pub slots-length : (slot : ℕ) (token : Option Token) → length (slots_of slot token) ≡ length (option_to_list token)
slots-length slot None = refl
slots-length slot (Some t) = refl

pub slots-before : (slot : ℕ) (token : Option Token) → AllByRecursion (λ (s : ℕ). s < suc slot) (slots_of slot token)
slots-before slot None = tt
slots-before slot (Some t) = (omega arith, tt)

pub counted-by : (slot : ℕ) (credit : Bool) → AllByRecursion (λ (s : ℕ). s ≤ slot) (counted slot credit)
counted-by slot true = (omega arith, tt)
counted-by slot false = tt

-- ---- It gives the first token of its buffer on

abbrev pub taken_by : Bool → List Token → List Token
taken_by true (t ∷ ts) = t ∷ []
taken_by true [] = []
taken_by false ts = []

pub taken-and-rest : (credit : Bool) (buffer : List Token) → buffer ≡ taken_by credit buffer ++ cond credit (drop 1 buffer) buffer
taken-and-rest true [] = refl
taken-and-rest true (t ∷ ts) = refl
taken-and-rest false buffer = refl

pub taken-length : (credit : Bool) (buffer : List Token) → (credit ≡ true → 1 ≤ length buffer) → length (taken_by credit buffer) ≡ one_if credit
taken-length true [] h = absurd (omega (arith, h refl))
taken-length true (t ∷ ts) h = omega arith
taken-length false buffer h = refl
