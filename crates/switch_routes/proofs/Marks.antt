-- What masks say of inputs and of link ends.
use Rattle.std.proofs.Common.{ℕ, zero, suc, ◌≡◌, ◌≢◌, ◌<◌, ◌≤◌, Bool, true, false, cond, eqb, Option, Some, None, List, [], ◌∷◌, length, get_or, set, drop, refl, sym, ap, ◌∙◌, inl, inr, arith}
use Rattle.std.specs.Prelude.{◌==◌, replicate, MatchOption, is_some}
use Rattle.std.specs.List.{AllByRecursion, list_any}
use Rattle.std.proofs.lemmas.Bool.{eq-eqb, ne_eqb, cond-true, cond-false, cases_eq, cases_lt, false≢true, true≢false}
use Rattle.std.proofs.lemmas.Nat.Bits.{bit_at-zero, bit_at_above}
use Rattle.std.proofs.lemmas.List.{get_or-set_other}
use Rattle.xs_base.specs.declared.token.Token.{Token}
use Rattle.xs_model.specs.Masks.{in_mask}
use Rattle.xs_model.specs.Record.{Idle}
use Rattle.xs_model.specs.Choices.{waits_in}
use Rattle.chan_ends.proofs.Marked.{none_passes}
use Rattle.link_ends.specs.Counts.{EndCounts}
use Rattle.switch_routes.specs.declared.inputs.Input.{Input}
use Rattle.switch_routes.specs.declared.inputs.Input.TheVariants as input
use Rattle.switch_routes.specs.Inputs.{state_of, states_in, InputFits}
use Rattle.quiet_model.specs.Still.{acts_alone}
use Rattle.switch_routes.specs.Rest.{AreMarked, has_waiting}
use Rattle.switch_routes.specs.Rows.{buffer_of}

pub none-in : (i : ℕ) → in_mask 0 i ≡ false
none-in i = ap (λ (b : ℕ). eqb b 1) (bit_at-zero i)

-- ---- the inputs that act alone

pub past : {X : Type 0} (xs : List X) (i : ℕ) (d : X) → length xs ≤ i → get_or xs i d ≡ d
past [] i d h = refl
past (x ∷ xs) zero d h = absurd (omega (arith, h))
past (x ∷ xs) (suc i) d h = past xs i d (omega (arith, h))

pub length-states : (states : List Input) → length (states_in states) ≡ length states
length-states [] = refl
length-states (s ∷ states) = ap suc (length-states states)

pub idle-fit : (n : ℕ) → AllByRecursion InputFits (replicate n input.Idle)
idle-fit zero = tt
idle-fit (suc n) = (tt, idle-fit n)

pub idle-at : (n i : ℕ) → acts_alone (get_or (states_in (replicate n input.Idle)) i Idle) ≡ false
idle-at zero i = refl
idle-at (suc n) zero = refl
idle-at (suc n) (suc i) = idle-at n i

at-same : (states : List Input) (i : ℕ) (state : Input) → i < length states → get_or (states_in (set states i state)) i Idle ≡ state_of state
at-same [] i state h = absurd (omega (arith, h))
at-same (s ∷ states) zero state h = refl
at-same (s ∷ states) (suc i) state h = at-same states i state (omega (arith, h))

at-other : (states : List Input) (i k : ℕ) (state : Input) → k ≢ i → get_or (states_in (set states i state)) k Idle ≡ get_or (states_in states) k Idle
at-other [] i k state other = refl
at-other (s ∷ states) zero zero state other = absurd (other refl)
at-other (s ∷ states) zero (suc k) state other = refl
at-other (s ∷ states) (suc i) zero state other = refl
at-other (s ∷ states) (suc i) (suc k) state other = at-other states i k state (λ same. other (ap suc same))

pub alone-set : (states : List Input) (alone after i : ℕ) (state : Input) (holds : Bool) → i < length states → holds ≡ acts_alone (state_of state) → ((k : ℕ) → k < 64 → in_mask alone k ≡ acts_alone (get_or (states_in states) k Idle)) → ((k : ℕ) → k < 64 → in_mask after k ≡ cond (k == i) holds (in_mask alone k)) → (k : ℕ) → k < 64 → in_mask after k ≡ acts_alone (get_or (states_in (set states i state)) k Idle)
alone-set states alone after i state holds h is marked written k below = elim (cases_eq k i) [
  | inl same ↦
      written k below ∙ cond-true (eqb k i) _ _ (eq-eqb k i same) ∙ is
      ∙ sym (ap (λ (j : ℕ). acts_alone (get_or (states_in (set states i state)) j Idle)) same ∙ ap acts_alone (at-same states i state h))
  | inr other ↦
      written k below ∙ cond-false (eqb k i) _ _ (ne_eqb k i other) ∙ marked k below ∙ sym (ap acts_alone (at-other states i k state other))
]

-- ---- the link ends at which tokens may wait

-- a link end that is marked changes
pub marked-set : (mask after e : ℕ) (row : List (Option EndCounts)) (x : Option EndCounts) → AreMarked mask row → in_mask after e ≡ true → ((k : ℕ) → k ≢ e → in_mask after k ≡ in_mask mask k) → AreMarked after (set row e x)
marked-set mask after e row x marked its others k h clear = elim (cases_eq k e) [
  | inl same ↦ absurd (false≢true (sym clear ∙ ap (in_mask after) same ∙ its))
  | inr other ↦ ap buffer_of (get_or-set_other row e k x None other) ∙ marked k h (sym (others k other) ∙ clear)
]

-- a link end is marked
pub marked-more : (mask after e : ℕ) (row : List (Option EndCounts)) → AreMarked mask row → in_mask after e ≡ true → ((k : ℕ) → k ≢ e → in_mask after k ≡ in_mask mask k) → AreMarked after row
marked-more mask after e row marked its others k h clear = elim (cases_eq k e) [
  | inl same ↦ absurd (false≢true (sym clear ∙ ap (in_mask after) same ∙ its))
  | inr other ↦ marked k h (sym (others k other) ∙ clear)
]

same-at : (row : List (Option EndCounts)) (e k : ℕ) (x : Option EndCounts) → buffer_of x ≡ buffer_of (get_or row e None) → buffer_of (get_or (set row e x) k None) ≡ buffer_of (get_or row k None)
same-at [] e k x is = refl
same-at (w ∷ row) zero zero x is = is
same-at (w ∷ row) zero (suc k) x is = refl
same-at (w ∷ row) (suc e) zero x is = refl
same-at (w ∷ row) (suc e) (suc k) x is = same-at row e k x is

-- one changes, and not its buffer
pub marked-same : (mask e : ℕ) (row : List (Option EndCounts)) (x : Option EndCounts) → AreMarked mask row → buffer_of x ≡ buffer_of (get_or row e None) → AreMarked mask (set row e x)
marked-same mask e row x marked is k h clear = same-at row e k x is ∙ marked k h clear

empty-at : (row : List (Option EndCounts)) (e : ℕ) (x : Option EndCounts) → buffer_of x ≡ [] → buffer_of (get_or (set row e x) e None) ≡ []
empty-at [] e x is = refl
empty-at (w ∷ row) zero x is = is
empty-at (w ∷ row) (suc e) x is = empty-at row e x is

-- one has an empty buffer now, and is marked no longer
pub marked-empty : (mask after e : ℕ) (row : List (Option EndCounts)) (x : Option EndCounts) → AreMarked mask row → buffer_of x ≡ [] → ((k : ℕ) → k < 8 → k ≢ e → in_mask after k ≡ in_mask mask k) → AreMarked after (set row e x)
marked-empty mask after e row x marked is others k h clear = elim (cases_eq k e) [
  | inl same ↦ ap (λ (j : ℕ). buffer_of (get_or (set row e x) j None)) same ∙ empty-at row e x is
  | inr other ↦ ap buffer_of (get_or-set_other row e k x None other) ∙ marked k h (sym (others k h other) ∙ clear)
]

-- whether one waits, by the first that does
pub none_waits : (r : Option Token) (ts : List Token) → MatchOption r (ts ≡ []) (λ t. ts ≡ t ∷ drop 1 ts) → is_some r ≡ false → ts ≡ []
none_waits None ts is none = is
none_waits (Some t) ts is none = absurd (true≢false none)

pub one_waits : (r : Option Token) (ts : List Token) → MatchOption r (ts ≡ []) (λ t. ts ≡ t ∷ drop 1 ts) → is_some r ≡ true → waits_in ts ≡ true
one_waits None ts is some = absurd (false≢true some)
one_waits (Some t) ts is some = ap waits_in is

-- only a place of the row is marked in a mask of eight bits
pub marks-a-place : (mask e : ℕ) → mask < 256 → in_mask mask e ≡ true → e < 8
marks-a-place mask e byte its = elim (cases_lt e 8) [
  | inl h ↦ h
  | inr h ↦ absurd (false≢true (sym (ap (λ (b : ℕ). eqb b 1) (bit_at_above mask 8 e byte h)) ∙ its))
]

-- a link end at which none waits is marked no longer
pub marked-less : (mask after e : ℕ) (row : List (Option EndCounts))
    → AreMarked mask row → buffer_of (get_or row e None) ≡ [] → ((k : ℕ) → k < 32 → in_mask after k ≡ cond (eqb k e) false (in_mask mask k))
    → AreMarked after row
marked-less mask after e row marked empty bits k h clear = elim (cases_eq k e) [
  | inl same ↦ ap (λ (j : ℕ). buffer_of (get_or row j None)) same ∙ empty
  | inr other ↦ marked k h (sym (bits k (omega (arith, h)) ∙ cond-false (eqb k e) _ _ (ne_eqb k e other)) ∙ clear)
]

-- where no link end is marked, no token waits
pub none_marked : (mask : ℕ) (row : List (Option EndCounts)) → mask ≡ 0 → AreMarked mask row → length row ≡ 8 → list_any has_waiting row ≡ false
none_marked mask row empty marked long =
    none_passes has_waiting None row (λ k h. ap waits_in (marked k (omega (arith, h, long)) (ap (λ (m : ℕ). in_mask m k) empty ∙ none-in k)))
