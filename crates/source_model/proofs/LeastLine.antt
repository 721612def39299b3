-- Walking lines from the first on finds the fault of the least line that has one.
use Rattle.std.proofs.Common.{◌≡◌, ℕ, zero, suc, ◌+◌, ◌<◌, Bool, true, false, cond, List, [], ◌∷◌, Option, Some, None, refl, sym, ap, ◌∙◌, subst, arith, get_or, add-zero}
use Rattle.std.specs.Prelude.{find}
use Rattle.std.specs.List.{AllByRecursion}
use Rattle.std.proofs.lemmas.Bool.{cond-false}
use Rattle.source_model.specs.LeastLine.{IsFirstFault, HasNoFault}

pub find_none : {X : Type 0} (p : X → Bool) → ((x : X) → p x ≡ false) → (xs : List X) → find p xs ≡ None
find_none p h [] = refl
find_none p h (x ∷ xs) = cond-false (p x) _ _ (h x) ∙ find_none p h xs

cond_none : {X : Type 0} (b : Bool) (x : X) (o : Option X) → cond b (Some x) o ≡ None → (b ≡ false) × (o ≡ None)
cond_none true x o e = cc
cond_none false x o e = (refl, e)

pub none_of_each : {X : Type 0} (p : X → Bool) (xs : List X) → find p xs ≡ None → AllByRecursion (λ x. p x ≡ false) xs
none_of_each p [] e = tt
none_of_each p (x ∷ xs) e = let parts = cond_none (p x) x (find p xs) e in (parts.0, none_of_each p xs parts.1)

module _ {Kind : Type 0} where
  abbrev or_fault : ℕ → Option Kind → Option (ℕ × Kind) → Option (ℕ × Kind)
  or_fault number (Some kind) after = Some (number, kind)
  or_fault number None after = after

  -- the first fault of lines by what each of them has, the first of the lines having the number
  abbrev pub first_in : ℕ → List (Option Kind) → Option (ℕ × Kind)
  first_in number [] = None
  first_in number (fault ∷ faults) = or_fault number fault (first_in (number + 1) faults)

  -- what the line with a number, from 1, has
  abbrev pub fault_in : ℕ → List (Option Kind) → Option Kind
  fault_in zero faults = None
  fault_in (suc i) faults = get_or faults i None

  record FoundAt (number : ℕ) (faults : List (Option Kind)) (fault : ℕ × Kind) : Type 0 where
    at : ℕ
    number_is : fault.0 ≡ number + at
    there : get_or faults at None ≡ Some fault.1
    none_before : (j : ℕ) → j < at → get_or faults j None ≡ None

  found_next : (number : ℕ) (faults : List (Option Kind)) (fault : ℕ × Kind) → FoundAt (number + 1) faults fault → FoundAt number (None ∷ faults) fault
  found_next number faults fault f = record {
    at = suc f.at;
    number_is = omega (arith, f.number_is);
    there = f.there;
    none_before = before f.at f.none_before;
  }
    where
      before : (at : ℕ) → ((j : ℕ) → j < at → get_or faults j None ≡ None) → (j : ℕ) → j < suc at → get_or (None ∷ faults) j None ≡ None
      before at h zero l = refl
      before at h (suc j) l = h j (omega (arith, l))

  found : (number : ℕ) (faults : List (Option Kind)) (fault : ℕ × Kind) → first_in number faults ≡ Some fault → FoundAt number faults fault
  found number [] fault e = cc
  found number (Some kind ∷ faults) fault e =
      let is : (number, kind) ≡ fault = cc in
      subst (FoundAt number (Some kind ∷ faults)) is (record { at = 0; number_is = omega arith; there = refl; none_before = λ j l. absurd (omega (arith, l)) })
  found number (None ∷ faults) fault e = found_next number faults fault (found (number + 1) faults fault e)

  absent : (number : ℕ) (faults : List (Option Kind)) → first_in number faults ≡ None → (j : ℕ) → get_or faults j None ≡ None
  absent number [] e j = refl
  absent number (Some kind ∷ faults) e j = cc
  absent number (None ∷ faults) e zero = refl
  absent number (None ∷ faults) e (suc j) = absent (number + 1) faults e j

  finds : (number at : ℕ) (faults : List (Option Kind)) (kind : Kind) → get_or faults at None ≡ Some kind → ((j : ℕ) → j < at → get_or faults j None ≡ None) → first_in number faults ≡ Some (number + at, kind)
  finds number at [] kind e none = cc
  finds number zero (fault ∷ faults) kind e none = rw add-zero (ap (λ o. or_fault number o (first_in (number + 1) faults)) e)
  finds number (suc at) (fault ∷ faults) kind e none =
      ap (λ o. or_fault number o (first_in (number + 1) faults)) (none 0 (omega arith))
      ∙ (finds (number + 1) at faults kind e (λ j l. none (suc j) (omega (arith, l)))
      ∙ ap (λ n. Some (n, kind)) (omega arith))

  finds_none : (number : ℕ) (faults : List (Option Kind)) → ((j : ℕ) → get_or faults j None ≡ None) → first_in number faults ≡ None
  finds_none number [] none = refl
  finds_none number (fault ∷ faults) none =
      ap (λ o. or_fault number o (first_in (number + 1) faults)) (none 0) ∙ finds_none (number + 1) faults (λ j. none (suc j))

  -- The test of kinds gives what each line has: its first kind in the order, and no kind where it has none of those.
  pub record Tells (has_fault : Kind → ℕ → Bool) (order : List Kind) (faults : List (Option Kind)) : Type 0 where
    pub first : (n : ℕ) → find (λ k. has_fault k n) order ≡ fault_in n faults
    pub complete : (n : ℕ) → find (λ k. has_fault k n) order ≡ None → (k : Kind) → has_fault k n ≡ false

  module _ (has_fault : Kind → ℕ → Bool) (order : List Kind) (faults : List (Option Kind)) (tells : Tells has_fault order faults) where
    no_kind : (n : ℕ) → fault_in n faults ≡ None → (k : Kind) → has_fault k n ≡ false
    no_kind n e = tells.complete n (tells.first n ∙ e)

    no_fault : (n : ℕ) → ((k : Kind) → has_fault k n ≡ false) → fault_in n faults ≡ None
    no_fault n h = sym (tells.first n) ∙ find_none (λ k. has_fault k n) h order

    is_first : (at : ℕ) (kind : Kind) → get_or faults at None ≡ Some kind → ((j : ℕ) → j < at → get_or faults j None ≡ None) → IsFirstFault has_fault order (suc at) kind
    is_first at kind e none = record {
      first = tells.first (suc at) ∙ e;
      least = least;
    }
      where
        least : (n : ℕ) → n < suc at → (k : Kind) → has_fault k n ≡ false
        least zero l = no_kind zero refl
        least (suc j) l = no_kind (suc j) (none j (omega (arith, l)))

    pub first_is_least : (number : ℕ) (kind : Kind) → first_in 1 faults ≡ Some (number, kind) → IsFirstFault has_fault order number kind
    first_is_least number kind e =
        let f = found 1 faults (number, kind) e in
        let is : suc f.at ≡ number = omega (arith, f.number_is) in
        subst (λ n. IsFirstFault has_fault order n kind) is (is_first f.at kind f.there f.none_before)

    pub least_is_first : (number : ℕ) (kind : Kind) → IsFirstFault has_fault order number kind → first_in 1 faults ≡ Some (number, kind)
    least_is_first zero kind h = let none : None ≡ Some kind = sym (tells.first zero) ∙ h.first in cc
    least_is_first (suc at) kind h =
        finds 1 at faults kind (sym (tells.first (suc at)) ∙ h.first) (λ j l. no_fault (suc j) (h.least (suc j) (omega (arith, l))))
        ∙ ap (λ n. Some (n, kind)) (omega arith)

    pub none_has_none : first_in 1 faults ≡ None → HasNoFault has_fault
    none_has_none e zero = no_kind zero refl
    none_has_none e (suc j) = no_kind (suc j) (absent 1 faults e j)

    pub no_fault_none : HasNoFault has_fault → first_in 1 faults ≡ None
    no_fault_none h = finds_none 1 faults (λ j. no_fault (suc j) (h (suc j)))
