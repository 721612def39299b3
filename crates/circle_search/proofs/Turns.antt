-- A circle that is begun at another of its vertices is a circle; and one is begun at the least of them.
use Rattle.std.proofs.Common.{◌≡◌, ◌≢◌, ℕ, zero, suc, ◌+◌, ◌<◌, ◌≤◌, Bool, true, false, cond, eqb, leb, Option, Some, None, List, [], ◌∷◌, ◌++◌, length, get_or, take, drop, refl, sym, ap, ◌∙◌, subst, arith, inl, inr, ◌⊎◌, length-drop}
use Rattle.std.specs.Prelude.{All, AllPairs, IsSome, unwrap_or, position}
use Rattle.std.specs.List.{AllByRecursion, list_all, position_from}
use Rattle.std.proofs.lemmas.Bool.{cases_lt, cases_Bool, cond-true, cond-false, both_ways, cases_eq, and_parts, and_from, le-leb, leb-true, eqb-true, eq-eqb, ne_eqb, false≢true}
use Rattle.std.proofs.lemmas.List.{append-nil, take-append-drop, get_or_append_left, get_or-drop}
use Rattle.std.proofs.lemmas.List.Elements.{All-from_recursion, All-tail}
use Rattle.std.proofs.lemmas.List.Quantifiers.{position-Some}
use Rattle.std.proofs.lemmas.List.Sorted.{IsPermutation-append_comm, All-permutation}
use Rattle.std.specs.List.Sorted.{IsPermutation}
use Rattle.std.proofs.lemmas.Iterator.Adapters.{position_from-zero}
use Rattle.std.proofs.lemmas.Map.Keys.{IsDistinct-IsPermutation}
use Rattle.std.proofs.lemmas.Map.Made.{IsDistinct-from_AllPairs, AllPairs-from_IsDistinct}
use Rattle.circle_search.specs.Circles.{Leads, IsCircle, is_least, least_place, from_least}

-- ---- Another begin

eqb_flips : (x y : ℕ) → eqb x y ≡ eqb y x
eqb_flips x y = by_case (cases_eq x y)
  where
    by_case : (x ≡ y) ⊎ (x ≡ y → ⊥) → eqb x y ≡ eqb y x
    by_case (inl same) = eq-eqb x y same ∙ sym (eq-eqb y x (sym same))
    by_case (inr differ) = ne_eqb x y differ ∙ sym (ne_eqb y x (λ same. differ (sym same)))

apart_turned : (xs ys : List ℕ) → AllPairs (λ a b. a ≢ b) (xs ++ ys) → AllPairs (λ a b. a ≢ b) (ys ++ xs)
apart_turned xs ys apart =
    AllPairs-from_IsDistinct (λ a b. (eqb-true a b, eq-eqb a b)) (ys ++ xs)
    (IsDistinct-IsPermutation eqb eqb_flips (xs ++ ys) (ys ++ xs) (IsPermutation-append_comm xs ys)
    (IsDistinct-from_AllPairs (λ a b. (eqb-true a b, eq-eqb a b)) (xs ++ ys) apart))

module _ (graph : List (List ℕ)) where
  leads_split : (xs : List ℕ) (b : ℕ) (ys : List ℕ) (end : ℕ) → Leads graph (xs ++ b ∷ ys) end → Leads graph xs b × Leads graph (b ∷ ys) end
  leads_split [] b ys end leads = (tt, leads)
  leads_split (a ∷ []) b ys end leads = ((leads.0, tt), leads.1)
  leads_split (a ∷ (x ∷ xs)) b ys end leads = let rest = leads_split (x ∷ xs) b ys end leads.1 in ((leads.0, rest.0), rest.1)

  leads_join : (xs : List ℕ) (b : ℕ) (ys : List ℕ) (end : ℕ) → Leads graph xs b → Leads graph (b ∷ ys) end → Leads graph (xs ++ b ∷ ys) end
  leads_join [] b ys end first second = second
  leads_join (a ∷ []) b ys end first second = (first.0, second)
  leads_join (a ∷ (x ∷ xs)) b ys end first second = (first.0, leads_join (x ∷ xs) b ys end first.1 second)

  turned : (xs ys : List ℕ) → IsCircle graph (xs ++ ys) → IsCircle graph (ys ++ xs)
  turned [] ys is = subst (IsCircle graph) (sym (append-nil ys)) is
  turned (a ∷ xs) [] is = subst (IsCircle graph) (append-nil (a ∷ xs)) is
  turned (a ∷ xs) (b ∷ ys) is =
      let parts = leads_split (a ∷ xs) b ys a is.0 in
      (leads_join (b ∷ ys) a xs b parts.1 parts.0, apart_turned (a ∷ xs) (b ∷ ys) is.1)

  pub least_is_circle : (row : List ℕ) → IsCircle graph row → IsCircle graph (from_least row)
  least_is_circle row is = turned (take (least_place row) row) (drop (least_place row) row) (subst (IsCircle graph) (sym (take-append-drop (least_place row) row)) is)

-- ---- The least

-- the least of a row that is not empty
record Least (row : List ℕ) : Type 0 where
  place : ℕ
  there : place < length row
  each : list_all (λ other. leb (get_or row place 0) other) row ≡ true

all_above : (a b : ℕ) (row : List ℕ) → a ≤ b → list_all (λ other. leb b other) row ≡ true → list_all (λ other. leb a other) row ≡ true
all_above a b [] less all = refl
all_above a b (x ∷ row) less all =
    let parts = and_parts (leb b x) (list_all (λ other. leb b other) row) all in
    and_from (leb a x) (list_all (λ other. leb a other) row) (le-leb a x (omega (arith, less, leb-true b x parts.0))) (all_above a b row less parts.1)

least_of : (a : ℕ) (rest : List ℕ) → Least (a ∷ rest)
least_of a [] = record { place = 0; there = omega arith; each = and_from (leb a a) true (le-leb a a (omega arith)) refl }
least_of a (b ∷ rest) = by_case (least_of b rest)
  where
    by_case : Least (b ∷ rest) → Least (a ∷ (b ∷ rest))
    by_case least = choose (cases_lt (get_or (b ∷ rest) least.place 0) a)
      where
        m : ℕ
        m = get_or (b ∷ rest) least.place 0

        choose : (get_or (b ∷ rest) least.place 0 < a) ⊎ (a ≤ get_or (b ∷ rest) least.place 0) → Least (a ∷ (b ∷ rest))
        choose (inl later) = record {
          place = suc least.place;
          there = omega (arith, least.there);
          each = and_from (leb (get_or (b ∷ rest) least.place 0) a) (list_all (λ other. leb (get_or (b ∷ rest) least.place 0) other) (b ∷ rest)) (le-leb (get_or (b ∷ rest) least.place 0) a (omega (arith, later))) least.each;
        }
        choose (inr here) = record {
          place = 0;
          there = omega arith;
          each = and_from (leb a a) (list_all (λ other. leb a other) (b ∷ rest)) (le-leb a a (omega arith)) (all_above a (get_or (b ∷ rest) least.place 0) (b ∷ rest) here least.each);
        }

-- what passes somewhere is found
some_from : (p : ℕ → Bool) (row : List ℕ) (n k : ℕ) → k < length row → p (get_or row k 0) ≡ true → IsSome (position_from p n row)
some_from p [] n k there passes = absurd (omega (arith, there))
some_from p (x ∷ row) n k there passes = by_case (some_from p row (n + 1)) (cases_Bool (p x)) k there passes
  where
    by_case : ((k : ℕ) → k < length row → p (get_or row k 0) ≡ true → IsSome (position_from p (n + 1) row)) → (p x ≡ true) ⊎ (p x ≡ false) → (k : ℕ) → k < length (x ∷ row) → p (get_or (x ∷ row) k 0) ≡ true → IsSome (cond (p x) (Some n) (position_from p (n + 1) row))
    by_case later (inl here) j within at = subst IsSome (sym (cond-true (p x) (Some n) (position_from p (n + 1) row) here)) refl
    by_case later (inr away) zero within at = absurd (both_ways (p x) away at)
    by_case later (inr away) (suc j) within at = subst IsSome (sym (cond-false (p x) (Some n) (position_from p (n + 1) row) away)) (later j (omega (arith, within)) at)

found_least : (a : ℕ) (rest : List ℕ) → IsSome (position (is_least (a ∷ rest)) (a ∷ rest))
found_least a rest =
    let least = least_of a rest in
    subst IsSome (sym (position_from-zero (is_least (a ∷ rest)) (a ∷ rest))) (some_from (is_least (a ∷ rest)) (a ∷ rest) 0 least.place least.there least.each)

all_from : (m : ℕ) (row : List ℕ) → list_all (λ other. leb m other) row ≡ true → AllByRecursion (λ b. m ≤ b) row
all_from m [] all = tt
all_from m (x ∷ row) all =
    let parts = and_parts (leb m x) (list_all (λ other. leb m other) row) all in (leb-true m x parts.0, all_from m row parts.1)

-- it stands first
at_place : (row : List ℕ) (k : ℕ) (a : ℕ) (rest : List ℕ) → k < length row → list_all (λ other. leb (get_or row k 0) other) row ≡ true
    → drop k row ++ take k row ≡ a ∷ rest → All (λ b. a ≤ b) rest
at_place row k a rest there least is =
    let same : k + 0 ≡ k = omega arith in
    let first : a ≡ get_or row k 0 = sym (ap (λ l. get_or l 0 0) is) ∙ get_or_append_left (drop k row) (take k row) 0 0 (omega (arith, there, length-drop k row)) ∙ get_or-drop k row 0 0 ∙ ap (λ i. get_or row i 0) same in
    let each : All (λ b. a ≤ b) row = All-from_recursion (λ b. a ≤ b) row (all_from a row (subst (λ m. list_all (λ other. leb m other) row ≡ true) (sym first) least)) in
    let moves : IsPermutation row (drop k row ++ take k row) = subst (λ l. IsPermutation l (drop k row ++ take k row)) (take-append-drop k row) (IsPermutation-append_comm (take k row) (drop k row)) in
    All-tail (λ b. a ≤ b) a rest (All-permutation (λ b. a ≤ b) row (a ∷ rest) (subst (IsPermutation row) is moves) each)

by_found : (row : List ℕ) (found : Option ℕ) (a : ℕ) (rest : List ℕ) → IsSome found
    → ((k : ℕ) → found ≡ Some k → (k < length row) × (list_all (λ other. leb (get_or row k 0) other) row ≡ true))
    → drop (unwrap_or found 0) row ++ take (unwrap_or found 0) row ≡ a ∷ rest → All (λ b. a ≤ b) rest
by_found row None a rest some there is = absurd (false≢true some)
by_found row (Some k) a rest some there is = let here = there k refl in at_place row k a rest here.0 here.1 is

pub begins_with_least : (graph : List (List ℕ)) (row : List ℕ) (a : ℕ) (rest : List ℕ) → IsCircle graph row → from_least row ≡ a ∷ rest → All (λ b. a ≤ b) rest
begins_with_least graph [] a rest is begins = absurd is
begins_with_least graph (x ∷ row) a rest is begins =
    by_found (x ∷ row) (position (is_least (x ∷ row)) (x ∷ row)) a rest (found_least x row)
    (λ k found. let there = position-Some (is_least (x ∷ row)) (x ∷ row) k 0 found in (there.0, there.1)) begins
