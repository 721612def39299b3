-- Nodes by ascending number, and which may come after them.
use Rattle.std.proofs.Common.{◌≡◌, ℕ, zero, suc, ◌+◌, ◌-◌, ◌<◌, ◌≤◌, Bool, true, false, ◌==◌, List, [], ◌∷◌, ◌++◌, length, Some, refl, sym, ap, ◌∙◌, length-append, arith}
use Rattle.std.specs.Prelude.{if◌then◌else◌, bytes_eq, codes, decimal, find}
use Rattle.std.specs.List.{AllByRecursion}
use Rattle.std.proofs.lemmas.Bool.{cond-true, cond-false, false_from_ne_true}
use Rattle.std.proofs.lemmas.Bool.Decides.{nat_tests}
use Rattle.std.proofs.lemmas.Slice.Eq.{bytes_eq-Decides}
use Rattle.std.proofs.lemmas.Fmt.{decimal_injective}
use Rattle.std.proofs.lemmas.List.{append_cancel_left, append_cancel_right}
use Rattle.pin_scripts.specs.Script.{NodeNumber}
use Rattle.sys_plan.specs.Plan.{AreAscending, numbers_from}
use Rattle.wave_model.specs.Lines.{scope_line}
use Rattle.wave_model.specs.Reads.{most_nodes, least_number, scope_in}
use Rattle.wave_laws.proofs.Options.{same_some, no_some}

abbrev pub AreSmall : List NodeNumber → Type 0
AreSmall numbers = AllByRecursion (λ (number : NodeNumber). number < 100) numbers

-- what the numbers of the nodes of a wave keep
pub record AreNodes (numbers : List NodeNumber) : Type 0 where
  pub few : length numbers ≤ most_nodes
  pub small : AreSmall numbers
  pub ascending : AreAscending numbers

-- a number that may come after these
pub record IsNext (numbers : List NodeNumber) (number : NodeNumber) : Type 0 where
  pub few : length numbers < most_nodes
  pub small : number < 100
  pub least : least_number numbers ≤ number

-- ---- In the middle

small_front : (xs ys : List NodeNumber) → AreSmall (xs ++ ys) → AreSmall xs
small_front [] ys h = tt
small_front (x ∷ xs) ys h = (h.0, small_front xs ys h.1)

small_at : (xs ys : List NodeNumber) (y : NodeNumber) → AreSmall (xs ++ (y ∷ ys)) → y < 100
small_at [] ys y h = h.0
small_at (x ∷ xs) ys y h = small_at xs ys y h.1

small_push : (xs : List NodeNumber) (x : NodeNumber) → AreSmall xs → x < 100 → AreSmall (xs ++ (x ∷ []))
small_push [] x h k = (k, tt)
small_push (y ∷ xs) x h k = (h.0, small_push xs x h.1 k)

ascending_at : (xs ys : List NodeNumber) (y : NodeNumber) → AreAscending (xs ++ (y ∷ ys)) → least_number xs ≤ y
ascending_at [] ys y h = omega arith
ascending_at (x ∷ []) ys y h = omega (arith, h.0)
ascending_at (x ∷ z ∷ xs) ys y h = ascending_at (z ∷ xs) ys y h.1

ascending_front : (xs ys : List NodeNumber) → AreAscending (xs ++ ys) → AreAscending xs
ascending_front [] ys h = tt
ascending_front (x ∷ []) ys h = tt
ascending_front (x ∷ z ∷ xs) ys h = (h.0, ascending_front (z ∷ xs) ys h.1)

ascending_push : (xs : List NodeNumber) (x : NodeNumber) → AreAscending xs → least_number xs ≤ x → AreAscending (xs ++ (x ∷ []))
ascending_push [] x h k = tt
ascending_push (y ∷ []) x h k = (omega arith, tt)
ascending_push (y ∷ z ∷ xs) x h k = (h.0, ascending_push (z ∷ xs) x h.1 k)

pub nodes_front : (xs ys : List NodeNumber) → AreNodes (xs ++ ys) → AreNodes xs
nodes_front xs ys h = record {
  few = omega (arith, h.few, length-append xs ys);
  small = small_front xs ys h.small;
  ascending = ascending_front xs ys h.ascending;
}

pub next_within : (xs ys : List NodeNumber) (y : NodeNumber) → AreNodes (xs ++ (y ∷ ys)) → IsNext xs y
next_within xs ys y h = record {
  few = omega (arith, h.few, length-append xs (y ∷ ys));
  small = small_at xs ys y h.small;
  least = ascending_at xs ys y h.ascending;
}

pub nodes_push : (xs : List NodeNumber) (x : NodeNumber) → AreNodes xs → IsNext xs x → AreNodes (xs ++ (x ∷ []))
nodes_push xs x h k = record {
  few = omega (arith, k.few, length-append xs (x ∷ []));
  small = small_push xs x h.small k.small;
  ascending = ascending_push xs x h.ascending k.least;
}

pub no_nodes : AreNodes []
no_nodes = record { few = omega arith; small = tt; ascending = tt }

-- ---- The line of a scope

-- it tells the number
scope_injective : (k n : NodeNumber) → k < 100 → n < 100 → scope_line k ≡ scope_line n → k ≡ n
scope_injective k n a b e =
    let ends = append_cancel_left (codes "$scope module n") (decimal k ++ codes " $end") (decimal n ++ codes " $end") e in
    decimal_injective k n (omega arith) (omega arith) (append_cancel_right (decimal k) (decimal n) (codes " $end") ends)

abbrev is_scope : List ℕ → NodeNumber → Bool
is_scope line number = bytes_eq (scope_line number) line

own_scope : (n : NodeNumber) → is_scope (scope_line n) n ≡ true
own_scope n = (bytes_eq-Decides (scope_line n) (scope_line n)).1 refl

other_scope : (k n : NodeNumber) → k < n → n < 100 → is_scope (scope_line n) k ≡ false
other_scope k n a b = false_from_ne_true (is_scope (scope_line n) k) (λ t.
    let same = scope_injective k n (omega arith) b ((bytes_eq-Decides (scope_line k) (scope_line n)).0 t) in omega (arith, same))

-- the number is found among those from one on
find_number : (from count n : ℕ) → from ≤ n → n < from + count → n < 100 → find (is_scope (scope_line n)) (numbers_from from count) ≡ Some n
find_number from zero n a b c = absurd (omega arith)
find_number from (suc count) n a b c = by (from == n) refl (λ d. find_number (from + 1) count n d (omega arith) c)
  where
    by : (t : Bool) → (from == n) ≡ t → (from + 1 ≤ n → find (is_scope (scope_line n)) (numbers_from (from + 1) count) ≡ Some n)
        → find (is_scope (scope_line n)) (numbers_from from (suc count)) ≡ Some n
    by true e later =
        let same : from ≡ n = grind (arith, nat_tests) in
        cond-true _ _ _ (ap (is_scope (scope_line n)) same ∙ own_scope n) ∙ ap Some same
    by false e later =
        let less : from < n = grind (arith, nat_tests) in
        cond-false _ _ _ (other_scope from n less c) ∙ later (omega arith)

-- what is found is one of them
found_number : (from count n : ℕ) (line : List ℕ) → find (is_scope line) (numbers_from from count) ≡ Some n
    → (scope_line n ≡ line) × (from ≤ n) × (n < from + count)
found_number from zero n line h = no_some n h
found_number from (suc count) n line h = by (is_scope line from) refl h (found_number (from + 1) count n line)
  where
    by : (t : Bool) → is_scope line from ≡ t → (if t then Some from else find (is_scope line) (numbers_from (from + 1) count)) ≡ Some n
        → (find (is_scope line) (numbers_from (from + 1) count) ≡ Some n → (scope_line n ≡ line) × (from + 1 ≤ n) × (n < from + 1 + count))
        → (scope_line n ≡ line) × (from ≤ n) × (n < from + suc count)
    by true e f later =
        let same = same_some from n f in
        (ap scope_line (sym same) ∙ (bytes_eq-Decides (scope_line from) line).0 e, omega (arith, same), omega (arith, same))
    by false e f later = let p = later f in (p.0, omega (arith, p.1), omega (arith, p.2))

pub scope_back : (numbers : List NodeNumber) (number : NodeNumber) → IsNext numbers number → scope_in numbers (scope_line number) ≡ Some number
scope_back numbers number h =
    let count : ℕ = 100 - least_number numbers in
    ap (find (is_scope (scope_line number))) (cond-false _ _ _ (not_full (length numbers) h.few))
    ∙ find_number (least_number numbers) count number h.least (omega (arith, h.small, h.least)) h.small
  where
    not_full : (k : ℕ) → k < 16 → (k == 16) ≡ false
    not_full k l = grind (arith, nat_tests)

pub scope_from : (numbers : List NodeNumber) (line : List ℕ) (number : NodeNumber) → AreNodes numbers → scope_in numbers line ≡ Some number
    → (line ≡ scope_line number) × IsNext numbers number
scope_from numbers line number nodes h = by (length numbers == most_nodes) refl h
  where
    by : (t : Bool) → (length numbers == most_nodes) ≡ t
        → find (is_scope line) (if t then [] else numbers_from (least_number numbers) (100 - least_number numbers)) ≡ Some number
        → (line ≡ scope_line number) × IsNext numbers number
    by true e f = no_some number f
    by false e f =
        let p = found_number (least_number numbers) (100 - least_number numbers) number line f in
        let below : number < 100 = omega (arith, p.1, p.2) in
        let less : length numbers < most_nodes = grind (arith, nat_tests, nodes.few) in
        (sym p.0, record { few = less; small = below; least = p.1 })
