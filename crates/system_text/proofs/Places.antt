-- Where nodes stand by their numbers.
use Rattle.std.proofs.Common.{◌≡◌, ℕ, suc, ◌+◌, ◌<◌, ◌≤◌, Bool, true, false, ◌||◌, List, [], ◌∷◌, length, map, filter, refl, ap, ◌∙◌, nat_lt, arith}
use Rattle.std.specs.Prelude.{◌==◌, if◌then◌else◌}
use Rattle.std.proofs.lemmas.Bool.Decides.{nat_tests}
use Rattle.sys_plan.specs.Plan.{AreAscending}
use Rattle.system_model.specs.declared.frame_line.GivenNode.{GivenNode}
use Rattle.system_model.specs.Frame.{has_node}
use Rattle.system_model.specs.System.{position_by_number}

-- whether a number is the greater one, as a count
abbrev over : ℕ → ℕ → ℕ
over number n = if nat_lt n number then 1 else 0

over_most : (k n : ℕ) → over k n ≤ 1
over_most k n = by (nat_lt n k)
  where
    by : (b : Bool) → (if b then 1 else 0) ≤ 1
    by true = omega arith
    by false = omega arith

over_none : (k n : ℕ) → k ≤ n → over k n ≡ 0
over_none k n h = grind (arith, nat_tests)

over_one : (k n : ℕ) → n < k → over k n ≡ 1
over_one k n h = grind (arith, nat_tests)

over_more : (j k n : ℕ) → j ≤ k → over j n ≤ over k n
over_more j k n h = grind (arith, nat_tests)

counted : (b : Bool) (m : GivenNode) (ms : List GivenNode) → length (if b then m ∷ ms else ms) ≡ (if b then 1 else 0) + length ms
counted true m ms = omega arith
counted false m ms = omega arith

position-cons : (m : GivenNode) (nodes : List GivenNode) (k : ℕ) → position_by_number (m ∷ nodes) k ≡ over k m.number + position_by_number nodes k
position-cons m nodes k = counted (nat_lt m.number k) m (filter (λ (node : GivenNode). nat_lt node.number k) nodes)

-- A node that is given stands among the nodes.

position_most : (nodes : List GivenNode) (k : ℕ) → position_by_number nodes k ≤ length nodes
position_most [] k = omega arith
position_most (m ∷ nodes) k = rw (position-cons m nodes k) (omega (arith, over_most k m.number, position_most nodes k))

within_next : (x k p n : ℕ) (rest : Bool) → ((x == k) || rest) ≡ true → p ≤ n → (rest ≡ true → p < n) → over k x + p < suc n
within_next x k p n true e h f = omega (arith, over_most k x, f refl)
within_next x k p n false e h f = grind (arith, nat_tests)

pub within : (nodes : List GivenNode) (k : ℕ) → has_node nodes k ≡ true → position_by_number nodes k < length nodes
within [] k e = absurd cc
within (m ∷ nodes) k e =
    rw (position-cons m nodes k) (within_next m.number k (position_by_number nodes k) (length nodes) (has_node nodes k) e (position_most nodes k) (within nodes k))

-- Two of the nodes stand at different places.

more : (nodes : List GivenNode) (j k : ℕ) → j ≤ k → position_by_number nodes j ≤ position_by_number nodes k
more [] j k h = omega arith
more (m ∷ nodes) j k h = rw (position-cons m nodes j, position-cons m nodes k) (omega (arith, over_more j k m.number h, more nodes j k h))

after_next : (x j k p q : ℕ) (rest : Bool) → j < k → ((x == j) || rest) ≡ true → p ≤ q → (rest ≡ true → p < q) → over j x + p < over k x + q
after_next x j k p q true l e h f = omega (arith, over_more j k x (omega (arith, l)), f refl)
after_next x j k p q false l e h f = grind (arith, nat_tests)

after : (nodes : List GivenNode) (j k : ℕ) → j < k → has_node nodes j ≡ true → position_by_number nodes j < position_by_number nodes k
after [] j k h e = absurd cc
after (m ∷ nodes) j k h e =
    rw (position-cons m nodes j, position-cons m nodes k)
    (after_next m.number j k (position_by_number nodes j) (position_by_number nodes k) (has_node nodes j) h e (more nodes j k (omega (arith, h))) (after nodes j k h))

pub same_number : (nodes : List GivenNode) (j k : ℕ) → has_node nodes j ≡ true → has_node nodes k ≡ true → position_by_number nodes j ≡ position_by_number nodes k → j ≡ k
same_number nodes j k e f same = by (nat_lt j k) (nat_lt k j) refl refl
  where
    by : (b c : Bool) → nat_lt j k ≡ b → nat_lt k j ≡ c → j ≡ k
    by true c g h = let less : j < k = grind (arith, nat_tests) in absurd (omega (arith, after nodes j k less e, same))
    by false true g h = let less : k < j = grind (arith, nat_tests) in absurd (omega (arith, after nodes k j less f, same))
    by false false g h = grind (arith, nat_tests)

-- so numbers are the same where places are
pub same_test : (nodes : List GivenNode) (j k : ℕ) → has_node nodes j ≡ true → has_node nodes k ≡ true → (position_by_number nodes j == position_by_number nodes k) ≡ (j == k)
same_test nodes j k e f = by (j == k) (position_by_number nodes j == position_by_number nodes k) refl refl
  where
    by : (b c : Bool) → (j == k) ≡ b → (position_by_number nodes j == position_by_number nodes k) ≡ c → c ≡ b
    by true true g h = refl
    by true false g h = let same : j ≡ k = grind (arith, nat_tests) in let at = ap (position_by_number nodes) same in grind (arith, nat_tests)
    by false true g h =
        let at : position_by_number nodes j ≡ position_by_number nodes k = grind (arith, nat_tests) in
        let same : j ≡ k = same_number nodes j k e f at in
        grind (arith, nat_tests)
    by false false g h = refl

-- The node at a place stands there by its number.

-- each of these nodes does, the first of which stands at place n
abbrev pub Stand : (ℕ → ℕ) → ℕ → List GivenNode → Type 0
Stand at n [] = Unit {0}
Stand at n (m ∷ nodes) = (at m.number ≡ n) × Stand at (n + 1) nodes

-- each number is above the one before it, and the first is at least this one
abbrev AscendFrom : ℕ → List ℕ → Type 0
AscendFrom least [] = Unit {0}
AscendFrom least (x ∷ xs) = (least ≤ x) × AscendFrom (suc x) xs

ascend_from : (least x : ℕ) (xs : List ℕ) → least ≤ x → AreAscending (x ∷ xs) → AscendFrom least (x ∷ xs)
ascend_from least x [] h a = (h, tt)
ascend_from least x (y ∷ xs) h a = (h, ascend_from (suc x) y xs (omega (arith, a.0)) a.1)

ascend : (xs : List ℕ) → AreAscending xs → AscendFrom 0 xs
ascend [] a = tt
ascend (x ∷ xs) a = ascend_from 0 x xs (omega arith) a

abbrev numbers : List GivenNode → List ℕ
numbers nodes = map (λ (node : GivenNode). node.number) nodes

none_less : (least k : ℕ) (nodes : List GivenNode) → AscendFrom least (numbers nodes) → k ≤ least → position_by_number nodes k ≡ 0
none_less least k [] a h = refl
none_less least k (m ∷ nodes) a h =
    rw (position-cons m nodes k) (omega (arith, over_none k m.number (omega (arith, a.0, h)), none_less (suc m.number) k nodes a.1 (omega (arith, a.0, h))))

stand_from : (at : ℕ → ℕ) (n least : ℕ) (nodes : List GivenNode) → AscendFrom least (numbers nodes) → ((k : ℕ) → least ≤ k → at k ≡ n + position_by_number nodes k) →
    Stand at n nodes
stand_from at n least [] a h = tt
stand_from at n least (m ∷ nodes) a h = (
  h m.number a.0 ∙ rw (position-cons m nodes m.number) (omega (arith, over_none m.number m.number (omega arith), none_less (suc m.number) m.number nodes a.1 (omega arith))),
  stand_from at (n + 1) (suc m.number) nodes a.1 (λ k l. h k (omega (arith, a.0, l)) ∙ rw (position-cons m nodes k) (omega (arith, over_one k m.number (omega (arith, l))))),
)

pub stand : (nodes : List GivenNode) → AreAscending (map (λ (node : GivenNode). node.number) nodes) → Stand (position_by_number nodes) 0 nodes
stand nodes a = stand_from (position_by_number nodes) 0 0 nodes (ascend (numbers nodes) a) (λ k l. omega arith)
