-- What is told of each node by position.
use Rattle.std.proofs.Common.{◌≡◌, ℕ, zero, suc, ◌+◌, ◌<◌, ◌≤◌, Bool, true, eqb, List, [], ◌∷◌, length, map, replicate, get_or, refl, ap, ◌∙◌, arith}
use Rattle.std.specs.List.{list_all}
use Rattle.std.proofs.lemmas.Bool.{and_parts, and_from, eqb-true, eq-eqb}
use Rattle.xs_base.specs.Numbers.{Slot, Position}
use Rattle.sys_plan.specs.declared.NodePlan.{NodePlan}
use Rattle.round_laws.specs.Rounds.{positions_from}

module _ (f : Position → Slot) where
  pub at_position : (nodes : List NodePlan) (m n : Position) → n < length nodes → get_or (map f (positions_from m nodes)) n 0 ≡ f (m + n)
  at_position [] m n less = absurd (omega (arith, less))
  at_position (node ∷ nodes) m zero less = ap f (omega arith)
  at_position (node ∷ nodes) m (suc n) less =
      let on : m + 1 + n ≡ m + suc n = omega arith in
      at_position nodes (m + 1) n (omega (arith, less)) ∙ ap f on

  pub of_each_node : (nodes : List NodePlan) (m : Position) → length (map f (positions_from m nodes)) ≡ length nodes
  of_each_node [] m = refl
  of_each_node (node ∷ nodes) m = ap suc (of_each_node nodes (m + 1))

  pub each_within : (most : Slot) → ((n : Position) → f n ≤ most) → (ps : List Position) (n : Position) → get_or (map f ps) n 0 ≤ most
  each_within most within [] n = omega arith
  each_within most within (p ∷ ps) zero = within p
  each_within most within (p ∷ ps) (suc n) = each_within most within ps n

  pub each_rises : (g : Position → Slot) → ((n : Position) → f n ≤ g n) → (ps : List Position) (n : Position) → get_or (map f ps) n 0 ≤ get_or (map g ps) n 0
  each_rises g more [] n = omega arith
  each_rises g more (p ∷ ps) zero = more p
  each_rises g more (p ∷ ps) (suc n) = each_rises g more ps n

pub zeros : (count n : ℕ) → get_or {A = ℕ} (replicate count 0) n 0 ≡ 0
zeros zero n = refl
zeros (suc count) zero = refl
zeros (suc count) (suc n) = zeros count n

-- ---- The test of each

module _ (limit : Slot) where
  abbrev is_limit : Slot → Bool
  is_limit clock = eqb clock limit

  pub test_of_each : (clocks : List Slot) → list_all is_limit clocks ≡ true → (n : ℕ) → n < length clocks → get_or clocks n 0 ≡ limit
  test_of_each [] all n less = absurd (omega (arith, less))
  test_of_each (clock ∷ clocks) all zero less = eqb-true clock limit (and_parts (is_limit clock) (list_all is_limit clocks) all).0
  test_of_each (clock ∷ clocks) all (suc n) less = test_of_each clocks (and_parts (is_limit clock) (list_all is_limit clocks) all).1 n (omega (arith, less))

  pub each_to_test : (clocks : List Slot) → ((n : ℕ) → n < length clocks → get_or clocks n 0 ≡ limit) → list_all is_limit clocks ≡ true
  each_to_test [] each = refl
  each_to_test (clock ∷ clocks) each =
      and_from (is_limit clock) (list_all is_limit clocks) (eq-eqb clock limit (each 0 (omega arith))) (each_to_test clocks (λ n less. each (suc n) (omega (arith, less))))
