-- Along a walk ever fewer ranks are ahead, and so no node comes twice.
use Rattle.std.proofs.Common.{◌≡◌, ◌≢◌, ℕ, zero, suc, ◌+◌, ◌-◌, ◌<◌, ◌≤◌, max, cond, List, [], ◌∷◌, length, map, get_or, refl, ap, ◌∙◌, subst, arith, inl, inr, ◌⊎◌}
use Rattle.std.proofs.lemmas.Bool.{cases_lt, cond_both}
use Rattle.xs_base.specs.Numbers.{NodeId, Position, LinkNumber}
use Rattle.sys_plan.specs.Plan.{PlanRec, IsPlan, numbers_from}
use Rattle.rank_model.specs.declared.rank_line.RankLine.{RankLine}
use Rattle.rank_model.specs.declared.verdict.Verdict.TheVariants.{Yes}
use Rattle.rank_model.specs.Next.{link_count, arc_at, is_next}
use Rattle.rank_model.specs.Verdicts.{verdict_of}
use Rattle.rank_model.specs.Checks.{ranks_by_link}
use Rattle.rank_laws.specs.Walks.{IsHop, IsWalk, end_of}
use Rattle.rank_laws.proofs.Firsts.{count_of, count_within, one_fewer, one_counts}
use Rattle.rank_laws.proofs.Rises.{as_many, rises, ends_at_node}

-- ---- What is told of numbers from one on

module _ (f : ℕ → ℕ) where
  abbrev pub most : List ℕ → ℕ
  most [] = 0
  most (x ∷ xs) = max (f x) (most xs)

  at_most : (n count i : ℕ) → n ≤ i → i < n + count → f i ≤ most (numbers_from n count)
  at_most n zero i from less = absurd (omega (arith, from, less))
  at_most n (suc count) i from less = by_case (at_most (n + 1) count i) (cases_lt n i)
    where
      by_case : (n + 1 ≤ i → i < n + 1 + count → f i ≤ most (numbers_from (n + 1) count)) → (n < i) ⊎ (i ≤ n) → f i ≤ max (f n) (most (numbers_from (n + 1) count))
      by_case rest (inl above) = let later = rest (omega (arith, above)) (omega (arith, less)) in omega (arith, later)
      by_case rest (inr at) =
          let same : n ≡ i = omega (arith, from, at) in
          omega (arith, ap f same)

  all_below : (m n count : ℕ) → 0 < m → ((i : ℕ) → i < n + count → f i < m) → most (numbers_from n count) < m
  all_below m n zero some each = some
  all_below m n (suc count) some each =
      let here : f n < m = each n (omega arith) in
      let rest : most (numbers_from (n + 1) count) < m = all_below m (n + 1) count some (λ i less. each i (omega (arith, less))) in
      omega (arith, here, rest)

  as_many_told : (n count : ℕ) → length (map f (numbers_from n count)) ≡ count
  as_many_told n zero = refl
  as_many_told n (suc count) = ap suc (as_many_told (n + 1) count)

  told_at : (n count k : ℕ) → k < count → get_or (map f (numbers_from n count)) k 0 ≡ f (n + k)
  told_at n zero k less = absurd (omega (arith, less))
  told_at n (suc count) zero less = ap f (omega arith)
  told_at n (suc count) (suc k) less =
      let on : n + 1 + k ≡ n + suc k = omega arith in
      told_at (n + 1) count k (omega (arith, less)) ∙ ap f on

-- ---- What is ahead

module _ (plan : PlanRec) (lines : List RankLine) (yes : verdict_of plan (ranks_by_link plan lines) ≡ Yes) (net : ℕ) (dest : NodeId) where
  abbrev ranks : List ℕ
  ranks = ranks_by_link plan lines

  -- how many ranks are that of a link at least, where a node sends on by it
  abbrev ahead_by : Position → LinkNumber → ℕ
  ahead_by v l = cond (is_next plan v net dest l) (count_of (get_or ranks l 0) ranks) 0

  abbrev ahead : Position → ℕ
  ahead v = most (ahead_by v) (numbers_from 0 (link_count plan))

  module _ (v : Position) (l : LinkNumber) (hop : IsHop plan net dest v l) where
    counted : 1 ≤ count_of (get_or ranks l 0) ranks
    counted = one_counts ranks l (omega (arith, as_many plan lines yes, hop.there))

    is_ahead : count_of (get_or ranks l 0) ranks ≤ ahead v
    is_ahead = subst (λ b. cond b (count_of (get_or ranks l 0) ranks) 0 ≤ ahead v) hop.next (at_most (ahead_by v) 0 (link_count plan) l (omega arith) (omega (arith, hop.there)))

    less_by : (k : LinkNumber) → k < 0 + link_count plan → ahead_by (arc_at plan l).to k < count_of (get_or ranks l 0) ranks
    less_by k there =
        cond_both (is_next plan (arc_at plan l).to net dest k) (count_of (get_or ranks k 0) ranks) 0 (λ n. n < count_of (get_or ranks l 0) ranks)
        (λ next.
        let up : get_or ranks l 0 < get_or ranks k 0 = rises plan lines yes net dest v l k hop (record { there = omega (arith, there); next = next }) in
        omega (arith, one_fewer (get_or ranks l 0) (get_or ranks k 0) up ranks l (omega (arith, as_many plan lines yes, hop.there)) refl))
        (λ other. omega (arith, counted))

    pub falls : ahead (arc_at plan l).to < ahead v
    falls =
        let m : ℕ = count_of (get_or ranks l 0) ranks in
        omega (arith, is_ahead, all_below (ahead_by (arc_at plan l).to) m 0 (link_count plan) (omega (arith, counted)) less_by)

  ends_lower : (v : Position) (ls : List LinkNumber) → IsWalk plan net dest v ls → ahead (end_of plan v ls) + length ls ≤ ahead v
  ends_lower v [] walk = omega arith
  ends_lower v (l ∷ ls) walk = omega (arith, ends_lower (arc_at plan l).to ls walk.1, falls v l walk.0)

  pub returns_never : (v : Position) (l : LinkNumber) (ls : List LinkNumber) → IsWalk plan net dest v (l ∷ ls) → end_of plan v (l ∷ ls) ≢ v
  returns_never v l ls walk same = omega (arith, ends_lower v (l ∷ ls) walk, ap ahead same)

  -- ---- How many nodes come

  within : (v : Position) → ahead v < suc (link_count plan)
  within v =
      all_below (ahead_by v) (suc (link_count plan)) 0 (link_count plan) (omega arith) (λ l there.
      cond_both (is_next plan v net dest l) (count_of (get_or ranks l 0) ranks) 0 (λ n. n < suc (link_count plan))
      (λ next. omega (arith, count_within (get_or ranks l 0) ranks, as_many plan lines yes)) (λ other. omega arith))

  abbrev passed : Position → ℕ
  passed v = link_count plan - ahead v

  abbrev all_passed : List ℕ
  all_passed = map passed (numbers_from 0 (length plan.nodes))

  module _ (is : IsPlan plan) where
    at_node : (v : Position) → v < length plan.nodes → get_or all_passed v 0 ≡ passed v
    at_node v there =
        let on : 0 + v ≡ v = omega arith in
        told_at passed 0 (length plan.nodes) v there ∙ ap passed on

    among : (v : Position) → v < length plan.nodes → v < length all_passed
    among v there = omega (arith, there, as_many_told passed 0 (length plan.nodes))

    come : (v : Position) (ls : List LinkNumber) → v < length plan.nodes → IsWalk plan net dest v ls → suc (length ls) ≤ count_of (passed v) all_passed
    come v [] there walk = subst (λ n. 1 ≤ count_of n all_passed) (at_node v there) (one_counts all_passed v (among v there))
    come v (l ∷ ls) there walk =
        let w : Position = (arc_at plan l).to in
        let up : passed v < passed w = omega (arith, falls v l walk.0, within v) in
        omega (arith, come w ls (ends_at_node plan is l walk.0.there) walk.1, one_fewer (passed v) (passed w) up all_passed v (among v there) (at_node v there))

    pub fewer : (v : Position) (ls : List LinkNumber) → v < length plan.nodes → IsWalk plan net dest v ls → length ls < length plan.nodes
    fewer v ls there walk = omega (arith, come v ls there walk, count_within (passed v) all_passed, as_many_told passed 0 (length plan.nodes))
