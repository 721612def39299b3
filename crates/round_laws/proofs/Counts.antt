-- How many rounds a run takes.
use Rattle.std.proofs.Common.{◌≡◌, ◌⊎◌, ℕ, zero, suc, ◌+◌, ◌-◌, ◌*◌, ◌/◌, ◌<◌, ◌≤◌, Bool, true, false, eqb, Some, [], ◌++◌}
use Rattle.std.proofs.Common.{length, slice_get, refl, sym, ap, ◌∙◌, subst, arith, inl, inr, div-add-mod'}
use Rattle.std.proofs.lemmas.Bool.{cases_lt, both_ways}
use Rattle.std.proofs.lemmas.Nat.{mod_below}
use Rattle.std.proofs.lemmas.Option.{none-some}
use Rattle.xs_base.specs.Numbers.{Slot, Position}
use Rattle.sys_plan.specs.Plan.{PlanRec, IsPlan, Arc, arcs, link_arcs, wire_arcs}
use Rattle.sys_plan.proofs.Routes.{all-get}
use Rattle.round_laws.specs.Rounds.{reach, round_clocks, round_clock, all_at_limit, rounds_from, rounds, least_delay}
use Rattle.round_laws.specs.Laws.{RoundsByDelay, RoundsWithinSlots, RoundsWithoutArcs, NoRoundsForNoSlots, IsLeastOf}
use Rattle.round_laws.specs.Laws.{TestIsOfEach, AllFromThenOn, NotAllBefore, MoreWhereNotAll, NoneIfAllAtStart, CountIfFirst}
use Rattle.round_laws.proofs.Leasts.{from_each}
use Rattle.round_laws.proofs.Positions.{test_of_each, each_to_test}
use Rattle.round_laws.proofs.Clocks.{as_many_as_nodes, none_falls, stay_within, start_at_zero, after_one_more, one_below_none, least_of, below_none, by_delays}

-- ---- The test

module _ (plan : PlanRec) (limit : Slot) (k : ℕ) where
  pub at_each : all_at_limit plan limit k ≡ true → (n : Position) → n < length plan.nodes → round_clock plan limit n k ≡ limit
  at_each all n less = test_of_each limit (round_clocks plan limit k) all n (omega (arith, less, as_many_as_nodes plan limit k))

  pub from_each_node : ((n : Position) → n < length plan.nodes → round_clock plan limit n k ≡ limit) → all_at_limit plan limit k ≡ true
  from_each_node each = each_to_test limit (round_clocks plan limit k) (λ n less. each n (omega (arith, less, as_many_as_nodes plan limit k)))

  -- all that have run as far as the limit are at it
  pub from_run : ((n : Position) → n < length plan.nodes → limit ≤ round_clock plan limit n k) → all_at_limit plan limit k ≡ true
  from_run run = from_each_node (λ n less. omega (arith, run n less, stay_within plan limit k n))

module _ (plan : PlanRec) (limit : Slot) where
  -- who is at the limit stays there
  pub all_stay : (k more : ℕ) → all_at_limit plan limit k ≡ true → all_at_limit plan limit (k + more) ≡ true
  all_stay k zero all =
      let same : k ≡ k + 0 = omega arith in
      subst (λ j. all_at_limit plan limit j ≡ true) same all
  all_stay k (suc more) all =
      let before : all_at_limit plan limit (k + more) ≡ true = all_stay k more all in
      let on : suc (k + more) ≡ k + suc more = omega arith in
      subst (λ j. all_at_limit plan limit j ≡ true) on
      (from_run plan limit (suc (k + more)) (λ n less. omega (arith, at_each plan limit (k + more) before n less, none_falls plan limit (k + more) n)))

  pub all_from : (j k : ℕ) → j ≤ k → all_at_limit plan limit j ≡ true → all_at_limit plan limit k ≡ true
  all_from j k less all =
      let on : j + (k - j) ≡ k = omega (arith, less) in
      subst (λ i. all_at_limit plan limit i ≡ true) on (all_stay j (k - j) all)

-- ---- The search

module _ (plan : PlanRec) (limit : Slot) where
  abbrev test : ℕ → Bool
  test k = all_at_limit plan limit k

  -- it goes no further than a number that passes
  pub no_further : (most left k : ℕ) (b : Bool) → b ≡ test k → k ≤ most → test most ≡ true → rounds_from plan limit left k b ≤ most
  unfolding rounds_from
  no_further most zero k true is less all = less
  no_further most (suc left) k true is less all = less
  no_further most zero k false is less all = less
  no_further most (suc left) k false is less all = no_further most left (k + 1) (test (k + 1)) refl (above (cases_lt k most)) all
    where
      above : (k < most) ⊎ (most ≤ k) → k + 1 ≤ most
      above (inl below) = omega (arith, below)
      above (inr over) =
          let same : most ≡ k = omega (arith, less, over) in
          absurd (both_ways (test k) (sym is) (subst (λ j. test j ≡ true) same all))

  -- where one that passes is within what is left, what it gives passes
  pub passes : (most left k : ℕ) (b : Bool) → b ≡ test k → k ≤ most → most ≤ k + left → test most ≡ true → test (rounds_from plan limit left k b) ≡ true
  unfolding rounds_from
  passes most zero k true is less near all = sym is
  passes most (suc left) k true is less near all = sym is
  passes most zero k false is less near all =
      let same : most ≡ k = omega (arith, less, near) in
      subst (λ j. test j ≡ true) same all
  passes most (suc left) k false is less near all = by_case (passes most left (k + 1) (test (k + 1)) refl) (cases_lt k most)
    where
      by_case : (k + 1 ≤ most → most ≤ k + 1 + left → test most ≡ true → test (rounds_from plan limit left (k + 1) (test (k + 1))) ≡ true)
          → (k < most) ⊎ (most ≤ k) → test (rounds_from plan limit left (k + 1) (test (k + 1))) ≡ true
      by_case rest (inl below) = rest (omega (arith, below)) (omega (arith, near)) all
      by_case rest (inr over) =
          let same : most ≡ k = omega (arith, less, over) in
          absurd (both_ways (test k) (sym is) (subst (λ j. test j ≡ true) same all))

  -- none before it passes
  pub none_before : (left k : ℕ) (b : Bool) → b ≡ test k → (j : ℕ) → k ≤ j → j < rounds_from plan limit left k b → test j ≡ false
  unfolding rounds_from
  none_before zero k true is j from less = absurd (omega (arith, from, less))
  none_before (suc left) k true is j from less = absurd (omega (arith, from, less))
  none_before zero k false is j from less = absurd (omega (arith, from, less))
  none_before (suc left) k false is j from less = by_case (λ above. none_before left (k + 1) (test (k + 1)) refl j above less) (cases_lt k j)
    where
      by_case : (k + 1 ≤ j → test j ≡ false) → (k < j) ⊎ (j ≤ k) → test j ≡ false
      by_case rest (inl above) = rest (omega (arith, above))
      by_case rest (inr at) =
          let same : k ≡ j = omega (arith, from, at) in
          subst (λ i. test i ≡ false) same (sym is)

  pub at_most : (k : ℕ) → all_at_limit plan limit k ≡ true → rounds plan limit ≤ k
  at_most k all = no_further k limit 0 (test 0) refl (omega arith) all

  -- a slot a round at least
  pub all_in_time : IsPlan plan → all_at_limit plan limit limit ≡ true
  all_in_time is =
      from_run plan limit limit (λ n less. omega (arith, by_delays plan limit 1 is (one_below_none plan is) limit n less))

  pub all_after : IsPlan plan → all_at_limit plan limit (rounds plan limit) ≡ true
  all_after is = passes limit limit 0 (test 0) refl (omega arith) (omega arith) (all_in_time is)

-- ---- The laws

pub test_is_of_each : TestIsOfEach
test_is_of_each plan limit k = (at_each plan limit k, from_each_node plan limit k)

pub all_from_then_on : AllFromThenOn
all_from_then_on plan limit k is less = all_from plan limit (rounds plan limit) k less (all_after plan limit is)

pub not_all_before : NotAllBefore
not_all_before plan limit k less = none_before plan limit limit 0 (all_at_limit plan limit 0) refl k (omega arith) less

pub more_where_not_all : MoreWhereNotAll
more_where_not_all plan limit k is not_yet = by_case (cases_lt k (rounds plan limit))
  where
    by_case : (k < rounds plan limit) ⊎ (rounds plan limit ≤ k) → k < rounds plan limit
    by_case (inl above) = above
    by_case (inr within) = absurd (both_ways (all_at_limit plan limit k) not_yet (all_from_then_on plan limit k is within))

pub none_if_all_at_start : NoneIfAllAtStart
none_if_all_at_start plan limit all = omega (arith, at_most plan limit 0 all)

pub count_if_first : CountIfFirst
count_if_first plan limit k is not_yet all = omega (arith, more_where_not_all plan limit k is not_yet, at_most plan limit (k + 1) all)

rounded_up : (limit delay : ℕ) → 1 ≤ delay → limit ≤ (limit + delay - 1) / delay * delay
rounded_up limit delay least =
    let n : ℕ = limit + delay - 1 in
    omega (arith, least, div-add-mod' n delay, mod_below n delay (omega (arith, least)))

least_is_one : (plan : PlanRec) (delay : Slot) → IsPlan plan → least_delay (arcs plan) ≡ Some delay → 1 ≤ delay
least_is_one plan delay is least =
    let it : IsLeastOf (arcs plan) delay = least_of (arcs plan) delay least in
    omega (arith, it.is_it, all-get (λ (d : Arc). 1 ≤ d.delay) (arcs plan) it.place it.arc (one_below_none plan is) it.there)

pub rounds_by_delay : RoundsByDelay
rounds_by_delay plan limit delay is least =
    let k : ℕ = (limit + delay - 1) / delay in
    let enough : limit ≤ k * delay = rounded_up limit delay (least_is_one plan delay is least) in
    at_most plan limit k (from_run plan limit k (λ n less. omega (arith, by_delays plan limit delay is (below_none (arcs plan) delay least) k n less, enough)))

pub rounds_within_slots : RoundsWithinSlots
rounds_within_slots plan limit is = at_most plan limit limit (all_in_time plan limit is)

pub rounds_without_arcs : RoundsWithoutArcs
rounds_without_arcs plan limit no_links no_wires = at_most plan limit 1 (from_run plan limit 1 to_limit)
  where
    none : arcs plan ≡ []
    none = λ i. link_arcs (no_links i) ++ wire_arcs [] (no_wires i)

    to_limit : (n : Position) → n < length plan.nodes → limit ≤ round_clock plan limit n 1
    to_limit n less =
        subst (λ (clock : Slot). limit ≤ clock) (sym (after_one_more plan limit n 0 less))
        (from_each limit (reach (round_clocks plan limit 0)) (λ d. eqb d.to n) limit (omega arith) (arcs plan)
        (λ l d at hit. absurd (none-some d (ap (λ ds. slice_get ds l) (sym none) ∙ at))))

pub no_rounds_for_no_slots : NoRoundsForNoSlots
no_rounds_for_no_slots plan = none_if_all_at_start plan 0 (from_each_node plan 0 0 (λ n less. start_at_zero plan 0 n))
