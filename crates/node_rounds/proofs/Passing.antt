-- A pass: all nodes work, and each is at the clock of the next round then.
use Rattle.std.proofs.Common.{◌≡◌, ℕ, zero, suc, ◌+◌, ◌<◌, ◌≤◌, true, false, ltb, List, length, get_or, refl, sym, ap, ◌∙◌, subst, arith, inl, inr}
use mathlib.Core.Logic.{◌⊎◌}
use Rattle.std.specs.Prelude.{All, nat_lt}
use Rattle.std.proofs.lemmas.Bool.{cases_lt, lt-ltb, ltb-true}
use Rattle.std.proofs.lemmas.List.{get_or-map, get_or_default, length-map, same_lists}
use Rattle.xs_base.specs.Numbers.{Slot}
use Rattle.sys_plan.specs.Plan.{PlanRec, IsPlan}
use Rattle.ahead_limits.specs.declared.horizon.Seen.{Seen}
use Rattle.ahead_limits.specs.Horizon.{HorizonRec, Sees, horizon_at, may_run, IsBelowAll}
use Rattle.ahead_limits.specs.Schedule.{horizon_of}
use Rattle.ahead_limits.proofs.Ends.{may_run_exactly}
use Rattle.node_runners.specs.Runner.{RunnerRec}
use Rattle.plan_lanes.specs.declared.lane.Lane.{Lane}
use Rattle.plan_lanes.specs.Lanes.{IsRunner, clocks_of, seen_of, published_of}
use Rattle.round_laws.specs.Rounds.{round_clocks, round_clock, all_at_limit}
use Rattle.round_laws.specs.Laws.{SeesRound, RoundMayRun, HorizonSeesRound, seen_after}
use Rattle.round_laws.proofs.Clocks.{as_many_as_nodes}
use Rattle.round_laws.proofs.Counts.{all_in_time, at_most, all_from_then_on}
use Rattle.node_rounds.specs.declared.seat.Seat.{Seat}
use Rattle.node_rounds.specs.Seats.{MayTake, HasWorked, told}
use Rattle.node_rounds.specs.Rounds.{all_told, IsBusySeat, HaveWorked, AreBetween, AreAfter, run_by_senders}
use Rattle.node_rounds.specs.Sends.{HandsAllOn}
use Rattle.node_rounds.proofs.Places.{element}
use Rattle.node_rounds.proofs.Taking.{none_to_take}
use Rattle.node_rounds.proofs.Fresh.{fresh_may_take, fresh_seat}

-- ---- One node

not_less : (a b : ℕ) → ltb a b ≡ false → b ≤ a
not_less a b not = by_case (cases_lt a b)
  where
    by_case : (a < b) ⊎ (b ≤ a) → b ≤ a
    by_case (inl less) = absurd (no (sym (lt-ltb a b less) ∙ not))
      where
        no : true ≡ false → ⊥
        no h = cc
    by_case (inr at) = at

-- a node that stands at a horizon which lets it run exactly the slots below one has come to that
pub at_bound : (h : HorizonRec) (clock bound : Slot) → ((c : Slot) → may_run h c ≡ nat_lt c bound) → may_run h clock ≡ false → clock ≤ h.limit
    → ((end : ℕ) (s : Seen) → Sees h end s → clock ≤ horizon_at s) → clock ≡ bound
at_bound h clock bound exactly stops within ahead =
    let least : bound ≤ clock = not_less clock bound (sym (exactly clock) ∙ stops) in
    let most : clock ≤ bound = at_most_bound clock refl in
    omega (arith, least, most)
  where
    at_most_bound : (c : ℕ) → clock ≡ c → c ≤ bound
    at_most_bound zero is = omega arith
    at_most_bound (suc c) is =
        let below : IsBelowAll h c = (omega (arith, within, is), λ end s there. omega (arith, ahead end s there, is)) in
        let runs : may_run h c ≡ true = (may_run_exactly h c (may_run h c) refl).1 below in
        let less : c < bound = ltb-true c bound (sym (exactly c) ∙ runs) in
        omega (arith, less)

module _ (runs : RoundMayRun) (sees : HorizonSeesRound) (plan : PlanRec) (limit : Slot) (rounds : ℕ) (seats : List Seat) (lanes : List Lane)
    (before : AreAfter plan limit rounds seats lanes) (seats_after : List Seat) (worked : HaveWorked seats seats_after) where
  -- a node that has worked
  module _ (n : ℕ) (there : n < length seats) where
    was : (s : Seat) × (s ≡ get_or seats n s)
    was = element seats n there

    abbrev now : Seat
    now = get_or seats_after n (was.0)

    has_worked : HasWorked was.0 now
    has_worked = subst (λ (s : Seat). HasWorked s now) (sym was.1) (worked.each n was.0 there)

    fresh_now : told now ≡ now.runner
    fresh_now = sym (none_to_take now has_worked.none_left)

    told_now : told now ≡ record (told was.0) { clock = now.runner.clock; stepped = now.runner.stepped }
    told_now = fresh_now ∙ has_worked.ran

    runner_was : IsRunner plan limit (seen_of lanes) (published_of lanes) n (told was.0)
    runner_was =
        let inside : n < length (all_told seats) = omega (arith, there, length-map seats told) in
        let here : get_or (all_told seats) n (told was.0) ≡ told was.0 = get_or-map told seats n was.0 (told was.0) there ∙ ap told (sym was.1) in
        subst (IsRunner plan limit (seen_of lanes) (published_of lanes) n) here (before.between.are_at.each_node n (told was.0) inside)

    still_runner : IsRunner plan limit (seen_of lanes) (published_of lanes) n (told now)
    still_runner = subst (IsRunner plan limit (seen_of lanes) (published_of lanes) n) (sym told_now)
        (record { of_plan = runner_was.of_plan; node_is = runner_was.node_is; horizon_is = runner_was.horizon_is; published_is = runner_was.published_is })

    in_plan : n < length plan.nodes
    in_plan = omega (arith, there, length-map seats told, before.between.are_at.node_count)

    -- its horizon is the one of the round
    horizon_now : now.runner.horizon ≡ horizon_of plan limit (seen_after plan limit rounds) n
    horizon_now =
        ap (λ (r : RunnerRec). r.horizon) (sym fresh_now) ∙ still_runner.horizon_is ∙ ap (λ (ns : List Slot). horizon_of plan limit ns n) before.seen

    clock_now : now.runner.clock ≡ round_clock plan limit n (rounds + 1)
    clock_now =
        let out = has_worked.run_out in
        let round : SeesRound plan limit n rounds now.runner.horizon = subst (SeesRound plan limit n rounds) (sym horizon_now) (sees plan limit n rounds before.between.plan_is) in
        at_bound now.runner.horizon now.runner.clock (round_clock plan limit n (rounds + 1)) (λ c. runs plan limit n rounds now.runner.horizon c in_plan round) out.stops out.within out.ahead

  count_after : length (all_told seats_after) ≡ length plan.nodes
  count_after = length-map seats_after told ∙ worked.count ∙ sym (length-map seats told) ∙ before.between.are_at.node_count

  within_before : (n : ℕ) → n < length (all_told seats_after) → n < length seats
  within_before n h = omega (arith, h, length-map seats_after told, worked.count)

  told_at : (n : ℕ) (r : RunnerRec) (h : n < length (all_told seats_after)) → get_or (all_told seats_after) n r ≡ told (now n (within_before n h))
  told_at n r h = get_or-map told seats_after n (was n (within_before n h)).0 r (omega (arith, h, length-map seats_after told))

  seat_at : (P : Seat → Type 0) → ((n : ℕ) (h : n < length seats) → P (now n h)) → All P seats_after
  seat_at P each n d h =
      let there : n < length seats = omega (arith, h, worked.count) in
      subst P (get_or_default seats_after n (was n there).0 d h) (each n there)

  pub between_after : AreBetween plan limit seats_after lanes
  between_after = record {
    plan_is = before.between.plan_is;
    small = before.between.small;
    are_at = record {
      node_count = count_after;
      link_count = before.between.are_at.link_count;
      each_node = λ n r h. subst (IsRunner plan limit (seen_of lanes) (published_of lanes) n) (sym (told_at n r h)) (still_runner n (within_before n h));
      each_lane = before.between.are_at.each_lane;
    };
    ready = seat_at MayTake (λ n h. fresh_may_take (now n h) (fresh_seat (now n h) (has_worked n h).none_left));
    busy = seat_at IsBusySeat (λ n h. (has_worked n h).busy);
  }

  pub clocks_after : clocks_of (all_told seats_after) ≡ round_clocks plan limit (rounds + 1)
  clocks_after =
      let clock_of : RunnerRec → ℕ = λ r. r.clock in
      let many : length (clocks_of (all_told seats_after)) ≡ length plan.nodes = length-map (all_told seats_after) clock_of ∙ count_after in
      same_lists (clocks_of (all_told seats_after)) (round_clocks plan limit (rounds + 1)) (many ∙ sym (as_many_as_nodes plan limit (rounds + 1)))
      (λ n x h.
      let inside : n < length (all_told seats_after) = omega (arith, h, length-map (all_told seats_after) clock_of) in
      let there = within_before n inside in
      get_or-map clock_of (all_told seats_after) n (told (was n there).0) x inside
      ∙ ap clock_of (told_at n (told (was n there).0) inside)
      ∙ clock_now n there
      ∙ sym (get_or_default (round_clocks plan limit (rounds + 1)) n x 0 (omega (arith, h, many, as_many_as_nodes plan limit (rounds + 1)))))

  -- and once all was handed on, it is after one round more
  pub passed : (seats_then : List Seat) (lanes_then : List Lane) → HandsAllOn plan limit seats_after lanes seats_then lanes_then → AreAfter plan limit (rounds + 1) seats_then lanes_then
  passed seats_then lanes_then on = record {
    between = on.between;
    clocks = on.same_clocks ∙ clocks_after;
    published = on.published ∙ ap (run_by_senders plan) clocks_after;
    seen = on.seen ∙ ap (run_by_senders plan) clocks_after;
  }

-- ---- How many passes

-- where not all nodes are at the limit there were fewer passes than the run has slots
pub fewer : (plan : PlanRec) (limit : Slot) (rounds : ℕ) → IsPlan plan → all_at_limit plan limit rounds ≡ false → rounds < limit
fewer plan limit rounds is not = by_case (cases_lt rounds limit)
  where
    no : true ≡ false → ⊥
    no h = cc

    by_case : (rounds < limit) ⊎ (limit ≤ rounds) → rounds < limit
    by_case (inl less) = less
    by_case (inr past) =
        absurd (no (sym (all_from_then_on plan limit rounds is (omega (arith, at_most plan limit limit (all_in_time plan limit is), past))) ∙ not))
