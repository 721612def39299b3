-- A run before its first round.
use Rattle.std.proofs.Common.{◌≡◌, suc, ◌^◌, ◌<◌, List, [], ◌∷◌, length, map, replicate, get_or, refl, sym, ap, ◌∙◌, subst, arith}
use Rattle.std.specs.Prelude.{All}
use Rattle.std.proofs.lemmas.List.{get_or-map, length-map}
use Rattle.xs_base.specs.Numbers.{Slot, Position}
use Rattle.sys_plan.specs.Plan.{PlanRec, IsPlan, Arc, arcs, arc_count}
use Rattle.busy_slots.specs.Busy.{busy_count}
use Rattle.ahead_limits.specs.Schedule.{ScheduleRec, schedule_at_start}
use Rattle.node_runners.specs.Runner.{RunnerRec, new_runner}
use Rattle.node_runners.specs.Busy.{HasSteppedBusy}
use Rattle.plan_lanes.specs.declared.lane.Lane.{Lane}
use Rattle.plan_lanes.specs.Lanes.{AllAt, IsNewLane, AreAt, numbers_of}
use Rattle.plan_lanes.proofs.Places.{map_none}
use Rattle.plan_lanes.proofs.Starts.{starts_at, starts_as}
use Rattle.round_laws.specs.Rounds.{round_clocks}
use Rattle.round_laws.proofs.Positions.{zeros}
use Rattle.node_rounds.specs.declared.seat.Seat.{Seat}
use Rattle.node_rounds.specs.Seats.{AreNext, MayTake, told}
use Rattle.node_rounds.specs.Rounds.{all_told, IsBusySeat, AreAfter, run_by_senders}
use Rattle.node_rounds.specs.Sends.{IsFreshSeat, AreFresh}
use Rattle.node_rounds.proofs.Taking.{none_to_take}

-- ---- One seat for which nothing lies ready

pub fresh_may_take : (seat : Seat) → IsFreshSeat seat → MayTake seat
fresh_may_take seat fresh = subst (AreNext seat.runner.plan seat.runner.node seat.runner.horizon) (sym fresh.none) tt

told_all : (seats : List Seat) → All IsFreshSeat seats → all_told seats ≡ map (λ (seat : Seat). seat.runner) seats
told_all [] fresh = refl
told_all (seat ∷ seats) fresh =
    let first : told seat ≡ seat.runner = sym (none_to_take seat (fresh 0 seat (omega arith)).none) in
    let rest = told_all seats (λ k d h. fresh (suc k) d (omega (arith, h))) in
    λ i. first i ∷ rest i

pub fresh_seat : (seat : Seat) → seat.handed.items ≡ [] → IsFreshSeat seat
fresh_seat seat none = record { none = none }

-- ---- The clocks of the first round

no_clock : (plan : PlanRec) (limit : Slot) → round_clocks plan limit 0 ≡ replicate (length plan.nodes) 0
unfolding round_clocks
no_clock plan limit = refl

none_run : (plan : PlanRec) (limit : Slot) → run_by_senders plan (round_clocks plan limit 0) ≡ replicate (arc_count plan) 0
none_run plan limit =
    map_none (λ (d : Arc). get_or (round_clocks plan limit 0) d.from 0) (arcs plan)
    (λ k d h.
    let n = (get_or (arcs plan) k d).from in
    ap (λ (ns : List Slot). get_or ns n 0) (no_clock plan limit) ∙ zeros (length plan.nodes) n)

none_counted : (plan : PlanRec) (n : Position) → busy_count plan n 0 ≡ 0
unfolding busy_count
none_counted plan n = refl

new_busy : (plan : PlanRec) (limit : Slot) (n : Position) (r : RunnerRec) → r ≡ new_runner plan limit n → HasSteppedBusy r
new_busy plan limit n r is = subst HasSteppedBusy (sym is) (sym (none_counted plan n))

-- ---- All of them

module _ (plan : PlanRec) (limit : Slot) (runners : List RunnerRec) (seats : List Seat) (lanes : List Lane) (plan_is : IsPlan plan) (small : limit < 2 ^ 32)
    (node_count : length runners ≡ length plan.nodes) (nodes : AllAt (λ n r. r ≡ new_runner plan limit n) runners) (are : AreFresh runners seats)
    (link_count : length lanes ≡ arc_count plan) (links : AllAt (IsNewLane plan) lanes) where
  same_runners : all_told seats ≡ runners
  same_runners = told_all seats are.fresh ∙ are.runners_are

  as_many : length seats ≡ length runners
  as_many = sym (length-map seats (λ (seat : Seat). seat.runner)) ∙ ap (λ (rs : List RunnerRec). length rs) are.runners_are

  busy : All IsBusySeat seats
  busy k d h =
      let seat = get_or seats k d in
      let is : get_or runners k seat.runner ≡ seat.runner
      = ap (λ (rs : List RunnerRec). get_or rs k seat.runner) (sym are.runners_are) ∙ get_or-map (λ (s : Seat). s.runner) seats k d seat.runner h in
      new_busy plan limit k seat.runner (sym is ∙ nodes k seat.runner (omega (arith, h, as_many)))

  numbers : numbers_of (all_told seats) lanes ≡ schedule_at_start plan
  numbers = ap (λ (rs : List RunnerRec). numbers_of rs lanes) same_runners ∙ starts_as plan limit runners lanes node_count nodes link_count links

  pub starts : AreAfter plan limit 0 seats lanes
  starts = record {
    between = record {
      plan_is = plan_is;
      small = small;
      are_at = subst (λ (rs : List RunnerRec). AreAt plan limit rs lanes) (sym same_runners) (starts_at plan limit runners lanes node_count nodes link_count links);
      ready = λ k d h. fresh_may_take (get_or seats k d) (are.fresh k d h);
      busy = busy;
    };
    clocks = ap (λ (s : ScheduleRec). s.clocks) numbers ∙ sym (no_clock plan limit);
    published = ap (λ (s : ScheduleRec). s.published) numbers ∙ sym (none_run plan limit);
    seen = ap (λ (s : ScheduleRec). s.seen) numbers ∙ sym (none_run plan limit);
  }
