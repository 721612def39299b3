use Rattle.std.proofs.Common.{◌≡◌, ◌+◌, false, List, ◌++◌, length, take, drop, sym, subst, arith}
use Rattle.sys_plan.specs.Plan.{PlanRec}
use Rattle.node_rounds.specs.declared.seat.Seat.{Seat}
use Rattle.xs_base.specs.Numbers.{Slot}
use Rattle.round_laws.specs.Rounds.{all_at_limit}
use Rattle.node_rounds.specs.Run.{RoundRunRec}
use Rattle.node_rounds.specs.Rounds.{HaveWorked, AreBetween, AreAfter}
use Rattle.node_rounds.specs.Sends.{HandsAllOn}
use Rattle.node_rounds.proofs.Places.{take_front}
use Rattle.node_rounds.proofs.Passing.{between_after, passed, fewer}
use Rattle.node_rounds.proofs.run.RoundRun.pass.Given.{Over}
use Rattle.node_rounds.proofs.run.RoundRun.pass.Goals as goal
use Rattle.node_rounds.proofs.run.RoundRun.pass.Goals.{After-deref}

worked : (g : Over) (c : After-deref g) → HaveWorked c.self.inside.table.seats.items c.work_all.new.seats
worked g c = subst (λ (xs : List Seat). HaveWorked xs c.work_all.new.seats) c.deref_mut.ensures.value c.in_ok-work_all.ensures.worked

abbrev left : (g : Over) (c : After-deref g) → List Seat
left g c = take c.self.inside.table.seats.len (c.work_all.new.seats ++ drop (length c.work_all.new.seats) c.self.inside.table.seats.items)

front : (g : Over) (c : After-deref g) → left g c ≡ c.work_all.new.seats
front g c = take_front c.work_all.new.seats (drop (length c.work_all.new.seats) c.self.inside.table.seats.items) c.self.inside.table.seats.len
    (omega (arith, (worked g c).count, c.self.inside.table.seats.ok.0))

pub hand_all_on-requires : goal.hand_all_on-requires
hand_all_on-requires g c =
    let d = (goal.at.hand_all_on-requires g c).After-deref in
    let plan = c.self.inside.plan.value in
    let table = c.self.inside.table in
    let between = between_after c.nodes_run_to_round_clocks.ensures.may_run c.nodes_run_to_round_clocks.ensures.horizon plan table.limit c.self.inside.passes table.seats.items table.lanes.items
    c.self.invariant c.work_all.new.seats (worked g d) in
    let here = subst (λ (xs : List Seat). AreBetween plan table.limit xs table.lanes.items) (sym (front g d)) between in
    record { between = subst (λ (p : PlanRec). AreBetween p table.limit (left g d) table.lanes.items) (sym c.deref.ensures) here }

pub overflow_add-result : goal.overflow_add-result
overflow_add-result g c =
    let between = c.self.invariant.between in
    let below = subst (λ (r : RoundRunRec). all_at_limit r.plan r.limit r.passes ≡ false) (sym c.self.view_is) c.requires.below in
    omega (arith, fewer c.self.inside.plan.value c.self.inside.table.limit c.self.inside.passes between.plan_is below, between.small)

pub invariant_of-result : goal.invariant_of-result
invariant_of-result g c =
    let d = (goal.at.invariant_of-result g c).After-deref in
    let plan = c.self.inside.plan.value in
    let table = c.self.inside.table in
    let now = c.hand_all_on.new.self in
    let all = c.in_ok-hand_all_on.ensures.all in
    let by_plan = subst (λ (p : PlanRec). HandsAllOn p table.limit (left g d) table.lanes.items now.seats.items now.lanes.items) c.deref.ensures all.1 in
    let on = subst (λ (xs : List Seat). HandsAllOn plan table.limit xs table.lanes.items now.seats.items now.lanes.items) (front g d) by_plan in
    let after = passed c.nodes_run_to_round_clocks.ensures.may_run c.nodes_run_to_round_clocks.ensures.horizon plan table.limit c.self.inside.passes table.seats.items table.lanes.items
    c.self.invariant c.work_all.new.seats (worked g d) now.seats.items now.lanes.items on in
    subst (λ (limit : Slot). AreAfter plan limit (c.self.inside.passes + 1) now.seats.items now.lanes.items) (sym all.0) after
