use Rattle.std.proofs.Common.{◌≡◌, true, ◌+◌, ◌-◌, ◌<◌, refl, sym, ◌∙◌, subst, arith}
use Rattle.quiet_model.specs.Slots.{NoneBefore}
use Rattle.busy_slots.specs.Busy.{is_busy}
use Rattle.ahead_limits.specs.Horizon.{may_run}
use Rattle.node_runners.specs.Runner.{RunnerRec}
use Rattle.node_runners.specs.Inside.{IsRunner}
use Rattle.node_seats.proofs.Shown.{steady-later}
use Rattle.node_runners.proofs.Coming.{its-levels, its-ports-apart}
use Rattle.node_runners.proofs.Skips.{GoesTo, with_seat, issue_is_busy, goes_to, goes_on, pins_skipped, shown_last, came_last}
use Rattle.node_runners.proofs.runner.NodeRunner.skip.Goals as goal
use Rattle.node_runners.proofs.runner.NodeRunner.skip.Goals.{After-quiet_to-to}

-- a look at the seat has left the node as it was
is_still : (c : After-quiet_to-to)
    → let i = c.self.inside in IsRunner i.plan.value i.node i.clock i.horizon c.may_issue.new.self i.pins i.inlets i.outlets i.published
is_still c = with_seat _ _ _ _ _ _ _ _ _ _ c.self.invariant.1 c.may_issue.ensures.unchanged

-- what was found of the slots from its clock on
found : (c : After-quiet_to-to) → GoesTo c.self.inside.plan.value c.self.inside.node c.self.inside.clock c.self.inside.horizon c.quiet_to-to.result
found c =
    let i = c.self.inside in
    goes_to i.plan.value i.node i.clock i.horizon c.may_issue.new.self i.pins i.inlets i.outlets i.published (is_still c)
    c.clock_after-stop.result c.first_arrival-arrival.result c.quiet_to-to.result c.clock_after-stop.ensures.value c.first_arrival-arrival.ensures.first c.first_arrival-arrival.ensures.within
    c.first_busy_by_both.ensures.first c.quiet_to-to.ensures.first

pub invariant_of-self : goal.invariant_of-self
invariant_of-self c =
    let i = c.self.inside in
    (c.self.invariant.0, with_seat i.plan.value i.node i.clock i.horizon i.seat c.may_issue.new.self i.pins i.inlets i.outlets i.published c.self.invariant.1 c.may_issue.ensures.unchanged)

pub returns-then-may_issue-clause-greatest : goal.returns-then-may_issue-clause-greatest
returns-then-may_issue-clause-greatest c =
    let i = c.self.inside in
    let may : c.may_issue.result ≡ true = cc in
    λ _. issue_is_busy i.plan.value i.node i.clock i.horizon i.seat i.pins i.inlets i.outlets i.published c.self.invariant.1 (sym c.may_issue.ensures.value ∙ may)

pub returns-then-to-from-clause-greatest : goal.returns-then-to-from-clause-greatest
returns-then-to-from-clause-greatest c =
    let i = c.self.inside in
    let goes = found (goal.at.returns-then-to-from-clause-greatest c).After-quiet_to-to in
    let same : c.quiet_to-to.result ≡ i.clock = omega (arith, c.if-to-from.true, goes.on) in
    subst (λ t. may_run i.horizon t ≡ true → is_busy i.plan.value i.node t ≡ true) same goes.greatest

pub come-requires-clause-levels : goal.come-requires-clause-levels
come-requires-clause-levels c = its-levels c.self.invariant.1

pub come-requires-clause-apart : goal.come-requires-clause-apart
come-requires-clause-apart c = its-ports-apart c.self.invariant.1

pub come-requires-clause-steady : goal.come-requires-clause-steady
come-requires-clause-steady c =
    let pins = c.self.invariant.1.pins_are in
    steady-later c.self.inside.clock (c.quiet_to-to.result - 1) c.self.inside.pins (omega (arith, c.if-to-from.false)) pins.shown.steady

pub returns-clause-quiet : goal.returns-clause-quiet
returns-clause-quiet c =
    let i = c.self.inside in
    let goes = found (goal.at.returns-clause-quiet c).After-quiet_to-to in
    subst (λ (r : RunnerRec). NoneBefore (is_busy r.plan r.node) r.clock (r.clock + (c.quiet_to-to.result - i.clock))) c.self.view_is
    (λ slot on before. goes.quiet slot on (omega (arith, before, goes.on)))

pub returns-clause-greatest : goal.returns-clause-greatest
returns-clause-greatest c = (found (goal.at.returns-clause-greatest c).After-quiet_to-to).greatest

pub invariant_of-self-then-to-from : goal.invariant_of-self-then-to-from
invariant_of-self-then-to-from c =
    let i = c.self.inside in
    (c.self.invariant.0, with_seat i.plan.value i.node i.clock i.horizon i.seat c.may_issue.new.self i.pins i.inlets i.outlets i.published c.self.invariant.1 c.may_issue.ensures.unchanged)

pub invariant_of-self-2 : goal.invariant_of-self-2
invariant_of-self-2 c =
    let i = c.self.inside in
    let at = (goal.at.invariant_of-self-2 c).After-quiet_to-to in
    let seat = c.may_issue.new.self in
    let is = is_still at in
    let goes = found at in
    let plan = i.plan.value in
    let to = c.quiet_to-to.result in
    let come = c.come.new.pins in
    let looked = c.look.new.self in
    let pins = is.pins_are in
    let stop = c.clock_after-stop.result in
    let arrival = c.first_arrival-arrival.result in
    let ahead = c.clock_after-stop.ensures.value in
    let first = c.first_arrival-arrival.ensures.first in
    let within = c.first_arrival-arrival.ensures.within in
    let both = c.first_busy_by_both.ensures.first in
    let stirs = c.quiet_to-to.ensures.first in
    let some : i.clock < to = omega (arith, c.if-to-from.false) in
    let shows =
    c.view.ensures ∙ c.look.ensures.view
    ∙ shown_last plan i.node i.clock i.horizon seat i.pins i.inlets i.outlets i.published is stop arrival to ahead first within both stirs some come looked c.come.ensures.pins c.look.ensures.wires c.come.ensures.levels in
    let came = came_last plan i.node i.clock i.horizon seat i.pins i.inlets i.outlets i.published is stop arrival to ahead first within both stirs some come looked c.come.ensures.pins c.look.ensures.wires c.come.ensures.levels in
    let pins_are = pins_skipped plan i.node i.clock to i.pins come looked pins c.come.ensures.pins c.look.ensures.script c.look.ensures.number c.look.ensures.wired c.look.ensures.shown some in (
      omega (arith, c.self.invariant.0, goes.on),
      goes_on plan i.node i.clock i.horizon seat i.pins i.inlets i.outlets i.published is stop arrival to ahead first within both stirs some c.idle_where_not_busy.ensures.idle c.arrivals_by_link_ends.ensures.waiting
          (record { links = i.inlets.links; wires = c.come.new.self }) refl c.come.ensures.left c.skip.new.self looked c.view.result.now shows c.view.ensures c.skip.ensures.skips pins_are came,
    )
