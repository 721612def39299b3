use Rattle.std.proofs.Common.{◌≡◌, ◌+◌, true, ◌∙◌, refl, sym, ap, subst, arith, rules}
use Rattle.ahead_limits.specs.Horizon.{may_run}
use Rattle.core_step.specs.Core.{NothingArrives}
use Rattle.core_step.specs.PinLevels.{from_outside}
use Rattle.node_seats.proofs.Seats.{noted-still, noted-same}
use Rattle.node_runners.specs.Runner.{RunnerRec}
use Rattle.node_runners.specs.Inside.{HaveComeBefore}
use Rattle.node_runners.proofs.Coming.{its-levels, its-ports-apart, come-before, pins-show, pins-looked}
use Rattle.node_runners.proofs.Slots.{links-ahead, waits, runner-same, runner-next}
use Rattle.node_runners.proofs.runner.NodeRunner.run_slot.Goals as goal

pub stopped-requires-clause-ahead : goal.stopped-requires-clause-ahead
stopped-requires-clause-ahead c =
    let i = c.self.inside in
    links-ahead i.plan.value i.node i.clock i.horizon i.inlets i.outlets i.published c.self.invariant.1.links

pub invariant_of-self-in_err-make_room : goal.invariant_of-self-in_err-make_room
invariant_of-self-in_err-make_room c =
    let i = c.self.inside in
    let same =
    runner-same i.plan.value i.node i.clock i.horizon i.seat c.reserve.new.self i.pins i.inlets i.outlets c.make_room.new.self i.published c.self.invariant.1
    c.reserve.ensures.same c.make_room.ensures.same in
    (c.self.invariant.0, same)

pub arrive-arrives-requires-clause-waits : goal.arrive-arrives-requires-clause-waits
arrive-arrives-requires-clause-waits c =
    let i = c.self.inside in
    waits i.plan.value c.self.invariant.1.plan_is i.node i.clock i.horizon i.inlets i.outlets i.published c.self.invariant.1.links

pub come-requires-clause-levels : goal.come-requires-clause-levels
come-requires-clause-levels c = its-levels c.self.invariant.1

pub come-requires-clause-apart : goal.come-requires-clause-apart
come-requires-clause-apart c = its-ports-apart c.self.invariant.1

pub step-requires-clause-arrives : goal.step-requires-clause-arrives
step-requires-clause-arrives c = λ none. subst NothingArrives (sym c.arrived.ensures) (c.arrive-arrives.ensures.nothing none)

pub step-requires-clause-same : goal.step-requires-clause-same
step-requires-clause-same c = λ still.
    let i = c.self.inside in
    let noted = noted-same i.clock i.pins i.seat c.reserve.new.self c.self.invariant.1.noted c.reserve.ensures.same in
    noted-still i.clock c.come.new.pins c.look-changed.new.self c.reserve.new.self (c.come.ensures.pins.noted c.reserve.new.self noted) (c.look-changed.ensures.same still) ∙ ap from_outside (sym c.view.ensures)

pub put_all-requires-clause-few : goal.put_all-requires-clause-few
put_all-requires-clause-few c = omega (arith, c.self.invariant.1.links.few_batches, c.make_room.ensures.same.link_count)

pub put_all-requires-clause-ports : goal.put_all-requires-clause-ports
put_all-requires-clause-ports c = λ k within.
    let same = c.make_room.ensures.same in
    omega (arith, (c.self.invariant.1.wires.leave k (omega (arith, within, same.wire_count))).there, (same.wires k).port)

pub returns-clause-ran : goal.returns-clause-ran
returns-clause-ran c =
    let runs : c.may_run.result ≡ true = first_of (cc, search rules, grind (arith)) in (
      ap (λ (r : RunnerRec). may_run r.horizon r.clock) (sym c.self.view_is) ∙ sym c.may_run.ensures.value ∙ runs,
      ap (λ (r : RunnerRec). record r { clock = r.clock + 1; stepped = r.stepped + 1 }) c.self.view_is,
    )

pub invariant_of-self-2 : goal.invariant_of-self-2
invariant_of-self-2 c =
    let i = c.self.inside in
    let is = c.self.invariant.1 in
    let plan = i.plan.value in
    -- room was made
    let roomy = c.make_room.new.self in
    let start =
    runner-same plan i.node i.clock i.horizon i.seat c.reserve.new.self i.pins i.inlets i.outlets roomy i.published is
    c.reserve.ensures.same c.make_room.ensures.same in
    let runs : c.may_run.result ≡ true = first_of (cc, search rules, grind (arith)) in
    let below = c.may_run.ensures.exactly.0 runs in
    -- levels came to its pins, which were looked at
    let come = c.come.new.pins in
    let looked = c.look-changed.new.self in
    let shown =
    c.view.ensures ∙ c.look-changed.ensures.view
    ∙ pins-show plan is.plan_is i.node i.clock i.horizon i.inlets i.outlets i.published i.pins.levels is.links is.wires.come is.wires.came i.clock (omega arith) below
    come.levels c.come.ensures.levels i.pins i.clock is.pins_are come c.come.ensures.pins refl in
    let came =
    subst (HaveComeBefore plan i.node (i.clock + 1)) (sym c.look-changed.ensures.wires)
    (come-before plan is.plan_is i.node i.clock i.horizon i.inlets i.outlets i.published i.pins.levels is.links is.wires.come is.wires.came i.clock (omega arith) below
    come.levels c.come.ensures.levels) in
    let pins_are =
    pins-looked plan i.node i.clock i.clock i.pins come looked is.pins_are c.come.ensures.pins c.look-changed.ensures.script c.look-changed.ensures.number c.look-changed.ensures.wired c.look-changed.ensures.shown in (
      omega (arith, c.self.invariant.0),
      runner-next plan i.node i.clock i.horizon c.reserve.new.self c.step.new.self i.pins looked i.inlets
          (record { links = c.arrive-arrives.new.self; wires = c.come.new.self }) roomy c.put_all.new.self i.published c.arrived.result.now c.view.result.now start below
          (c.arrived.ensures ∙ c.arrive-arrives.ensures.arrives)
          (record { links = c.arrive-arrives.ensures.left; wires = c.come.ensures.left })
          shown pins_are c.view.ensures came c.step.ensures.steps c.put_all.ensures.puts,
    )
