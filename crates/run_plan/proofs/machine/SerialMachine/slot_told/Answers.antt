use Rattle.std.proofs.Common.{rules, ◌+◌, length, ap, subst, arith}
use Rattle.std.proofs.lemmas.List.{with_items_is, places}
use Rattle.run_plan.specs.Machine.{MachineRec, system_of}
use Rattle.run_plan.specs.Inside.{begun_with, seen_of}
use Rattle.run_plan.specs.Told.{AreToldNext}
use Rattle.run_plan.proofs.Machines.{lent, stepped, each-is-told}
use Rattle.run_plan.proofs.Systems.{ready-alike, play-length}
use Rattle.run_plan.proofs.machine.SerialMachine.slot_told.Goals as goal

pub invariant_of-self : goal.invariant_of-self
invariant_of-self c =
    let m = c.self.inside in
    let plan = m.plan.value in
    let shown = (begun_with m).shown in
    let whole = system_of (seen_of m) in
    let made = c.pass_slot_told.new in
    let stations = with_items_is m.stations made.stations (search (rules, places)) in
    let tracks = with_items_is m.tracks made.tracks (search (rules, places)) in
    let wires = with_items_is m.wires made.wires (search (rules, places)) in
    let still = c.in_err-pass_slot_told.ensures.err plan shown whole (lent m c.self.invariant c.deref_mut.ensures.value c.deref_mut-2.ensures.value c.deref_mut-3.ensures.value) in
    record { on = c.self.invariant.on; ready = ready-alike plan shown m.clock whole stations tracks wires still }

pub invariant_of-self-2 : goal.invariant_of-self-2
invariant_of-self-2 c =
    let m = c.self.inside in
    let plan = m.plan.value in
    let shown = (begun_with m).shown in
    let whole = system_of (seen_of m) in
    let made = c.pass_slot_told.new in
    let stations = with_items_is m.stations made.stations (search (rules, places)) in
    let tracks = with_items_is m.tracks made.tracks (search (rules, places)) in
    let wires = with_items_is m.wires made.wires (search (rules, places)) in
    let next = c.in_ok-pass_slot_told.ensures.ok plan shown whole (lent m c.self.invariant c.deref_mut.ensures.value c.deref_mut-2.ensures.value c.deref_mut-3.ensures.value) in
    record {
      on = omega (arith, c.self.invariant.on);
      ready = ready-alike plan shown (m.clock + 1) _ stations tracks wires (stepped m c.self.invariant made.stations made.tracks made.wires next);
    }

pub pass_slot_told-requires-clause-told : goal.pass_slot_told-requires-clause-told
pass_slot_told-requires-clause-told c =
    let m = c.self.inside in
    let system = system_of (seen_of m) in
    omega (arith, c.requires.nodes, ap (λ (r : MachineRec). length r.plan.nodes) c.self.view_is, play-length m.plan.value m.clock 0 m.plan.value.nodes m.stations.items system.nodes system.events c.self.invariant.ready.system.serve)

pub returns-clause-told : goal.returns-clause-told
returns-clause-told c =
    let m = c.self.inside in
    subst (λ (r : MachineRec). AreToldNext r c.pass_slot_told.new.told) c.self.view_is
    (c.in_ok-pass_slot_told.ensures.told m.plan.value (begun_with m).shown (system_of (seen_of m)) (lent m c.self.invariant c.deref_mut.ensures.value c.deref_mut-2.ensures.value c.deref_mut-3.ensures.value))

pub returns-clause-each : goal.returns-clause-each
returns-clause-each c = each-is-told c.args.self.now c.pass_slot_told.new.told (returns-clause-told c)
