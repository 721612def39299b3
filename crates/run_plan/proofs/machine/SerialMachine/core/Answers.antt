use Rattle.std.proofs.Common.{◌<◌, length, sym, subst, ap, arith, []}
use Rattle.std.specs.Prelude.{slice_index_or}
use Rattle.xs_model.specs.Record.{first_node}
use Rattle.core_step.specs.Core.{StandsAt}
use Rattle.run_plan.specs.declared.station.Station.{Station}
use Rattle.run_plan.specs.Machine.{MachineRec, system_of}
use Rattle.run_plan.specs.Inside.{seen_of}
use Rattle.run_plan.proofs.Systems.{play-at, play-length}
use Rattle.run_plan.proofs.machine.SerialMachine.core.Goals as goal

pub index-station-requires : goal.index-station-requires
index-station-requires c =
    let plan = c.self.inside.plan.value in
    let now = c.self.inside.clock in
    let system = system_of (seen_of c.self.inside) in
    omega (arith, play-length plan now 0 plan.nodes c.self.inside.stations.items system.nodes system.events c.self.invariant.ready.system.serve, ap (λ (m : MachineRec). length m.plan.nodes) c.self.view_is)

pub returns : goal.returns
returns c =
    let plan = c.self.inside.plan.value in
    let now = c.self.inside.clock in
    let system = system_of (seen_of c.self.inside) in
    let inside : c.args.node < length plan.nodes = omega (arith, ap (λ (m : MachineRec). length m.plan.nodes) c.self.view_is) in
    let at = play-at plan now 0 plan.nodes c.self.inside.stations.items system.nodes system.events c.args.node c.index-station.result.now (first_node 0 0 []) c.self.invariant.ready.system.serve inside in
    record {
      stands =
          subst (λ (m : MachineRec). StandsAt c.index-station.result.now.seat.core (slice_index_or (system_of m).nodes c.args.node (first_node 0 0 [])) m.now) c.self.view_is
          (subst (λ (s : Station). StandsAt s.seat.core (slice_index_or system.nodes c.args.node (first_node 0 0 [])) now) (sym c.index-station.ensures) at.0);
    }
