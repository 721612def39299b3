use Rattle.std.proofs.Common.{◌<◌, ◌≤◌, ◌*◌, length, sym, subst, ap, arith, []}
use Rattle.std.specs.Prelude.{slice_index_or}
use Rattle.xs_base.specs.declared.numbers.TheConstants.{EVENT_ROOM}
use Rattle.xs_model.specs.Record.{first_node}
use Rattle.trace_lines.specs.Kept.{Keeps}
use Rattle.run_plan.specs.declared.station.Station.{Station}
use Rattle.run_plan.specs.Machine.{MachineRec, system_of}
use Rattle.run_plan.specs.Inside.{seen_of}
use Rattle.run_plan.specs.Stations.{IsStation}
use Rattle.run_plan.proofs.Through.{all-at}
use Rattle.run_plan.proofs.Systems.{play-at, play-length}
use Rattle.run_plan.proofs.machine.SerialMachine.events.Goals as goal

pub index-station-requires : goal.index-station-requires
index-station-requires c =
    let plan = c.self.inside.plan.value in
    let now = c.self.inside.clock in
    let system = system_of (seen_of c.self.inside) in
    omega (arith, play-length plan now 0 plan.nodes c.self.inside.stations.items system.nodes system.events c.self.invariant.ready.system.serve, ap (λ (m : MachineRec). length m.plan.nodes) c.self.view_is)

pub returns : goal.returns
returns c =
    let plan = c.self.inside.plan.value in
    let now = c.self.inside.clock in
    let system = system_of (seen_of c.self.inside) in
    let inside : c.args.node < length plan.nodes = omega (arith, ap (λ (m : MachineRec). length m.plan.nodes) c.self.view_is) in
    let at = play-at plan now 0 plan.nodes c.self.inside.stations.items system.nodes system.events c.args.node c.index-station.result.now (first_node 0 0 []) c.self.invariant.ready.system.serve inside in
    let ready = all-at (IsStation now (length c.self.inside.tracks.items)) c.self.inside.stations.items c.args.node c.index-station.result.now c.self.invariant.ready.stations
    (omega (arith, inside, play-length plan now 0 plan.nodes c.self.inside.stations.items system.nodes system.events c.self.invariant.ready.system.serve)) in
    record {
      keeps =
          subst (λ (m : MachineRec). Keeps c.index-station.result.now.seat.events (slice_index_or (system_of m).events c.args.node [])) c.self.view_is
          (subst (λ (s : Station). Keeps s.seat.events (slice_index_or system.events c.args.node [])) (sym c.index-station.ensures) at.1);
      few =
          subst (λ (m : MachineRec). c.index-station.result.now.seat.events.more ≤ EVENT_ROOM * m.now) c.self.view_is
          (subst (λ (s : Station). s.seat.events.more ≤ EVENT_ROOM * now) (sym c.index-station.ensures) ready.here.more);
    }
