use Rattle.std.proofs.Common.{◌≡◌, ◌+◌, ◌<◌, List, [], ◌∷◌, ◌++◌, length, take, ap, sym, subst, arith}
use Rattle.std.proofs.lemmas.Grind.{common_steps}
use Rattle.sys_plan.specs.declared.NodePlan.{NodePlan}
use Rattle.snap_parts.specs.Snaps.{IsSnapNode}
use Rattle.run_plan.specs.Begins.{AllBegin, StationBegins}
use Rattle.run_plan.proofs.Starts.{next-node}
use Rattle.run_plan.proofs.Begins.{snap-at, snaps-length, stations-grow, stations-whole}
use Rattle.run_plan.proofs.begun.stations_by.Goals as goal

pub index-node-requires : goal.index-node-requires
index-node-requires c =
    let plan = c.args.plan.now in
    let snap = c.args.snap.now in
    omega (arith, snaps-length plan snap.slot 0 plan.nodes snap.nodes.items c.requires.snap.nodes, ap (λ (xs : List NodePlan). length xs) c.nodes-n-end.ensures.value)

pub station_by-requires-clause-snap : goal.station_by-requires-clause-snap
station_by-requires-clause-snap c =
    let plan = c.args.plan.now in
    let snap = c.args.snap.now in
    let n = c.loop-n.n in
    let inside : n < length plan.nodes = omega (arith, ap (λ (xs : List NodePlan). length xs) c.nodes-n-end.ensures.value) in
    subst (IsSnapNode plan snap.slot n) (sym c.index-node.ensures) (snap-at plan snap.slot 0 plan.nodes snap.nodes.items n n c.index-node.result.now c.requires.snap.nodes inside (omega arith))

pub loop-n-preserved : goal.loop-n-preserved
loop-n-preserved c =
    let plan = c.args.plan.now in
    let snap = c.args.snap.now in
    let n = c.loop-n.n in
    let stations = c.loop-n.stations.items in
    let inside : n < length plan.nodes = omega (arith, ap (λ (xs : List NodePlan). length xs) c.nodes-n-end.ensures.value) in
    let within : n < length snap.nodes.items = omega (arith, inside, snaps-length plan snap.slot 0 plan.nodes snap.nodes.items c.requires.snap.nodes) in
    let next = next-node plan.nodes n inside in
    let found = c.index-node.result.now in
    let pushed : c.push.new.self.items ≡ stations ++ c.in_ok-station.station ∷ [] = grind (arith, common_steps) in
    record {
      begin =
          subst (AllBegin (StationBegins plan snap.slot) 0 (take (n + 1) plan.nodes) (take (n + 1) snap.nodes.items)) (sym pushed)
          (stations-grow plan snap.slot n snap.nodes.items stations next.node found found c.in_ok-station.station c.loop-n.invariant.begin inside within next.more (sym c.index-node.ensures)
          (c.in_ok-station.ensures.begins next.node next.here));
    }

pub returns : goal.returns
returns c =
    let plan = c.args.plan.now in
    let snap = c.args.snap.now in
    record {
      begin =
          stations-whole plan snap.slot c.loop-n.n snap.nodes.items c.loop-n.stations.items (omega (arith, ap (λ (xs : List NodePlan). length xs) c.nodes-n-end.ensures.value))
          (snaps-length plan snap.slot 0 plan.nodes snap.nodes.items c.requires.snap.nodes) c.loop-n.invariant.begin;
    }
