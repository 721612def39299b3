use Rattle.std.proofs.Common.{◌≡◌, ◌+◌, ◌<◌, List, [], ◌∷◌, ◌++◌, length, take, sym, ap, subst, arith}
use Rattle.std.proofs.lemmas.Grind.{common_steps}
use Rattle.std.proofs.lemmas.List.{length-take}
use Rattle.sys_plan.specs.declared.NodePlan.{NodePlan}
use Rattle.run_plan.specs.Starts.{AllStart}
use Rattle.run_plan.proofs.Starts.{next-node, start-more}
use Rattle.run_plan.proofs.wiring.stations_of.Goals as goal

pub loop-n-preserved : goal.loop-n-preserved
loop-n-preserved c =
    let plan = c.args.plan.now in
    let n = c.loop-n.n in
    let stations = c.loop-n.stations.items in
    let inside : n < length plan.nodes = omega (arith, ap (λ (xs : List NodePlan). length xs) c.nodes-n-end.ensures.value) in
    let next = next-node plan.nodes n inside in
    let count : n ≡ 0 + length (take n plan.nodes) = omega (arith, length-take n plan.nodes) in
    let pushed : c.push.new.self.items ≡ stations ++ c.in_ok-station.station ∷ [] = grind (arith, common_steps) in
    record {
      start =
          subst (λ (xs : List NodePlan). AllStart plan 0 xs c.push.new.self.items) (sym next.more)
          (subst (AllStart plan 0 (take n plan.nodes ++ next.node ∷ [])) (sym pushed)
          (start-more plan 0 (take n plan.nodes) stations n next.node c.in_ok-station.station c.loop-n.invariant.start count (c.in_ok-station.ensures.start next.node next.here)));
    }
