use Rattle.std.proofs.Common.{sym, ap, subst, arith, ◌<◌, length}
use Rattle.finished_runs.specs.Limit.{AtLimitRec, HasRun}
use Rattle.node_runners.specs.Busy.{HasSteppedBusy}
use Rattle.finished_runs.proofs.Nodes.{node_at}
use Rattle.finished_runs.proofs.runners.Runners.runner.Goals as goal

pub index-requires : goal.index-requires
index-requires c = omega (arith, c.self.invariant.at_limit.nodes, ap (λ (g : AtLimitRec). length g.plan.nodes) c.self.view_is)

pub returns : goal.returns
returns c =
    let plan = c.self.inside.plan.value in
    let limit = c.self.inside.limit in
    let runner = c.index.result.now in
    let below : c.args.node < length plan.nodes = omega (arith, ap (λ (g : AtLimitRec). length g.plan.nodes) c.self.view_is) in
    let has = node_at plan limit c.self.inside.runners.items c.self.inside.totals.items c.self.invariant.at_limit c.args.node runner below c.index.ensures in
    record {
      at_limit = subst (λ (g : AtLimitRec). HasRun g.plan g.limit c.args.node runner) c.self.view_is has;
      busy = subst HasSteppedBusy (sym c.index.ensures) (c.self.invariant.busy c.args.node runner (omega (arith, below, c.self.invariant.at_limit.nodes)));
    }
