use Rattle.std.proofs.Common.{◌≡◌, length, ap, arith}
use Rattle.std.proofs.lemmas.List.{length_push}
use Rattle.std.specs.Vec.Iter.{into_iter_items}
use Rattle.plan_cells.specs.Ends.{AreNewEnds}
use Rattle.worker_threads.specs.declared.fresh.Fresh.{Fresh}
use Rattle.sys_plan.specs.Plan.{PlanRec}
use Rattle.worker_threads.specs.Team.{IsFreshAt}
use Rattle.worker_threads.proofs.Nodes.{new_at}
use Rattle.worker_threads.proofs.Teams.{from_each, none_done, all_left, first_left, one_done, fewer_left}
use Rattle.worker_threads.proofs.fresh.fresh_nodes.Goals as goal

pub loop-ends-init : goal.loop-ends-init
loop-ends-init c =
    let gives = c.into_iter-ends-iterator.ensures.into_iter_gives in
    let none = c.in_ok-nodes.ensures.items in
    record {
      count = omega (arith, gives.1, c.args.all.ok.0, ap (length {A = Fresh}) none, c.requires.nodes);
      rest = all_left (AreNewEnds c.args.lanes.now) c.in_ok-nodes.nodes.items (into_iter_items c.into_iter-ends-iterator.result) c.args.all.items none gives.0 (from_each (AreNewEnds c.args.lanes.now) c.args.all.items c.requires.new_ends);
      nodes = none_done (IsFreshAt c.args.lanes.now c.args.limit) c.in_ok-nodes.nodes.items none;
    }

pub overflow_cast-len : goal.overflow_cast-len
overflow_cast-len c =
    let was = c.loop-ends.invariant.count in
    let step = c.in-Some.ensures.steps.1 in
    let few = c.nodes.ensures.plan.few_nodes in
    let len = c.loop-ends.nodes.ok.0 in
    omega (arith, was, step, few, c.len.ensures, len)

pub new-requires : goal.new-requires
new-requires c = record { node = omega (arith, c.loop-ends.invariant.count, c.in-Some.ensures.steps.1, c.len.ensures, c.loop-ends.nodes.ok.0) }

pub loop-ends-preserved : goal.loop-ends-preserved
loop-ends-preserved c =
    let was = c.loop-ends.invariant in
    let step = c.in-Some.ensures.steps in
    let done = c.loop-ends.nodes.items in
    let node : Fresh = record { runner = c.in_ok-runner.runner; ends = c.in-Some.ends; eager = c.args.eager } in
    let pushed = c.in_ok-push.ensures.items in
    let first = first_left (AreNewEnds c.args.lanes.now) (length done) (into_iter_items c.loop-ends.ends-iterator) (into_iter_items c.next.new.self) c.in-Some.ends step.0 was.rest in
    let at : c.len.result ≡ length done = omega (arith, c.len.ensures, c.loop-ends.nodes.ok.0) in
    let made = new_at c.args.lanes.now c.args.plan.now c.args.limit c.len.result (length done) node c.requires.plan at c.in_ok-runner.ensures.new first.0
    (omega (arith, was.count, step.1, ap (λ (p : PlanRec). length p.nodes) c.requires.plan)) in
    record {
      count = omega (arith, was.count, step.1, ap (length {A = Fresh}) pushed, length_push done node);
      rest = fewer_left (AreNewEnds c.args.lanes.now) done c.push.new.self.items node (into_iter_items c.next.new.self) pushed first.1;
      nodes = one_done (IsFreshAt c.args.lanes.now c.args.limit) done c.push.new.self.items node pushed was.nodes made;
    }

pub returns : goal.returns
returns c = record {
  fresh = record {
    count = omega (arith, c.loop-ends.invariant.count, c.in-None.ensures.steps.0, ap (λ (p : PlanRec). length p.nodes) c.requires.plan);
    each = c.loop-ends.invariant.nodes;
  };
}
