use Rattle.std.proofs.Common.{rules, ◌≡◌, ◌+◌, List, sym, ◌∙◌, subst, arith}
use Rattle.std.proofs.lemmas.List.{with_items_is, places}
use Rattle.sys_plan.specs.declared.NodePlan.{NodePlan}
use Rattle.sys_plan.specs.Plan.{PlanRec}
use Rattle.run_counts.specs.declared.nodes.NodeCounts.{NodeCounts}
use Rattle.run_counts.specs.Tallies.{AreNothing}
use Rattle.run_counts.specs.Counted.{AreCounted}
use Rattle.run_counts.proofs.Start.{all-start}
use Rattle.run_counts.proofs.run.count_run.Goals as goal

pub loop-slot-init : goal.loop-slot-init
loop-slot-init c =
    let items = c.in_ok-all.all.items in
    record {
      plan = c.in_ok-run.ensures.plan;
      now = c.in_ok-run.ensures.now;
      counted = all-start c.args.plan.now items (subst (λ (nodes : List NodePlan). AreNothing nodes items) c.nodes.ensures.value c.in_ok-all.ensures.none);
    }

pub loop-slot-preserved : goal.loop-slot-preserved
loop-slot-preserved c =
    let kept = c.loop-slot.invariant in
    let items = with_items_is c.loop-slot.all c.count_slot.new.all (search (rules, places)) in
    let plan : c.step.new.self.plan ≡ c.args.plan.now = c.in_ok-step.ensures.plan ∙ kept.plan in
    record {
      plan = plan;
      now = omega (arith, c.in_ok-step.ensures.passed, kept.now);
      counted =
          subst (λ (all : List NodeCounts). AreCounted c.args.plan.now (c.loop-slot.slot + 1) all) (sym items)
          (subst (λ (p : PlanRec). AreCounted p (c.loop-slot.slot + 1) c.count_slot.new.all) plan c.count_slot.ensures.counted);
    }
