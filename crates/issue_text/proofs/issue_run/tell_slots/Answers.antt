use Rattle.std.proofs.Common.{ℕ, ◌≡◌, ◌-◌, ◌++◌, refl, sym, ap, ◌∙◌, subst, arith}
use Rattle.sys_plan.specs.Plan.{PlanRec}
use Rattle.issue_model.specs.Issues.{slot_lines, lines_from}
use Rattle.issue_text.specs.Kept.{Adds}
use Rattle.issue_text.specs.NodeSlots.{AreSources, numbers_of}
use Rattle.issue_text.proofs.Kept.{none-added, and-more}
use Rattle.issue_text.proofs.Nodes.{no-slot, one-slot}
use Rattle.issue_text.proofs.issue_run.tell_slots.Goals as goal

pub loop-run-init : goal.loop-run-init
loop-run-init c = record {
  plan = refl;
  on = omega arith;
  within = c.requires.within;
  count = c.requires.count;
  lines = subst (Adds c.args.kept.now c.args.kept.now) (no-slot (slot_lines c.args.run.now.plan (numbers_of c.args.sources.now)) c.args.run.now.now) (none-added c.args.kept.now);
}

pub tell_slot-requires-clause-sources : goal.tell_slot-requires-clause-sources
tell_slot-requires-clause-sources c = subst (λ (p : PlanRec). AreSources p c.args.sources.now) (sym c.loop-run.invariant.plan) c.requires.sources

pub loop-run-preserved : goal.loop-run-preserved
loop-run-preserved c =
    let kept = c.loop-run.invariant in
    let told = c.in_ok-tell_slot.ensures in
    let numbers = numbers_of c.args.sources.now in
    let from = c.args.run.now.now in
    let now = c.loop-run.run.now in
    record {
      plan = told.plan ∙ kept.plan;
      on = omega (arith, kept.on, told.passed);
      within = omega (arith, told.passed, c.now.ensures, c.loop-run-test.true);
      count = told.count;
      lines =
          and-more c.args.kept.now c.loop-run.kept c.tell_slot.new.kept _ _ _ kept.lines told.lines
          (ap (λ (p : PlanRec). lines_from (slot_lines c.args.run.now.plan numbers) from (now - from) ++ slot_lines p numbers now) kept.plan
          ∙ one-slot (slot_lines c.args.run.now.plan numbers) from now c.tell_slot.new.run.now kept.on told.passed);
    }

pub returns : goal.returns
returns c = record {
  lines =
      let from = c.args.run.now.now in
      let end : c.loop-run.run.now - from ≡ c.args.slots - from = omega (arith, c.loop-run.invariant.within, c.now.ensures, c.loop-run-test.false) in
      subst (λ (k : ℕ). Adds c.args.kept.now c.loop-run.kept (lines_from (slot_lines c.args.run.now.plan (numbers_of c.args.sources.now)) from k)) end c.loop-run.invariant.lines;
}
