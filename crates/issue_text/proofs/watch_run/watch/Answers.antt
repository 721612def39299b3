use Rattle.std.proofs.Common.{ℕ, [], map, ap, subst, Vec, Global}
use Rattle.sys_plan.specs.Plan.{PlanRec}
use Rattle.issue_model.specs.Issues.{lines_from}
use Rattle.issue_model.specs.Watch.{slot_watched}
use Rattle.issue_text.specs.Kept.{IsOf}
use Rattle.issue_text.proofs.watch_run.watch.Goals as goal

pub returns : goal.returns
returns c =
    let a = c.args in
    let numbers = map (λ (numbers : Vec ℕ Global). numbers.items) a.lines.now in
    record {
      text =
          c.in_ok-text.ensures (lines_from (slot_watched a.plan.now numbers a.addresses.now) 0 a.slots)
          (subst (IsOf c.watch_slots.new.kept) (ap (λ (p : PlanRec). lines_from (slot_watched p numbers a.addresses.now) 0 a.slots) c.in_ok-run.ensures.plan)
          (c.in_ok-watch_slots.ensures.lines [] c.new-kept.ensures.none));
    }
