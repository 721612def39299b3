use Rattle.std.proofs.Common.{◌≡◌, ◌-◌, ◌*◌, ◌≤◌}
use Rattle.issue_model.specs.Issues.{slot_lines, lines_from}
use Rattle.issue_text.specs.Kept.{Adds}
use Rattle.issue_text.specs.NodeSlots.{numbers_of}
use Rattle.issue_text.proofs.issue_run.tell_slots.Given as goal

abbrev pub invariant-loop-run : goal.invariant-loop-run
invariant-loop-run l = record {
  plan : l.run.plan ≡ l.initial.run.plan;
  on : l.initial.run.now ≤ l.run.now;
  within : l.run.now ≤ l.slots;
  count : l.kept.count ≤ 16 * l.run.now;
  lines : Adds l.initial.kept l.kept (lines_from (slot_lines l.initial.run.plan (numbers_of l.sources)) l.initial.run.now (l.run.now - l.initial.run.now));
}

abbrev pub decreases-loop-run : goal.decreases-loop-run
decreases-loop-run l = l.slots - l.run.now
