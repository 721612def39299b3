use Rattle.std.proofs.Common.{◌≡◌, ◌-◌, ◌*◌, ◌≤◌, length}
use Rattle.issue_model.specs.Issues.{lines_from}
use Rattle.issue_model.specs.Watch.{slot_watched}
use Rattle.issue_text.specs.Kept.{Adds}
use Rattle.issue_text.specs.NodeSlots.{numbers_of}
use Rattle.issue_text.proofs.watch_run.watch_slots.Given as goal

abbrev pub invariant-loop-run : goal.invariant-loop-run
invariant-loop-run l = record {
  plan : l.run.plan ≡ l.initial.run.plan;
  within : l.run.now ≤ l.slots;
  addresses : l.watched.addresses.now ≡ l.initial.watched.addresses.now;
  words : length l.watched.words.items ≡ length l.initial.watched.words.items;
  count : l.kept.count ≤ 16 * l.run.now;
  lines : Adds l.initial.kept l.kept (lines_from (slot_watched l.initial.run.plan (numbers_of l.sources) l.initial.watched.addresses.now) 0 l.run.now);
}

abbrev pub decreases-loop-run : goal.decreases-loop-run
decreases-loop-run l = l.slots - l.run.now
