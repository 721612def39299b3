use Rattle.std.proofs.Common.{ℕ, ◌≡◌, ◌<◌, length}
use Rattle.std.specs.Prelude.{slice_index_or}
use Rattle.issue_model.specs.Seen.{node_after}
use Rattle.told_run.specs.declared.before.Before.{Before}
use Rattle.told_run.specs.Slots.{IsBefore}
use Rattle.told_run.proofs.before.keep.Given as goal

abbrev pub invariant-loop-n : goal.invariant-loop-n
invariant-loop-n l = record {
  long : length l.befores ≡ length l.initial.befores;
  kept : (k : ℕ) (none : Before) → k < l.n → IsBefore (node_after l.machine.plan l.machine.now k).core (slice_index_or l.befores k none);
}
