use Rattle.std.proofs.Common.{◌≤◌}
use Rattle.text_tests.proofs.trace_merge_tests.halted_in.Given as goal

abbrev pub invariant-loop-slot : goal.invariant-loop-slot
invariant-loop-slot l = l.kept.more ≤ l.slot-index
