use Rattle.std.proofs.Common.{◌≤◌}
use Rattle.text_tests.proofs.trace_lines_tests.all_that_are_kept_have_room_and_the_rest_is_counted.Given as goal

-- at most one more is counted in each turn
abbrev pub invariant-loop-slot : goal.invariant-loop-slot
invariant-loop-slot g l = l.kept.more ≤ l.slot
