use Rattle.std.proofs.Common.{◌≤◌, length}
use Rattle.base_tests.proofs.xs_text_tests.has_tokens.Given as goal

abbrev pub invariant-loop-span : goal.invariant-loop-span
invariant-loop-span l = l.at ≤ length l.text
