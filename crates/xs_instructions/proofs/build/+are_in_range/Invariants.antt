use Rattle.std.proofs.Common.{length}
use Rattle.xs_instructions.proofs.build.+are_in_range.Given as goal

abbrev pub decreases-are_in_range : goal.decreases-are_in_range
decreases-are_in_range l = length l.parts.now
