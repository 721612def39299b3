use Rattle.std.proofs.Common.{length}
use Rattle.system_text.proofs.end_numbers.+stands_twice.Given as goal

abbrev pub decreases-stands_twice : goal.decreases-stands_twice
decreases-stands_twice l = length l.ends.now
