use Rattle.std.proofs.Common.{length}
use Rattle.marked_lines.proofs.near.+is_found.Given as goal

abbrev pub decreases-is_found : goal.decreases-is_found
decreases-is_found l = length l.found.now
