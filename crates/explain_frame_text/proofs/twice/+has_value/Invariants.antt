use Rattle.std.proofs.Common.{length}
use Rattle.explain_frame_text.proofs.twice.+has_value.Given as goal

abbrev pub decreases-has_value : goal.decreases-has_value
decreases-has_value l = length l.words.now
