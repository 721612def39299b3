use Rattle.std.proofs.Common.{length}
use Rattle.explain_frame_text.proofs.unknown.+unlinked_end.Given as goal

abbrev pub decreases-unlinked_end : goal.decreases-unlinked_end
decreases-unlinked_end l = length l.words.now
