use Rattle.std.proofs.Common.{◌≡◌}
use Rattle.explain_frame_model.specs.FrameGifts.{has_end, numbers_below}
use Rattle.frame_lines.proofs.numbers.given_ends.Given as goal

abbrev pub invariant-loop-end : goal.invariant-loop-end
invariant-loop-end l = l.numbers.items ≡ numbers_below (has_end l.node l.wires l.lines) l.end
