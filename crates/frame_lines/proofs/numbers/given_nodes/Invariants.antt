use Rattle.std.proofs.Common.{◌≡◌}
use Rattle.explain_frame_model.specs.declared.frame.Gift.TheVariants.{Node}
use Rattle.explain_frame_model.specs.FrameGifts.{is_given, numbers_below}
use Rattle.frame_lines.proofs.numbers.given_nodes.Given as goal

abbrev pub invariant-loop-number : goal.invariant-loop-number
invariant-loop-number l = l.numbers.items ≡ numbers_below (λ n. is_given (Node n) l.lines) l.number
