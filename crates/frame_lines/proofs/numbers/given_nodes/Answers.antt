use Rattle.std.proofs.Common.{ap, ◌∙◌, arith}
use Rattle.explain_frame_model.specs.declared.frame.Gift.TheVariants.{Node}
use Rattle.explain_frame_model.specs.FrameGifts.{is_given, numbers_below}
use Rattle.frame_lines.proofs.numbers.given_nodes.Goals as goal

pub returns : goal.returns
returns c =
    c.loop-number.invariant
    ∙ ap (λ n. numbers_below (λ k. is_given (Node k) c.args.lines.now) n) (omega (arith, c.loop-number-test.false, c.loop-number.auto.number-end))
