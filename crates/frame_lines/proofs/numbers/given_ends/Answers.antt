use Rattle.std.proofs.Common.{ap, ◌∙◌, arith}
use Rattle.explain_frame_model.specs.FrameGifts.{has_end, numbers_below}
use Rattle.frame_lines.proofs.numbers.given_ends.Goals as goal

pub returns : goal.returns
returns c =
    c.loop-end.invariant
    ∙ ap (λ n. numbers_below (has_end c.args.node c.args.wires c.args.lines.now) n) (omega (arith, c.loop-end-test.false, c.loop-end.auto.end-end))
