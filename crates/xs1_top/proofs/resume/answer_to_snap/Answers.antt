use Rattle.std.proofs.Common.{sym, ◌∙◌}
use Rattle.xs1_top.proofs.Rests.{rest_done}
use Rattle.xs1_top.proofs.resume.answer_to_snap.Goals as goal

pub returns : goal.returns
returns c =
    rest_done c.args.slots c.args.snap.now c.in_ok-text.text c.is_out_of_range.ensures.snap (sym c.is_out_of_range.ensures.value ∙ c.if-is_out_of_range.false)
    c.in_ok-text.ensures.text
