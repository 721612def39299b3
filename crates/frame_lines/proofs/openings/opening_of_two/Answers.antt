use Rattle.std.proofs.Common.{sym, ◌∙◌}
use Rattle.frame_lines.proofs.Begun.{other_source}
use Rattle.frame_lines.proofs.openings.opening_of_two.Goals as goal

pub returns-in-None : goal.returns-in-None
returns-in-None c =
    other_source c.args.name.now c.args.word.now (sym c.same_name.ensures.value ∙ c.if-not-same_name.false) (sym c.is_plain_number.ensures ∙ c.if-not-is_plain_number.false)
    (sym c.number.ensures.value ∙ c.in-None.is)
