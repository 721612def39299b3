use Rattle.std.proofs.Common.{refl, sym, ◌∙◌}
use Rattle.xs_text.specs.Lines.{bytes_left}
use Rattle.placed_tokens.proofs.Counting.{none-left}
use Rattle.explain_answers.proofs.Begun.{none_opened}
use Rattle.explain_answers.proofs.openings.find_section.Goals as goal

pub returns-clause-opened : goal.returns-clause-opened
returns-clause-opened c = sym (none_opened _ _ c.loop-line.inside _ (none-left (bytes_left c.loop-line.lines) (c.in_default.ensures.end.0 refl))) ∙ c.loop-line.invariant.opened
