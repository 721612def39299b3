use Rattle.std.proofs.Common.{◌∙◌}
use Rattle.system_text.proofs.Judged.{no_section_left}
use Rattle.system_text.proofs.frame.Frame.section.Goals as goal

pub returns-clause-lines : goal.returns-clause-lines
returns-clause-lines c = no_section_left _ _ _ _ c.loop-section-test.false ∙ c.loop-section.invariant
