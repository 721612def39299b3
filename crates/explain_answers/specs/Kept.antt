-- A section that was found, as it is kept.
use Rattle.xs_text.specs.Lines.{lines_of}
use Rattle.explain_whole.specs.Opened.{Opened}
use Rattle.explain_answers.specs.declared.openings.Opened as kept

abbrev pub opened_of : kept.Opened → Opened
opened_of o = record { opening = o.opening; lines = lines_of o.text.now }
