use Rattle.std.proofs.Common.{refl, sym, ap, ◌∙◌}
use Rattle.warning_text.specs.Lines.{lines_left}
use Rattle.warning_text.proofs.Lines.{none_to_end}
use Rattle.warning_text.proofs.source_lines.SourceLines.next_line.Goals as goal

pub returns-in_default-clause-line : goal.returns-in_default-clause-line
returns-in_default-clause-line c = ap lines_left (sym c.self.view_is) ∙ none_to_end _ (c.in_default.ensures.end.0 refl)
