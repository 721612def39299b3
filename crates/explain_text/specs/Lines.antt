-- A line of a source, as it is kept.
use Rattle.xs_text.specs.Lines.{lines_of}
use Rattle.explain_model.specs.Spots.{SourceLine}
use Rattle.explain_text.specs.declared.source_line.SourceLine as kept

abbrev pub line_of_kept : kept.SourceLine → SourceLine
line_of_kept at = record { first = at.first; lines = lines_of at.source.now; line = at.line }
