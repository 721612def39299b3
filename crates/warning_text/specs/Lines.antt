-- The lines of a source that are still to be read.
use Rattle.std.specs.Prelude.{ℕ, List}
use Rattle.xs_text.specs.Lines.{Reading, lines_of, bytes_left}
use Rattle.warning_model.specs.Warnings.{lines_to_end}

abbrev pub lines_left : Reading → List (List ℕ)
lines_left reading = lines_to_end (lines_of (bytes_left reading))
