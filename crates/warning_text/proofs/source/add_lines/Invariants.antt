use Rattle.std.proofs.Common.{◌≡◌, ◌≤◌, ◌+◌, ◌-◌, ◌++◌, length}
use Rattle.xs_text.specs.Lines.{lines_of}
use Rattle.source_model.specs.declared.layout.Section.TheVariants.{Text}
use Rattle.warning_model.specs.Source.{warnings_of_lines}
use Rattle.warning_model.specs.Warnings.{lines_to_end}
use Rattle.warning_text.specs.Kept.{known_of}
use Rattle.warning_text.specs.Lines.{lines_left}
use Rattle.warning_text.proofs.source.add_lines.Given as goal

abbrev pub invariant-loop-number : goal.invariant-loop-number
invariant-loop-number l = record {
  same_text : l.lines.text ≡ l.source;
  numbered : l.lines.number ≤ l.lines.at;
  warnings : l.warnings ++ warnings_of_lines (known_of l.known) (l.lines.number + 1) l.section (lines_left l.lines) ≡ l.initial.warnings ++ warnings_of_lines (known_of l.known) 1 Text (lines_to_end (lines_of l.source));
}

abbrev pub decreases-loop-number : goal.decreases-loop-number
decreases-loop-number l = length l.source - l.lines.at
