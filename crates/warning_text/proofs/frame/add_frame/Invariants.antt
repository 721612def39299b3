use Rattle.std.proofs.Common.{◌≡◌, ◌+◌, ◌-◌, ◌++◌, false, length}
use Rattle.xs_text.specs.Lines.{lines_of, bytes_left}
use Rattle.warning_model.specs.Warnings.{warnings_of_frame}
use Rattle.warning_text.proofs.frame.add_frame.Given as goal

abbrev pub invariant-loop-line : goal.invariant-loop-line
invariant-loop-line l = record {
  same_text : l.lines.text ≡ l.text;
  warnings : l.warnings ++ warnings_of_frame l.plan (l.lines.number + 1) l.inside (lines_of (bytes_left l.lines)) ≡ l.initial.warnings ++ warnings_of_frame l.plan 1 false (lines_of l.text);
}

abbrev pub decreases-loop-line : goal.decreases-loop-line
decreases-loop-line l = length l.text - l.lines.at
