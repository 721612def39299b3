use Rattle.std.proofs.Common.{◌≡◌, ◌≤◌, ◌+◌, ◌-◌, false, length}
use Rattle.xs_text.specs.Lines.{lines_of, bytes_left}
use Rattle.warning_model.specs.Warnings.{warnings_of_source_of}
use Rattle.warning_text.proofs.sources.add_source_of.Given as goal

abbrev pub invariant-loop-line : goal.invariant-loop-line
invariant-loop-line l = record {
  same_text : l.lines.text ≡ l.text;
  same : l.warnings ≡ l.initial.warnings;
  numbered : l.lines.number ≤ l.lines.at;
  warnings : warnings_of_source_of l.plan l.node (l.lines.number + 1) l.inside (lines_of (bytes_left l.lines)) ≡ warnings_of_source_of l.plan l.node 1 false (lines_of l.text);
}

abbrev pub decreases-loop-line : goal.decreases-loop-line
decreases-loop-line l = length l.text - l.lines.at
