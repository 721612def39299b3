use Rattle.std.proofs.Common.{◌≡◌, ◌≤◌, ◌+◌, ◌-◌, length, take}
use Rattle.xs_text.specs.Lines.{lines_of, bytes_left}
use Rattle.explain_model.specs.Labels.{note_lines, labels_of}
use Rattle.explain_text.proofs.labels.labels_of.Given as goal

abbrev pub invariant-loop-line : goal.invariant-loop-line
invariant-loop-line l = record {
  same_text : l.lines.text ≡ l.source;
  numbered : l.lines.number ≤ l.lines.at;
  counted : l.lines.number ≤ l.count;
  labels : note_lines (l.first + l.lines.number) (take (l.count - l.lines.number) (lines_of (bytes_left l.lines))) l.labels.labels ≡ labels_of l.first (take l.count (lines_of l.source));
}

abbrev pub decreases-loop-line : goal.decreases-loop-line
decreases-loop-line l = length l.source - l.lines.at
