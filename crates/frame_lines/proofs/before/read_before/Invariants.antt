use Rattle.std.proofs.Common.{◌≡◌, ◌+◌, ◌-◌, ◌++◌, length}
use Rattle.xs_text.specs.Lines.{lines_of, bytes_left}
use Rattle.explain_frame_model.specs.FrameBefore.{inside_of, frame_lines, lines_from, inside_after_lines}
use Rattle.frame_lines.proofs.before.read_before.Given as goal

abbrev pub invariant-loop-line : goal.invariant-loop-line
invariant-loop-line l = record {
  same_text : l.lines.text ≡ l.text;
  lines : l.kept.items ++ lines_from (l.lines.number + 1) l.inside (lines_of (bytes_left l.lines)) ≡ frame_lines (lines_of l.text);
  inside : inside_after_lines l.inside (lines_of (bytes_left l.lines)) ≡ inside_of (lines_of l.text);
}

abbrev pub decreases-loop-line : goal.decreases-loop-line
decreases-loop-line l = length l.text - l.lines.at
