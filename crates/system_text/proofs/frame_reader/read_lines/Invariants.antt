use Rattle.std.proofs.Common.{◌≡◌, ◌-◌, ◌+◌, length}
use Rattle.xs_text.specs.Lines.{lines_of, bytes_left}
use Rattle.system_model.specs.Frame.{frame_from, nothing_given}
use Rattle.system_text.proofs.frame_reader.read_lines.Given as goal

abbrev pub invariant-loop-line : goal.invariant-loop-line
invariant-loop-line l = record {
  same_text : l.lines.text ≡ l.text;
  left : frame_from (l.lines.number + 1) l.frame (lines_of (bytes_left l.lines)) ≡ frame_from 1 nothing_given (lines_of l.text);
}

abbrev pub decreases-loop-line : goal.decreases-loop-line
decreases-loop-line l = length l.text - l.lines.at
