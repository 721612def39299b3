use Rattle.std.proofs.Common.{◌≡◌, ◌+◌, ◌-◌, length}
use Rattle.xs_text.specs.Lines.{lines_of, bytes_left}
use Rattle.explain_answers.proofs.lines.count_lines.Given as goal

abbrev pub invariant-loop-line : goal.invariant-loop-line
invariant-loop-line l = record {
  same_text : l.lines.text ≡ l.text;
  number : l.count ≡ l.lines.number;
  counted : l.lines.number + length (lines_of (bytes_left l.lines)) ≡ length (lines_of l.text);
}

abbrev pub decreases-loop-line : goal.decreases-loop-line
decreases-loop-line l = length l.text - l.lines.at
