use Rattle.std.proofs.Common.{◌≡◌, ◌≤◌, ◌+◌, ◌-◌, length}
use Rattle.xs_text.specs.Lines.{lines_of, bytes_left}
use Rattle.explain_whole.specs.Opened.{opened_from, opened_in}
use Rattle.explain_answers.proofs.openings.find_section.Given as goal

abbrev pub invariant-loop-line : goal.invariant-loop-line
invariant-loop-line l = record {
  same_text : l.lines.text ≡ l.text;
  numbered : l.lines.number ≤ l.lines.at;
  opened : opened_from l.kind (l.lines.number + 1) l.inside (lines_of (bytes_left l.lines)) ≡ opened_in l.kind (lines_of l.text);
}

abbrev pub decreases-loop-line : goal.decreases-loop-line
decreases-loop-line l = length l.text - l.lines.at
