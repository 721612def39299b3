use Rattle.std.proofs.Common.{◌≡◌, ◌<◌, ◌-◌, [], length, get_or}
use Rattle.xs_text.specs.Lines.{lines_of, bytes_left}
use Rattle.placed_tokens.proofs.lines.bytes_of_line.Given as goal

abbrev pub invariant-loop-line : goal.invariant-loop-line
invariant-loop-line l = record {
  same_text : l.lines.text ≡ l.text;
  before : l.lines.number < l.number;
  bytes : get_or (lines_of (bytes_left l.lines)) ((l.number - 1) - l.lines.number) [] ≡ get_or (lines_of l.text) (l.number - 1) [];
}

abbrev pub decreases-loop-line : goal.decreases-loop-line
decreases-loop-line l = length l.text - l.lines.at
