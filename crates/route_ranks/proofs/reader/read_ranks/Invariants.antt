use Rattle.std.proofs.Common.{◌≡◌, ◌+◌, ◌-◌, [], length}
use Rattle.xs_text.specs.Lines.{lines_of, bytes_left}
use Rattle.rank_model.specs.Lines.{bytes_of_lines, head_from}
use Rattle.route_ranks.proofs.reader.read_ranks.Given as goal

abbrev pub invariant-loop-line : goal.invariant-loop-line
invariant-loop-line l = record {
  same_text : l.lines.text ≡ l.text;
  last : l.last ≡ l.lines.number;
  at : l.lines.at ≡ bytes_of_lines l.lines.number l.text;
  whole : head_from 1 [] (lines_of l.text) ≡ head_from (l.lines.number + 1) l.given.items (lines_of (bytes_left l.lines));
}

abbrev pub decreases-loop-line : goal.decreases-loop-line
decreases-loop-line l = length l.text - l.lines.at
