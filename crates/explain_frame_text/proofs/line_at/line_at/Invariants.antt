use Rattle.std.proofs.Common.{◌≡◌, ◌<◌, ◌-◌, length}
use Rattle.explain_frame_text.proofs.Fronts.{IsFront}
use Rattle.explain_frame_text.proofs.line_at.line_at.Given as goal

abbrev pub invariant-loop-line : goal.invariant-loop-line
invariant-loop-line l = record {
  same_text : l.lines.text ≡ l.text;
  before : l.lines.number < l.number;
  front : IsFront l.text l.lines.at l.lines.number;
}

abbrev pub decreases-loop-line : goal.decreases-loop-line
decreases-loop-line l = length l.text - l.lines.at
