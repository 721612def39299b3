use Rattle.std.proofs.Common.{◌≡◌, ◌≤◌, ◌+◌, ◌-◌, length, take}
use Rattle.xs_text.specs.Lines.{lines_of, bytes_left}
use Rattle.explain_frame_model.specs.Script.{first_giving}
use Rattle.explain_script_text.proofs.before.first_giving.Given as goal

abbrev pub invariant-loop-line : goal.invariant-loop-line
invariant-loop-line l = record {
  same_text : l.lines.text ≡ l.script;
  numbered : l.lines.number ≤ l.lines.at;
  counted : l.lines.number ≤ l.count;
  found : first_giving l.given (l.first + l.lines.number) (take (l.count - l.lines.number) (lines_of (bytes_left l.lines))) ≡ first_giving l.given l.first (take l.count (lines_of l.script));
}

abbrev pub decreases-loop-line : goal.decreases-loop-line
decreases-loop-line l = length l.script - l.lines.at
