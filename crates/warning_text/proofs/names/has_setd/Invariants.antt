use Rattle.std.proofs.Common.{◌≡◌, ◌-◌, length}
use Rattle.xs_text.specs.Lines.{lines_of}
use Rattle.warning_model.specs.Named.{has_setd}
use Rattle.warning_model.specs.Warnings.{lines_to_end}
use Rattle.warning_text.specs.Lines.{lines_left}
use Rattle.warning_text.proofs.names.has_setd.Given as goal

abbrev pub invariant-loop-line : goal.invariant-loop-line
invariant-loop-line l = record {
  same_text : l.lines.text ≡ l.source;
  found : has_setd (lines_left l.lines) ≡ has_setd (lines_to_end (lines_of l.source));
}

abbrev pub decreases-loop-line : goal.decreases-loop-line
decreases-loop-line l = length l.source - l.lines.at
