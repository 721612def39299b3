use Rattle.std.proofs.Common.{◌≡◌, ◌+◌, ◌-◌, length}
use Rattle.xs_text.specs.Lines.{lines_of}
use Rattle.warning_model.specs.Named.{last_from, last_instruction}
use Rattle.warning_model.specs.Warnings.{lines_to_end}
use Rattle.warning_text.specs.Lines.{lines_left}
use Rattle.warning_text.proofs.names.last_instruction.Given as goal

abbrev pub invariant-loop-number : goal.invariant-loop-number
invariant-loop-number l = record {
  same_text : l.lines.text ≡ l.source;
  last : last_from l.last (l.lines.number + 1) (lines_left l.lines) ≡ last_instruction (lines_to_end (lines_of l.source));
}

abbrev pub decreases-loop-number : goal.decreases-loop-number
decreases-loop-number l = length l.source - l.lines.at
