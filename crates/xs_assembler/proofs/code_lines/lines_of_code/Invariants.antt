use Rattle.std.proofs.Common.{◌-◌, length}
use Rattle.xs_assembler.specs.Sofar.{sofar_of}
use Rattle.xs_assembler.proofs.CodeLines.{NumbersSoFar}
use Rattle.xs_assembler.proofs.code_lines.lines_of_code.Given as goal

abbrev pub invariant-loop-line : goal.invariant-loop-line
invariant-loop-line l = NumbersSoFar l.text l.lines (sofar_of l.sofar) l.numbers.items

abbrev pub decreases-loop-line : goal.decreases-loop-line
decreases-loop-line l = length l.text - l.lines.at
