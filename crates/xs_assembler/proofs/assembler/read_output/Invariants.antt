use Rattle.std.proofs.Common.{◌-◌, length}
use Rattle.xs_assembler.specs.Before.{before_of}
use Rattle.xs_assembler.specs.Sofar.{sofar_of}
use Rattle.xs_assembler.proofs.Passing.{OutputSoFar}
use Rattle.xs_assembler.proofs.assembler.read_output.Given as goal

abbrev pub invariant-loop-line : goal.invariant-loop-line
invariant-loop-line l = OutputSoFar (sofar_of l.whole) l.text l.lines (before_of l.whole.names.labels l.before) l.output

abbrev pub decreases-loop-line : goal.decreases-loop-line
decreases-loop-line l = length l.text - l.lines.at
