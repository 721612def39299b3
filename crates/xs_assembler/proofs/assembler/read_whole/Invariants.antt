use Rattle.std.proofs.Common.{◌≡◌, ◌-◌, length}
use Rattle.xs_instructions.specs.SourceHash.{source_key}
use Rattle.xs_assembler.specs.Sofar.{sofar_of}
use Rattle.xs_assembler.proofs.Passing.{WholeSoFar}
use Rattle.xs_assembler.proofs.assembler.read_whole.Given as goal

abbrev pub invariant-loop-line : goal.invariant-loop-line
invariant-loop-line l = record { whole : WholeSoFar l.text l.lines (sofar_of l.sofar); keyed : l.sofar.names.key ≡ source_key l.text }

abbrev pub decreases-loop-line : goal.decreases-loop-line
decreases-loop-line l = length l.text - l.lines.at
