use Rattle.std.proofs.Common.{◌≡◌, length}
use Rattle.source_model.specs.Each.{all_some}
use Rattle.source_model.specs.Operands.{operands_of, shape_of, shapes_of}
use Rattle.xs_text.specs.Tokens.{tokens_of}
use Rattle.xs_assembler.proofs.Shapes.{before_all}
use Rattle.xs_assembler.proofs.operands.shapes.Given as goal

abbrev pub invariant-loop-operand : goal.invariant-loop-operand
invariant-loop-operand l = before_all l.shapes.items (all_some shape_of l.operands) ≡ shapes_of (operands_of (tokens_of l.text))

abbrev pub decreases-loop-operand : goal.decreases-loop-operand
decreases-loop-operand l = length l.operands
