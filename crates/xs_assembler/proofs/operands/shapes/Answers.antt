use Rattle.std.proofs.Common.{sym}
use Rattle.std.proofs.lemmas.Bool.{eqb-true}
use Rattle.xs_text.specs.Tokens.{tokens_of}
use Rattle.source_model.specs.Operands.{operands_of}
use Rattle.xs_assembler.specs.Parts.{operand_of}
use Rattle.xs_assembler.proofs.Shapes.{shapes_next, shapes_none, shapes_full, shapes_end}
use Rattle.xs_assembler.proofs.operands.shapes.Goals as goal

pub returns-then-is_full : goal.returns-then-is_full
returns-then-is_full c =
    shapes_full c.loop-operand.operands c.next_operand.new.self (operands_of (tokens_of c.args.text.now)) (operand_of c.in-Some.operand) c.loop-operand.shapes.items c.in-Some.ensures.next (eqb-true _ _ (sym c.if-is_full.ensures.value)) c.loop-operand.invariant

pub loop-operand-preserved : goal.loop-operand-preserved
loop-operand-preserved c =
    shapes_next c.loop-operand.operands c.next_operand.new.self (operand_of c.in-Some.operand) c.in-Some-shape.shape c.loop-operand.shapes.items c.push.new.self.items _ c.in-Some.ensures.next c.in-Some-shape.ensures c.push.ensures.items c.loop-operand.invariant

pub returns-in-None : goal.returns-in-None
returns-in-None c =
    shapes_none c.loop-operand.operands c.next_operand.new.self (operands_of (tokens_of c.args.text.now)) (operand_of c.in-Some.operand) c.loop-operand.shapes.items c.in-Some.ensures.next c.in-None.ensures c.loop-operand.invariant

pub returns : goal.returns
returns c = shapes_end c.loop-operand.operands (operands_of (tokens_of c.args.text.now)) c.loop-operand.shapes.items c.in_default.ensures.next c.loop-operand.invariant
