use Rattle.std.proofs.Common.{refl}
use Rattle.xs_assembler.specs.Sofar.{sofar_of}
use Rattle.xs_assembler.proofs.Found.{row_next, row_past, row_end, row_some}
use Rattle.xs_assembler.proofs.contents.row_values.Goals as goal

pub loop-part-preserved : goal.loop-part-preserved
loop-part-preserved c =
    row_next (sofar_of c.args.whole.now) c.loop-part.found c.put_operand.new.found c.in_ok-put_operand.field-0 c.parts-part-items.result.now c.loop-part.part-index _ c.loop-part.operands c.put_operand.new.operands _
    c.loop-part-test.true c.if-not-branch.false c.in_ok-put_operand.ensures.put c.loop-part.invariant

pub returns-then-not-branch-clause-values : goal.returns-then-not-branch-clause-values
returns-then-not-branch-clause-values c =
    row_past (sofar_of c.args.whole.now) c.loop-part.found c.put_operand.new.found c.in_ok-put_operand.field-0 c.parts-part-items.result.now c.loop-part.part-index _ c.loop-part.operands c.put_operand.new.operands _
    c.loop-part-test.true c.if-not-branch.true c.in_ok-put_operand.ensures.put c.loop-part.invariant

pub returns-clause-values : goal.returns-clause-values
returns-clause-values c = row_end (sofar_of c.args.whole.now) c.loop-part.found c.parts-part-items.result.now c.loop-part.part-index c.loop-part.operands _ c.loop-part-test.false c.loop-part.invariant

pub returns-in_err-put_operand-clause-memory : goal.returns-in_err-put_operand-clause-memory
returns-in_err-put_operand-clause-memory c = λ _.
    row_some (sofar_of c.args.whole.now) c.loop-part.found c.parts-part-items.result.now c.loop-part.part-index _ c.loop-part.operands _
    c.loop-part-test.true (λ parts. c.in_err-put_operand.ensures.memory parts refl) c.loop-part.invariant
