use Rattle.std.proofs.Common.{sym}
use Rattle.xs_assembler.specs.Parts.{operand_of, read_amount}
use Rattle.xs_assembler.specs.Sofar.{sofar_of}
use Rattle.xs_assembler.proofs.Found.{operands_over, row_part_ok}
use Rattle.xs_assembler.proofs.contents.put_operand.Goals as goal

pub returns-in_default-clause-put : goal.returns-in_default-clause-put
returns-in_default-clause-put c = operands_over (sofar_of c.args.whole.now) c.args.found.now c.args.part c.args.operands.now c.next_operand.new.self c.in_default.ensures.next c.in_default.ensures.end_stays

pub returns-clause-put : goal.returns-clause-put
returns-clause-put c =
    row_part_ok (sofar_of c.args.whole.now) c.args.found.now c.put_amount.new.found c.put_amount.result c.args.part c.args.operands.now c.next_operand.new.self (operand_of c.in-Some.operand) (read_amount c.amount.result)
    c.in-Some.ensures.next (sym c.if-not-takes_value.ensures.value) c.amount.ensures c.put_amount.ensures.put
