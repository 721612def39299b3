use Rattle.xs_assembler.proofs.Shapes.{found_is_known}
use Rattle.xs_assembler.proofs.operands.find_row.Goals as goal

pub returns-in-Some-clause-known : goal.returns-in-Some-clause-known
returns-in-Some-clause-known c = found_is_known c.args.name.now _ c.find.result c.find.ensures.value
