use Rattle.source_laws.proofs.CodeLines.{as_many, comes_from_line}
use Rattle.source_laws.proofs.code_lines.lines_give_their_code.Goals as goal

pub returns-clause-as_many : goal.returns-clause-as_many
returns-clause-as_many c = as_many

pub returns-clause-own : goal.returns-clause-own
returns-clause-own c = comes_from_line
