-- What a statement that was read stands for.
use Rattle.xs_text.specs.Tokens.{tokens_of}
use Rattle.source_model.specs.Statement as model
use Rattle.source_model.specs.Statement.{NoEffect, Unknown, Misshapen, Instruction, Zeros, Align, valued}
use Rattle.source_model.specs.Operands.{operands_of, amounts_of}
use Rattle.source_model.specs.Values.{listed_values}
use Rattle.xs_assembler.specs.declared.statement.Says.{Says}
use Rattle.xs_assembler.specs.declared.statement.Says.TheVariants as read
use Rattle.xs_assembler.specs.declared.statement.Statement.{Statement}

abbrev pub says_of : Says → model.Says
says_of read.NoEffect = NoEffect
says_of read.Unknown = Unknown
says_of read.Misshapen = Misshapen
says_of (read.Instruction row text) = Instruction row (amounts_of row (operands_of (tokens_of text.now)))
says_of (read.Values list) = valued list.width (listed_values list.width (tokens_of list.text.now))
says_of (read.Zeros count) = Zeros count
says_of (read.Align unit) = Align unit

abbrev pub statement_of : Statement → model.Statement
statement_of s = record { home = s.home; says = says_of s.says }
