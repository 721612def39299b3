-- What the second pass finds out about a line.
use Rattle.std.specs.Prelude.{◌≡◌, false}
use Rattle.std.specs.List.{list_any}
use Rattle.xs_instructions.specs.Image.{is_reserved}
use Rattle.source_model.specs.Statement.{Line}
use Rattle.source_model.specs.Layout.{Sofar, after_line}
use Rattle.source_model.specs.Source.{has_label_twice, is_out_of_range, names_missing}
use Rattle.xs_assembler.specs.declared.faults.Findings.{Findings}
use Rattle.xs_assembler.specs.Statements.{statement_of}

-- The findings are those of the line after the lines before it.
pub record AreFindings (whole before : Sofar) (line : Line) (found : Findings) : Type 0 where
  pub good_bytes : line.bad_byte ≡ false
  pub section : found.section ≡ before.layout.section
  pub label_twice : found.label_twice ≡ has_label_twice whole before line
  pub label_reserved : found.label_reserved ≡ list_any is_reserved line.labels
  pub statement : statement_of found.statement ≡ line.statement
  pub out_of_range : found.out_of_range ≡ is_out_of_range whole line.statement.says
  pub label_missing : found.out_of_range ≡ false → found.label_missing ≡ names_missing whole line.statement.says
  pub after : found.after ≡ (after_line before line).layout
