-- Code and bytes that lines give.
use Rattle.std.specs.Prelude.{ℕ, ◌≡◌, ◌++◌, if◌then◌else◌, List, []}
use Rattle.xs_instructions.specs.declared.instr.Instr.{Instr}
use Rattle.source_model.specs.declared.layout.Section.{Section}
use Rattle.source_model.specs.declared.layout.Section.TheVariants.{Text, Data, Constants}
use Rattle.source_model.specs.Statement.{Line}
use Rattle.source_model.specs.Layout.{Sofar}
use Rattle.source_model.specs.Source.{same_section, code_of_line, bytes_of_line, code_of_lines, bytes_of_lines}
use Rattle.xs_assembler.specs.declared.output.Output.{Output}

-- what a section gets of code, and of bytes
abbrev pub if_in : {A : Type 0} → Section → Section → List A → List A
if_in section here xs = if same_section section here then xs else []

-- The output has code or bytes more, by the section.
pub record Grows (section : Section) (instructions : List Instr) (bytes : List ℕ) (old new : Output) : Type 0 where
  pub code : new.code.items ≡ old.code.items ++ if_in Text section instructions
  pub data_bytes : new.data_bytes.items ≡ old.data_bytes.items ++ if_in Data section bytes
  pub constant_bytes : new.constant_bytes.items ≡ old.constant_bytes.items ++ if_in Constants section bytes

-- The output has what the line adds after the lines before it.
pub record HasLine (whole before : Sofar) (line : Line) (old new : Output) : Type 0 where
  pub code : new.code.items ≡ old.code.items ++ code_of_line whole before line
  pub data_bytes : new.data_bytes.items ≡ old.data_bytes.items ++ bytes_of_line Data whole before line
  pub constant_bytes : new.constant_bytes.items ≡ old.constant_bytes.items ++ bytes_of_line Constants whole before line

-- The output is that of the lines.
pub record HasLines (whole : Sofar) (before : Sofar) (lines : List Line) (output : Output) : Type 0 where
  pub code : output.code.items ≡ code_of_lines whole before lines
  pub data_bytes : output.data_bytes.items ≡ bytes_of_lines Data whole before lines
  pub constant_bytes : output.constant_bytes.items ≡ bytes_of_lines Constants whole before lines
