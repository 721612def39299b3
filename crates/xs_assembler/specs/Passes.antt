-- What the two passes over a text keep.
use Rattle.std.specs.Prelude.{ℕ, ◌≤◌, List, map}
use Rattle.xs_instructions.specs.Image.{ImageRec}
use Rattle.source_model.specs.declared.layout.Section.TheVariants.{Constants}
use Rattle.source_model.specs.Layout.{Sofar, section_start}
use Rattle.source_model.specs.Source.{bytes_together, symbol_of}
use Rattle.xs_assembler.specs.declared.output.Output.{Output}
use Rattle.xs_text.specs.Lines.{lines_of}
use Rattle.source_model.specs.declared.layout.Layout.{Layout}
use Rattle.source_model.specs.Statement.{Line, line_of}

-- what the lines of a text say, each by itself
abbrev pub source_lines : List ℕ → List Line
source_lines text = map line_of (lines_of text)

-- no section is longer than so much
pub record AreWithin (most : ℕ) (layout : Layout) : Type 0 where
  pub instructions : layout.instructions ≤ most
  pub data_bytes : layout.data_bytes ≤ most
  pub constant_bytes : layout.constant_bytes ≤ most

-- the image of what all lines say and give
abbrev pub image_with : Sofar → Output → ImageRec
image_with whole output = record {
  code = output.code.items;
  bytes = bytes_together output.data_bytes.items output.constant_bytes.items;
  cp_at = section_start whole.layout Constants;
  symbols = map (symbol_of whole.layout) whole.labels;
}
