-- What a statement adds to its section.
use Rattle.std.specs.Prelude.{ℕ, ◌≡◌, Bool, true, false, ◌||◌, Option, Some, None, option_map, List, [], ◌∷◌, ◌++◌, replicate, flat_map}
use Rattle.std.specs.List.{list_any}
use Rattle.xs_instructions.specs.declared.instr.Instr.{Instr}
use Rattle.xs_instructions.specs.declared.instr.Instr.TheVariants.{Words}
use Rattle.xs_instructions.specs.declared.instr.WordIns.TheVariants.{Nop}
use Rattle.source_model.specs.Layout.{Sofar, padding}
use Rattle.source_model.specs.Values.{little_endian}
use Rattle.source_model.specs.Statement.{Says}
use Rattle.source_model.specs.Operands.{Amount}
use Rattle.source_model.specs.Source.{values_in, is_missing, is_out_of_range, names_missing, code_of, bytes_of}
use Rattle.xs_assembler.specs.declared.contents.Content.{Content}
use Rattle.xs_assembler.specs.declared.contents.Resolved.{Resolved}
use Rattle.xs_assembler.specs.declared.contents.Found.{Found}
use Rattle.xs_assembler.specs.declared.contents.Content.TheVariants.{Instruction, Values, Zeros, Padding}

-- the code of a content after so many instructions
abbrev pub code_in : ℕ → Content → List Instr
code_in long (Instruction ins) = ins ∷ []
code_in long (Padding unit) = replicate (padding long unit) (Words Nop)
code_in long _ = []

-- the bytes of a content after so many bytes
abbrev pub bytes_in : ℕ → Content → List ℕ
bytes_in long (Values width values) = flat_map (little_endian width) values.items
bytes_in long (Zeros count) = replicate count 0
bytes_in long (Padding unit) = replicate (padding long unit) 0
bytes_in long _ = []

-- The content is what the statement adds, or a value is out of range.
abbrev pub Resolves : Sofar → Says → Option Resolved → Type 0
Resolves whole says None = is_out_of_range whole says ≡ true
Resolves whole says (Some resolved) =
    (is_out_of_range whole says ≡ false)
    × (resolved.label_missing ≡ names_missing whole says)
    × ((long : ℕ) → code_in long resolved.content ≡ code_of whole long says)
    × ((long : ℕ) → bytes_in long resolved.content ≡ bytes_of whole long says)

-- the values of amounts and whether a name of them is missing, None where one is out of range
abbrev pub found_in : Sofar → List Amount → Option (List ℕ × Bool)
found_in whole amounts = option_map (λ values. (values, list_any (is_missing whole) amounts)) (values_in whole amounts)

abbrev pub found_of : Found → List ℕ × Bool
found_of found = (found.values.items, found.label_missing)

-- what was found of some amounts, with that of more
abbrev pub after_found : Sofar → Found → List Amount → Option (List ℕ × Bool)
after_found whole found amounts =
    option_map (λ values. (found.values.items ++ values, found.label_missing || list_any (is_missing whole) amounts)) (values_in whole amounts)
