-- The values of an instruction that stand for labels.
use Rattle.std.specs.Prelude.{ℕ, List, [], ◌∷◌}
use Rattle.xs_instructions.specs.declared.rows.Part.{Part}
use Rattle.xs_instructions.specs.declared.rows.Part.TheVariants.{Label}
use Rattle.xs_instructions.specs.Operands.{at}
use Rattle.xs_instructions.specs.Spelling.{values_after}

-- those of the values of a form's parts
abbrev pub label_values : List Part → List ℕ → List ℕ
label_values [] values = []
label_values (Label ∷ parts) values = at values 0 ∷ label_values parts (values_after Label values)
label_values (p ∷ parts) values = label_values parts (values_after p values)
