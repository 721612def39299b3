-- How a line finds its row, and what a row makes of the line's values.
use Rattle.std.specs.Prelude.{ℕ, Bool, true, false, ◌^◌, ◌&&◌, ◌==◌, nat_lt, if◌then◌else◌, Option, Some, None, List, [], ◌∷◌, get_or}
use Rattle.std.specs.List.{list_any}
use Rattle.xs_instructions.specs.declared.instr.Instr.{Instr}
use Rattle.xs_instructions.specs.declared.rows.Part.{Part}
use Rattle.xs_instructions.specs.declared.rows.Part.TheVariants.{Common, AnyRegister, Register, Small, Width, Short, Exactly, Label, Word}
use Rattle.xs_instructions.specs.declared.rows.Row.{Row}
use Rattle.xs_instructions.specs.declared.rows.TheConstants.{ROWS}
use Rattle.xs_instructions.specs.declared.shape.Shape.{Shape}
use Rattle.xs_instructions.specs.declared.shape.Shape.TheVariants as shape
use Rattle.xs_instructions.specs.Words.{same_name}
use Rattle.xs_instructions.specs.Rows.{name_of, parts_of}
use Rattle.xs_instructions.specs.Operands.{made}
use Rattle.xs_instructions.specs.Instr.{is_width, takes_value, value_parts}

-- whether what is written may stand at a part
abbrev pub shape_fits : Part → Shape → Bool
shape_fits Common (shape.Reg n) = nat_lt n 12
shape_fits AnyRegister (shape.Reg n) = nat_lt n 16
shape_fits (Register r) (shape.Reg n) = r == n
shape_fits Small shape.Num = true
shape_fits Width shape.Num = true
shape_fits Short shape.Num = true
shape_fits (Exactly k) shape.Num = true
shape_fits Label shape.Label = true
shape_fits (Word k) (shape.Word n) = k == n
shape_fits _ _ = false

-- whether the shapes of a line's operands have the form
abbrev pub have_form : List Part → List Shape → Bool
have_form [] [] = true
have_form [] (s ∷ shapes) = false
have_form (p ∷ parts) [] = false
have_form (p ∷ parts) (s ∷ shapes) = shape_fits p s && have_form parts shapes

abbrev pub is_of_row : Row → List ℕ → List Shape → Bool
is_of_row r name shapes = same_name (name_of r) name && have_form (parts_of r) shapes

-- the first of the rows with this name and these shapes
abbrev pub first_row : List Row → List ℕ → List Shape → Option Row
first_row [] name shapes = None
first_row (r ∷ rows) name shapes = if is_of_row r name shapes then Some r else first_row rows name shapes

-- the row of a line, by its name and the shapes of its operands
unfoldable pub find : List ℕ → List Shape → Option Row
find name shapes = first_row ROWS name shapes

-- whether some row has the name
unfoldable pub known : List ℕ → Bool
known name = list_any (λ r. same_name (name_of r) name) ROWS

-- whether a value is in the range of its part
abbrev pub is_in_range : Part → ℕ → Bool
is_in_range Common v = nat_lt v 12
is_in_range AnyRegister v = nat_lt v 16
is_in_range (Register n) v = false
is_in_range Small v = nat_lt v 12
is_in_range Width v = is_width v
is_in_range Short v = nat_lt v (2 ^ 16)
is_in_range (Exactly n) v = v == n
is_in_range Label v = nat_lt v (2 ^ 16)
is_in_range (Word n) v = false

-- whether there is one value for each part, and all are in range
abbrev pub are_in_range : List Part → List ℕ → Bool
are_in_range [] [] = true
are_in_range [] (v ∷ values) = false
are_in_range (p ∷ parts) [] = false
are_in_range (p ∷ parts) (v ∷ values) = is_in_range p v && are_in_range parts values

-- the instruction of a row with these values, or none where one of them is out of range
abbrev pub build : Row → List ℕ → Option Instr
build r values = if are_in_range (value_parts r) values then Some (made r values) else None

-- whether a value is written at the place with this number in a row's form, from 0
abbrev pub takes_value_at : Row → ℕ → Bool
takes_value_at r k = takes_value (get_or (parts_of r) k (Word 0))

-- of what stands at the parts, what stands where a value is written
abbrev pub values_among : {A : Type 0} → List Part → List A → List A
values_among [] xs = []
values_among (p ∷ parts) [] = []
values_among (p ∷ parts) (x ∷ xs) = if takes_value p then x ∷ values_among parts xs else values_among parts xs
