-- The canonical text of an image: one line for each label, instruction, section and byte.
use Rattle.std.specs.Prelude.{ℕ, ◌+◌, ◌-◌, ◌==◌, nat_lt, if◌then◌else◌, Option, Some, None, List, [], ◌∷◌, ◌++◌, length, take, drop, map, filter, get_or, codes, decimal}
use Rattle.std.specs.List.{flat_map}
use Rattle.xs_instructions.specs.declared.instr.Instr.{Instr}
use Rattle.xs_instructions.specs.Words.{same_name, register_names}
use Rattle.xs_instructions.specs.Spelling.{Spelled, Text, Reg, Num, Place, spelling}
use Rattle.xs_instructions.specs.Code.{code_start, place_address}
use Rattle.xs_instructions.specs.Image.{ImageRec, Symbol, data_start}

-- what a line of the canonical text holds
pub data Item : Type 0 where
  Label : (name : List ℕ) → Item
  Instruction : (ins : Instr) → Item
  DataSection : Item
  ConstantSection : Item
  Byte : (value : ℕ) → Item

-- a label for each symbol
abbrev pub labels_of : List Symbol → List Item
labels_of symbols = map (λ (s : Symbol). Label s.0) symbols

-- the labels of an address, in the order of their definition
abbrev pub labels_at : List Symbol → ℕ → List Item
labels_at symbols at = labels_of (filter (λ (s : Symbol). s.1 == at) symbols)

-- each element behind the labels of its address: the first stands at `at`, and each has so many bytes
unfoldable pub behind_labels : {A : Type 0} → (A → Item) → List Symbol → ℕ → ℕ → List A → List Item
behind_labels item symbols size at [] = []
behind_labels item symbols size at (x ∷ xs) = labels_at symbols at ++ (item x ∷ behind_labels item symbols size (at + size) xs)

-- the instructions, and the labels at the code's end
abbrev pub code_items : ImageRec → List Item
code_items image =
    behind_labels Instruction image.symbols 4 code_start image.code
    ++ labels_at image.symbols (place_address (length image.code))

-- how many bytes there is room for below `cp_at`
abbrev pub data_room : ImageRec → ℕ
data_room image = image.cp_at - data_start

-- the labels at an address, if it is below a limit
abbrev pub labels_below : ℕ → List Symbol → ℕ → List Item
labels_below limit symbols at = if nat_lt at limit then labels_at symbols at else []

-- the bytes below `cp_at`, and the labels below it that no byte follows
abbrev pub data_items : ImageRec → List Item
data_items image =
    behind_labels Byte image.symbols 1 data_start (take (data_room image) image.bytes)
    ++ labels_below image.cp_at image.symbols (data_start + length image.bytes)

-- the bytes from `cp_at` on, and the labels there that no byte follows
abbrev pub constant_items : ImageRec → List Item
constant_items image =
    behind_labels Byte image.symbols 1 image.cp_at (drop (data_room image) image.bytes)
    ++ labels_at image.symbols (image.cp_at + length (drop (data_room image) image.bytes))

-- both section lines are always there
abbrev pub items : ImageRec → List Item
items image = code_items image ++ (DataSection ∷ (data_items image ++ (ConstantSection ∷ constant_items image)))

-- the name of the first symbol with an address
unfoldable pub first_name_at : List Symbol → ℕ → List ℕ
first_name_at [] at = []
first_name_at (s ∷ symbols) at = if s.1 == at then s.0 else first_name_at symbols at

-- a piece of a statement: a blank stands behind a comma, and a place is the first label that leads there
abbrev pub piece_text : List Symbol → Spelled → List ℕ
piece_text symbols (Text bytes) = if same_name (codes ",") bytes then codes ", " else bytes
piece_text symbols (Reg n) = get_or register_names n []
piece_text symbols (Num n) = decimal n
piece_text symbols (Place p) = first_name_at symbols (place_address p)

-- the operands behind a blank, if there are any
abbrev pub operands_text : List Symbol → List Spelled → List ℕ
operands_text symbols [] = []
operands_text symbols (p ∷ pieces) = codes " " ++ flat_map (piece_text symbols) (p ∷ pieces)

-- an instruction as it is spelled: its name, and then its operands
abbrev pub statement_text : List Symbol → List Spelled → List ℕ
statement_text symbols [] = []
statement_text symbols (name ∷ operands) = piece_text symbols name ++ operands_text symbols operands

-- the text of the instruction that stands somewhere, if one does
abbrev pub instruction_text : List Symbol → Option Instr → List ℕ
instruction_text symbols None = []
instruction_text symbols (Some ins) = statement_text symbols (spelling ins)

-- a label stands at the front of its line, and what is in a section behind two blanks
abbrev pub item_line : List Symbol → Item → List ℕ
item_line symbols (Label name) = name ++ codes ":"
item_line symbols (Instruction ins) = codes "  " ++ statement_text symbols (spelling ins)
item_line symbols DataSection = codes ".data"
item_line symbols ConstantSection = codes ".cp"
item_line symbols (Byte value) = codes "  .byte " ++ decimal value

-- each line with its end
abbrev pub lines_text : List Symbol → List Item → List ℕ
lines_text symbols lines = flat_map (λ (item : Item). item_line symbols item ++ codes "\n") lines

abbrev pub canonical : ImageRec → List ℕ
canonical image = lines_text image.symbols (items image)
