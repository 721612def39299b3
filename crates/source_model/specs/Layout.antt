-- What lines say together: which section they end in, how long the sections are, and where labels stand.
use Rattle.std.specs.Prelude.{ℕ, ◌+◌, ◌-◌, ◌*◌, ◌/◌, ◌%◌, Bool, true, false, ◌||◌, is_some, ◌==◌, if◌then◌else◌, Option, Some, None, List, [], ◌∷◌, ◌++◌, length}
use Rattle.xs_instructions.specs.Code.{code_start}
use Rattle.xs_instructions.specs.Image.{same_name, is_reserved, data_start}
use Rattle.source_model.specs.declared.layout.Section.{Section}
use Rattle.source_model.specs.declared.layout.Section.TheVariants.{Text, Data, Constants}
use Rattle.source_model.specs.declared.layout.Home.{Home}
use Rattle.source_model.specs.declared.layout.Home.TheVariants.{Anywhere, InText, InBytes, BeginsData, BeginsConstants}
use Rattle.source_model.specs.declared.layout.Layout.{Layout}
use Rattle.source_model.specs.declared.layout.Place.{Place}
use Rattle.source_model.specs.Values.{width_bytes}
use Rattle.source_model.specs.Statement.{Says, Instruction, Values, Zeros, Align, Statement, Line}

-- a name and where it stands
abbrev pub Label : Type 0
Label = List ℕ × Place

-- where a name stands, by the first label of that name
unfoldable pub place_of : List Label → List ℕ → Option Place
place_of [] name = None
place_of (label ∷ labels) name = if same_name label.0 name then Some label.1 else place_of labels name

-- the layout of some lines, and their labels in the order of definition, each name once
pub record Sofar : Type 0 where
  pub layout : Layout
  pub labels : List Label

-- no lines
abbrev pub nothing_yet : Sofar
nothing_yet = record { layout = record { section = Text; instructions = 0; data_bytes = 0; constant_bytes = 0 }; labels = [] }

-- the length of a section, in instructions or in bytes
abbrev pub section_length : Layout → Section → ℕ
section_length layout Text = layout.instructions
section_length layout Data = layout.data_bytes
section_length layout Constants = layout.constant_bytes

-- where the next instruction or byte comes
abbrev pub here : Layout → Place
here layout = record { section = layout.section; offset = section_length layout layout.section }

-- whether a statement may stand in a section
abbrev pub may_stand : Section → Home → Bool
may_stand section Anywhere = true
may_stand Text InText = true
may_stand Data InBytes = true
may_stand Constants InBytes = true
may_stand Text BeginsData = true
may_stand Text BeginsConstants = true
may_stand Data BeginsConstants = true
may_stand _ _ = false

-- how much is to come before a multiple of the unit
abbrev pub padding : ℕ → ℕ → ℕ
padding long unit = (unit - long % unit) % unit

-- how much a statement adds to a section of some length
abbrev pub added : ℕ → Says → ℕ
added long (Instruction row amounts) = 1
added long (Values width amounts) = width_bytes width * length amounts
added long (Zeros (Some count)) = count
added long (Align (Some unit)) = padding long unit
added long _ = 0

-- the layout with the section that it is in so much longer
abbrev pub longer_in : Section → Layout → ℕ → Layout
longer_in Text layout more = record layout { instructions = layout.instructions + more }
longer_in Data layout more = record layout { data_bytes = layout.data_bytes + more }
longer_in Constants layout more = record layout { constant_bytes = layout.constant_bytes + more }

abbrev pub longer : Layout → ℕ → Layout
longer layout more = longer_in layout.section layout more

-- the section that comes after a statement
abbrev pub section_after : Section → Home → Section
section_after section BeginsData = Data
section_after section BeginsConstants = Constants
section_after section _ = section

-- the layout after a statement: one that may not stand there adds nothing and begins no section
abbrev pub moved : Layout → Statement → Layout
moved layout statement =
    if may_stand layout.section statement.home
    then record (longer layout (added (section_length layout layout.section) statement.says)) { section = section_after layout.section statement.home }
    else layout

-- a label more: a reserved name, and one that is defined, defines nothing
abbrev pub define : Place → List ℕ → List Label → List Label
define place name labels =
    if is_reserved name || is_some (place_of labels name) then labels else labels ++ (name, place) ∷ []

unfoldable pub define_all : Place → List (List ℕ) → List Label → List Label
define_all place [] labels = labels
define_all place (name ∷ names) labels = define_all place names (define place name labels)

-- what lines say with one line more: a bad byte makes a line say nothing
abbrev pub after_line : Sofar → Line → Sofar
after_line sofar line =
    if line.bad_byte then sofar
    else record { layout = moved sofar.layout line.statement; labels = define_all (here sofar.layout) line.labels sofar.labels }

unfoldable pub after_lines : Sofar → List Line → Sofar
after_lines sofar [] = sofar
after_lines sofar (line ∷ lines) = after_lines (after_line sofar line) lines

-- what all lines of a source say
abbrev pub whole_of : List Line → Sofar
whole_of lines = after_lines nothing_yet lines

-- the first multiple of 4 that is not below
abbrev pub round_up_to_word : ℕ → ℕ
round_up_to_word n = (n + 3) / 4 * 4

-- where a section begins: the constants at the first word after the data
abbrev pub section_start : Layout → Section → ℕ
section_start whole Text = code_start
section_start whole Data = data_start
section_start whole Constants = data_start + round_up_to_word whole.data_bytes

-- the address of a place: an instruction takes 4 bytes
abbrev pub offset_bytes : Section → ℕ → ℕ
offset_bytes Text offset = 4 * offset
offset_bytes _ offset = offset

abbrev pub address_in : Layout → Place → ℕ
address_in whole place = section_start whole place.section + offset_bytes place.section place.offset

-- the bytes of both sections together: constants begin at a word
abbrev pub bytes_length : ℕ → ℕ → ℕ
bytes_length bytes constants = if constants == 0 then bytes else round_up_to_word bytes + constants
