-- The text of a pin script. Each line is tested by the lines before it, and the first that has a fault refuses the text.
use Rattle.std.specs.Prelude.{ℕ, ◌+◌, ◌^◌, Bool, true, false, not, ◌&&◌, ◌==◌, nat_le, nat_lt, if◌then◌else◌, Option, Some, None, option_and_then, List, [], ◌∷◌, ◌++◌, take, drop, find, bytes_eq, codes}
use Rattle.std.specs.List.{list_any, prefix_len}
use Rattle.std.specs.Char.{is_ascii_digit, is_ascii_alphabetic}
use Rattle.xs_base.specs.Ids.{port_width, port_letter}
use Rattle.xs_base.specs.Numbers.{Slot, Word, PortNumber}
use Rattle.xs_text.specs.Bytes.{all_allowed}
use Rattle.xs_text.specs.Numbers.{number_of, at_most}
use Rattle.xs_text.specs.Words.{words_of_line}
use Rattle.pin_scripts.specs.declared.line.PinForm.{PinForm}
use Rattle.pin_scripts.specs.declared.line.PinLine.{PinLine}
use Rattle.pin_scripts.specs.declared.line.PinSays.{PinSays}
use Rattle.pin_scripts.specs.declared.line.PinSays.TheVariants.{Blank, NoForm, Form}
use Rattle.pin_scripts.specs.declared.pin_error.PinKind.{PinKind}
use Rattle.pin_scripts.specs.declared.pin_error.PinKind.TheVariants.{BadLine, SlotFalls, NoSuchPort, ValueTooWide, NoSuchNode, PinGivenTwice}
use Rattle.pin_scripts.specs.Script.{NodeNumber, port_numbers}

infixl 10 ◌>>=◌
abbrev pub ◌>>=◌ : {A B : Type 0} → Option A → (A → Option B) → Option B
o >>= f = option_and_then f o

-- The form of a line

-- a number of a line is a word
abbrev pub word_number : List ℕ → Option Word
word_number word = at_most 4294967295 (number_of word)

-- how many bytes of a word stand before its first colon
abbrev pub before_colon : List ℕ → ℕ
before_colon word = prefix_len (λ b. not (b == 58)) word

abbrev pub is_one_letter : List ℕ → Bool
is_one_letter (b ∷ []) = is_ascii_alphabetic b
is_one_letter _ = false

-- digits and one letter, as the names of ports have them
abbrev pub is_port_shape : List ℕ → Bool
is_port_shape name =
    let digits = prefix_len is_ascii_digit name in nat_lt 0 digits && is_one_letter (drop digits name)

-- the width of a port in decimal digits
abbrev pub width_digits : PortNumber → List ℕ
width_digits port =
    if nat_lt port 16 then codes "1"
    else (if nat_lt port 22 then codes "4"
    else (if nat_lt port 26 then codes "8"
    else (if nat_lt port 28 then codes "16"
    else codes "32")))

-- a port's width and its letter
abbrev pub port_name : PortNumber → List ℕ
port_name port = width_digits port ++ (port_letter port ∷ [])

-- the port of a name, where one has it
unfoldable pub port_of : List ℕ → Option PortNumber
port_of name = find (λ port. bytes_eq (port_name port) name) port_numbers

-- the same of a word that has the shape of a name
abbrev pub port_word : List ℕ → Option (Option PortNumber)
port_word word = if is_port_shape word then Some (port_of word) else None

-- `SLOT N:PORT VALUE`
unfoldable pub pin_form : List (List ℕ) → Option PinForm
pin_form (s ∷ pin ∷ v ∷ []) =
    word_number s >>= λ slot. word_number (take (before_colon pin) pin) >>= λ node.
    port_word (drop (before_colon pin + 1) pin) >>= λ port. word_number v >>= λ value.
    Some (record { slot = slot; node = node; port = port; value = value })
pin_form _ = None

-- What a line says

abbrev pub says_form : Option PinForm → PinSays
says_form None = NoForm
says_form (Some form) = Form form

abbrev pub says_words : List (List ℕ) → PinSays
says_words [] = Blank
says_words (w ∷ ws) = says_form (pin_form (w ∷ ws))

-- The tests of a line, by the node numbers of the system and the script lines before it

abbrev pub has_no_form : PinSays → Bool
has_no_form NoForm = true
has_no_form _ = false

abbrev pub names_no_node : List NodeNumber → PinSays → Bool
names_no_node numbers (Form form) = not (list_any (λ n. n == form.node) numbers)
names_no_node numbers _ = false

abbrev pub is_no_port : Option PortNumber → Bool
is_no_port None = true
is_no_port (Some port) = false

abbrev pub names_no_port : PinSays → Bool
names_no_port (Form form) = is_no_port form.port
names_no_port _ = false

abbrev pub is_wider : Option PortNumber → Word → Bool
is_wider None value = false
is_wider (Some port) value = nat_le (2 ^ port_width port) value

abbrev pub has_wide_value : PinSays → Bool
has_wide_value (Form form) = is_wider form.port form.value
has_wide_value _ = false

-- the slot of the last of some lines, where it was this before them
abbrev pub slot_after : Slot → List PinLine → Slot
slot_after slot [] = slot
slot_after slot (line ∷ lines) = slot_after line.slot lines

abbrev pub falls : List PinLine → PinSays → Bool
falls before (Form form) = nat_lt form.slot (slot_after 0 before)
falls before _ = false

abbrev pub has_pin : List PinLine → Slot → NodeNumber → Option PortNumber → Bool
has_pin before slot node None = false
has_pin before slot node (Some port) =
    list_any (λ (line : PinLine). (line.slot == slot) && ((line.node == node) && (line.port == port))) before

abbrev pub gives_pin_twice : List PinLine → PinSays → Bool
gives_pin_twice before (Form form) = has_pin before form.slot form.node form.port
gives_pin_twice before _ = false

-- the test of each kind, by whether a line's bytes are allowed, in its comment too, and what it says
abbrev pub has_pin_kind : PinKind → List NodeNumber → List PinLine → Bool → PinSays → Bool
has_pin_kind BadLine numbers before allowed said = if allowed then has_no_form said else true
has_pin_kind NoSuchNode numbers before allowed said = names_no_node numbers said
has_pin_kind NoSuchPort numbers before allowed said = names_no_port said
has_pin_kind ValueTooWide numbers before allowed said = has_wide_value said
has_pin_kind SlotFalls numbers before allowed said = falls before said
has_pin_kind PinGivenTwice numbers before allowed said = gives_pin_twice before said

-- the order that decides within a line
abbrev pub pin_order : List PinKind
pin_order = BadLine ∷ NoSuchNode ∷ NoSuchPort ∷ ValueTooWide ∷ SlotFalls ∷ PinGivenTwice ∷ []

abbrev pub fault_of_said : List NodeNumber → List PinLine → Bool → PinSays → Option PinKind
fault_of_said numbers before allowed said = find (λ kind. has_pin_kind kind numbers before allowed said) pin_order

-- the fault of a line, if it has one
abbrev pub fault_of : List NodeNumber → List PinLine → List ℕ → Option PinKind
fault_of numbers before l = fault_of_said numbers before (all_allowed l) (says_words (words_of_line l))

-- What a line without a fault gives

abbrev pub line_of : Slot → NodeNumber → Option PortNumber → Word → List PinLine
line_of slot node None value = []
line_of slot node (Some port) value = record { slot = slot; node = node; port = port; value = value } ∷ []

abbrev pub given_by_said : PinSays → List PinLine
given_by_said (Form form) = line_of form.slot form.node form.port form.value
given_by_said _ = []

abbrev pub given_by : List ℕ → List PinLine
given_by l = given_by_said (says_words (words_of_line l))

-- The whole text

-- a script, or the line that refuses the text, counted from 1, and why
pub data PinsRead : Type 0 where
  Script : (script : List PinLine) → PinsRead
  Fault : (line : ℕ) (kind : PinKind) → PinsRead

-- line n and those after it, by its fault
abbrev pub unless_faulty : Option PinKind → ℕ → PinsRead → PinsRead
unless_faulty None n rest = rest
unless_faulty (Some kind) n rest = Fault n kind

-- the lines from line n on, after the script lines before them
unfoldable pub pins_from : List NodeNumber → ℕ → List PinLine → List (List ℕ) → PinsRead
pins_from numbers n before [] = Script before
pins_from numbers n before (l ∷ ls) = unless_faulty (fault_of numbers before l) n (pins_from numbers (n + 1) (before ++ given_by l) ls)

-- a pin script by the numbers of the system's nodes and the lines of its text
unfoldable pub pins_of : List NodeNumber → List (List ℕ) → PinsRead
pins_of numbers ls = pins_from numbers 1 [] ls
