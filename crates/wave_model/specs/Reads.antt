-- A wave text is read line by line. The first line with which no wave text goes on refuses it.
use Rattle.std.specs.Prelude.{ℕ, ◌+◌, ◌-◌, ◌*◌, ◌/◌, ◌%◌, ◌^◌, Bool, true, false, ◌&&◌, ◌==◌, nat_le, nat_lt, if◌then◌else◌, Option, Some, None}
use Rattle.std.specs.Prelude.{List, [], ◌∷◌, ◌++◌, length, take, drop, find, bytes_eq, codes}
use Rattle.std.specs.List.{list_any}
use Rattle.xs_base.specs.Ids.{port_width}
use Rattle.xs_base.specs.Numbers.{Slot, Word, PortNumber}
use Rattle.xs_text.specs.Lines.{lines_of}
use Rattle.xs_text.specs.Numbers.{at_most, value_in}
use Rattle.xs_text.specs.Tokens.{is_binary_digit}
use Rattle.word_numbers.specs.Decimal.{has_leading_zero, plain_decimal_up_to}
use Rattle.pin_scripts.specs.Script.{NodeNumber}
use Rattle.pin_scripts.specs.Pins.{◌>>=◌}
use Rattle.sys_plan.specs.Plan.{numbers_from}
use Rattle.wave_model.specs.Lines.{PinNumber, first_line, scope_line, var_line, end_of_scope, end_of_definitions, slot_line}
use Rattle.wave_model.specs.declared.wave_kind.WaveKind.{WaveKind}
use Rattle.wave_model.specs.declared.wave_kind.WaveKind.TheVariants.{NoSuchNode}
use Rattle.wave_model.specs.declared.wave_kind.WaveKind.TheVariants as kind
use Rattle.wave_model.specs.Waves.{WaveRec, script_text}

-- the greatest slot of a wave, and how many nodes it may have
abbrev pub most_wave_slots : ℕ
most_wave_slots = 1000000

abbrev pub most_nodes : ℕ
most_nodes = 16

-- ---- What has been read, and what may come next

pub data Reading : Type 0 where
  -- the first line
  Begin : Reading
  -- the pins of these nodes are declared: the scope of one node more may come, or the end of the definitions
  Nodes : (numbers : List NodeNumber) → Reading
  -- within the scope of the last of these: the pin of this port is declared next, and after the last port the scope ends
  Ports : (numbers : List NodeNumber) (port : PortNumber) → Reading
  -- all is declared, for these nodes: the line of slot 0
  Declared : (numbers : List NodeNumber) → Reading
  -- under the line of the wave's last slot, where pins from this number on may still change
  Changes : (wave : WaveRec) (next : PinNumber) → Reading

abbrev pub when : Bool → Reading → Option Reading
when true reading = Some reading
when false reading = None

-- ---- Nodes

-- the least number that a further node may have
abbrev pub least_number : List NodeNumber → NodeNumber
least_number [] = 0
least_number (number ∷ []) = number + 1
least_number (number ∷ numbers) = least_number numbers

-- the numbers that a further node may have: greater ones up to 99, unless there are as many nodes as there may be
abbrev pub further_numbers : List NodeNumber → List NodeNumber
further_numbers numbers =
    if length numbers == most_nodes then [] else numbers_from (least_number numbers) (100 - least_number numbers)

-- the node whose scope a line begins, if it may come after these
abbrev pub scope_in : List NodeNumber → List ℕ → Option NodeNumber
scope_in numbers line = find (λ number. bytes_eq (scope_line number) line) (further_numbers numbers)

abbrev pub after_scope : List NodeNumber → Option NodeNumber → Option Reading
after_scope numbers None = None
after_scope numbers (Some number) = Some (Ports (numbers ++ number ∷ []) 0)

-- ---- Slots

-- `#SLOT`
abbrev pub slot_in : List ℕ → Option Slot
slot_in (b ∷ digits) = if b == 35 then plain_decimal_up_to most_wave_slots digits else None
slot_in [] = None

abbrev pub count_of_pins : WaveRec → ℕ
count_of_pins wave = 29 * length wave.nodes

-- whether a later slot may follow: in slot 0 all pins have come, and in another one at least one
abbrev pub is_full : WaveRec → PinNumber → Bool
is_full wave next = if wave.last == 0 then next == count_of_pins wave else nat_lt 0 next

abbrev pub after_slot : WaveRec → PinNumber → Slot → Option Reading
after_slot wave next slot = when (nat_lt wave.last slot && is_full wave next) (Changes (record wave { last = slot }) 0)

-- ---- Changes

-- the pin that has this code, however many there are
abbrev pub pin_of_code : List ℕ → Option PinNumber
pin_of_code (high ∷ low ∷ []) =
    if nat_le 33 high && (nat_le 33 low && nat_lt low 123) then Some (90 * (high - 33) + (low - 33)) else None
pin_of_code _ = None

-- a value of so many bits in binary, without leading zeros
abbrev pub binary_in : ℕ → List ℕ → Option Word
binary_in width digits = if has_leading_zero digits then None else at_most (2 ^ width - 1) (value_in 2 is_binary_digit digits)

-- `b`, the value and a blank
abbrev pub vector_in : ℕ → List ℕ → Option Word
vector_in width (b ∷ rest) =
    if (b == 98) && bytes_eq (drop (length rest - 1) rest) (codes " ") then binary_in width (take (length rest - 1) rest) else None
vector_in width [] = None

-- what stands before the code
abbrev pub value_in_text : ℕ → List ℕ → Option Word
value_in_text width text = if width == 1 then binary_in 1 text else vector_in width text

-- whether a pin may change: all pins in slot 0 in their order, in a later slot a greater one than before, and none in the last slot that
-- there may be
abbrev pub may_change : WaveRec → PinNumber → PinNumber → Bool
may_change wave next pin =
    nat_lt pin (count_of_pins wave) && (nat_lt wave.last most_wave_slots && (if wave.last == 0 then pin == next else nat_le next pin))

abbrev pub changed : WaveRec → PinNumber → Word → WaveRec
changed wave pin value =
    record wave { changes = wave.changes ++ record { slot = wave.last; node = pin / 29; port = pin % 29; value = value } ∷ [] }

abbrev pub after_change : WaveRec → PinNumber → List ℕ → Option Reading
after_change wave next line =
    pin_of_code (drop (length line - 2) line) >>= λ pin. value_in_text (port_width (pin % 29)) (take (length line - 2) line) >>= λ value.
    when (may_change wave next pin) (Changes (changed wave pin value) (pin + 1))

abbrev pub after_slot_or_change : WaveRec → PinNumber → List ℕ → Option Slot → Option Reading
after_slot_or_change wave next line None = after_change wave next line
after_slot_or_change wave next line (Some slot) = after_slot wave next slot

-- ---- Any line

-- what has been read with one line more, unless no wave text goes on with it
unfoldable pub after_line : Reading → List ℕ → Option Reading
after_line Begin line = when (bytes_eq first_line line) (Nodes [])
after_line (Nodes numbers) line = if bytes_eq end_of_definitions line then Some (Declared numbers) else after_scope numbers (scope_in numbers line)
after_line (Ports numbers port) line =
    if port == 29 then when (bytes_eq end_of_scope line) (Nodes numbers)
    else when (bytes_eq (var_line (length numbers - 1) port) line) (Ports numbers (port + 1))
after_line (Declared numbers) line = when (bytes_eq (slot_line 0) line) (Changes (record { nodes = numbers; changes = []; last = 0 }) 0)
after_line (Changes wave next) line = after_slot_or_change wave next line (slot_in line)

-- ---- The whole text

-- a wave, or the line that refuses the text, counted from 1
pub data WaveRead : Type 0 where
  Wave : (wave : WaveRec) → WaveRead
  BadLine : (line : ℕ) → WaveRead

-- the text ends before line n: no pin has changed in its last slot
abbrev pub at_end : ℕ → Reading → WaveRead
at_end n (Changes wave next) = if next == 0 then Wave wave else BadLine n
at_end n _ = BadLine n

-- the line is refused, or the text goes on with what has been read with it
abbrev pub unless_bad : ℕ → Option Reading → (Reading → WaveRead) → WaveRead
unless_bad n None goes_on = BadLine n
unless_bad n (Some reading) goes_on = goes_on reading

-- line n and those after it
unfoldable pub wave_from : ℕ → Reading → List (List ℕ) → WaveRead
wave_from n reading [] = at_end n reading
wave_from n reading (line ∷ lines) = unless_bad n (after_line reading line) (λ after. wave_from (n + 1) after lines)

-- the wave of a text
abbrev pub wave_of : List ℕ → WaveRead
wave_of text = wave_from 1 Begin (lines_of text)

-- ---- The script that a wave text gives a node

-- whether a wave has a node
abbrev pub has_node : WaveRec → NodeNumber → Bool
has_node wave node = list_any (λ number. number == node) wave.nodes

-- a script, or the line that refuses the wave text, 0 where there is no such node, and why
pub data NodePins : Type 0 where
  Pins : (text : List ℕ) → NodePins
  Refused : (line : ℕ) (kind : WaveKind) → NodePins

abbrev pub pins_in : NodeNumber → WaveRead → NodePins
pins_in node (Wave wave) = if has_node wave node then Pins (script_text wave node) else Refused 0 NoSuchNode
pins_in node (BadLine line) = Refused line kind.BadLine

abbrev pub pins_of : List ℕ → NodeNumber → NodePins
pins_of text node = pins_in node (wave_of text)
