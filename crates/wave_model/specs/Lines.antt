-- The lines of a wave text, a value change dump in which one slot is one unit of time.
use Rattle.std.specs.Prelude.{ℕ, false, ◌+◌, ◌*◌, ◌/◌, ◌%◌, ◌==◌, if◌then◌else◌, List, [], ◌∷◌, ◌++◌, map, codes, decimal}
use Rattle.std.specs.Fmt.{digits}
use Rattle.xs_base.specs.Ids.{port_width}
use Rattle.xs_base.specs.Numbers.{Slot, Word, Position, PortNumber}
use Rattle.pin_scripts.specs.Script.{NodeNumber, port_numbers}
use Rattle.trace_model.specs.EventLines.{port_name}
use Rattle.wave_model.specs.declared.change.WaveChange.{WaveChange}

-- ---- Pins

-- the number of a pin among those of all nodes: the 29 pins of the first node by port, then those of the second
abbrev pub PinNumber : Type 0
PinNumber = ℕ

abbrev pub pin_number : Position → PortNumber → PinNumber
pin_number node port = 29 * node + port

-- what a text names a pin by: two characters, each one of the 90 from `!` on
abbrev pub code_of : PinNumber → List ℕ
code_of pin = (33 + pin / 90) ∷ (33 + pin % 90) ∷ []

-- ---- What is declared

abbrev pub first_line : List ℕ
first_line = codes "$timescale 1 ns $end"

-- `$scope module nN $end`
abbrev pub scope_line : NodeNumber → List ℕ
scope_line number = codes "$scope module n" ++ (decimal number ++ codes " $end")

-- `$var wire WIDTH CODE NAME $end`, for the pin of a port of the node at a position
abbrev pub var_line : Position → PortNumber → List ℕ
var_line node port =
    codes "$var wire "
    ++ (decimal (port_width port) ++ (codes " " ++ (code_of (pin_number node port) ++ (codes " " ++ (port_name port ++ codes " $end")))))

abbrev pub end_of_scope : List ℕ
end_of_scope = codes "$upscope $end"

abbrev pub end_of_definitions : List ℕ
end_of_definitions = codes "$enddefinitions $end"

-- the pins of a node with this number at a position, by port
abbrev pub node_lines : Position → NodeNumber → List (List ℕ)
node_lines node number = scope_line number ∷ (map (var_line node) port_numbers ++ end_of_scope ∷ [])

-- those of nodes with these numbers, the first of which stands at a position
abbrev pub nodes_lines : Position → List NodeNumber → List (List ℕ)
nodes_lines node [] = []
nodes_lines node (number ∷ numbers) = node_lines node number ++ nodes_lines (node + 1) numbers

-- ---- What changes

-- `#SLOT`
abbrev pub slot_line : Slot → List ℕ
slot_line slot = 35 ∷ decimal slot

-- a value in binary, without leading zeros
abbrev pub binary : Word → List ℕ
binary value = digits 2 false value

-- what stands before the code, of a value of so many bits: of one bit `0` or `1`, of more bits `b`, the value in binary and a blank
abbrev pub value_text : ℕ → Word → List ℕ
value_text width value = if width == 1 then binary value else codes "b" ++ (binary value ++ codes " ")

abbrev pub change_line : WaveChange → List ℕ
change_line change = value_text (port_width change.port) change.value ++ code_of (pin_number change.node change.port)
