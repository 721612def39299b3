-- A wave: the changes of all pins of some nodes up to a slot, its text, and the pin scripts that it gives.
use Rattle.std.specs.Prelude.{ℕ, ◌==◌, if◌then◌else◌, List, [], ◌∷◌, ◌++◌, map, filter, slice_index, codes, decimal}
use Rattle.std.specs.List.{flat_map}
use Rattle.xs_base.specs.Numbers.{Slot, Word, PortNumber}
use Rattle.pin_scripts.specs.declared.line.PinLine.{PinLine}
use Rattle.pin_scripts.specs.Script.{NodeNumber, pin_at}
use Rattle.trace_model.specs.Trace.{pin_text}
use Rattle.wave_model.specs.declared.change.WaveChange.{WaveChange}
use Rattle.wave_model.specs.Lines.{first_line, nodes_lines, end_of_definitions, slot_line, change_line}

-- the numbers of its nodes, by position, its changes in their order, and the slot in which it ends
pub record WaveRec : Type 0 where
  pub nodes : List NodeNumber
  pub changes : List WaveChange
  pub last : Slot

-- ---- Its text

-- `#SLOT` where a change is of another slot than this one, that of the line before
abbrev pub slot_lines : Slot → Slot → List (List ℕ)
slot_lines before slot = if slot == before then [] else slot_line slot ∷ []

-- changes, after those of a slot
abbrev pub change_lines : Slot → List WaveChange → List (List ℕ)
change_lines before [] = []
change_lines before (change ∷ changes) = slot_lines before change.slot ++ (change_line change ∷ change_lines change.slot changes)

-- the changes from slot 0 on, if the wave has a slot
abbrev pub all_change_lines : WaveRec → List (List ℕ)
all_change_lines wave = if wave.last == 0 then [] else slot_line 0 ∷ change_lines 0 wave.changes

abbrev pub wave_lines : WaveRec → List (List ℕ)
wave_lines wave = first_line ∷ (nodes_lines 0 wave.nodes ++ (end_of_definitions ∷ (all_change_lines wave ++ slot_line wave.last ∷ [])))

-- each line ends with a line feed
abbrev pub ended : List ℕ → List ℕ
ended line = line ++ 10 ∷ []

abbrev pub text_of_lines : List (List ℕ) → List ℕ
text_of_lines lines = flat_map ended lines

abbrev pub text_of_wave : WaveRec → List ℕ
text_of_wave wave = text_of_lines (wave_lines wave)

-- ---- As pin scripts

-- a change as a line of a script, where the nodes have these numbers
abbrev pub pin_line : List NodeNumber → WaveChange → PinLine
pin_line numbers change = record { slot = change.slot; node = slice_index numbers change.node; port = change.port; value = change.value }

abbrev pub script_of : WaveRec → List PinLine
script_of wave = map (pin_line wave.nodes) wave.changes

-- the level of a pin at the end of a slot: the value of its last change in that slot or before it
abbrev pub read_back : WaveRec → NodeNumber → PortNumber → Slot → Word
read_back wave node port slot = pin_at (script_of wave) node port slot

-- the changes of one node
abbrev pub node_script : WaveRec → NodeNumber → List PinLine
node_script wave node = filter (λ (line : PinLine). line.node == node) (script_of wave)

-- `SLOT N:PORT VALUE`
abbrev pub script_line : PinLine → List ℕ
script_line line = decimal line.slot ++ (codes " " ++ (pin_text line.node line.port ++ (codes " " ++ decimal line.value)))

abbrev pub script_text : WaveRec → NodeNumber → List ℕ
script_text wave node = text_of_lines (map script_line (node_script wave node))
