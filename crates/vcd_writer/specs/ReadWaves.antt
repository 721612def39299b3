-- A wave that is being read.
use Rattle.std.specs.Prelude.{◌<◌, List, [], length}
use Rattle.std.specs.List.{AllByRecursion}
use Rattle.pin_scripts.specs.declared.line.PinLine.{PinLine}
use Rattle.pin_scripts.specs.Script.{NodeNumber}
use Rattle.wave_model.specs.declared.change.WaveChange.{WaveChange}
use Rattle.wave_model.specs.Waves.{WaveRec}

-- these nodes, and no change
abbrev pub empty_wave : List NodeNumber → WaveRec
empty_wave numbers = record { nodes = numbers; changes = []; last = 0 }

-- a change is one of a pin that is there
abbrev pub IsOfPin : List NodeNumber → WaveChange → Type 0
IsOfPin numbers change = (change.node < length numbers) × (change.port < 29)

abbrev pub AreOfPins : List NodeNumber → List WaveChange → Type 0
AreOfPins numbers changes = AllByRecursion (IsOfPin numbers) changes

-- a change as a line of a script, of the node with this number
abbrev pub line_at : NodeNumber → WaveChange → PinLine
line_at number change = record { slot = change.slot; node = number; port = change.port; value = change.value }
