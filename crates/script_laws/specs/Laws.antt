-- What a wave gives a node as a pin script.
use Rattle.std.specs.Prelude.{◌≡◌, ◌==◌, true, List}
use Rattle.std.specs.List.{list_any}
use Rattle.xs_base.specs.Numbers.{Slot, PortNumber}
use Rattle.xs_text.specs.Lines.{lines_of}
use Rattle.pin_scripts.specs.Script.{NodeNumber, pin_at}
use Rattle.pin_scripts.specs.Pins.{Script, pins_of}
use Rattle.wave_model.specs.Waves.{WaveRec, read_back, node_script, script_text}
use Rattle.wave_model.specs.Form.{IsWave}

-- by a system whose nodes have these numbers
abbrev pub ScriptsAreTaken : Type 0
ScriptsAreTaken =
    (wave : WaveRec) (node : NodeNumber) (numbers : List NodeNumber) → IsWave wave → list_any (λ n. n == node) numbers ≡ true
    → pins_of numbers (lines_of (script_text wave node)) ≡ Script (node_script wave node)

abbrev pub ScriptsGiveLevels : Type 0
ScriptsGiveLevels =
    (wave : WaveRec) (node : NodeNumber) (port : PortNumber) (slot : Slot) → pin_at (node_script wave node) node port slot ≡ read_back wave node port slot
