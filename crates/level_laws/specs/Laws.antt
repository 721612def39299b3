-- What the wave of a run tells.
use Rattle.std.specs.Prelude.{◌≡◌, ◌+◌, ◌<◌, ◌≤◌, length, slice_index, slice_index_or}
use Rattle.xs_base.specs.Numbers.{Slot, Position, PortNumber}
use Rattle.xs_model.specs.Record.{port_of}
use Rattle.xs_model.specs.Ports.{level_of}
use Rattle.sys_plan.specs.Plan.{PlanRec, IsPlan, node_numbers}
use Rattle.serial_model.specs.Serial.{serial, node_by, pins_at}
use Rattle.wave_model.specs.Waves.{read_back}
use Rattle.wave_model.specs.Reads.{Wave, wave_of, most_wave_slots}
use Rattle.wave_model.specs.Form.{IsWave}
use Rattle.wave_model.specs.Runs.{wave_of_run, wave_text, level_after}

abbrev pub RunsAreWaves : Type 0
RunsAreWaves = (plan : PlanRec) (slots : Slot) → IsPlan plan → slots ≤ most_wave_slots → IsWave (wave_of_run plan slots)

abbrev pub WaveTextsAreRead : Type 0
WaveTextsAreRead = (plan : PlanRec) (slots : Slot) → IsPlan plan → slots ≤ most_wave_slots → wave_of (wave_text plan slots) ≡ Wave (wave_of_run plan slots)

-- of the pin of a port of the node at a position, at the end of a slot of the run
abbrev pub WavesTellLevels : Type 0
WavesTellLevels =
    (plan : PlanRec) (slots slot : Slot) (n : Position) (port : PortNumber) → IsPlan plan → n < length plan.nodes → port < 29 → slot < slots
    → read_back (wave_of_run plan slots) (slice_index (node_numbers plan) n) port slot ≡ level_after plan (slot + 1) n port

-- that level is what the port drives after the slot, and else what the pin shows from outside in it
abbrev pub LevelsAreShown : Type 0
LevelsAreShown =
    (plan : PlanRec) (slot : Slot) (n : Position) (port : PortNumber) → IsPlan plan → n < length plan.nodes → port < 29
    → level_after plan (slot + 1) n port
    ≡ level_of (port_of (node_by (serial plan (slot + 1)).nodes n).core port).driven
    (slice_index_or (pins_at plan (serial plan slot).histories n slot).level port 0)
