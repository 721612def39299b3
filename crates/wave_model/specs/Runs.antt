-- The wave of a run: of every pin, the level that it shows at the end of each slot.
use Rattle.std.specs.Prelude.{ℕ, zero, suc, ◌+◌, not, ◌||◌, ◌==◌, if◌then◌else◌, List, [], ◌∷◌, ◌++◌, slice_index_or}
use Rattle.xs_base.specs.Numbers.{Slot, Word, Position, PortNumber}
use Rattle.xs_model.specs.Record.{NodeRec}
use Rattle.sys_plan.specs.Plan.{PlanRec, node_numbers}
use Rattle.serial_model.specs.Serial.{serial, node_by}
use Rattle.wave_model.specs.declared.change.WaveChange.{WaveChange}
use Rattle.wave_model.specs.Waves.{WaveRec, text_of_wave}

-- the change of a pin in a slot, of its level at the end of the slot before and at the end of this one: in slot 0 every level is told
abbrev pub change_in : Slot → Position → PortNumber → Word → Word → List WaveChange
change_in slot node port before after =
    if (slot == 0) || not (after == before) then record { slot = slot; node = node; port = port; value = after } ∷ [] else []

-- of the pins of a node, from that of a port on, with these levels before and after
abbrev pub port_changes : Slot → Position → PortNumber → List Word → List Word → List WaveChange
port_changes slot node port (before ∷ levels) (after ∷ others) =
    change_in slot node port before after ++ port_changes slot node (port + 1) levels others
port_changes slot node port _ _ = []

-- of all nodes, from a position on
abbrev pub node_changes : Slot → Position → List NodeRec → List NodeRec → List WaveChange
node_changes slot node (before ∷ nodes) (after ∷ others) =
    port_changes slot node 0 before.levels after.levels ++ node_changes slot (node + 1) nodes others
node_changes slot node _ _ = []

-- the changes in a slot of the serial machine
abbrev pub changes_in : PlanRec → Slot → List WaveChange
changes_in plan slot = node_changes slot 0 (serial plan slot).nodes (serial plan (slot + 1)).nodes

-- those of so many slots
unfoldable pub changes_before : PlanRec → Slot → List WaveChange
changes_before plan zero = []
changes_before plan (suc slot) = changes_before plan slot ++ changes_in plan slot

abbrev pub wave_of_run : PlanRec → Slot → WaveRec
wave_of_run plan slots = record { nodes = node_numbers plan; changes = changes_before plan slots; last = slots }

-- the text of the wave of a run of so many slots
abbrev pub wave_text : PlanRec → Slot → List ℕ
wave_text plan slots = text_of_wave (wave_of_run plan slots)

-- the level of a pin of the node at a position after so many slots: at the end of the last of them
abbrev pub level_after : PlanRec → Slot → Position → PortNumber → Word
level_after plan slots node port = slice_index_or (node_by (serial plan slots).nodes node).levels port 0
