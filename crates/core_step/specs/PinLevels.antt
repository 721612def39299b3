-- The levels of all pins at the end of a slot, by what a core keeps of them.
use Rattle.std.specs.Prelude.{true, if◌then◌else◌, List}
use Rattle.xs_base.specs.Numbers.{Word}
use Rattle.xs_model.specs.declared.outside.PinView.{PinView}
use Rattle.xs_model.specs.Record.{PortRec}
use Rattle.xs_model.specs.Ports.{levels_of}
use Rattle.core_step.specs.declared.pin_levels.PinLevels.{PinLevels}

-- the levels themselves; or those that the ports drive, and else those from outside
abbrev pub levels_kept : List PortRec → PinLevels → List Word
levels_kept ports kept = if kept.is_outside then levels_of ports kept.pins.level else kept.pins.level

abbrev pub from_outside : PinView → PinLevels
from_outside pins = record { pins = pins; is_outside = true }
