-- How a switch lies in memory.
use Rattle.switch_routes.specs.Switch.{SwitchRec}
use Rattle.switch_routes.specs.declared.switch.Switch.TheInside.{Inside}

abbrev pub switch_of : Inside → SwitchRec
switch_of switch = record { id = switch.ways.id; ways = switch.ways.ends; nets = switch.ways.nets; inputs = switch.inputs }
