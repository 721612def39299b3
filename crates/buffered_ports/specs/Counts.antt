-- Ports that only count for some slots.
use Rattle.std.specs.Prelude.{◌-◌, Bool, List}
use Rattle.xs_base.specs.Numbers.{Slot}
use Rattle.xs_model.specs.Record.{ClockRec, PortRec}
use Rattle.quiet_model.specs.Clocks.{port_counted}
use Rattle.quiet_model.specs.Stirs.{port_stirs}

-- whether the next transfer of a port begins in a slot, where it only counted from an earlier one on
abbrev pub stirs_at : List ClockRec → Slot → PortRec → Slot → Bool
stirs_at clocks from port slot = port_stirs clocks slot (port_counted clocks from (slot - from) port)
