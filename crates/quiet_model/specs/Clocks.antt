-- The falling edges of a clock in some slots, and a port that only counts them.
use Rattle.std.specs.Prelude.{ℕ, zero, suc, ◌+◌, ◌-◌, Bool, true, false, nat_le, if◌then◌else◌, List, map}
use Rattle.xs_base.specs.Numbers.{Slot}
use Rattle.xs_model.specs.declared.clock.Clock.{Clock}
use Rattle.xs_model.specs.declared.clock.Edge.{Edge}
use Rattle.xs_model.specs.declared.clock.Edge.TheVariants as edge
use Rattle.xs_model.specs.Record.{ClockRec, PortRec}
use Rattle.xs_model.specs.Time.{edge_at}
use Rattle.xs_model.specs.Ports.{counter_after}

abbrev pub is_fall : Edge → Bool
is_fall edge.Fall = true
is_fall _ = false

-- in how many of so many slots, from this one on, a clock falls
unfoldable pub falls_in : List ClockRec → Clock → Slot → ℕ → ℕ
falls_in clocks clock from zero = 0
falls_in clocks clock from (suc count) =
    falls_in clocks clock from count + (if is_fall (edge_at clocks clock (from + count)) then 1 else 0)

-- whether a slot has the k-th falling edge from this one on, counted from 1, or comes after it
abbrev pub has_fallen : List ClockRec → Clock → Slot → ℕ → Slot → Bool
has_fallen clocks clock from k slot = nat_le k (falls_in clocks clock from (suc (slot - from)))

-- a port's counter after so many falling edges of its clock
unfoldable pub counter_after_falls : ℕ → ℕ → ℕ
counter_after_falls zero counter = counter
counter_after_falls (suc n) counter = counter_after (counter_after_falls n counter)

-- A port after so many slots, from this one on, in which it does nothing but count. One that is off does not count.
abbrev pub port_counted : List ClockRec → Slot → ℕ → PortRec → PortRec
port_counted clocks from count port =
    if port.on then record port { counter = counter_after_falls (falls_in clocks port.clock from count) port.counter } else port

abbrev pub ports_counted : List ClockRec → Slot → ℕ → List PortRec → List PortRec
ports_counted clocks from count ports = map (port_counted clocks from count) ports
