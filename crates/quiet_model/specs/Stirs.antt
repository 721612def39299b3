-- The slots in which a node stirs by itself: when nothing arrives, more than its ports' counters and the noted levels of its pins
-- may change.
use Rattle.std.specs.Prelude.{ℕ, Bool, false, ◌&&◌, ◌||◌, not, Option, Some, None, List, [], ◌∷◌}
use Rattle.std.specs.List.{list_any}
use Rattle.xs_base.specs.Numbers.{Slot, ThreadNumber}
use Rattle.xs_model.specs.Record.{CoreRec, NodeRec, ClockRec, PortRec, TransferRec}
use Rattle.xs_model.specs.Time.{edge_at}
use Rattle.xs_model.specs.Ports.{counter_after, is_due}
use Rattle.xs_model.specs.Picks.{eligible}
use Rattle.quiet_model.specs.Clocks.{is_fall}
use Rattle.quiet_model.specs.Still.{still}

abbrev pub thread_numbers : List ThreadNumber
thread_numbers = 0 ∷ 1 ∷ 2 ∷ 3 ∷ 4 ∷ 5 ∷ 6 ∷ 7 ∷ []

-- some thread may issue in a slot
abbrev pub some_eligible : CoreRec → Slot → Bool
some_eligible core slot = list_any (λ k. eligible core k slot) thread_numbers

-- whether a transfer register is full, and its transfer has no time, or its time is this counter
abbrev pub transfer_is_due : ℕ → Option TransferRec → Bool
transfer_is_due counter None = false
transfer_is_due counter (Some t) = is_due counter t.time

-- a port that is on has a falling edge in a slot, and its transfer is due by the counter that this edge gives
abbrev pub port_stirs : List ClockRec → Slot → PortRec → Bool
port_stirs clocks slot port =
    port.on && (is_fall (edge_at clocks port.clock slot) && transfer_is_due (counter_after port.counter) port.transfer)

abbrev pub ports_stir : List ClockRec → Slot → List PortRec → Bool
ports_stir clocks slot ports = list_any (port_stirs clocks slot) ports

-- a node stirs in a slot where it is not still, some thread may issue, or the next transfer of a port begins
abbrev pub stirs : NodeRec → Slot → Bool
stirs rec slot = not (still rec) || (some_eligible rec.core slot || ports_stir rec.core.clocks slot rec.core.ports)
