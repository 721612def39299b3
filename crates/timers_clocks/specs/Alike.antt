-- Up to which slot the conditions of timers hold alike.
use Rattle.std.specs.Prelude.{ℕ, ◌≡◌, ◌<◌, ◌+◌, ◌-◌, ◌^◌, Bool, ◌&&◌, not, nat_lt, List}
use Rattle.xs_base.specs.Numbers.{Slot}
use Rattle.xs_base.specs.declared.numbers.TheConstants.{TIMERS}
use Rattle.xs_model.specs.Record.{TimerRec}
use Rattle.xs_model.specs.Time.{timer_holds}
use Rattle.timers_clocks.specs.Timers.{timer_at}

-- whether a time is after a value, when so many times have passed since: less than half of all times
abbrev pub is_past : ℕ → Bool
is_past passed = nat_lt 0 passed && nat_lt passed (2 ^ 31)

-- in the slot after `last`, if there is one, a test turns out otherwise than in a slot
abbrev pub TurnsAfter : (Slot → Bool) → Slot → Slot → Type 0
TurnsAfter test slot last = last < 2 ^ 32 - 1 → test (last + 1) ≡ not (test slot)

-- in the slot after `last`, if there is one, the condition of some timer holds otherwise than in a slot
abbrev pub SomeTurnsAfter : List TimerRec → Slot → Slot → Type 0
SomeTurnsAfter timers slot last =
    last < 2 ^ 32 - 1 → (n : ℕ) × (n < TIMERS) × (timer_holds (last + 1) (timer_at timers n) ≡ not (timer_holds slot (timer_at timers n)))
