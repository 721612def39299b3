-- How timers and clock blocks stand in bytes.
use Rattle.std.specs.Prelude.{ℕ, Bool}
use Rattle.timers_clocks.specs.declared.state.TimerState.{TimerState}
use Rattle.timers_clocks.specs.declared.state.ClockState.{ClockState}
use Rattle.byte_forms.specs.Forms.{Form, byte, word, flag, both, seen_as}

-- ---- Timers

abbrev pub timer_of_fields : Bool × (Bool × ℕ) → TimerState
timer_of_fields (used, (after, value)) = record { used = used; after = after; value = value }

abbrev pub timer_fields : TimerState → Bool × (Bool × ℕ)
timer_fields state = (state.used, (state.after, state.value))

-- whether it is in use, whether it has the condition, and its value
unfoldable pub timer : Form TimerState
timer = seen_as (both flag (λ used. both flag (λ after. word))) timer_of_fields timer_fields

-- ---- Clock blocks

abbrev pub clock_of_fields : Bool × (Bool × ℕ) → ClockState
clock_of_fields (on, (running, div)) = record { on = on; running = running; div = div }

abbrev pub clock_fields : ClockState → Bool × (Bool × ℕ)
clock_fields state = (state.on, (state.running, state.div))

-- whether it is on, whether it runs, and its divider
unfoldable pub clock : Form ClockState
clock = seen_as (both flag (λ on. both flag (λ running. byte))) clock_of_fields clock_fields
