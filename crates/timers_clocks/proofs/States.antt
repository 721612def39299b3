-- What a snapshot keeps of a timer or a clock block tells all of it.
use Rattle.std.proofs.Common.{◌≡◌, refl}
use Rattle.xs_model.specs.Record.{TimerRec, ClockRec}
use Rattle.timers_clocks.specs.declared.state.TimerState.{TimerState}
use Rattle.timers_clocks.specs.declared.state.ClockState.{ClockState}
use Rattle.timers_clocks.specs.States.{timer_state, timer_of, clock_state, clock_of}

pub timer-again : (timer : TimerRec) → timer_of (timer_state timer) ≡ timer
timer-again timer = refl

pub timer_state-again : (state : TimerState) → timer_state (timer_of state) ≡ state
timer_state-again state = refl

pub clock-again : (clock : ClockRec) → clock_of (clock_state clock) ≡ clock
clock-again clock = refl

pub clock_state-again : (state : ClockState) → clock_state (clock_of state) ≡ state
clock_state-again state = refl
