-- What a snapshot keeps of a timer and of a clock block, and the records that it stands for.
use Rattle.xs_model.specs.Record.{TimerRec, ClockRec}
use Rattle.timers_clocks.specs.declared.state.TimerState.{TimerState}
use Rattle.timers_clocks.specs.declared.state.ClockState.{ClockState}

abbrev pub timer_state : TimerRec → TimerState
timer_state timer = record { used = timer.used; after = timer.after; value = timer.value }

abbrev pub timer_of : TimerState → TimerRec
timer_of state = record { used = state.used; value = state.value; after = state.after }

abbrev pub clock_state : ClockRec → ClockState
clock_state clock = record { on = clock.on; running = clock.running; div = clock.divider }

abbrev pub clock_of : ClockState → ClockRec
clock_of state = record { on = state.on; divider = state.div; running = state.running }
