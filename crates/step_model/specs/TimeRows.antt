-- What rows do with timers and clock blocks.
use Rattle.std.specs.Prelude.{ℕ, Bool, not, if◌then◌else◌, Option, Some, None, []}
use Rattle.xs_base.specs.Numbers.{Slot, Word, Register, ThreadNumber, Identifier}
use Rattle.xs_model.specs.declared.thread.Wait.TheVariants as wait
use Rattle.xs_model.specs.declared.traps.TheConstants.{ILLEGAL_RESOURCE}
use Rattle.xs_model.specs.Record.{CoreRec, TimerRec, ClockRec, timer_of, with_timer, with_clock}
use Rattle.xs_model.specs.Time.{time_at, timer_holds}
use Rattle.step_model.specs.Effect.{Effect, Done, Trap, goes_on_with, pauses_at}

-- one of them becomes this, or refuses
abbrev pub timer_becomes : CoreRec → ℕ → Option TimerRec → Option CoreRec
timer_becomes core n None = None
timer_becomes core n (Some timer) = Some (with_timer core n timer)

abbrev pub clock_becomes : CoreRec → ℕ → Option ClockRec → Option CoreRec
clock_becomes core n None = None
clock_becomes core n (Some clock) = Some (with_clock core n clock)

-- the thread takes a word of one that is in use
abbrev pub tells : CoreRec → ThreadNumber → Register → Identifier → Bool → Word → Effect
tells core k d name is_used word = if is_used then Done (goes_on_with core k d word) [] else Trap ILLEGAL_RESOURCE name

-- the thread takes the time, or waits until the timer's condition holds
abbrev pub takes_time : Slot → CoreRec → ThreadNumber → Register → Identifier → ℕ → Effect
takes_time slot core k d name n =
    let timer = timer_of core n in
    if not timer.used then Trap ILLEGAL_RESOURCE name
    else (if timer_holds slot timer then Done (goes_on_with core k d (time_at slot)) []
    else pauses_at core name (wait.Timer n))
