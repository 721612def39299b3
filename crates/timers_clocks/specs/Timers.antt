-- A core's timers and its clock blocks, each by their numbers, and what calls leave of them.
use Rattle.std.specs.Prelude.{ℕ, ◌≡◌, ◌<◌, Option, Some, None, List, replicate, slice_index_or, slice_set}
use Rattle.xs_base.specs.declared.numbers.TheConstants.{CLOCK_BLOCKS}
use Rattle.xs_model.specs.declared.clock.Clock.{Clock}
use Rattle.xs_model.specs.declared.clock.Clock.TheVariants.{Reference, Block}
use Rattle.xs_model.specs.Record.{TimerRec, ClockRec, unused_timer, off_clock}
use Rattle.xs_model.specs.Masks.{in_mask}
use Rattle.xs_model.specs.Time.{got_timer}

-- none is in use
abbrev pub no_timers : List TimerRec
no_timers = replicate 10 unused_timer

abbrev pub no_clocks : List ClockRec
no_clocks = replicate 6 off_clock

abbrev pub timer_at : List TimerRec → ℕ → TimerRec
timer_at timers n = slice_index_or timers n unused_timer

abbrev pub clock_at : List ClockRec → ℕ → ClockRec
clock_at clocks n = slice_index_or clocks n off_clock

-- a mask of 32 bits has those of exactly the timers that have the condition
abbrev pub IsMask : ℕ → List TimerRec → Type 0
IsMask mask timers = (n : ℕ) → n < 32 → in_mask mask n ≡ (timer_at timers n).after

-- one of them after a call that makes it this, or is refused
abbrev pub timer_after : TimerRec → Option TimerRec → TimerRec
timer_after timer None = timer
timer_after timer (Some after) = after

abbrev pub clock_after : ClockRec → Option ClockRec → ClockRec
clock_after clock None = clock
clock_after clock (Some after) = after

-- after the one with this number was got, if there is one
abbrev pub with_got_timer : List TimerRec → Option ℕ → List TimerRec
with_got_timer timers None = timers
with_got_timer timers (Some n) = slice_set timers n (got_timer (timer_at timers n))

-- all of them after a call on the one with number n that makes it this, or is refused
abbrev pub timers_after : List TimerRec → ℕ → Option TimerRec → List TimerRec
timers_after timers n None = timers
timers_after timers n (Some timer) = slice_set timers n timer

abbrev pub clocks_after : List ClockRec → ℕ → Option ClockRec → List ClockRec
clocks_after clocks n None = clocks
clocks_after clocks n (Some clock) = slice_set clocks n clock

-- the reference, or a clock block that a core has
abbrev pub IsClock : Clock → Type 0
IsClock Reference = Unit {0}
IsClock (Block k) = k < CLOCK_BLOCKS
