-- Time: timers, the reference clock and clock blocks, by the slot alone.
use Rattle.std.specs.Prelude.{ℕ, ◌+◌, ◌*◌, ◌-◌, ◌/◌, ◌%◌, ◌^◌, Bool, true, false, ◌&&◌, ◌||◌, not, ◌==◌, nat_le, nat_lt, if◌then◌else◌, Option, Some, None, List, slice_index_or}
use Rattle.xs_base.specs.Numbers.{Slot, Word}
use Rattle.xs_model.specs.declared.clock.Clock.{Clock}
use Rattle.xs_model.specs.declared.clock.Clock.TheVariants.{Reference, Block}
use Rattle.xs_model.specs.declared.clock.Edge.{Edge}
use Rattle.xs_model.specs.declared.clock.Edge.TheVariants as edge
use Rattle.xs_model.specs.Record.{TimerRec, ClockRec, unused_timer, off_clock}

-- ---- Timers. One that is not in use refuses what programs do with it.

-- what timers show: a step every four slots
abbrev pub time_at : Slot → Word
time_at slot = slot / 4 % 2 ^ 32

-- whether a time is after x, by less than half of all times
abbrev pub is_after : Word → Word → Bool
is_after x time = let passed = (time + (2 ^ 32 - x)) % 2 ^ 32 in nat_lt 0 passed && nat_lt passed (2 ^ 31)

-- whether a timer's condition holds, which without one it always does
abbrev pub timer_holds : Slot → TimerRec → Bool
timer_holds slot timer = not timer.after || is_after timer.value (time_at slot)

-- a timer that is put in use: what was set of it stays
abbrev pub got_timer : TimerRec → TimerRec
got_timer timer = record timer { used = true }

abbrev pub freed_timer : TimerRec → Option TimerRec
freed_timer timer = if timer.used then Some unused_timer else None

-- it takes a value for its condition
abbrev pub with_value : Word → TimerRec → Option TimerRec
with_value x timer = if timer.used then Some (record timer { value = x }) else None

-- it has the condition, or has none
abbrev pub with_after : Bool → TimerRec → Option TimerRec
with_after is_on timer = if timer.used then Some (record timer { after = is_on }) else None

-- ---- Clocks

-- a clock with this period rises at its multiples, and falls half a period later
abbrev pub edge_in_period : ℕ → Slot → Edge
edge_in_period period slot =
    if slot % period == 0 then edge.Rise
    else (if slot % period == period / 2 then edge.Fall
    else edge.None)

-- the reference clock
abbrev pub reference_period : ℕ
reference_period = 4

-- a clock block divides the slots by 8 times its divider; with divider 0 it is as the reference
abbrev pub period : ℕ → ℕ
period divider = if divider == 0 then reference_period else 8 * divider

-- a clock block has edges while it runs
abbrev pub block_edge : ClockRec → Slot → Edge
block_edge clock slot = if clock.running then edge_in_period (period clock.divider) slot else edge.None

abbrev pub edge_at : List ClockRec → Clock → Slot → Edge
edge_at clocks Reference slot = edge_in_period reference_period slot
edge_at clocks (Block k) slot = block_edge (slice_index_or clocks k off_clock) slot

-- ---- Clock blocks. One that is off refuses all but to be turned on.

-- a clock block that was just turned on, whatever it was before
abbrev pub on_clock : ClockRec
on_clock = record off_clock { on = true }

abbrev pub turned_off : ClockRec → Option ClockRec
turned_off clock = if clock.on then Some off_clock else None

-- it takes a divider of at most 255, while it does not run
abbrev pub divided_by : ℕ → ClockRec → Option ClockRec
divided_by divider clock =
    if clock.on && not clock.running && nat_le divider 255 then Some (record clock { divider = divider }) else None

abbrev pub started : ClockRec → Option ClockRec
started clock = if clock.on then Some (record clock { running = true }) else None

abbrev pub stopped : ClockRec → Option ClockRec
stopped clock = if clock.on then Some (record clock { running = false }) else None
