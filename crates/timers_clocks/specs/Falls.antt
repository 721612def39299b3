-- The falling edges of a clock that has one in every period.
use Rattle.std.specs.Prelude.{ℕ, ◌≡◌, ◌+◌, ◌*◌, ◌/◌, ◌%◌, ◌<◌, ◌≤◌, ◌==◌, false, List}
use Rattle.xs_base.specs.Numbers.{Slot}
use Rattle.xs_model.specs.declared.clock.Clock.{Clock}
use Rattle.xs_model.specs.Record.{ClockRec}
use Rattle.xs_model.specs.Time.{edge_at}
use Rattle.quiet_model.specs.Clocks.{is_fall}

-- a clock falls once in every period of so many slots, and that is in its middle
abbrev pub FallsEvery : ℕ → List ClockRec → Clock → Type 0
FallsEvery period clocks clock = (slot : Slot) → is_fall (edge_at clocks clock slot) ≡ (slot % period == period / 2)

abbrev pub NeverFalls : List ClockRec → Clock → Type 0
NeverFalls clocks clock = (slot : Slot) → is_fall (edge_at clocks clock slot) ≡ false

-- so many falling edges come before a slot: the next one does not, and the last one does
pub record AreBefore (period : ℕ) (slot : Slot) (count : ℕ) : Type 0 where
  pub next : slot ≤ count * period + period / 2
  pub last : count * period + period / 2 < slot + period
