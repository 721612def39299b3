use Rattle.std.proofs.Common.{ℕ, ◌≡◌, ◌<◌, ◌≤◌}
use Rattle.xs_base.specs.Numbers.{Slot}
use Rattle.xs_model.specs.Time.{timer_holds}
use Rattle.timers_clocks.specs.Timers.{timer_at}
use Rattle.timers_clocks.specs.Alike.{SomeTurnsAfter}
use Rattle.timers_clocks.proofs.conditions.alike_until.Given as goal

-- up to that slot the conditions of the timers below n hold alike, and after it that of one does not
abbrev pub invariant-loop-n : goal.invariant-loop-n
invariant-loop-n l = record {
  same : (k : ℕ) → k < l.n → (later : Slot) → l.slot ≤ later → later ≤ l.until → timer_holds later (timer_at l.timers k) ≡ timer_holds l.slot (timer_at l.timers k);
  now : l.slot ≤ l.until;
  last : SomeTurnsAfter l.timers l.slot l.until;
}
