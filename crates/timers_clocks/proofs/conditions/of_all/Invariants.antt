use Rattle.std.proofs.Common.{ℕ, ◌≡◌, ◌^◌, ◌<◌, ◌≤◌, false}
use Rattle.xs_model.specs.Masks.{in_mask}
use Rattle.timers_clocks.specs.Timers.{timer_at}
use Rattle.timers_clocks.proofs.conditions.of_all.Given as goal

-- the timers below n are in the mask where they have the condition, and no others
abbrev pub invariant-loop-n : goal.invariant-loop-n
invariant-loop-n l = ((k : ℕ) → k < l.n → in_mask l.mask k ≡ (timer_at l.timers k).after) × ((k : ℕ) → l.n ≤ k → k < 32 → in_mask l.mask k ≡ false) × (l.mask < 2 ^ 32)
