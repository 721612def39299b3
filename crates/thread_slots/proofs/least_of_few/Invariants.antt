use Rattle.std.proofs.Common.{ℕ, ◌≡◌, ◌<◌, true, not, ◌&&◌}
use Rattle.xs_model.specs.Masks.{in_mask}
use Rattle.thread_slots.specs.Turns.{IsLeast}
use Rattle.thread_slots.proofs.least_of_few.Given as goal

-- the least of the threads that are no longer left, and those that are left are of the mask
abbrev pub invariant-loop-left : goal.invariant-loop-left
invariant-loop-left l = record {
  seen : IsLeast (λ k. in_mask l.able k && not (in_mask l.left k)) l.turns l.least;
  able : (k : ℕ) → k < 8 → in_mask l.left k ≡ true → in_mask l.able k ≡ true;
}

abbrev pub decreases-loop-left : goal.decreases-loop-left
decreases-loop-left l = l.left
