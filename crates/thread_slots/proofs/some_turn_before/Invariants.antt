use Rattle.std.proofs.Common.{ℕ, ◌≡◌, ◌<◌, ◌≤◌, true, not, ◌&&◌, slice_index}
use Rattle.xs_model.specs.Masks.{in_mask}
use Rattle.thread_slots.proofs.some_turn_before.Given as goal

-- those that are no longer left have no lesser turn, and those that are left are of the mask
abbrev pub invariant-loop-left : goal.invariant-loop-left
invariant-loop-left l = record {
  seen : (k : ℕ) → k < 8 → in_mask l.mask k && not (in_mask l.left k) ≡ true → l.end ≤ slice_index l.turns k;
  able : (k : ℕ) → k < 8 → in_mask l.left k ≡ true → in_mask l.mask k ≡ true;
}

abbrev pub decreases-loop-left : goal.decreases-loop-left
decreases-loop-left l = l.left
