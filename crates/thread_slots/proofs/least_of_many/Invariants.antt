use Rattle.std.proofs.Common.{◌&&◌}
use Rattle.std.specs.Prelude.{nat_lt}
use Rattle.xs_model.specs.Masks.{in_mask}
use Rattle.thread_slots.specs.Turns.{IsLeast}
use Rattle.thread_slots.proofs.least_of_many.Given as goal

-- the least of the threads so far that are in the mask
abbrev pub invariant-loop-k : goal.invariant-loop-k
invariant-loop-k l = IsLeast (λ j. nat_lt j l.k && in_mask l.able j) l.turns l.least
