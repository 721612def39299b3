use Rattle.std.proofs.Common.{ℕ, ◌≤◌, ◌-◌}
use Rattle.quiet_model.specs.Slots.{NoneBefore}
use Rattle.quiet_model.specs.Stirs.{some_eligible}
use Rattle.processor.specs.Knows.{IsKnown}
use Rattle.processor.proofs.quiet.search.Given as goal

-- in none of the slots so far may a thread issue
abbrev pub invariant-loop-at : goal.invariant-loop-at
invariant-loop-at l = record {
  after : l.from ≤ l.at;
  none : NoneBefore (some_eligible l.units) l.from l.at;
  known : IsKnown l.units l.able;
}

abbrev pub decreases-loop-at : goal.decreases-loop-at
decreases-loop-at l = l.bound - l.at
