use Rattle.std.proofs.Common.{ℕ, length, ◌-◌, ◌≡◌, ◌≤◌, ◌<◌, false, get_or}
use Rattle.std.specs.Prelude.{◌==◌}
use Rattle.pin_scripts.specs.Facts.{NodeChangesRec}
use Rattle.pin_scripts.proofs.node_changes.place_of.Given as goal

abbrev pub invariant-loop-place : goal.invariant-loop-place
invariant-loop-place l = record {
  within : l.place ≤ length l.nodes;
  before : (k : ℕ) (d : NodeChangesRec) → k < l.place → ((get_or l.nodes k d).number == l.number) ≡ false;
}

abbrev pub decreases-loop-place : goal.decreases-loop-place
decreases-loop-place l = length l.nodes - l.place
