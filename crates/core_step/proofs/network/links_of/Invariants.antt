use Rattle.std.proofs.Common.{◌≡◌, ℕ, ◌<◌, ◌≤◌, length, None, get_or}
use Rattle.link_ends.specs.States.{absent_end}
use Rattle.switch_routes.specs.Rows.{counts_at}
use Rattle.core_step.specs.Network.{counts_by}
use Rattle.core_step.proofs.network.links_of.Given as goal

-- the link ends so far are as the states say, and the others are not there
abbrev pub invariant-loop-end : goal.invariant-loop-end
invariant-loop-end l = record {
  count : length l.links ≡ 8;
  done : (e : ℕ) → e < l.end → counts_at l.links e ≡ counts_by (get_or l.gaps e 0) (get_or l.ends e absent_end);
  left : (e : ℕ) → l.end ≤ e → counts_at l.links e ≡ None;
}
