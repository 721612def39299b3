use Rattle.std.proofs.Common.{◌≡◌, ℕ, ◌<◌, ◌≤◌, length, None}
use Rattle.std.specs.Prelude.{slice_index}
use Rattle.switch_routes.specs.Rows.{counts_at}
use Rattle.core_step.specs.Network.{counts_with_gap}
use Rattle.core_step.proofs.network.links_with.Given as goal

-- the link ends so far are there by their gaps, and the others are not
abbrev pub invariant-loop-end : goal.invariant-loop-end
invariant-loop-end l = record {
  count : length l.links ≡ 8;
  done : (e : ℕ) → e < l.end → counts_at l.links e ≡ counts_with_gap (slice_index l.gaps e);
  left : (e : ℕ) → l.end ≤ e → counts_at l.links e ≡ None;
}
