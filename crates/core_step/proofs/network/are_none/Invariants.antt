use Rattle.std.proofs.Common.{ℕ, ◌≡◌, ◌<◌, false, None}
use Rattle.std.specs.Prelude.{slice_index_or}
use Rattle.core_step.proofs.network.are_none.Given as goal

abbrev pub invariant-loop-end : goal.invariant-loop-end
invariant-loop-end l = l.some ≡ false → (e : ℕ) → e < l.end → slice_index_or l.tokens e None ≡ None
