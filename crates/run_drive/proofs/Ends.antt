-- An end past the last one has no arc.
use Rattle.std.proofs.Common.{◌≡◌, ℕ, ◌<◌, ◌≤◌, Some, None, sym, inl, inr}
use mathlib.Core.Logic.{◌⊎◌}
use Rattle.std.proofs.lemmas.Bool.{cases_lt}
use Rattle.std.proofs.lemmas.Option.{none-some}
use Rattle.sys_plan.specs.declared.system_plan.TheConstants.{ENDS}

pub below_ends : (end link : ℕ) → (ENDS ≤ end → Some link ≡ None) → end < ENDS
below_ends end link past = by_case (cases_lt end ENDS)
  where
    by_case : (end < ENDS) ⊎ (ENDS ≤ end) → end < ENDS
    by_case (inl below) = below
    by_case (inr beyond) = absurd (none-some link (sym (past beyond)))
