-- A node that may not run its slot is at the limit, or some end stops it.
use Rattle.std.proofs.Common.{◌≡◌, ◌≢◌, ℕ, zero, suc, ◌<◌, ◌≤◌, true, false, length, Option, Some, List, [], ◌∷◌, slice_get, refl, sym, ◌∙◌, arith, inl, inr}
use mathlib.Core.Logic.{◌⊎◌}
use Rattle.std.proofs.Math.Nat.{eq-or-lt_of_le}
use Rattle.std.proofs.lemmas.Option.{none-some}
use Rattle.xs_base.specs.Numbers.{Slot}
use Rattle.ahead_limits.specs.declared.horizon.Seen.{Seen}
use Rattle.ahead_limits.specs.Horizon.{HorizonRec, Sees, horizon_at, may_run, NoneStopsBelow}
use Rattle.sys_plan.specs.declared.system_plan.TheConstants.{ENDS}
use Rattle.ahead_limits.proofs.Ends.{may_run_exactly}

true_false : true ≡ false → ⊥
true_false h = cc

-- an end that there is comes before its list's end
within : (ends : List (Option Seen)) (end : ℕ) (x : Option Seen) → slice_get ends end ≡ Some x → end < length ends
within [] end x h = absurd (none-some x h)
within (y ∷ ends) zero x h = omega arith
within (y ∷ ends) (suc end) x h = omega (arith, within ends end x h)

module _ (h : HorizonRec) (clock : Slot) (stopped : may_run h clock ≡ false) (ends : length h.ends ≡ ENDS) (ahead : (end : ℕ) (s : Seen) → Sees h end s → clock ≤ horizon_at s)
    (none : NoneStopsBelow h clock ENDS) where
  below : (end : ℕ) (s : Seen) → Sees h end s → clock < horizon_at s
  below end s there =
      let inside : end < ENDS = omega (arith, within h.ends end (Some s) there, ends) in
      by_order (eq-or-lt_of_le (ahead end s there)) (none end s inside there)
    where
      by_order : (clock ≡ horizon_at s) ⊎ (clock < horizon_at s) → clock ≢ horizon_at s → clock < horizon_at s
      by_order (inl same) apart = absurd (apart same)
      by_order (inr less) apart = less

  -- where no end stops it, it is at the limit
  pub is_at_limit : clock ≤ h.limit → clock ≡ h.limit
  is_at_limit at_most = by_limit (eq-or-lt_of_le at_most)
    where
      by_limit : (clock ≡ h.limit) ⊎ (clock < h.limit) → clock ≡ h.limit
      by_limit (inl same) = same
      by_limit (inr less) = absurd (true_false (sym ((may_run_exactly h clock (may_run h clock) refl).1 (less, below)) ∙ stopped))
