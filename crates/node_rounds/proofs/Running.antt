-- A node that has run on stands at its horizon.
use Rattle.std.proofs.Common.{◌≡◌, true, false, refl, arith, inl, inr}
use mathlib.Core.Logic.{◌⊎◌}
use Rattle.std.proofs.lemmas.Bool.{cases_Bool}
use Rattle.xs_base.specs.Numbers.{Slot}
use Rattle.ahead_limits.specs.Horizon.{HorizonRec, may_run, IsBelowAll}
use Rattle.ahead_limits.proofs.Ends.{may_run_exactly}
use Rattle.node_runners.specs.declared.runner.Ran.{Ran}
use Rattle.node_runners.specs.declared.runner.Ran.TheVariants.{Slot as one_slot, Blocked, AtLimit}
use Rattle.node_runners.specs.Runner.{Stops}

no_run : (h : HorizonRec) (clock : Slot) → (IsBelowAll h clock → ⊥) → may_run h clock ≡ false
no_run h clock not = by_case (cases_Bool (may_run h clock))
  where
    by_case : (may_run h clock ≡ true) ⊎ (may_run h clock ≡ false) → may_run h clock ≡ false
    by_case (inl runs) = absurd (not ((may_run_exactly h clock (may_run h clock) refl).0 runs))
    by_case (inr stays) = stays

pub stopped : (h : HorizonRec) (clock : Slot) (ran : Ran) → Stops h clock ran → may_run h clock ≡ false
stopped h clock one_slot stops = absurd stops
stopped h clock (Blocked end seen) stops = no_run h clock (λ below. omega (arith, stops.1.is_horizon, below.1 end stops.1.link stops.1.there))
stopped h clock AtLimit stops = no_run h clock (λ below. omega (arith, stops, below.0))
