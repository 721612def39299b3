-- How far a node has run that an end stops, or that is at the limit.
use Rattle.std.proofs.Common.{◌≡◌, ℕ, zero, suc, ◌+◌, ◌≤◌, Some, List, [], ◌∷◌, slice_get, refl, subst, arith}
use Rattle.std.proofs.lemmas.Option.{none-some, same_Some}
use Rattle.xs_base.specs.Numbers.{Slot}
use Rattle.sys_plan.specs.Plan.{PlanRec, delay_of}
use Rattle.plan_cells.specs.declared.ends.Incoming.{Incoming}
use Rattle.core_workers.specs.Worker.{reach}

module _ (plan : PlanRec) (limit : Slot) where
  pub reach_within : (ends : List Incoming) → reach plan limit ends ≤ limit
  reach_within [] = omega arith
  reach_within (i ∷ ends) = let rest = reach_within ends in omega arith

  pub reach_below : (ends : List Incoming) (k : ℕ) (i : Incoming) → slice_get ends k ≡ Some i → reach plan limit ends ≤ i.r.end.got + delay_of plan i.link
  reach_below [] k i at = absurd (none-some i at)
  reach_below (j ∷ ends) zero i at =
      subst (λ (x : Incoming). reach plan limit (j ∷ ends) ≤ x.r.end.got + delay_of plan x.link) (same_Some j i at) (omega arith)
  reach_below (j ∷ ends) (suc k) i at = let rest = reach_below ends k i at in omega arith

  pub reach_above : (clock : Slot) (ends : List Incoming) → clock ≤ limit → ((k : ℕ) (i : Incoming) → slice_get ends k ≡ Some i → clock ≤ i.r.end.got + delay_of plan i.link) → clock ≤ reach plan limit ends
  reach_above clock [] within each = within
  reach_above clock (i ∷ ends) within each =
      let here : clock ≤ i.r.end.got + delay_of plan i.link = each 0 i refl in
      let rest : clock ≤ reach plan limit ends = reach_above clock ends within (λ k j at. each (suc k) j at) in
      omega arith
