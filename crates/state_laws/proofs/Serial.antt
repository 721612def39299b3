-- Every node of the serial machine may be kept, before every slot.
use Rattle.std.proofs.Common.{◌≡◌, ℕ, zero, suc, ◌+◌, ◌<◌, List, [], ◌∷◌, length, map, get_or, refl, subst, arith}
use Rattle.xs_base.specs.Numbers.{Slot, Position}
use Rattle.xs_model.specs.Record.{NodeRec, first_node}
use Rattle.sys_plan.specs.declared.NodePlan.{NodePlan}
use Rattle.sys_plan.specs.Plan.{PlanRec, IsPlan, gaps_of}
use Rattle.step_model.specs.Start.{fixed_of}
use Rattle.step_model.specs.Step.{Stepped}
use Rattle.serial_model.specs.Serial.{nodes_at_start, steps_from, coming_at, step_by, serial}
use Rattle.locality_laws.specs.Levels.{ShownLevelsFit}
use Rattle.state_laws.specs.Facts.{MayBeKept}
use Rattle.state_laws.specs.Runs.{KeptInEveryRun}
use Rattle.state_laws.proofs.Plans.{AllPlanned, nodes_planned}
use Rattle.state_laws.proofs.Whole.{first_kept, slot_kept}

module _ (shown : ShownLevelsFit) (plan : PlanRec) (is : IsPlan plan) where
  -- of these nodes, the first of which stands at position n, each by the gaps of its link ends
  abbrev AllKept : Slot → Position → List NodePlan → List NodeRec → Type 0
  AllKept slot n [] [] = Unit {0}
  AllKept slot n (node ∷ nodes) (rec ∷ recs) = MayBeKept (gaps_of plan n) slot rec × AllKept slot (n + 1) nodes recs
  AllKept slot n _ _ = ⊥

  start_kept : (n : Position) (nodes : List NodePlan) → AllKept 0 n nodes (nodes_at_start plan n nodes)
  start_kept n [] = tt
  start_kept n (node ∷ nodes) = (first_kept node (gaps_of plan n) refl, start_kept (n + 1) nodes)

  steps_kept : (slot : Slot) (n : Position) (nodes : List NodePlan) (recs : List NodeRec) → AllPlanned plan n nodes → AllKept slot n nodes recs
      → AllKept (suc slot) n nodes (map (λ (s : Stepped). s.rec) (steps_from plan (serial plan slot).histories slot n nodes recs))
  steps_kept slot n [] [] planned kept = tt
  steps_kept slot n [] (rec ∷ recs) planned kept = absurd kept
  steps_kept slot n (node ∷ nodes) [] planned kept = absurd kept
  steps_kept slot n (node ∷ nodes) (rec ∷ recs) planned kept =
      let coming = coming_at plan (serial plan slot).histories slot n in
      let next : slot + 1 ≡ suc slot = omega arith in (
        subst (λ (s : Slot). MayBeKept (gaps_of plan n) s (step_by plan n node slot coming rec).rec) next
            (slot_kept (fixed_of node (gaps_of plan n)) rec slot coming.arrivals coming.pins planned.0 (shown plan n slot is) kept.0),
        steps_kept slot (n + 1) nodes recs planned.1 kept.1,
      )

  nodes_kept : AllPlanned plan 0 plan.nodes → (slot : Slot) → AllKept slot 0 plan.nodes (serial plan slot).nodes
  unfolding serial
  nodes_kept planned zero = start_kept 0 plan.nodes
  nodes_kept planned (suc slot) = steps_kept slot 0 plan.nodes (serial plan slot).nodes planned (nodes_kept planned slot)

  kept_at : (slot : Slot) (n : Position) (nodes : List NodePlan) (recs : List NodeRec) (k m : ℕ) → n + k ≡ m → k < length nodes → AllKept slot n nodes recs → MayBeKept (gaps_of plan m) slot (get_or recs k (first_node 0 0 []))
  kept_at slot n [] recs k m e within kept = absurd (omega (arith, within))
  kept_at slot n (node ∷ nodes) [] k m e within kept = absurd kept
  kept_at slot n (node ∷ nodes) (rec ∷ recs) zero m e within kept =
      let same : n ≡ m = omega (arith, e) in subst (λ (p : Position). MayBeKept (gaps_of plan p) slot rec) same kept.0
  kept_at slot n (node ∷ nodes) (rec ∷ recs) (suc k) m e within kept = kept_at slot (n + 1) nodes recs k m (omega (arith, e)) (omega (arith, within)) kept.1

pub kept_in_every_run : ShownLevelsFit → KeptInEveryRun
kept_in_every_run shown plan slot n is code within =
    kept_at shown plan is slot 0 plan.nodes (serial plan slot).nodes n n (omega arith) within (nodes_kept shown plan is (nodes_planned plan is code) slot)
