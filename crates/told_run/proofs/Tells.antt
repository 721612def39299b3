-- What a machine tells that began at the start of its plan.
use Rattle.std.proofs.Common.{◌≡◌, ℕ, zero, suc, ◌<◌, List, [], ◌∷◌, length, refl, subst, arith}
use Rattle.std.specs.Prelude.{Some, slice_get, slice_index_or}
use Rattle.std.proofs.lemmas.Option.{slice_get-get_or}
use Rattle.xs_base.specs.Numbers.{Position}
use Rattle.sys_plan.specs.declared.NodePlan.{NodePlan}
use Rattle.serial_model.specs.Serial.{SystemRec, Begun, begun_at_start, node_by, serial}
use Rattle.core_step.specs.declared.told.Told.{Told}
use Rattle.run_plan.specs.Machine.{MachineRec, system_of, WholeRunIsSerial}
use Rattle.run_plan.specs.Told.{IsToldAt, EachIsToldNext}
use Rattle.told_run.specs.Kept.{AreToldIn, AreWithin}

-- the node at a position
node-at : (nodes : List NodePlan) (n : ℕ) → n < length nodes → (node : NodePlan) × (slice_get nodes n ≡ Some node)
node-at [] n h = absurd (omega (arith, h))
node-at (x ∷ nodes) zero h = (x, refl)
node-at (x ∷ nodes) (suc n) h = node-at nodes n (omega (arith, h))

module _ (m : MachineRec) (begun : m.begun ≡ begun_at_start m.plan) (all : List Told) (nodes : length all ≡ length m.plan.nodes) (each : EachIsToldNext m all) where
  pub are-within : AreWithin all
  are-within n none below =
      let node = node-at m.plan.nodes n (omega (arith, nodes, below)) in
      (each n node.0 (slice_index_or all n none) node.1 (slice_get-get_or all n none below)).within

  -- of a node of its plan, in the words of the serial machine
  told-at : WholeRunIsSerial → (n : Position) (node : NodePlan) (told : Told) → slice_get m.plan.nodes n ≡ Some node → slice_get all n ≡ Some told
      → IsToldAt [] m.plan (serial m.plan m.now).histories m.now n node (node_by (serial m.plan m.now).nodes n) told
  told-at law n node told here its =
      subst (λ (s : SystemRec). IsToldAt [] m.plan s.histories m.now n node (node_by s.nodes n) told) (law m begun)
      (subst (λ (b : Begun). IsToldAt b.shown m.plan (system_of m).histories m.now n node (node_by (system_of m).nodes n) told) begun (each n node told here its))

  pub are-told : WholeRunIsSerial → AreToldIn m.plan m.now all
  are-told law = λ n none below node here.
      let at = told-at law n node (slice_index_or all n none) here (slice_get-get_or all n none (omega (arith, nodes, below))) in
      record { issue = at.issue; traps = at.traps; able = at.able }
