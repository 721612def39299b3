use Rattle.std.proofs.Common.{◌≡◌, rules, ℕ, List, length, sym, ap, ◌∙◌, subst, arith}
use Rattle.std.proofs.lemmas.List.{with_items_is, places}
use Rattle.sys_plan.specs.Plan.{PlanRec}
use Rattle.serial_model.specs.Serial.{begun_at_start}
use Rattle.told_run.specs.Kept.{AreBefore, AreToldIn, AreWithin}
use Rattle.told_run.proofs.run.ToldRun.step.Goals as goal

-- what is so of a plan, a slot and a list, of such that are equal
alike : {X : Type 0} (P : PlanRec → ℕ → List X → Type 0) (plan p : PlanRec) (slot s : ℕ) (all xs : List X) → plan ≡ p → slot ≡ s → all ≡ xs → P plan slot all → P p s xs
alike {X} P plan p slot s all xs plan_is slot_is all_is =
    let whole : P plan slot all ≡ P p s xs = λ i. P (plan_is i) (slot_is i) (all_is i) in
    subst (λ (T : Type 0). T) whole

pub invariant_of-self-2 : goal.invariant_of-self-2
invariant_of-self-2 c =
    let run = c.self.inside in
    let m = run.machine in
    let kept = c.self.invariant in
    let its = c.in_ok-tell.ensures in
    let befores = with_items_is run.befores c.keep.new.befores (search (rules, places)) in
    let told = with_items_is run.told c.tell.new.told (search (rules, places)) in
    let nodes = ap (λ (p : PlanRec). length p.nodes) (sym its.plan) in
    let slot = sym c.now-slot.ensures.value in
    record {
      begun = its.begun ∙ kept.begun ∙ ap begun_at_start (sym its.plan);
      few = omega (arith, kept.few, nodes);
      befores = ap length befores ∙ c.keep.ensures.nodes ∙ ap length c.deref_mut.ensures.value ∙ kept.befores ∙ nodes;
      told = ap length told ∙ its.nodes ∙ ap length c.deref_mut-2.ensures.value ∙ kept.told ∙ nodes;
      before = alike AreBefore _ _ _ _ _ _ (sym its.plan) slot (sym befores) c.keep.ensures.kept;
      each = alike AreToldIn _ _ _ _ _ _ (sym its.plan) slot (sym told) its.told;
      within = subst AreWithin (sym told) its.within;
    }
