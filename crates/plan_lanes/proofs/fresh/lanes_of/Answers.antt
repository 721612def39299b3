use Rattle.std.proofs.Common.{◌≡◌, ℕ, ◌+◌, ◌*◌, List, [], ◌∷◌, ◌++◌, length, sym, ap, ◌∙◌, subst, arith}
use Rattle.std.proofs.lemmas.List.{length_push}
use Rattle.sys_plan.specs.declared.LinkPlan.{LinkPlan}
use Rattle.sys_plan.specs.declared.WirePlan.{WirePlan}
use Rattle.sys_plan.specs.Plan.{PlanRec, arc_count}
use Rattle.ahead_limits.proofs.Steps.{arcs_number}
use Rattle.plan_lanes.specs.declared.lane.Lane.{Lane}
use Rattle.plan_lanes.specs.Lanes.{AllAt, IsNewLane}
use Rattle.plan_lanes.proofs.Places.{all_at_push}
use Rattle.plan_lanes.proofs.fresh.lanes_of.Goals as goal

-- there are as many arcs as are counted
counted : (plan one other : PlanRec) (links : List LinkPlan) (wires : List WirePlan) → links ≡ one.links → one ≡ plan → wires ≡ other.wires → other ≡ plan
    → 2 * length links + length wires ≡ arc_count plan
counted plan one other links wires l o w p =
    (λ i. 2 * length (l i) + length (w i)) ∙ (λ i. 2 * length ((o i).links) + length ((p i).wires)) ∙ sym (arcs_number plan)

pub new-requires : goal.new-requires
new-requires c =
    record { link = omega (arith, c.loop-link-test.true, counted c.args.plan.now.value _ _ c.links.result.now c.wires.result.now c.links.ensures.value c.deref.ensures c.wires.ensures.value c.deref-2.ensures) }

pub returns-clause-count : goal.returns-clause-count
returns-clause-count c =
    omega (
      arith,
      c.loop-link.invariant.count,
      c.loop-link-test.false,
      c.loop-link.auto.link-end,
      counted c.args.plan.now.value _ _ c.links.result.now c.wires.result.now c.links.ensures.value c.deref.ensures c.wires.ensures.value c.deref-2.ensures,
    )

pub loop-link-preserved : goal.loop-link-preserved
loop-link-preserved c =
    let IsNew : ℕ → Lane → Type 0 = IsNewLane c.args.plan.now.value in
    let before = c.loop-link.lanes.items in
    let pushed : c.push.new.self.items ≡ before ++ c.in_ok-lane.lane ∷ [] = c.in_ok-push.ensures.items in
    let here : IsNew (length before) c.in_ok-lane.lane = subst (λ k. IsNew k c.in_ok-lane.lane) (sym c.loop-link.invariant.count) c.in_ok-lane.ensures.lane in
    record {
      count = omega (arith, ap (length {A = Lane}) pushed, length_push before c.in_ok-lane.lane, c.loop-link.invariant.count);
      start = subst (AllAt IsNew) (sym pushed) (all_at_push IsNew before c.in_ok-lane.lane c.loop-link.invariant.start here);
    }
