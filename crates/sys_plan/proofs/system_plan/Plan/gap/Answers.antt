use Rattle.std.proofs.Common.{rules, ℕ, ◌≡◌, ◌<◌, ◌*◌, ◌/◌, Some, None, [], length, map, slice_index, ap, sym, subst, refl, ◌∙◌, arith}
use Rattle.std.specs.Prelude.{IfSome, IsSome}
use Rattle.sys_plan.specs.declared.LinkPlan.{LinkPlan}
use Rattle.sys_plan.specs.Plan.{Arc, PlanRec, IsLink, outgoing, first_arc, leaves_by, link_arcs, wire_arcs, gap_of, gap_by}
use Rattle.sys_plan.proofs.Arcs.{arcs_length, shared-at, all-at, at-front}
use Rattle.sys_plan.proofs.Routes.{outgoing-of-link}
use Rattle.sys_plan.proofs.system_plan.Plan.gap.Goals as goal

some-none : IsSome {T = ℕ} None → ⊥
some-none = search rules

pub returns-in-Some-clause-value : goal.returns-in-Some-clause-value
returns-in-Some-clause-value c =
    let plan = c.args.self.now in
    let links = c.self.inside.links.items in
    let k = c.in-Some.link in
    let same : c.links.result.now ≡ plan.links = c.links.ensures.value in
    let mine : links ≡ plan.links = ap (λ (p : PlanRec). p.links) c.self.view_is in
    let found : Some k ≡ outgoing plan c.args.node c.args.end =
    sym c.in-Some.is ∙ c.first_leaving.ensures.value ∙ ap (λ ls. first_arc (leaves_by c.args.node c.args.end) 0 (link_arcs ls)) same
    ∙ sym (outgoing-of-link plan c.args.node c.args.end c.requires.end) in
    let below : k < length (link_arcs c.links.result.now) = subst (λ o. IfSome o (λ l. l < length (link_arcs c.links.result.now))) c.in-Some.is c.first_leaving.ensures.bound in
    let few : k < 2 * length links = omega (arith, arcs_length c.links.result.now, ap (λ ls. length ls) (same ∙ sym mine)) in
    let front : k < length (link_arcs plan.links) = omega (arith, arcs_length plan.links, ap (λ ls. length ls) mine) in
    let of_link : c.index-link.result.now.gap ≡ gap_of plan k =
    ap (λ (l : LinkPlan). l.gap) c.index-link.ensures
    ∙ sym (shared-at (λ (d : Arc). d.gap) (λ (l : LinkPlan). l.gap) (λ l. refl) (λ l. refl) links k c.index-link.result.now few)
    ∙ ap (λ ls. slice_index (map (λ (d : Arc). d.gap) (link_arcs ls)) k) mine
    ∙ sym (at-front (λ (d : Arc). d.gap) (link_arcs plan.links) (wire_arcs [] plan.wires) k front) in
    subst (λ o. c.index-link.result.now.gap ≡ gap_by plan o) found of_link

pub returns-in-Some-clause-there : goal.returns-in-Some-clause-there
returns-in-Some-clause-there c there =
    let links = c.self.inside.links.items in
    let k = c.in-Some.link in
    let mine : links ≡ c.args.self.now.links = ap (λ (p : PlanRec). p.links) c.self.view_is in
    let below : k < length (link_arcs c.links.result.now) = subst (λ o. IfSome o (λ l. l < length (link_arcs c.links.result.now))) c.in-Some.is c.first_leaving.ensures.bound in
    let few : k / 2 < length links = omega (arith, arcs_length c.links.result.now, ap (λ ls. length ls) (c.links.ensures.value ∙ sym mine)) in
    let kept = all-at (IsLink (length c.self.inside.nodes.items)) links (k / 2) c.index-link.result.now c.self.invariant.links few in
    omega (arith, kept.least_gap, ap (λ (l : LinkPlan). l.gap) c.index-link.ensures)

pub returns-in-None-clause-value : goal.returns-in-None-clause-value
returns-in-None-clause-value c =
    let plan = c.args.self.now in
    let none : None ≡ outgoing plan c.args.node c.args.end =
    sym c.in-None.is ∙ c.first_leaving.ensures.value ∙ ap (λ ls. first_arc (leaves_by c.args.node c.args.end) 0 (link_arcs ls)) c.links.ensures.value
    ∙ sym (outgoing-of-link plan c.args.node c.args.end c.requires.end) in
    subst (λ o. 0 ≡ gap_by plan o) none refl

pub returns-in-None-clause-there : goal.returns-in-None-clause-there
returns-in-None-clause-there c there =
    let plan = c.args.self.now in
    let none : None ≡ outgoing plan c.args.node c.args.end =
    sym c.in-None.is ∙ c.first_leaving.ensures.value ∙ ap (λ ls. first_arc (leaves_by c.args.node c.args.end) 0 (link_arcs ls)) c.links.ensures.value
    ∙ sym (outgoing-of-link plan c.args.node c.args.end c.requires.end) in
    absurd (some-none (subst (λ o. IsSome o) (sym none) there))
