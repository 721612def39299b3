use Rattle.std.proofs.Common.{List, ◌≡◌, ℕ, ◌+◌, ◌-◌, ◌<◌, ◌≤◌, Option, Some, [], length, ap, sym, subst, ◌∙◌, arith, option_map}
use Rattle.std.specs.Prelude.{IfSome}
use Rattle.sys_plan.specs.declared.WirePlan.{WirePlan}
use Rattle.sys_plan.specs.Plan.{PlanRec, IsPlan, incoming, first_arc, comes_to, link_arcs, wire_arcs}
use Rattle.sys_plan.proofs.Routes.{incoming-of-link}
use Rattle.sys_plan.proofs.Told.{arcs-count, comes-by-wire, none-comes-past}
use Rattle.sys_plan.proofs.system_plan.Plan.incoming.Goals as goal

pub returns-then-end-lt-FIRST_WIRE_END-clause-value : goal.returns-then-end-lt-FIRST_WIRE_END-clause-value
returns-then-end-lt-FIRST_WIRE_END-clause-value c =
    c.first_coming.ensures.value ∙ ap (λ ls. first_arc (comes_to c.args.node c.args.end) 0 (link_arcs ls)) c.links.ensures.value
    ∙ sym (incoming-of-link c.args.self.now c.args.node c.args.end c.if-end-lt-FIRST_WIRE_END.true)

-- what is found among the wires is found in the plan
module _ (plan : PlanRec) (is : IsPlan plan) (node end : ℕ) (far : 8 ≤ end) (ws : List WirePlan) (same : ws ≡ plan.wires) (o : Option ℕ)
    (found : o ≡ first_arc (comes_to node (8 + (end - 8))) 0 (wire_arcs [] ws)) where
  by_wire : option_map (λ k. length (link_arcs plan.links) + k) o ≡ incoming plan node end
  by_wire = comes-by-wire plan is node end (end - 8) (omega arith) o (found ∙ ap (λ l. first_arc (comes_to node (8 + (end - 8))) 0 (wire_arcs [] l)) same)

pub returns-in-None-clause-value : goal.returns-in-None-clause-value
returns-in-None-clause-value c =
    ap (option_map (λ k. length (link_arcs c.args.self.now.links) + k)) (sym c.in-None.is)
    ∙ by_wire c.args.self.now c.wires.ensures.plan c.args.node c.args.end c.if-end-lt-FIRST_WIRE_END.false c.wires.result.now c.wires.ensures.value c.wire_coming.result c.wire_coming.ensures.value

pub returns-in-Some-clause-value : goal.returns-in-Some-clause-value
returns-in-Some-clause-value c =
    ap (λ n. Some (n + c.in-Some.wire)) c.directed_links.ensures.value
    ∙ ap (option_map (λ k. length (link_arcs c.args.self.now.links) + k)) (sym c.in-Some.is)
    ∙ by_wire c.args.self.now c.wires.ensures.plan c.args.node c.args.end c.if-end-lt-FIRST_WIRE_END.false c.wires.result.now c.wires.ensures.value c.wire_coming.result c.wire_coming.ensures.value

pub returns-in-Some-clause-none_past : goal.returns-in-Some-clause-none_past
returns-in-Some-clause-none_past c past =
    returns-in-Some-clause-value c ∙ none-comes-past c.args.self.now c.wires.ensures.plan c.args.node c.args.end past

pub returns-in-Some-clause-bound : goal.returns-in-Some-clause-bound
returns-in-Some-clause-bound c =
    let below : c.in-Some.wire < length c.wires.result.now = subst (λ o. IfSome o (λ w. w < length c.wires.result.now)) c.in-Some.is c.wire_coming.ensures.bound in
    omega (arith, below, c.directed_links.ensures.value, arcs-count c.args.self.now, ap (λ (ws : List WirePlan). length ws) c.wires.ensures.value)
