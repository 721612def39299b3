use Rattle.std.proofs.Common.{◌≡◌, ◌+◌, ◌≤◌, Some, List, [], ◌∷◌, ◌++◌, length, take, slice_get, ap, ◌∙◌, sym, subst, arith}
use Rattle.std.proofs.lemmas.List.{length_push, take_all}
use Rattle.xs_base.specs.Numbers.{LinkNumber}
use Rattle.sys_plan.specs.declared.LinkPlan.{LinkPlan}
use Rattle.sys_plan.specs.declared.WirePlan.{WirePlan}
use Rattle.sys_plan.specs.Plan.{PlanRec, Arc, arcs}
use Rattle.sys_plan.proofs.Arcs.{arcs_length}
use Rattle.sys_plan.proofs.Told.{arcs-count}
use Rattle.log_cells.specs.Ends.{CellRec}
use Rattle.plan_cells.specs.Inside.{IsCellOf, AreDealt, cells_of}
use Rattle.plan_cells.proofs.Dealing.{deal_more, deals_nodes, push_cell}
use Rattle.plan_cells.proofs.deal.deal_all.Goals as goal

pub deal-requires-clause-link : goal.deal-requires-clause-link
deal-requires-clause-link c =
    let plan = c.args.plan.now.value in
    let links : length c.links.result.now ≡ length plan.links = ap (λ (ls : List LinkPlan). length ls) (c.links.ensures.value ∙ ap (λ (p : PlanRec). p.links) c.deref.ensures) in
    let wires : length c.wires.result.now ≡ length plan.wires = ap (λ (ws : List WirePlan). length ws) (c.wires.ensures.value ∙ ap (λ (p : PlanRec). p.wires) c.deref-2.ensures) in
    omega (arith, c.loop-link-test.true, links, wires, arcs_length plan.links, arcs-count plan)

pub loop-link-preserved : goal.loop-link-preserved
loop-link-preserved c =
    let plan = c.args.plan.now.value in
    let cells = c.loop-link.cells.items in
    let cell = c.in_ok-cell.cell in
    let link = c.loop-link.link in
    let before = c.loop-link.all.items in
    let after = c.deal.new.all.items in
    let i = c.loop-link.invariant in
    let pushed : c.push.new.self.items ≡ cells ++ cell ∷ [] = c.in_ok-push.ensures.items in
    record {
      count = omega (arith, ap (length {A = CellRec PlanRec}) pushed, length_push cells cell, i.count);
      each =
          subst (λ (cs : List (CellRec PlanRec)). (k : LinkNumber) (x : CellRec PlanRec) → slice_get cs k ≡ Some x → IsCellOf plan k x) (sym pushed)
          (push_cell plan cells cell link i.count i.each c.in_ok-cell.ensures.cell);
      nodes = deals_nodes plan link cell before after c.in_ok-cell.ensures.deals ∙ i.nodes;
      dealt =
          subst (λ (cs : List (CellRec PlanRec)). AreDealt (cells_of plan cs) (take (link + 1) (arcs plan)) after) (sym pushed)
          (deal_more plan cells cell link i.count before after i.nodes i.dealt c.in_ok-cell.ensures.deals);
    }

pub returns-clause-cells : goal.returns-clause-cells
returns-clause-cells c =
    let plan = c.args.plan.now.value in
    let links : length c.links.result.now ≡ length plan.links = ap (λ (ls : List LinkPlan). length ls) (c.links.ensures.value ∙ ap (λ (p : PlanRec). p.links) c.deref.ensures) in
    let wires : length c.wires.result.now ≡ length plan.wires = ap (λ (ws : List WirePlan). length ws) (c.wires.ensures.value ∙ ap (λ (p : PlanRec). p.wires) c.deref-2.ensures) in
    record {
      count = omega (arith, c.loop-link.invariant.count, c.loop-link-test.false, c.loop-link.auto.link-end, links, wires, arcs_length plan.links, arcs-count plan);
      each = c.loop-link.invariant.each;
    }

pub returns-clause-dealt : goal.returns-clause-dealt
returns-clause-dealt c =
    let plan = c.args.plan.now.value in
    let ds = arcs plan in
    let links : length c.links.result.now ≡ length plan.links = ap (λ (ls : List LinkPlan). length ls) (c.links.ensures.value ∙ ap (λ (p : PlanRec). p.links) c.deref.ensures) in
    let wires : length c.wires.result.now ≡ length plan.wires = ap (λ (ws : List WirePlan). length ws) (c.wires.ensures.value ∙ ap (λ (p : PlanRec). p.wires) c.deref-2.ensures) in
    let all : length ds ≤ c.loop-link.link = omega (arith, c.loop-link-test.false, links, wires, arcs_length plan.links, arcs-count plan) in
    subst (λ (l : List Arc). AreDealt (cells_of plan c.loop-link.cells.items) l c.loop-link.all.items) (take_all c.loop-link.link ds all) c.loop-link.invariant.dealt
