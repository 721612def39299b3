use Rattle.std.proofs.Common.{◌≡◌, ◌+◌, ◌<◌, ◌≤◌, List, length, ap, sym, subst, ◌∙◌, arith}
use Rattle.std.proofs.lemmas.List.{take_all}
use Rattle.xs_base.specs.Numbers.{Slot, Word}
use Rattle.sys_plan.specs.declared.NodePlan.{NodePlan}
use Rattle.sys_plan.specs.Plan.{PlanRec}
use Rattle.serial_model.specs.Serial.{serial, node_by}
use Rattle.wave_model.specs.Runs.{node_changes}
use Rattle.vcd_writer.specs.Tells.{Tells, levels_of}
use Rattle.vcd_writer.proofs.Levels.{nodes_count, levels_count, seen_more, seen_here, seen_later, one_node}
use Rattle.vcd_writer.proofs.changes.put_slot.Goals as goal

-- as many levels are seen as there are nodes
seen_count : (plan : PlanRec) (slot : Slot) (nodes : List NodePlan) (seen first : List (List Word))
    → nodes ≡ plan.nodes → first ≡ levels_of (serial plan slot).nodes → length seen ≡ length first → length seen ≡ length nodes
seen_count plan slot nodes seen first lent is kept = kept ∙ ap length is ∙ levels_count plan slot ∙ sym (ap length lent)

pub bounds-seen-node : goal.bounds-seen-node
bounds-seen-node c =
    omega (arith, c.loop-node-test.true, seen_count c.args.plan.now c.args.slot _ _ _ c.nodes-node-end.ensures.value c.requires.seen c.loop-node.auto.seen)

pub bounds-seen-node-in-loop-node : goal.bounds-seen-node-in-loop-node
bounds-seen-node-in-loop-node c =
    omega (arith, c.loop-node-test.true, seen_count c.args.plan.now c.args.slot _ _ _ c.nodes-node-end.ensures.value c.requires.seen c.loop-node.auto.seen)

pub loop-node-preserved : goal.loop-node-preserved
loop-node-preserved c =
    let plan = c.args.plan.now in
    let slot = c.args.slot in
    let n = c.loop-node.node in
    let known = c.loop-node.invariant in
    let lent = ap length c.nodes-node-end.ensures.value in
    let count = seen_count plan slot _ _ _ c.nodes-node-end.ensures.value c.requires.seen c.loop-node.auto.seen in
    let inside : n < length c.loop-node.seen = omega (arith, c.loop-node-test.true, count) in
    let before : n < length (serial plan slot).nodes = omega (arith, c.loop-node-test.true, lent, nodes_count plan slot) in
    let after : n < length (serial plan (slot + 1)).nodes = omega (arith, c.loop-node-test.true, lent, nodes_count plan (slot + 1)) in
    let now : c.levels-levels.result ≡ (node_by (serial plan (slot + 1)).nodes n).levels =
    c.levels-levels.ensures ∙ ap (λ (s : Slot). (node_by (serial plan s).nodes n).levels) c.requires.run in
    let here = seen_here (serial plan slot).nodes n c.loop-node.seen inside before in
    record {
      tells = one_node slot n (serial plan slot).nodes (serial plan (slot + 1)).nodes _ _ _ _ _ before after (here _ known.later) now known.tells c.in_ok-put_node.ensures;
      seen = seen_more (serial plan (slot + 1)).nodes n c.loop-node.seen inside after c.levels-levels.result now known.seen;
      later = seen_later (serial plan slot).nodes n c.loop-node.seen inside before c.levels-levels.result known.later;
    }

pub returns-clause-tells : goal.returns-clause-tells
returns-clause-tells c =
    let plan = c.args.plan.now in
    let slot = c.args.slot in
    let n = c.loop-node.node in
    let lent = ap length c.nodes-node-end.ensures.value in
    let before = take_all n (serial plan slot).nodes (omega (arith, c.loop-node-test.false, lent, nodes_count plan slot)) in
    let after = take_all n (serial plan (slot + 1)).nodes (omega (arith, c.loop-node-test.false, lent, nodes_count plan (slot + 1))) in
    subst (Tells c.args.out.now c.loop-node.out) (λ i. node_changes slot 0 (before i) (after i)) c.loop-node.invariant.tells

pub returns-clause-seen : goal.returns-clause-seen
returns-clause-seen c =
    let plan = c.args.plan.now in
    let slot = c.args.slot in
    let n = c.loop-node.node in
    let count = seen_count plan slot _ _ _ c.nodes-node-end.ensures.value c.requires.seen c.loop-node.auto.seen in
    let last : length (levels_of (serial plan (slot + 1)).nodes) ≤ n = omega (arith, c.loop-node-test.false, ap length c.nodes-node-end.ensures.value, levels_count plan (slot + 1)) in
    sym (take_all n c.loop-node.seen (omega (arith, c.loop-node-test.false, count))) ∙ c.loop-node.invariant.seen
    ∙ take_all n (levels_of (serial plan (slot + 1)).nodes) last
