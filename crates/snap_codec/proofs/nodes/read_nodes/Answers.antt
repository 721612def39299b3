use Rattle.std.proofs.Common.{◌≡◌, ◌<◌, ◌≤◌, List, Bool, length, Ok, sym, ap, subst, ◌∙◌, arith}
use Rattle.std.proofs.lemmas.List.{length_push}
use Rattle.std.proofs.lemmas.Result.{err_from_is_err_and}
use Rattle.sys_plan.specs.declared.NodePlan.{NodePlan}
use Rattle.byte_forms.specs.Reading.{Refuses}
use Rattle.byte_forms.proofs.Lists.{reads_on, refuses_all, reads_all}
use Rattle.node_forms.specs.Nodes.{snap_node}
use Rattle.snap_codec.specs.Body.{there_of, node_after}
use Rattle.snap_codec.proofs.nodes.read_nodes.Goals as goal

pub returns-in_err-node-clause-value : goal.returns-in_err-node-clause-value
returns-in_err-node-clause-value c =
    let p = err_from_is_err_and c.from_residual.result c.from_residual.ensures.1 in
    let plan = c.args.plan.now in
    let slot = c.args.slot in
    let fault = c.in_err-node.field-0.0 in
    let lt = subst (λ (ns : List NodePlan). c.loop-n.n < length ns) c.nodes-count.ensures.value c.loop-n-test.true in
    let there : c.there.result ≡ there_of plan (length c.loop-n.all.items) = c.there.ensures ∙ ap (there_of plan) (sym c.loop-n.invariant.len) in
    let here = subst (λ (t : List Bool). Refuses (snap_node t slot) c.loop-n.from fault) there c.in_err-node.ensures.value in
    let refused = refuses_all (node_after plan slot) (length plan.nodes) c.loop-n.n c.loop-n.all.items c.loop-n.from c.args.from.now c.loop-n.invariant.so_far fault lt here in
    rw (p.1, p.2) refused

pub loop-n-preserved : goal.loop-n-preserved
loop-n-preserved c =
    let plan = c.args.plan.now in
    let slot = c.args.slot in
    let node = c.in_ok-node.node in
    let items = c.in_ok-push.ensures.items in
    let lt = subst (λ (ns : List NodePlan). c.loop-n.n < length ns) c.nodes-count.ensures.value c.loop-n-test.true in
    let there : c.there.result ≡ there_of plan (length c.loop-n.all.items) = c.there.ensures ∙ ap (there_of plan) (sym c.loop-n.invariant.len) in
    let here = subst (λ (t : List Bool). (snap_node t slot).read c.loop-n.from ≡ Ok (node, c.read_node.new.from)) there c.in_ok-node.ensures.value in
    record {
      len = rw items (omega (arith, length_push c.loop-n.all.items node, c.loop-n.invariant.len));
      so_far = rw items (reads_on (node_after plan slot) (length plan.nodes) c.loop-n.n c.loop-n.all.items c.loop-n.from c.args.from.now c.loop-n.invariant.so_far node c.read_node.new.from lt here);
    }

pub returns-clause-value : goal.returns-clause-value
returns-clause-value c =
    let plan = c.args.plan.now in
    let le = subst (λ (ns : List NodePlan). length ns ≤ c.loop-n.n) c.nodes-count.ensures.value c.loop-n-test.false in
    reads_all (node_after plan c.args.slot) (length plan.nodes) c.loop-n.n c.loop-n.all.items c.loop-n.from c.args.from.now c.loop-n.invariant.so_far le
