use Rattle.std.proofs.Common.{ℕ, ◌≡◌, ◌+◌, ◌<◌, Some, List, length, refl, sym, ap, ◌∙◌, subst, arith}
use Rattle.std.specs.Prelude.{slice_get, slice_index_or}
use Rattle.std.proofs.lemmas.List.{length-set}
use Rattle.std.proofs.lemmas.Option.{slice_get_read, slice_get_within, get_or_from_slice_get}
use Rattle.sys_plan.specs.declared.NodePlan.{NodePlan}
use Rattle.run_counts.specs.Counted.{IsCounted}
use Rattle.run_counts.proofs.Each.{one-changed, others-kept}
use Rattle.run_counts.proofs.run.count_slot.Goals as goal

-- the node at the position is the one of the plan
its-node : (all nodes : List NodePlan) (n : ℕ) (node : NodePlan) → all ≡ nodes → n < length nodes → node ≡ slice_index_or nodes n node → slice_get all n ≡ Some node
its-node all nodes n node same within is =
    subst (λ (these : List NodePlan). slice_get these n ≡ Some node) (sym same) (slice_get_read nodes (length nodes) n node refl within is)

pub loop-n-init : goal.loop-n-init
loop-n-init c = record {
  long = refl;
  done = λ m node none h here. absurd (omega (arith, h));
  rest = λ m node none h here. c.requires.before.each m node none here;
}

pub count-requires-clause-tells : goal.count-requires-clause-tells
count-requires-clause-tells c =
    let here = its-node c.args.run.now.plan.nodes c.args.nodes.now c.loop-n.n c.index-nodes-n.result c.requires.nodes c.loop-n-test.true c.index-nodes-n.is in
    record { told = c.requires.told; passed = c.requires.passed; is = here; within = slice_get_within c.args.run.now.plan.nodes c.loop-n.n c.index-nodes-n.result here }

pub count-requires-clause-before : goal.count-requires-clause-before
count-requires-clause-before c =
    c.loop-n.invariant.rest c.loop-n.n c.index-nodes-n.result c.index-all-n.result (omega arith)
    (its-node c.args.run.now.plan.nodes c.args.nodes.now c.loop-n.n c.index-nodes-n.result c.requires.nodes c.loop-n-test.true c.index-nodes-n.is)

pub loop-n-preserved : goal.loop-n-preserved
loop-n-preserved c =
    let a = c.args in
    let plan = a.run.now.plan in
    let n = c.loop-n.n in
    let node = c.index-nodes-n.result in
    let now = c.loop-n.all in
    let new = c.count.new.self in
    let kept = c.loop-n.invariant in
    let here = its-node c.args.run.now.plan.nodes c.args.nodes.now c.loop-n.n c.index-nodes-n.result c.requires.nodes c.loop-n-test.true c.index-nodes-n.is in
    let within : n < length now = omega (arith, kept.long, c.requires.before.long, slice_get_within plan.nodes n node here) in
    record {
      long = length-set now n new ∙ kept.long;
      done =
          one-changed (IsCounted plan (a.slot + 1)) plan.nodes now n new within kept.done
          (λ x at. subst (λ (y : NodePlan). IsCounted plan (a.slot + 1) n y new) (sym (get_or_from_slice_get plan.nodes n node node here) ∙ get_or_from_slice_get plan.nodes n x node at) c.count.ensures.counted);
      rest = others-kept (IsCounted plan a.slot) plan.nodes now n new kept.rest;
    }

pub returns : goal.returns
returns c =
    let kept = c.loop-n.invariant in
    let plan = c.args.run.now.plan in
    let before = c.requires.before in
    let nodes : length plan.nodes ≡ length c.args.nodes.now = ap (λ (all : List NodePlan). length all) c.requires.nodes in
    record {
      counted = record {
        long = kept.long ∙ before.long;
        each = λ m node none here. kept.done m node none (omega (arith, slice_get_within plan.nodes m node here, nodes, c.loop-n-test.false)) here;
      };
    }
