use Rattle.std.proofs.Common.{ℕ, ◌≡◌, ◌+◌, Some, List, [], ◌∷◌, ◌++◌, length, refl, sym, ap, ◌∙◌, subst, arith}
use Rattle.std.specs.Prelude.{slice_get}
use Rattle.std.proofs.lemmas.List.{length-append}
use Rattle.std.proofs.lemmas.Option.{slice_get_read, slice_get_within, get_or_from_slice_get}
use Rattle.sys_plan.specs.declared.NodePlan.{NodePlan}
use Rattle.run_counts.specs.declared.nodes.NodeCounts.{NodeCounts}
use Rattle.run_counts.specs.Tallies.{IsNothing}
use Rattle.run_counts.proofs.Each.{EachTo, one-pushed}
use Rattle.run_counts.proofs.run.no_counts.Goals as goal

pub loop-node-preserved : goal.loop-node-preserved
loop-node-preserved c =
    let nodes = c.args.nodes.now in
    let n = c.loop-node.node-index in
    let node = c.node-item.result in
    let now = c.loop-node.all.items in
    let new = c.in_ok-new.field-0 in
    let kept = c.loop-node.invariant in
    let here : slice_get nodes n ≡ Some node = slice_get_read nodes (length nodes) n node refl c.loop-node-test.true c.node-item.is in
    let items : now ++ new ∷ [] ≡ c.push.new.self.items = sym c.in_ok-push.ensures.items in
    record {
      long = ap length c.in_ok-push.ensures.items ∙ length-append now (new ∷ []) ∙ ap (λ (k : ℕ). k + 1) kept.long;
      each =
          subst (λ (all : List NodeCounts). EachTo (λ m. IsNothing) nodes all (n + 1)) items
          (one-pushed (λ m. IsNothing) nodes now n new kept.long kept.each
          (λ x at. subst (λ (y : NodePlan). IsNothing y new) (sym (get_or_from_slice_get nodes n node node here) ∙ get_or_from_slice_get nodes n x node at) c.in_ok-new.ensures.none));
    }

pub returns : goal.returns
returns c =
    let nodes = c.args.nodes.now in
    let kept = c.loop-node.invariant in
    record {
      none = record {
        long = omega (arith, kept.long, c.loop-node-test.false, c.loop-node.auto.node-index-end);
        each = λ m node none here. kept.each m node none (omega (arith, slice_get_within nodes m node here, c.loop-node-test.false)) here;
      };
    }
