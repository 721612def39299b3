use Rattle.std.proofs.Common.{ℕ, ◌≡◌, ◌+◌, Some, List, [], ◌++◌, map, length, drop, refl, sym, ap, ◌∙◌, subst, Vec, Global}
use Rattle.std.specs.Prelude.{slice_get, slice_index_or}
use Rattle.std.proofs.lemmas.List.{append-nil, drop_all}
use Rattle.std.proofs.lemmas.Option.{slice_get_read}
use Rattle.trace_model.specs.Trace.{by_position}
use Rattle.sys_plan.specs.declared.NodePlan.{NodePlan}
use Rattle.sys_plan.specs.Plan.{PlanRec}
use Rattle.profile_model.specs.Profile.{node_text}
use Rattle.run_counts.specs.declared.nodes.NodeCounts.{NodeCounts}
use Rattle.run_counts.specs.Counted.{IsCounted, AreCounted}
use Rattle.profile_text.specs.Counted.{node_by}
use Rattle.profile_text.proofs.Same.{node-counted}
use Rattle.profile_text.proofs.Walk.{one-more}
use Rattle.profile_text.proofs.nodes.append_nodes.Goals as goal

-- the counters of the node at a position
its-counts : (plan : PlanRec) (slots : ℕ) (all : List NodeCounts) (nodes : List NodePlan) (n : ℕ) (node : NodePlan) (counts : NodeCounts) → AreCounted plan slots all
    → nodes ≡ plan.nodes → slice_get nodes n ≡ Some node → counts ≡ slice_index_or all n counts → IsCounted plan slots n node counts
its-counts plan slots all nodes n node counts counted same here is =
    subst (IsCounted plan slots n node) (sym is) (counted.each n node counts (subst (λ (these : List NodePlan). slice_get these n ≡ Some node) same here))

pub append_node-requires : goal.append_node-requires
append_node-requires c =
    let a = c.args in
    let nodes = c.nodes-nodes.result.now in
    let n = c.loop-n.n in
    let node = c.index-nodes-n.result in
    let here = slice_get_read nodes (length nodes) n node refl c.loop-n-test.true c.index-nodes-n.is in
    let counted = its-counts a.plan.now a.slots a.counts.now nodes n node c.index-counts-n.result c.requires.counted c.nodes-nodes.ensures.value here c.index-counts-n.is in
    record { places = counted.places.places }

pub loop-n-preserved : goal.loop-n-preserved
loop-n-preserved c =
    let a = c.args in
    let plan = a.plan.now in
    let nodes = c.nodes-nodes.result.now in
    let n = c.loop-n.n in
    let node = c.index-nodes-n.result in
    let counts = c.index-counts-n.result in
    let numbers = map (λ (numbers : Vec ℕ Global). numbers.items) a.lines.now in
    let piece : ℕ → NodePlan → List ℕ = λ m its. node_text plan (slice_index_or numbers m []) a.slots m its in
    let here = slice_get_read nodes (length nodes) n node refl c.loop-n-test.true c.index-nodes-n.is in
    let counted = its-counts plan a.slots a.counts.now nodes n node counts c.requires.counted c.nodes-nodes.ensures.value here c.index-counts-n.is in
    let written : node_by node c.lines_of.result.now a.slots counts ≡ piece n node =
    ap (λ (lines : List ℕ). node_by node lines a.slots counts) c.lines_of.ensures ∙ node-counted plan (slice_index_or numbers n []) a.slots n node counts counted in
    ap (λ (text : List ℕ). text ++ by_position piece (n + 1) (drop (n + 1) nodes)) (c.in_ok-append_node.ensures ∙ ap (λ (text : List ℕ). c.loop-n.out ++ text) written)
    ∙ one-more piece nodes n node c.loop-n.out here ∙ c.loop-n.invariant

pub returns : goal.returns
unfolding by_position
returns c =
    let a = c.args in
    let nodes = c.nodes-nodes.result.now in
    let numbers = map (λ (numbers : Vec ℕ Global). numbers.items) a.lines.now in
    let piece : ℕ → NodePlan → List ℕ = λ m its. node_text a.plan.now (slice_index_or numbers m []) a.slots m its in
    sym (append-nil c.loop-n.out) ∙ ap (λ (rest : List NodePlan). c.loop-n.out ++ by_position piece c.loop-n.n rest) (sym (drop_all c.loop-n.n nodes c.loop-n-test.false))
    ∙ c.loop-n.invariant ∙ ap (λ (all : List NodePlan). a.out.now ++ by_position piece 0 all) c.nodes-nodes.ensures.value
