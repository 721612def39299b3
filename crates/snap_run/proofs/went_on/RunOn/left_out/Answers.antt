use Rattle.std.proofs.Common.{◌≡◌, ◌<◌, ◌-◌, List, [], length, get_or, sym, ap, ◌∙◌, subst, arith}
use Rattle.run_plan.proofs.Through.{all-at}
use Rattle.run_plan.specs.Machine.{system_of}
use Rattle.snap_parts.specs.declared.node.SnapNode.{SnapNode}
use Rattle.snap_model.specs.Rest.{room_of}
use Rattle.snap_run.specs.RunsOn.{RunOnRec, end_of_run}
use Rattle.snap_run.proofs.Bounds.{FewMore, body_few}
use Rattle.snap_run.proofs.Rests.{nodes_many, told_more}
use Rattle.snap_run.proofs.went_on.RunOn.left_out.Goals as goal

pub bounds-nodes-node : goal.bounds-nodes-node
bounds-nodes-node c =
    omega (
      arith,
      ap length c.nodes-nodes.ensures.value,
      nodes_many c.self.inside.machine c.self.inside.snap.now c.self.invariant,
      ap (λ (r : RunOnRec). length r.plan.nodes) c.self.view_is,
      c.requires.node,
    )

pub past_room-requires-clause-few : goal.past_room-requires-clause-few
past_room-requires-clause-few c = omega (arith, c.events.ensures.few, c.self.invariant.few)

pub overflow_add-result : goal.overflow_add-result
overflow_add-result c =
    let m = c.self.inside.machine in
    let snap = c.self.inside.snap.now in
    let n = c.args.node in
    let node = c.index-nodes-node.result in
    let inside : n < length snap.body.nodes = omega (arith, nodes_many m snap c.self.invariant, ap (λ (r : RunOnRec). length r.plan.nodes) c.self.view_is, c.requires.node) in
    let here : get_or snap.body.nodes n node ≡ node = ap (λ (nodes : List SnapNode). get_or nodes n node) (sym c.nodes-nodes.ensures.value) ∙ sym c.index-nodes-node.is in
    omega (arith, subst FewMore here (all-at FewMore snap.body.nodes n node (body_few m.plan snap.body c.self.invariant.is.body).nodes inside), c.past_room.ensures.bound)

pub returns : goal.returns
returns c =
    let m = c.self.inside.machine in
    let snap = c.self.inside.snap.now in
    let n = c.args.node in
    let node = c.index-nodes-node.result in
    let inside : n < length m.plan.nodes = omega (arith, ap (λ (r : RunOnRec). length r.plan.nodes) c.self.view_is, c.requires.node) in
    let here : get_or snap.body.nodes n node ≡ node = ap (λ (nodes : List SnapNode). get_or nodes n node) (sym c.nodes-nodes.ensures.value) ∙ sym c.index-nodes-node.is in
    let events = get_or (system_of m).events n [] in
    let past : c.past_room.result ≡ length events - room_of node = c.past_room.ensures.value events c.events.ensures.keeps ∙ ap (λ room. length events - room) c.room_of.ensures.value in
    record { value = told_more m snap c.self.invariant n c.past_room.result node inside here past ∙ ap (λ (r : RunOnRec). get_or (end_of_run r).more n 0) c.self.view_is }
