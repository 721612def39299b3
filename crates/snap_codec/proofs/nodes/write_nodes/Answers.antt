use Rattle.std.proofs.Common.{[], ◌++◌, length, take}
use Rattle.std.proofs.lemmas.List.{drop_all}
use Rattle.byte_forms.specs.Forms.{write_chain}
use Rattle.byte_forms.proofs.Lists.{writes_all}
use Rattle.snap_codec.specs.Body.{there_of, node_after}
use Rattle.snap_codec.proofs.Written.{node_more}
use Rattle.snap_codec.proofs.nodes.write_nodes.Goals as goal

pub loop-node-preserved : goal.loop-node-preserved
loop-node-preserved c = λ plan slot.
    let all = c.args.all.now in
    let i = c.loop-node.node-index in
    node_more (node_after plan slot) c.loop-node.out c.write_node.new.out all i c.node-item.result (c.args.out.now ++ write_chain (node_after plan slot) [] all)
    c.loop-node-test.true c.node-item.is (c.in_ok-write_node.ensures.value (there_of plan (length (take i all))) slot) (c.loop-node.invariant plan slot)

pub returns : goal.returns
returns c = record {
  value = λ plan slot.
      let all = c.args.all.now in
      let i = c.loop-node.node-index in
      let so_far = rw (drop_all i all c.loop-node-test.false) at (c.loop-node.invariant plan slot) in
      writes_all (node_after plan slot) c.loop-node.out (take i all) (c.args.out.now ++ write_chain (node_after plan slot) [] all) so_far;
}
