use Rattle.byte_forms.specs.Forms.{word, long}
use Rattle.node_forms.specs.Nodes.{node_state, snap_node}
use Rattle.node_forms.proofs.Written.{on_ok, three}
use Rattle.node_forms.proofs.node.write_node.Goals as goal

pub returns : goal.returns
unfolding snap_node
returns c =
    let n = c.args.node.now in
    record {
      value = on_ok c.write_state.result
          (λ e there slot. three c.args.out.now (word.write n.kept) (long.write n.more) ((node_state there slot).write n.state)
          c.write_word.new.out c.write_long.new.out c.write_state.new.out c.in_ok-write_word.ensures.value c.in_ok-write_long.ensures.value (e there slot))
          c.write_state.ensures;
    }
