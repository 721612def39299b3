use Rattle.node_forms.specs.Nodes.{core_fields, core_in, enable_fields, enables_in, net_fields, net_in, node_state, used_of}
use Rattle.node_forms.proofs.Written.{on_ok, three}
use Rattle.node_forms.proofs.node.write_state.Goals as goal

pub returns : goal.returns
unfolding node_state
returns c =
    let s = c.args.state.now in
    on_ok c.write_net.result
    (λ e there slot. three c.args.out.now ((core_fields slot).write (core_in s)) (enable_fields.write (enables_in s)) ((net_fields (used_of s.chans) there slot).write (net_in s))
    c.write_core.new.out c.write_all_enables.new.out c.write_net.new.out (c.in_ok-write_core.ensures slot) c.in_ok-write_all_enables.ensures (e (used_of s.chans) there slot))
    c.write_net.ensures
