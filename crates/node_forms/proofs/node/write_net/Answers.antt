use Rattle.std.proofs.Common.{[]}
use Rattle.byte_forms.specs.Forms.{option_below, word}
use Rattle.switch_forms.specs.Inputs.{inputs}
use Rattle.switch_forms.specs.Ends.{link_ends}
use Rattle.state_forms.specs.Rest.{division, levels, memory}
use Rattle.node_forms.specs.Nodes.{net_fields}
use Rattle.node_forms.proofs.Written.{on_ok, five}
use Rattle.node_forms.proofs.node.write_net.Goals as goal

pub returns : goal.returns
unfolding net_fields
returns c =
    let s = c.args.state.now in
    on_ok c.write_memory.result
    (λ e used there slot. five c.args.out.now ((inputs used there).write s.inputs) ((link_ends there slot).write s.ends) ((division slot).write s.division) (levels.write s.levels) (memory.write s.memory)
    c.write_inputs.new.out c.write_link_ends.new.out c.write_division.new.out c.write_levels.new.out c.write_memory.new.out
    (c.in_ok-write_inputs.ensures.value used there) (c.in_ok-write_link_ends.ensures.value there slot) (c.in_ok-write_division.ensures.value slot) c.in_ok-write_levels.ensures.value e)
    c.write_memory.ensures.value
