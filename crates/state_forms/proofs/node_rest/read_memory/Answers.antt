use Rattle.std.proofs.Common.{◌∙◌, arith}
use Rattle.state_forms.specs.Rest.{memory}
use Rattle.state_forms.proofs.Rest.{length_read, fills}
use Rattle.state_forms.proofs.node_rest.read_memory.Goals as goal

pub new-requires : goal.new-requires
new-requires c = omega (arith, length_read 65536 c.args.from.now c.in_ok-bytes.bytes.now c.read_bytes.new.self c.in_ok-bytes.ensures.value)

pub returns : goal.returns
unfolding memory
returns c =
    let len = length_read 65536 c.args.from.now c.in_ok-bytes.bytes.now c.read_bytes.new.self c.in_ok-bytes.ensures.value in
    let same = c.in_ok-new.ensures.image ∙ fills c.in_ok-bytes.bytes.now len in
    rw same (record { value = c.in_ok-bytes.ensures.value })
