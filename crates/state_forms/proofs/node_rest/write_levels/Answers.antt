use Rattle.std.proofs.Common.{◌+◌, [], ◌++◌, get_or, take, drop, arith}
use Rattle.std.proofs.lemmas.List.{take_more, drop_more, drop_all}
use Rattle.byte_forms.specs.Forms.{write_chain}
use Rattle.byte_forms.proofs.Lists.{writes_on, writes_all}
use Rattle.state_forms.specs.Rest.{level_after, levels}
use Rattle.state_forms.proofs.node_rest.write_levels.Goals as goal

pub loop-level-preserved : goal.loop-level-preserved
loop-level-preserved c =
    let i = c.loop-level.level-index in
    let ports = c.args.ports.now in
    let level = get_or ports i 0 in
    let so_far = rw (drop_more ports i 0 (omega arith)) at c.loop-level.invariant in
    rw (c.in_ok-write_word.ensures.value, take_more ports i 0 (omega arith))
    (writes_on level_after c.loop-level.out (take i ports) level (drop (i + 1) ports) (c.args.out.now ++ write_chain level_after [] ports) so_far)

pub returns : goal.returns
unfolding levels
returns c =
    let i = c.loop-level.level-index in
    let ports = c.args.ports.now in
    let so_far = rw (drop_all i ports (omega arith)) at c.loop-level.invariant in
    record { value = writes_all level_after c.loop-level.out (take i ports) (c.args.out.now ++ write_chain level_after [] ports) so_far }
