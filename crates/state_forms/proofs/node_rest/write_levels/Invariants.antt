use Rattle.std.proofs.Common.{◌≡◌, ◌++◌, [], take, drop}
use Rattle.byte_forms.specs.Forms.{write_chain}
use Rattle.state_forms.specs.Rest.{level_after}
use Rattle.state_forms.proofs.node_rest.write_levels.Given as goal

abbrev pub invariant-loop-level : goal.invariant-loop-level
invariant-loop-level l =
    l.out ++ write_chain level_after (take l.level-index l.ports) (drop l.level-index l.ports) ≡ l.fn.out ++ write_chain level_after [] l.ports
