use Rattle.std.proofs.Common.{◌≡◌, ◌-◌, [], length, take}
use Rattle.byte_forms.specs.Forms.{read_chain}
use Rattle.state_forms.specs.Rest.{level_after}
use Rattle.state_forms.proofs.node_rest.read_levels.Given as goal

abbrev pub invariant-loop-port : goal.invariant-loop-port
invariant-loop-port l =
    record {
      len : length l.places ≡ 29;
      so_far : read_chain level_after (29 - l.port) (take l.port l.places) l.from ≡ read_chain level_after 29 [] l.fn.from;
    }
