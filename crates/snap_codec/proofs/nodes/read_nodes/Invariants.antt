use Rattle.std.proofs.Common.{◌≡◌, ◌-◌, [], length}
use Rattle.byte_forms.specs.Forms.{read_chain}
use Rattle.snap_codec.specs.Body.{node_after}
use Rattle.snap_codec.proofs.nodes.read_nodes.Given as goal

abbrev pub invariant-loop-n : goal.invariant-loop-n
invariant-loop-n l =
    record {
      len : length l.all.items ≡ l.n;
      so_far : read_chain (node_after l.plan l.slot) (length l.plan.nodes - l.n) l.all.items l.from ≡ read_chain (node_after l.plan l.slot) (length l.plan.nodes) [] l.fn.from;
    }
