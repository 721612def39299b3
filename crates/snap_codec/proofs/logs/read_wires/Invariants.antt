use Rattle.std.proofs.Common.{◌≡◌, ◌-◌, [], length, map}
use Rattle.snap_parts.specs.Parts.{seen}
use Rattle.byte_forms.specs.Forms.{read_chain}
use Rattle.snap_codec.specs.Body.{wire_after}
use Rattle.snap_codec.proofs.logs.read_wires.Given as goal

abbrev pub invariant-loop-wire : goal.invariant-loop-wire
invariant-loop-wire l =
    record {
      len : length (map seen l.logs.items) ≡ l.wire-index;
      so_far : read_chain (wire_after l.plan l.slot) (length l.plan.wires - l.wire-index) (map seen l.logs.items) l.from
          ≡ read_chain (wire_after l.plan l.slot) (length l.plan.wires) [] l.fn.from;
    }
