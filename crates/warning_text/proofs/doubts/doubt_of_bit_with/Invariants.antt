use Rattle.std.proofs.Common.{◌≡◌, drop}
use Rattle.warning_model.specs.Ways.{doubt_of_bit_with}
use Rattle.warning_text.proofs.doubts.doubt_of_bit_with.Given as goal

abbrev pub invariant-loop-node : goal.invariant-loop-node
invariant-loop-node l = doubt_of_bit_with l.nodes l.number l.bit (drop l.node-index l.nodes) ≡ doubt_of_bit_with l.nodes l.number l.bit l.nodes
