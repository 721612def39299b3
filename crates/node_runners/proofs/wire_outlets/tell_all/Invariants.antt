use Rattle.node_runners.proofs.Told.{ToldBelow, SameWiresFrom}
use Rattle.node_runners.proofs.wire_outlets.tell_all.Given as goal

abbrev pub invariant-loop-wire : goal.invariant-loop-wire
invariant-loop-wire l = record {
  told : ToldBelow l.slot l.seat.core.core l.wire-index l.initial.wires l.wires;
  rest : SameWiresFrom l.wire-index l.initial.wires l.wires;
}
