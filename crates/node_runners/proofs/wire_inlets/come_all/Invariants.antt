use Rattle.std.proofs.Common.{◌≡◌, ◌++◌, map, take, drop}
use Rattle.node_runners.specs.Wires.{wire_after}
use Rattle.node_runners.proofs.Levels.{AllComeBelow}
use Rattle.node_runners.proofs.wire_inlets.come_all.Given as goal

abbrev pub invariant-loop-wire : goal.invariant-loop-wire
invariant-loop-wire l = record {
  left : l.wires ≡ map (wire_after l.slot) (take l.wire-index l.initial.wires) ++ drop l.wire-index l.initial.wires;
  below : AllComeBelow l.slot l.initial.wires l.initial.pins l.wire-index l.pins;
}
