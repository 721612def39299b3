use Rattle.node_runners.proofs.Told.{SameWires, LevelRoomBelow}
use Rattle.node_runners.proofs.wire_outlets.make_level_room.Given as goal

abbrev pub invariant-loop-wire : goal.invariant-loop-wire
invariant-loop-wire l = record { same : SameWires l.initial.wires l.wires; room : LevelRoomBelow l.wire-index l.wires }
