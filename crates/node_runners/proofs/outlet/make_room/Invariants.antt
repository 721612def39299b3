use Rattle.node_runners.proofs.Batches.{SameEntries, RoomBelow}
use Rattle.node_runners.proofs.outlet.make_room.Given as goal

abbrev pub invariant-loop-batch : goal.invariant-loop-batch
invariant-loop-batch l = record { same : SameEntries l.batches l.initial.batches; room : RoomBelow l.batch-index l.batches }
