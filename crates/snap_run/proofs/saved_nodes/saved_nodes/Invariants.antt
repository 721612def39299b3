use Rattle.std.proofs.Common.{◌≡◌, take}
use Rattle.serial_model.specs.Serial.{serial}
use Rattle.snap_model.specs.Saved.{saved_nodes}
use Rattle.snap_run.proofs.saved_nodes.saved_nodes.Given as goal

abbrev pub invariant-loop-n : goal.invariant-loop-n
invariant-loop-n l = record {
  saved : l.nodes.items ≡ saved_nodes (take l.n (serial l.plan l.machine.now).nodes) (take l.n (serial l.plan l.machine.now).events);
}
