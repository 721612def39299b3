use Rattle.std.proofs.Common.{◌≡◌, take}
use Rattle.arrayvec.specs.ArrayVec.{array_vec_len}
use Rattle.serial_model.specs.Serial.{serial}
use Rattle.vcd_writer.specs.Tells.{levels_of}
use Rattle.vcd_writer.proofs.changes.all_levels.Given as goal

abbrev pub invariant-loop-node : goal.invariant-loop-node
invariant-loop-node l = record {
  count : array_vec_len l.all ≡ l.node;
  levels : l.all.items ≡ take l.node (levels_of (serial l.plan l.machine.now).nodes);
}
