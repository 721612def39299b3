use Rattle.std.proofs.Common.{◌≡◌, ◌+◌, take, drop}
use Rattle.serial_model.specs.Serial.{serial}
use Rattle.wave_model.specs.Runs.{node_changes}
use Rattle.vcd_writer.specs.Tells.{Tells, levels_of}
use Rattle.vcd_writer.proofs.changes.put_slot.Given as goal

abbrev pub invariant-loop-node : goal.invariant-loop-node
invariant-loop-node l =
    let before = (serial l.plan l.slot).nodes in
    let after = (serial l.plan (l.slot + 1)).nodes in
    record {
      tells : Tells l.fn.out l.out (node_changes l.slot 0 (take l.node before) (take l.node after));
      seen : take l.node l.seen ≡ take l.node (levels_of after);
      later : drop l.node l.seen ≡ drop l.node (levels_of before);
    }
