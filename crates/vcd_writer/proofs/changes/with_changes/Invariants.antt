use Rattle.std.proofs.Common.{◌≡◌, ◌-◌, ◌≤◌}
use Rattle.serial_model.specs.Serial.{serial, begun_at_start}
use Rattle.wave_model.specs.Runs.{changes_before}
use Rattle.vcd_writer.specs.Tells.{Tells, levels_of}
use Rattle.vcd_writer.proofs.changes.with_changes.Given as goal

abbrev pub invariant-loop-slot : goal.invariant-loop-slot
invariant-loop-slot l = record {
  plan : l.machine.plan ≡ l.plan;
  start : l.machine.begun ≡ begun_at_start l.plan;
  run : l.machine.now ≡ l.slot;
  within : l.slot ≤ l.limit;
  seen : l.seen.items ≡ levels_of (serial l.plan l.slot).nodes;
  tells : Tells (record { text = l.fn.text; slot = 0 }) l.out (changes_before l.plan l.slot);
}

abbrev pub decreases-loop-slot : goal.decreases-loop-slot
decreases-loop-slot l = l.limit - l.slot
