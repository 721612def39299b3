use Rattle.std.proofs.Common.{◌≡◌, map, take}
use Rattle.sys_plan.specs.Plan.{arcs}
use Rattle.serial_model.specs.Serial.{serial}
use Rattle.snap_parts.specs.Parts.{seen}
use Rattle.snap_model.specs.Saved.{saved_logs}
use Rattle.snap_run.proofs.saved_logs.saved_logs.Given as goal

abbrev pub invariant-loop-k : goal.invariant-loop-k
invariant-loop-k l = record {
  saved : map seen l.logs.items ≡ saved_logs l.machine.now (take l.k (arcs l.plan)) (take l.k (serial l.plan l.machine.now).histories);
}
