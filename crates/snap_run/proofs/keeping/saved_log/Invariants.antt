use Rattle.std.proofs.Common.{◌≡◌, ◌+◌, ◌≤◌, take}
use Rattle.sys_plan.specs.Plan.{Arc}
use Rattle.snap_parts.specs.Parts.{seen}
use Rattle.snap_model.specs.Saved.{saved_log}
use Rattle.snap_run.specs.Keeping.{is_wire}
use Rattle.snap_run.proofs.keeping.saved_log.Given as goal

abbrev pub invariant-loop-e : goal.invariant-loop-e
invariant-loop-e l = record {
  saved : (d : Arc) → d.delay ≡ l.delay → is_wire d.joins ≡ l.wire → seen l.log ≡ saved_log l.slot d (take l.e-index l.history);
  few : l.log.totals.0 + l.log.totals.1 ≤ l.e-index;
}
