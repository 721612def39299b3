use Rattle.std.proofs.Common.{◌-◌, length, take}
use Rattle.trace_lines.specs.Kept.{Keeps, HasRoom}
use Rattle.snap_run.proofs.room.kept_again.Given as goal

abbrev pub invariant-loop-e : goal.invariant-loop-e
invariant-loop-e l = record {
  keeps : Keeps l.kept (take l.e-index l.events);
  room : HasRoom (length l.events - l.e-index) l.kept;
}
