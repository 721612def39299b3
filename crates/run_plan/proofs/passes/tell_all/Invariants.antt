use Rattle.std.specs.List.{AllByRecursion, AllZip}
use Rattle.std.proofs.Common.{◌+◌}
use Rattle.sys_plan.specs.Plan.{AreDistinct}
use Rattle.run_plan.specs.Wires.{HasCome, targets}
use Rattle.run_plan.specs.Passes.{Through, SameButCome, cores_of, levels_of}
use Rattle.run_plan.proofs.Told.{GoesBy}
use Rattle.run_plan.proofs.passes.tell_all.Given as goal

abbrev pub invariant-loop-wire : goal.invariant-loop-wire
invariant-loop-wire l = record {
  through : Through (GoesBy l.slot (cores_of l.initial.stations)) l.wire-index l.initial.wires l.wires;
  same : AllZip (SameButCome (l.slot + 1)) l.initial.stations l.stations;
  apart : AreDistinct (targets l.wires);
  come : AllByRecursion (HasCome (levels_of l.stations)) l.wires;
}
