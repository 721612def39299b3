use Rattle.std.specs.List.{AllByRecursion, AllZip}
use Rattle.std.proofs.Common.{take}
use Rattle.run_plan.specs.Wires.{HasCome}
use Rattle.run_plan.specs.Passes.{SameButCome, levels_of}
use Rattle.run_plan.proofs.begun.show_all.Given as goal

abbrev pub invariant-loop-wire : goal.invariant-loop-wire
invariant-loop-wire l = record {
  come : AllByRecursion (HasCome (levels_of l.stations)) (take l.wire-index l.wires);
  same : AllZip (SameButCome l.slot) l.initial.stations l.stations;
}
