use Rattle.std.specs.List.{AllZip}
use Rattle.run_plan.specs.Passes.{Through, Advances, SameButDue}
use Rattle.run_plan.proofs.passes.advance_all.Given as goal

abbrev pub invariant-loop-track : goal.invariant-loop-track
invariant-loop-track l = record {
  through : Through (Advances l.slot l.initial.stations l.stations) l.track-index l.initial.tracks l.tracks;
  same : AllZip SameButDue l.initial.stations l.stations;
}
