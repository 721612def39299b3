use Rattle.run_plan.specs.Passes.{Through, MakesEntryRoom}
use Rattle.run_plan.proofs.passes.make_entry_room.Given as goal

abbrev pub invariant-loop-track : goal.invariant-loop-track
invariant-loop-track l = record { through : Through MakesEntryRoom l.track-index l.initial.tracks l.tracks }
