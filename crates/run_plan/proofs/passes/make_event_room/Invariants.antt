use Rattle.run_plan.specs.Passes.{Through, MakesEventRoom}
use Rattle.run_plan.proofs.passes.make_event_room.Given as goal

abbrev pub invariant-loop-station : goal.invariant-loop-station
invariant-loop-station l = record { through : Through MakesEventRoom l.station-index l.initial.stations l.stations }
