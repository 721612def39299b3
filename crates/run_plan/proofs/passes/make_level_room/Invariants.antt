use Rattle.run_plan.specs.Passes.{Through, MakesLevelRoom}
use Rattle.run_plan.proofs.passes.make_level_room.Given as goal

abbrev pub invariant-loop-wire : goal.invariant-loop-wire
invariant-loop-wire l = record { through : Through MakesLevelRoom l.wire-index l.initial.wires l.wires }
