use Rattle.event_unit.proofs.States.{AreMadeBelow}
use Rattle.event_unit.proofs.group.Group.of_state.Given as goal

abbrev pub invariant-loop-n : goal.invariant-loop-n
invariant-loop-n g l = AreMadeBelow l.n l.states l.group
