use Rattle.event_unit.proofs.Disabled.{AreDisabledBelow}
use Rattle.event_unit.proofs.group.Group.disable.Given as goal

abbrev pub invariant-loop-n : goal.invariant-loop-n
invariant-loop-n g l = AreDisabledBelow l.n l.mask l.fn.self l.self
