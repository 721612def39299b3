use Rattle.core_step.proofs.Shown.{AreShownBelow, driven_by}
use Rattle.core_step.proofs.pin_levels.driven_over.Given as goal

-- the pins of the ports below p show what these drive
abbrev pub invariant-loop-p : goal.invariant-loop-p
invariant-loop-p l = AreShownBelow l.p (driven_by l.units.ports) l.outside l.levels
