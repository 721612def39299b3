use Rattle.core_step.proofs.Shown.{AreShownBelow, driven_at}
use Rattle.core_step.proofs.pin_levels.shown_with.Given as goal

-- the pins of the ports below p show what these drive
abbrev pub invariant-loop-p : goal.invariant-loop-p
invariant-loop-p l = AreShownBelow l.p (driven_at l.ports) l.outside l.levels
