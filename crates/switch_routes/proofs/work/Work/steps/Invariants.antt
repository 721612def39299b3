use Rattle.std.proofs.Common.{ℕ}
use Rattle.switch_routes.proofs.Walk.{Walked}
use Rattle.switch_routes.proofs.work.Work.steps.Given as goal

abbrev pub invariant-loop-left : goal.invariant-loop-left
invariant-loop-left l = (p : ℕ) × Walked p l.left l.fn.self l.self

abbrev pub decreases-loop-left : goal.decreases-loop-left
decreases-loop-left l = l.left
