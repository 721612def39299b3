use Rattle.std.proofs.Common.{◌≡◌, drop}
use Rattle.core_step.specs.Told.{has_trap}
use Rattle.core_step.proofs.told.has_trap.Given as goal

abbrev pub invariant-loop-e : goal.invariant-loop-e
invariant-loop-e l = has_trap (drop l.e-index l.events) ≡ has_trap l.events
