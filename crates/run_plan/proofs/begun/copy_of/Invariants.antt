use Rattle.std.proofs.Common.{◌≡◌, take}
use Rattle.run_plan.proofs.begun.copy_of.Given as goal

abbrev pub invariant-loop-e : goal.invariant-loop-e
invariant-loop-e l = record { entries : l.batch.entries ≡ take l.e-index l.entries }
