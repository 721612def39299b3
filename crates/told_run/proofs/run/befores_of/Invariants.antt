use Rattle.std.proofs.Common.{◌≡◌, length}
use Rattle.told_run.proofs.run.befores_of.Given as goal

abbrev pub invariant-loop : goal.invariant-loop
invariant-loop l = length l.befores.items ≡ l.counter
