use Rattle.std.proofs.Common.{◌≡◌, length}
use Rattle.told_run.specs.Kept.{AreWithin}
use Rattle.told_run.proofs.run.told_of.Given as goal

abbrev pub invariant-loop : goal.invariant-loop
invariant-loop l = record { count : length l.all.items ≡ l.counter; within : AreWithin l.all.items }
