use Rattle.std.proofs.Common.{take}
use Rattle.core_workers.specs.Worker.{untold_ends}
use Rattle.core_workers.specs.Steps.{IsLeastOf}
use Rattle.core_workers.proofs.least.least_untold.Given as goal

abbrev pub invariant-loop-writer : goal.invariant-loop-writer
invariant-loop-writer l = IsLeastOf l.least (untold_ends l.slot (take l.writer-index l.writers))
