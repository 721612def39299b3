use Rattle.std.proofs.Common.{take}
use Rattle.core_workers.specs.Worker.{unheard_ends}
use Rattle.core_workers.specs.Steps.{IsLeastOf}
use Rattle.core_workers.proofs.least.least_unheard.Given as goal

abbrev pub invariant-loop-reader : goal.invariant-loop-reader
invariant-loop-reader l = IsLeastOf l.least (unheard_ends (take l.reader-index l.readers))
