use Rattle.std.proofs.Common.{take}
use Rattle.core_workers.specs.Worker.{shut_links}
use Rattle.core_workers.specs.Steps.{IsLeastOf}
use Rattle.core_workers.proofs.least.least_shut.Given as goal

abbrev pub invariant-loop-reader : goal.invariant-loop-reader
invariant-loop-reader l = IsLeastOf l.least (shut_links (take l.reader-index l.readers))
