use Rattle.std.proofs.Common.{take}
use Rattle.core_workers.specs.Steps.{IsLeastStop}
use Rattle.core_workers.proofs.least.least_stop.Given as goal

abbrev pub invariant-loop-reader : goal.invariant-loop-reader
invariant-loop-reader l = IsLeastStop l.plan l.clock (take l.reader-index l.readers) l.least
