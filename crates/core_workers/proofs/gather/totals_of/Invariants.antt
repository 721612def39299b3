use Rattle.std.proofs.Common.{◌≡◌, map}
use Rattle.core_workers.specs.Gathered.{sent_in}
use Rattle.core_workers.proofs.gather.totals_of.Given as goal

abbrev pub invariant-loop-log : goal.invariant-loop-log
invariant-loop-log l = l.totals.items ≡ map sent_in l.yielded
