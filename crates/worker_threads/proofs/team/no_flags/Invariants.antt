use Rattle.std.proofs.Common.{◌≡◌, length}
use Rattle.worker_threads.proofs.team.no_flags.Given as goal

abbrev pub invariant-loop : goal.invariant-loop
invariant-loop l = length l.flags.items ≡ l.counter
