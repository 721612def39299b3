use Rattle.std.proofs.Common.{All}
use Rattle.core_workers.specs.Worker.{IsOpen}
use Rattle.worker_runs.proofs.turns.takes.Given as goal

abbrev pub invariant-loop-want : goal.invariant-loop-want
invariant-loop-want l = All IsOpen l.worker.ends.outgoing.items
