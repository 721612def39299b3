use Rattle.std.specs.List.{All}
use Rattle.core_workers.specs.Worker.{IsOpen}
use Rattle.core_workers.specs.Run.{Keeps}
use Rattle.core_workers.proofs.Turns.{HasTaken}
use Rattle.core_workers.proofs.worker.Worker.run.Given as goal

abbrev pub invariant-loop : goal.invariant-loop
invariant-loop g l = record {
  keeps : Keeps l.initial.self l.self;
  still_open : All IsOpen l.self.ends.outgoing.items;
  taken : HasTaken l.initial.self l.self;
}
