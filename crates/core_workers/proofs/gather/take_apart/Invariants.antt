use Rattle.std.proofs.Common.{◌≡◌, map}
use Rattle.std.specs.List.{AllByRecursion}
use Rattle.core_workers.specs.Worker.{IsWorker}
use Rattle.core_workers.proofs.Gathering.{runner_of, ends_of}
use Rattle.core_workers.proofs.gather.take_apart.Given as goal

abbrev pub invariant-loop-part : goal.invariant-loop-part
invariant-loop-part l = record {
  runners : l.runners.items ≡ map runner_of l.yielded;
  ends : l.ends.items ≡ map ends_of l.yielded;
  workers : AllByRecursion IsWorker l.yielded;
}
