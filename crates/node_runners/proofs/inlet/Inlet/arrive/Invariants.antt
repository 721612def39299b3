use Rattle.std.proofs.Common.{◌≡◌, [], drop}
use Rattle.node_runners.proofs.inlet.Inlet.arrive.Given as goal

abbrev pub invariant-loop : goal.invariant-loop
invariant-loop l = record {
  delay : l.self-inside.delay ≡ l.initial.self-inside.delay;
  queue : l.self-inside.queue.items ≡ drop l.counter l.initial.self-inside.queue.items;
  taken : l.self-inside.taken.entries ≡ [];
  spare : l.self-inside.spare.entries ≡ [];
}
