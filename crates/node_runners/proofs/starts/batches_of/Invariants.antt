use Rattle.std.proofs.Common.{ℕ, ◌≡◌, [], length}
use Rattle.node_runners.specs.Sent.{batch_at}
use Rattle.node_runners.proofs.starts.batches_of.Given as goal

abbrev pub invariant-loop : goal.invariant-loop
invariant-loop l = record {
  count : length l.batches.items ≡ l.counter;
  empty : (end : ℕ) → (batch_at l.batches.items end).entries ≡ [];
}
