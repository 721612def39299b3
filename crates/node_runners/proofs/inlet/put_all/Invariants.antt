use Rattle.std.proofs.Common.{◌≡◌, ◌+◌, ◌-◌, ◌≤◌, ◌++◌, length, take}
use Rattle.std.specs.VecDeque.{deque_len, deque_capacity}
use Rattle.node_runners.proofs.inlet.put_all.Given as goal

abbrev pub invariant-loop-e : goal.invariant-loop-e
invariant-loop-e l = record {
  items : l.queue.items ≡ l.initial.queue.items ++ take l.e-index l.entries;
  room : deque_len l.queue + (length l.entries - l.e-index) ≤ deque_capacity l.queue;
}
