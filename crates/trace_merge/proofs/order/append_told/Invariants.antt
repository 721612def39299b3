use Rattle.std.proofs.Common.{◌≡◌, ◌++◌, take}
use Rattle.trace_model.specs.EventOrder.{told_at}
use Rattle.trace_merge.proofs.order.append_told.Given as goal

abbrev pub invariant-loop-e : goal.invariant-loop-e
invariant-loop-e l = l.all.items ≡ l.initial.all.items ++ told_at l.k (take l.e-index l.events)
