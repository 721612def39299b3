use Rattle.node_runners.proofs.Batches.{PutBelow, SameFrom}
use Rattle.node_runners.proofs.outlet.put_all.Given as goal

abbrev pub invariant-loop-end : goal.invariant-loop-end
invariant-loop-end l = record { puts : PutBelow l.slot l.given l.end l.batches l.initial.batches; rest : SameFrom l.end l.batches l.initial.batches }
