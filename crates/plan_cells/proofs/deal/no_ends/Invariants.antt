use Rattle.std.proofs.Common.{◌≡◌, [], replicate}
use Rattle.plan_cells.specs.Inside.{outgoing_of, incoming_of}
use Rattle.plan_cells.proofs.deal.no_ends.Given as goal

abbrev pub invariant-loop : goal.invariant-loop
invariant-loop l = record {
  outgoing : outgoing_of l.all.items ≡ replicate l.counter [];
  incoming : incoming_of l.all.items ≡ replicate l.counter [];
}
