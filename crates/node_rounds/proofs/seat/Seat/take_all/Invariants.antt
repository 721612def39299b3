use Rattle.std.proofs.Common.{◌≡◌, length}
use Rattle.node_rounds.specs.Seats.{MayTake, told}
use Rattle.node_rounds.proofs.seat.Seat.take_all.Given as goal

-- what is left lies ready, and the node is the same once it has taken that
abbrev pub invariant-loop-handed : goal.invariant-loop-handed
invariant-loop-handed l = record {
  ready : MayTake l.self;
  same : told l.self ≡ told l.fn.self;
}

abbrev pub decreases-loop-handed : goal.decreases-loop-handed
decreases-loop-handed l = length l.self.handed.items
