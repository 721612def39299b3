use Rattle.std.proofs.Common.{◌≡◌, map}
use Rattle.std.specs.Prelude.{All}
use Rattle.node_rounds.specs.declared.seat.Seat.{Seat}
use Rattle.node_rounds.specs.Sends.{IsFreshSeat}
use Rattle.node_rounds.proofs.table.seats_of.Given as goal

abbrev pub invariant-loop-runner : goal.invariant-loop-runner
invariant-loop-runner l = record {
  runners : map (λ (seat : Seat). seat.runner) l.seats.items ≡ l.yielded;
  fresh : All IsFreshSeat l.seats.items;
}
