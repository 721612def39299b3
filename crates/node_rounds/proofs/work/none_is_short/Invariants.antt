use Rattle.std.specs.List.{AllWithin}
use Rattle.node_rounds.specs.Seats.{IsNotShort}
use Rattle.node_rounds.proofs.work.none_is_short.Given as goal

-- none so far is short
abbrev pub invariant-loop-seat : goal.invariant-loop-seat
invariant-loop-seat l = AllWithin IsNotShort l.seats 0 l.seat-index
