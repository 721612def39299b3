use Rattle.std.specs.List.{AllWithin}
use Rattle.node_rounds.proofs.Clocks.{IsAtSlot}
use Rattle.node_rounds.proofs.table.Table.is_at_limit.Given as goal

-- each node so far is at the limit
abbrev pub invariant-loop-seat : goal.invariant-loop-seat
invariant-loop-seat l = AllWithin (IsAtSlot l.self.limit) l.self.seats.items 0 l.seat-index
