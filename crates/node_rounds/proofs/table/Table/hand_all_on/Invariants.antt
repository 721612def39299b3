use Rattle.std.proofs.Common.{◌≡◌}
use Rattle.node_rounds.proofs.Handing.{HandedTo}
use Rattle.node_rounds.proofs.table.Table.hand_all_on.Given as goal

abbrev pub invariant-loop-link : goal.invariant-loop-link
invariant-loop-link l = record {
  limit : l.self.limit ≡ l.fn.self.limit;
  handed : HandedTo l.plan l.fn.self.limit l.fn.self.seats.items l.fn.self.lanes.items l.link l.self.seats.items l.self.lanes.items;
}
