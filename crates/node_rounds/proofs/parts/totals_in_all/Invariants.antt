use Rattle.std.proofs.Common.{◌≡◌, map, take}
use Rattle.node_rounds.specs.Parts.{sent_by}
use Rattle.node_rounds.proofs.parts.totals_in_all.Given as goal

abbrev pub invariant-loop-lane : goal.invariant-loop-lane
invariant-loop-lane l = l.totals.items ≡ map sent_by (take l.lane-index l.lanes)
