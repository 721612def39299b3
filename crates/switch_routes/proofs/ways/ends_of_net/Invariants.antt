use Rattle.std.proofs.Common.{◌≡◌, drop}
use Rattle.net_model.specs.Ways.{ends_of_net}
use Rattle.switch_routes.proofs.ways.ends_of_net.Given as goal

-- those from here on are in the mask, whose lowest bit is that of the first of them
abbrev pub invariant-loop-end : goal.invariant-loop-end
invariant-loop-end l = l.ends ≡ ends_of_net (drop l.end l.nets) l.net
