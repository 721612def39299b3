use Rattle.std.proofs.Common.{◌≡◌, drop}
use Rattle.ahead_limits.specs.Horizon.{first_stop}
use Rattle.ahead_limits.proofs.horizon.Horizon.first_stop.Given as goal

-- no link end below this one stops the node
abbrev pub invariant-loop-end : goal.invariant-loop-end
invariant-loop-end l = first_stop l.clock 0 l.self.ends ≡ first_stop l.clock l.end (drop l.end l.self.ends)
