use Rattle.std.proofs.Common.{◌≡◌, drop}
use Rattle.look_model.specs.Network.{other_end}
use Rattle.state_text.proofs.network.other_end.Given as goal

abbrev pub invariant-loop-link : goal.invariant-loop-link
invariant-loop-link l = other_end (drop l.link-index l.links) l.node l.end ≡ other_end l.links l.node l.end
