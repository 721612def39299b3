use Rattle.std.proofs.Common.{◌<◌}
use Rattle.switch_routes.specs.Rest.{AreMarked}
use Rattle.switch_routes.proofs.links.Links.some_wait.Given as goal

-- no token waits at the link ends that are not left
abbrev pub invariant-loop-left : goal.invariant-loop-left
invariant-loop-left l = record {
  byte : l.left < 256;
  marked : AreMarked l.left l.self;
}

abbrev pub decreases-loop-left : goal.decreases-loop-left
decreases-loop-left l = l.left
