use Rattle.std.proofs.Common.{◌≡◌, map}
use Rattle.node_rounds.specs.Parts.{runner_of}
use Rattle.node_rounds.proofs.parts.runners_in.Given as goal

abbrev pub invariant-loop-seat : goal.invariant-loop-seat
invariant-loop-seat l = l.runners.items ≡ map runner_of l.yielded
