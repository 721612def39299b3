use Rattle.std.proofs.Common.{◌≡◌}
use Rattle.circle_search.specs.Circles.{left_after}
use Rattle.circle_search.proofs.Steps.{lists_of}
use Rattle.circle_search.proofs.search.left_at_last.Given as goal

-- those that are left after the rounds so far
abbrev pub invariant-rounds : goal.invariant-rounds
invariant-rounds l = l.left.items ≡ left_after (lists_of l.graph) l.index
