use Rattle.std.proofs.Common.{◌≡◌, ◌-◌, [], length}
use Rattle.circle_search.specs.Circles.{circle_on}
use Rattle.circle_search.proofs.Steps.{lists_of}
use Rattle.circle_search.proofs.search.circle_on.Given as goal

-- the walk that is left to make comes to the same circle
abbrev pub invariant-walk : goal.invariant-walk
invariant-walk l = circle_on (lists_of l.graph) l.left (length l.graph - l.index) l.row.items l.vertex ≡ circle_on (lists_of l.graph) l.left (length l.graph) [] l.start
