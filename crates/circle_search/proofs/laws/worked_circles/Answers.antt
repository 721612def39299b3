use Rattle.std.proofs.Common.{refl}
use Rattle.circle_search.specs.Circles.{left_after, from_vertex, circle_on}
use Rattle.circle_search.proofs.laws.worked_circles.Goals as goal

pub returns : goal.returns
unfolding left_after from_vertex circle_on
returns c = record { no_edges = refl; no_vertex = refl; loop_of_one = refl; tail = refl; diamond = refl; closed_diamond = refl; dead_end = refl; turned = refl; outside = refl }
