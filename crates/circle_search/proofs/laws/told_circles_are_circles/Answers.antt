use Rattle.circle_search.proofs.Stays.{all_within}
use Rattle.circle_search.proofs.Walks.{told_is_circle, told_begins_with_least}
use Rattle.circle_search.proofs.laws.told_circles_are_circles.Goals as goal

pub returns : goal.returns
returns c = record { circles = told_is_circle; least = told_begins_with_least; vertices = all_within }
