-- How a row of link ends lies in memory.
use Rattle.std.specs.Prelude.{ℕ, ◌≡◌, Bool, Option, Some, None, List, [], ◌∷◌, length, if◌then◌else◌}
use Rattle.link_ends.specs.Counts.{EndCounts}
use Rattle.switch_routes.specs.Rest.{AreMarked}

-- the link ends that are there, in their places
abbrev pub ends_in : List Bool → List EndCounts → List (Option EndCounts)
ends_in [] ends = []
ends_in (present ∷ rest) [] = []
ends_in (present ∷ rest) (end ∷ ends) = (if present then Some end else None) ∷ ends_in rest ends

-- there are eight places, whether a link end is there or not, and no token waits at those that are not in the mask
pub record AreEnds (present : List Bool) (ends : List EndCounts) (waiting : ℕ) : Type 0 where
  pub places : length present ≡ 8
  pub eight : length ends ≡ 8
  pub marked : AreMarked waiting (ends_in present ends)
