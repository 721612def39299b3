-- That what is told is a circle, and that one is told wherever there is one.
use Rattle.std.specs.Prelude.{ℕ, ◌≡◌, ◌<◌, ◌≤◌, Some, List, ◌∷◌, length, All, IsSome}
use Rattle.circle_search.specs.Circles.{IsCircle, circle_of}

abbrev pub ToldCirclesAreCircles : Type 0
ToldCirclesAreCircles = (graph : List (List ℕ)) (circle : List ℕ) → circle_of graph ≡ Some circle → IsCircle graph circle

-- whatever stands in a circle is a vertex
abbrev pub CirclesAreOfVertices : Type 0
CirclesAreOfVertices = (graph : List (List ℕ)) (circle : List ℕ) → IsCircle graph circle → All (λ v. v < length graph) circle

-- what is told begins with its least vertex
abbrev pub ToldCirclesBeginWithTheirLeast : Type 0
ToldCirclesBeginWithTheirLeast = (graph : List (List ℕ)) (a : ℕ) (rest : List ℕ) → circle_of graph ≡ Some (a ∷ rest) → All (λ b. a ≤ b) rest

abbrev pub CirclesAreTold : Type 0
CirclesAreTold = (graph : List (List ℕ)) (circle : List ℕ) → IsCircle graph circle → IsSome (circle_of graph)
