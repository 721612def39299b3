-- Small graphs, worked out by hand.
use Rattle.std.specs.Prelude.{◌≡◌, Some, None, [], ◌∷◌}
use Rattle.circle_search.specs.Circles.{circle_of}

pub record WorkedCircles : Type 0 where
  -- none waits
  pub no_edges : circle_of ([] ∷ [] ∷ [] ∷ []) ≡ None
  pub no_vertex : circle_of [] ≡ None
  -- one that waits for itself
  pub loop_of_one : circle_of ([] ∷ (0 ∷ 1 ∷ []) ∷ []) ≡ Some (1 ∷ [])
  -- 0 waits for 1, and 1 and 2 for each other: 0 is left, and is on no circle
  pub tail : circle_of ((1 ∷ []) ∷ (2 ∷ []) ∷ (1 ∷ []) ∷ []) ≡ Some (1 ∷ 2 ∷ [])
  -- 0 waits for 1 and 2, and both for 3
  pub diamond : circle_of ((1 ∷ 2 ∷ []) ∷ (3 ∷ []) ∷ (3 ∷ []) ∷ [] ∷ []) ≡ None
  -- the same with 3 waiting for 1: the walk from 0 goes by 1, since that stands first
  pub closed_diamond : circle_of ((1 ∷ 2 ∷ []) ∷ (3 ∷ []) ∷ (3 ∷ []) ∷ (1 ∷ []) ∷ []) ≡ Some (1 ∷ 3 ∷ [])
  -- 1 is no way on, since it waits for none
  pub dead_end : circle_of ((1 ∷ 2 ∷ []) ∷ [] ∷ (0 ∷ []) ∷ []) ≡ Some (0 ∷ 2 ∷ [])
  -- the walk from 0 comes to 3 first, and what is told begins with 1
  pub turned : circle_of ((3 ∷ []) ∷ (2 ∷ []) ∷ (3 ∷ []) ∷ (1 ∷ []) ∷ []) ≡ Some (1 ∷ 2 ∷ 3 ∷ [])
  -- a number that is no vertex's
  pub outside : circle_of ((7 ∷ []) ∷ (0 ∷ []) ∷ []) ≡ None
