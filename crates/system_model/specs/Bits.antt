-- The line of a bit.
use Rattle.std.specs.Prelude.{ℕ, List}

-- the node with this number sends what differs from its id at this bit first by one of these link ends
pub record BitRec : Type 0 where
  pub node : ℕ
  pub bit : ℕ
  pub ends : List ℕ
