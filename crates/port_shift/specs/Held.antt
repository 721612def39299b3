-- What a shift register holds.
use Rattle.std.specs.Prelude.{ℕ, List}

-- the width of a beat, and the bits, the first to leave first
pub record ShiftRec : Type 0 where
  pub width : ℕ
  pub bits : List ℕ
