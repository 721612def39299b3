-- The numbers of an image's first labels at its places.
use Rattle.std.specs.Prelude.{ℕ, ◌≡◌, ◌<◌, ◌≤◌, List, length, drop, slice_index, IsTrue}
use Rattle.xs_instructions.specs.Spelling.{Spelled, Text, Reg, Num, Place}
use Rattle.xs_instructions.specs.Code.{place_address}
use Rattle.xs_instructions.specs.Image.{Symbol, has_symbol_at}
use Rattle.source_laws.specs.LabelOrder.{symbols_from}

-- of each place, from the first one on, the number of the first symbol there or later
pub record AreFirstLabels (symbols : List Symbol) (places : ℕ) (firsts : List ℕ) : Type 0 where
  pub count : length firsts ≡ places
  pub each : (p : ℕ) → p < places → drop (slice_index firsts p) symbols ≡ symbols_from (place_address p) symbols

-- what the text of a piece needs: a register that there is, and for a place a label that leads there
abbrev pub IsWritable : List Symbol → Spelled → Type 0
IsWritable symbols (Text bytes) = Unit {0}
IsWritable symbols (Reg n) = n < 16
IsWritable symbols (Num n) = Unit {0}
IsWritable symbols (Place p) = IsTrue (has_symbol_at symbols (place_address p))

-- the number of the first symbol with this address or one that comes later
pub record IsFirstFrom (symbols : List Symbol) (at next : ℕ) : Type 0 where
  pub within : next ≤ length symbols
  pub rest : drop next symbols ≡ symbols_from at symbols
