-- How the bits of a shift register lie in a word.
use Rattle.std.specs.Prelude.{◌<◌, ◌≤◌, ◌^◌}
use Rattle.xs_model.specs.Bits.{bits_of}
use Rattle.port_shift.specs.Held.{ShiftRec}
use Rattle.port_shift.specs.declared.shift.Shift.TheInside.{Inside}

abbrev pub held : Inside → ShiftRec
held c = record { width = c.width; bits = bits_of c.count c.word }

-- a word has them, and nothing above them
pub record Fits (c : Inside) : Type 0 where
  pub width : c.width ≤ 32
  pub count : c.count ≤ 32
  pub word : c.word < 2 ^ c.count
