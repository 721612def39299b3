-- What is always true of a port.
use Rattle.std.specs.Prelude.{ℕ, ◌≡◌, ◌<◌, ◌≤◌, ◌*◌, ◌^◌, true, false, None, IfSome, List, [], ◌∷◌, length}
use Rattle.xs_model.specs.Record.{PortRec, TransferRec, off_port}

-- a number of bits is a whole number of beats of a port of this width
abbrev pub Multiple : ℕ → ℕ → Type 0
Multiple width bits = (beats : ℕ) × (bits ≡ beats * width)

-- so many bits are some beats, at least one, and no more bits than these
pub record AreBeats (width largest bits : ℕ) : Type 0 where
  pub whole : Multiple width bits
  pub least : width ≤ bits
  pub most : bits ≤ largest

-- each is 0 or 1
abbrev pub AreBits : List ℕ → Type 0
AreBits [] = Unit {0}
AreBits (bit ∷ bits) = (bit < 2) × AreBits bits

-- the shift register has whole beats of bits, or none, and no more than these
pub record IsShift (width largest : ℕ) (shift : List ℕ) : Type 0 where
  pub whole : Multiple width (length shift)
  pub most : length shift ≤ largest
  pub bits : AreBits shift

-- a time, a stamp or a counter, of 16 bits
abbrev pub Is16Bits : ℕ → Type 0
Is16Bits n = n < 2 ^ 16

-- a transfer has some beats, no more bits than these, and a value that fits them
pub record IsTransfer (width largest : ℕ) (t : TransferRec) : Type 0 where
  pub bits : AreBeats width largest t.bits
  pub value : t.value < 2 ^ t.bits
  pub time : IfSome t.time Is16Bits

-- a port of this width that is on
pub record IsOn (width : ℕ) (port : PortRec) : Type 0 where
  pub on : port.on ≡ true
  pub transfer_width : AreBeats width 32 port.transfer_width
  pub wanted : AreBeats width port.transfer_width port.wanted
  pub shift : IsShift width port.transfer_width port.shift
  pub transfer : IfSome port.transfer (IsTransfer width port.transfer_width)
  pub value : port.value < 2 ^ width
  pub driven : IfSome port.driven (λ value. value < 2 ^ width)
  pub input : port.output ≡ false → port.driven ≡ None
  pub counter : Is16Bits port.counter
  pub time : IfSome port.time Is16Bits
  pub sample_stamp : Is16Bits port.sample_stamp
  pub stamp : Is16Bits port.stamp

-- a port of this width, be it on or off
pub data HasFacts (width : ℕ) : PortRec → Type 0 where
  is_off : HasFacts width off_port
  is_on : (port : PortRec) → IsOn width port → HasFacts width port
