-- What is true of every port, and what an edge leaves of it.
use Rattle.std.specs.Prelude.{ℕ, ◌≡◌, ◌<◌, ◌≤◌, ◌^◌, ◌==◌, Bool, true, false, Some, None, is_some, ◌||◌, nat_lt, length, IfSome}
use Rattle.xs_base.specs.Numbers.{PortNumber}
use Rattle.xs_base.specs.Ids.{port_width}
use Rattle.xs_model.specs.declared.clock.Clock.TheVariants.{Reference}
use Rattle.xs_model.specs.Record.{PortRec, TransferRec, Always}
use Rattle.xs_model.specs.Bits.{value_of}
use Rattle.xs_model.specs.Ports.{came_in}
use Rattle.single_port.specs.Asks.{IsClock, IsStrobe}

-- a port of this width, with what is kept of it
pub record PortOf : Type 0 where
  pub width : ℕ
  pub port : PortRec

-- a transfer has at most as many bits as its port's transfers have, and its value fits them
pub record IsTransfer (transfer_width : ℕ) (t : TransferRec) : Type 0 where
  pub bits : t.bits ≤ transfer_width
  pub value : t.value < 2 ^ t.bits

-- what a port of this width keeps: where it is on its transfers have at least as many bits as it is wide; one that is off has
-- direction input, and drives nothing
pub record IsPort (width : ℕ) (port : PortRec) : Type 0 where
  pub some : 0 < width
  pub narrow : width ≤ 32
  pub least : port.on ≡ true → width ≤ port.transfer_width
  pub most : port.transfer_width ≤ 32
  pub off : port.on ≡ false → port.transfer_width ≡ 0
  pub shift : length port.shift ≤ port.transfer_width
  pub transfer : IfSome port.transfer (IsTransfer port.transfer_width)
  pub driven : IfSome port.driven (λ value. value < 2 ^ width)
  pub off_input : port.on ≡ false → port.output ≡ false
  pub off_driven : port.on ≡ false → port.driven ≡ None
  pub clock : IsClock port.clock
  pub strobe : IsStrobe port.strobe

-- the bits that are shifted in are what came in, with the counter as their stamp
abbrev pub takes_shift : PortRec → PortRec
takes_shift port = record port { transfer = Some (came_in (value_of port.shift) (length port.shift)); sample_stamp = port.counter }

-- a port that takes each level from outside at the rising edges of the reference clock, and at the falling ones only counts
pub record IsPlain (port : PortRec) : Type 0 where
  pub on : port.on ≡ true
  pub output : port.output ≡ false
  pub clock : port.clock ≡ Reference
  pub buffered : port.buffered ≡ false
  pub condition : port.condition ≡ Always
  pub time : port.time ≡ None
  pub held : port.held ≡ false
  pub strobe : port.strobe ≡ None
  pub driven : port.driven ≡ None

-- by these two no wait of a thread and no readiness can tell one port from the other
pub record ServesAs (before after : PortRec) : Type 0 where
  pub output : after.output ≡ before.output
  pub transfer : is_some after.transfer ≡ is_some before.transfer
  pub shift : nat_lt 0 (length after.shift) ≡ nat_lt 0 (length before.shift)

-- an edge leaves a port on, in its direction and with its strobe
pub record KeepsRole (before after : PortRec) : Type 0 where
  pub on : after.on ≡ before.on
  pub output : after.output ≡ before.output
  pub strobe : after.strobe ≡ before.strobe

-- a sample without buffers leaves the shift register too
pub record KeepsShift (before after : PortRec) : Type 0 where
  pub role : KeepsRole before after
  pub shift : after.shift ≡ before.shift

-- a port that is on is as wide as its number says; one that is off may be noted with any width
abbrev pub IsPlaced : PortNumber → PortOf → Type 0
IsPlaced p that = that.port.on ≡ true → that.width ≡ port_width p

-- whether there are ports of this width
abbrev pub is_width : ℕ → Bool
is_width x = (x == 1) || ((x == 4) || ((x == 8) || ((x == 16) || (x == 32))))
