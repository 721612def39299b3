-- What ports drive fits their pins.
use Rattle.std.specs.Prelude.{ℕ, ◌<◌, ◌^◌, Option, IfSome, List}
use Rattle.xs_base.specs.Numbers.{Slot, Word, PortNumber}
use Rattle.xs_base.specs.Ids.{port_width}
use Rattle.xs_model.specs.declared.outside.Arrivals.{Arrivals}
use Rattle.xs_model.specs.declared.outside.PinView.{PinView}
use Rattle.xs_model.specs.Record.{CoreRec, NodeRec, first_core, port_of}
use Rattle.port_laws.specs.Facts.{AreBits}
use Rattle.step_model.specs.Fixed.{Fixed}
use Rattle.step_model.specs.Step.{node_step}

-- a port of this width has bits in its shift register, and drives what fits its pins
pub record FitsPins (width : ℕ) (shift : List ℕ) (drives : Option Word) : Type 0 where
  pub bits : AreBits shift
  pub driven : IfSome drives (λ value. value < 2 ^ width)

-- so does each port of a core
abbrev pub AllFitPins : CoreRec → Type 0
AllFitPins core = (p : PortNumber) → let port = port_of core p in FitsPins (port_width p) port.shift port.driven

-- so a core starts, and so every slot of its node leaves it, whatever comes from outside
abbrev pub FirstFitsPins : Type 0
FirstFitsPins = (entry cp_at : Word) (memory : List ℕ) → AllFitPins (first_core entry cp_at memory)

abbrev pub SlotFitsPins : Type 0
SlotFitsPins = (fixed : Fixed) (rec : NodeRec) (slot : Slot) (arrivals : Arrivals) (pins : PinView) →
    AllFitPins rec.core → AllFitPins (node_step fixed rec slot arrivals pins).rec.core
