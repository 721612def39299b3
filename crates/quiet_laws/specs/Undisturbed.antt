-- A node at which nothing arrives.
use Rattle.std.specs.Prelude.{◌≡◌, ◌-◌, false, None, replicate, length}
use Rattle.xs_base.specs.Numbers.{Slot}
use Rattle.xs_base.specs.declared.numbers.TheConstants.{PORTS}
use Rattle.xs_model.specs.declared.outside.Arrivals.{Arrivals}
use Rattle.xs_model.specs.declared.outside.PinView.{PinView}
use Rattle.xs_model.specs.Record.{CoreRec, NodeRec}
use Rattle.step_model.specs.Fixed.{Fixed}
use Rattle.step_laws.specs.EightSlots.{NodeRun, after_slots, HasAllLastIssues}

abbrev pub no_arrivals : Arrivals
no_arrivals = record { tokens = replicate 8 None; credits = replicate 8 false }

-- a node as it is before a slot, when nothing arrives in that slot or later, and its pins show this from outside
abbrev pub undisturbed_run : Fixed → NodeRec → Slot → (Slot → PinView) → NodeRun
undisturbed_run fixed rec from pins = record { fixed = fixed; rec = rec; slot = from; arrivals = λ slot. no_arrivals; pins = pins }

-- the same node before a later slot: it was stepped in each slot between them
abbrev pub undisturbed_until : Fixed → NodeRec → Slot → (Slot → PinView) → Slot → NodeRec
undisturbed_until fixed rec from pins slot = after_slots (undisturbed_run fixed rec from pins) (slot - from)

-- a core has all its ports, and notes for each thread the slot of its last issue, or never
pub record IsWhole (core : CoreRec) : Type 0 where
  pub ports : length core.ports ≡ PORTS
  pub last : HasAllLastIssues core

-- it is told of all ports what their pins show
abbrev pub ShowsAll : PinView → Type 0
ShowsAll pins = length pins.level ≡ PORTS
