-- What pins show from slot to slot.
use Rattle.std.proofs.Common.{◌≡◌, ℕ, ◌+◌, ◌-◌, ◌^◌, ◌<◌, ◌≤◌, false, Option, Some, None, List, sym, ◌∙◌, subst, arith}
use Rattle.std.specs.Prelude.{nat_le}
use Rattle.std.proofs.lemmas.Bool.Decides.{nat_tests}
use Rattle.xs_base.specs.Numbers.{Slot}
use Rattle.pin_scripts.specs.declared.line.PinLine.{PinLine}
use Rattle.pin_scripts.specs.Script.{IsBefore, IsNextChange}
use Rattle.sys_plan.specs.Plan.{PlanRec}
use Rattle.node_seats.specs.declared.pins.Pins.{Pins}
use Rattle.node_seats.specs.Shown.{IsSteady, IsShown, ArePins, AreWired, slot_or_never}

pub next-after : (script : List PinLine) (number slot : ℕ) (next : Option Slot) → slot < 2 ^ 32 - 1 → IsNextChange script number slot next → slot + 1 ≤ slot_or_never next
next-after script number slot None below h = omega (arith, below)
next-after script number slot (Some next) below h = omega (arith, h.0)

pub before-change : (later : Slot) (next : Option Slot) → later < slot_or_never next → IsBefore later next
before-change later None h = tt
before-change later (Some next) h = h

pub not-due : (slot next : Slot) → nat_le next slot ≡ false → slot < next
not-due slot next e = grind (arith, nat_tests)

-- what held before a slot still holds before a later one
pub steady-later : (from slot : Slot) (pins : Pins) → from ≤ slot → IsSteady from pins → IsSteady slot pins
steady-later from slot pins on is = record { until_change = λ later l before. is.until_change later (omega (arith, on, l)) before; levels = is.levels }

pub pins-next : (plan : PlanRec) (n slot : ℕ) (pins after : Pins) → ArePins plan n slot pins → after.script ≡ pins.script → after.number ≡ pins.number → after.wired ≡ pins.wired → IsShown (slot + 1) after
    → ArePins plan n (slot + 1) after
pins-next plan n slot pins after are script number wired shown =
    record { script = script ∙ are.script; number = number ∙ are.number; wired = subst (AreWired plan n) (sym wired) are.wired; shown = shown }
