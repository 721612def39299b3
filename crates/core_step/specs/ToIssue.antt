-- A core within a slot, right before its issue.
use Rattle.std.specs.Prelude.{◌≡◌, ◌+◌}
use Rattle.xs_base.specs.Numbers.{Slot}
use Rattle.xs_model.specs.declared.outside.Arrivals.{Arrivals}
use Rattle.xs_model.specs.declared.outside.PinView.{PinView}
use Rattle.xs_model.specs.Record.{NodeRec}
use Rattle.xs_model.specs.Outside.{Emitted}
use Rattle.xs_model.specs.AtWork.{AtWork, emitted_in}
use Rattle.switch_routes.specs.Rows.{AllCountsOf, CreditedBy, SentBy}
use Rattle.step_model.specs.Fixed.{Fixed}
use Rattle.step_model.specs.Step.{before_issue, issue, note_levels}
use Rattle.core_step.specs.Core.{CoreValue, StandsAt, SlotsBefore}
use Rattle.core_step.specs.PinLevels.{from_outside}

-- the core, which gave this so far, stands for a node at work in a slot
pub record StandsAtWork (slot : Slot) (value : CoreValue) (given : Emitted) (m : AtWork) : Type 0 where
  pub core : value.core ≡ m.rec.core
  pub inputs : value.inputs ≡ m.rec.inputs
  pub links : AllCountsOf value.links m.rec.links
  pub credited : CreditedBy slot m.rec.links
  pub emitted : given ≡ emitted_in slot m

-- what the phases of a slot before its issue make of a core, when this arrives and its pins show this from outside, and what they give
pub record ReachesIssue (slot : Slot) (arrivals : Arrivals) (pins : PinView) (before after : CoreValue) (given : Emitted) : Type 0 where
  pub fixed : after.fixed ≡ before.fixed
  pub levels : after.levels ≡ before.levels
  pub sent : SentBy slot after.links
  pub stands : (rec : NodeRec) → StandsAt before rec slot → StandsAtWork slot after given (before_issue before.fixed rec slot arrivals pins)

-- a node at work after its issue, and the end of its slot
abbrev pub ended : Fixed → Slot → PinView → AtWork → AtWork
ended fixed slot pins m = note_levels pins (issue fixed slot pins m)

-- what the rest of the slot makes of it, which gave this so far, and what it gave then
pub record EndsSlot (slot : Slot) (pins : PinView) (before : CoreValue) (gave : Emitted) (after : CoreValue) (given : Emitted) : Type 0 where
  pub fixed : after.fixed ≡ before.fixed
  pub stands : (m : AtWork) → StandsAtWork slot before gave m → StandsAt after (ended before.fixed slot pins m).rec (slot + 1)
  pub emitted : (m : AtWork) → StandsAtWork slot before gave m → given ≡ emitted_in slot (ended before.fixed slot pins m)
  pub levels : after.levels ≡ from_outside pins
  pub next : SlotsBefore after (slot + 1)
