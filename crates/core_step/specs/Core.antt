-- What contracts see of a core, and the node record that it stands for.
use Rattle.std.specs.Prelude.{ℕ, ◌≡◌, ◌+◌, ◌<◌, false, List, Option, None, IfSome, slice_index_or}
use Rattle.std.specs.List.{AllByRecursion}
use Rattle.xs_base.specs.Numbers.{Slot}
use Rattle.xs_model.specs.declared.outside.Arrivals.{Arrivals}
use Rattle.xs_model.specs.declared.outside.PinView.{PinView}
use Rattle.xs_model.specs.Outside.{Emitted}
use Rattle.xs_model.specs.Record.{CoreRec, NodeRec, InputRec}
use Rattle.net_model.specs.Links.{IsLinkBefore}
use Rattle.link_ends.specs.Counts.{EndCounts}
use Rattle.switch_routes.specs.Rows.{AllCountsOf}
use Rattle.step_model.specs.Fixed.{Fixed}
use Rattle.step_model.specs.Step.{node_step}
use Rattle.core_step.specs.declared.pin_levels.PinLevels.{PinLevels}
use Rattle.core_step.specs.PinLevels.{levels_kept, from_outside}

-- what of its node's plan a core keeps, its units, what it keeps of the levels of its pins, the states of its
-- switch's inputs, and the counts of its link ends
pub record CoreValue : Type 0 where
  pub fixed : Fixed
  pub core : CoreRec
  pub levels : PinLevels
  pub inputs : List InputRec  -- 40
  pub links : List (Option EndCounts)  -- 8

-- the core keeps what the record says, the levels of all pins at the end of the slot before among it, and counts of the slots
-- that its link ends list
pub record StandsFor (value : CoreValue) (rec : NodeRec) : Type 0 where
  pub core : value.core ≡ rec.core
  pub levels : levels_kept value.core.ports value.levels ≡ rec.levels
  pub inputs : value.inputs ≡ rec.inputs
  pub links : AllCountsOf value.links rec.links

-- no token and no credit arrives by any link end
pub record NothingArrives (arrivals : Arrivals) : Type 0 where
  pub tokens : (end : ℕ) → slice_index_or arrivals.tokens end None ≡ None
  pub credits : (end : ℕ) → slice_index_or arrivals.credits end false ≡ false

-- the core stands for the record, as it is before this slot: every slot that its link ends keep is earlier
pub record StandsAt (value : CoreValue) (rec : NodeRec) (slot : Slot) : Type 0 where
  pub stands : StandsFor value rec
  pub links : AllByRecursion (λ l. IfSome l (IsLinkBefore slot)) rec.links

-- every link end sent its last token before this slot, or never
abbrev pub SentBefore : Slot → List (Option EndCounts) → Type 0
SentBefore slot row = AllByRecursion (λ end. IfSome end (λ counts. IfSome counts.last_sent (λ s. s < slot))) row

-- so it is for the link ends of the core
abbrev pub SlotsBefore : CoreValue → Slot → Type 0
SlotsBefore value slot = SentBefore slot value.links

-- what a slot makes of a core, when this arrives and its pins show this from outside, and what it gives
pub record Passes (slot : Slot) (arrivals : Arrivals) (pins : PinView) (before after : CoreValue) (given : Emitted) : Type 0 where
  pub fixed : after.fixed ≡ before.fixed
  pub step : (rec : NodeRec) → StandsAt before rec slot → StandsAt after (node_step before.fixed rec slot arrivals pins).rec (slot + 1)
  pub emissions : (rec : NodeRec) → StandsAt before rec slot → given ≡ (node_step before.fixed rec slot arrivals pins).emitted
  pub levels : after.levels ≡ from_outside pins
  pub next : SlotsBefore after (slot + 1)
