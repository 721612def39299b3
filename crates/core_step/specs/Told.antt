-- What is told of a node's threads in a slot.
use Rattle.std.specs.Prelude.{◌≡◌, ◌<◌, ◌||◌, Bool, true, false, IfSome, List, [], ◌∷◌}
use Rattle.xs_base.specs.Numbers.{Slot, ThreadNumber}
use Rattle.xs_base.specs.declared.numbers.TheConstants.{THREADS}
use Rattle.xs_model.specs.declared.event.Event.{Event}
use Rattle.xs_model.specs.declared.event.Happen.{Happen}
use Rattle.xs_model.specs.declared.event.Happen.TheVariants as happen
use Rattle.xs_model.specs.declared.outside.Arrivals.{Arrivals}
use Rattle.xs_model.specs.declared.outside.PinView.{PinView}
use Rattle.xs_model.specs.Masks.{in_mask}
use Rattle.xs_model.specs.Record.{CoreRec, NodeRec}
use Rattle.xs_model.specs.Picks.{is_able}
use Rattle.step_model.specs.Fixed.{Fixed}
use Rattle.step_model.specs.Step.{node_step, before_issue}
use Rattle.processor.specs.NextIssue.{next_issue}
use Rattle.core_step.specs.declared.told.Told.{Told}

abbrev pub is_trap : Happen → Bool
is_trap (happen.Trap thread et pc ed) = true
is_trap _ = false

-- whether a trap is among events
abbrev pub has_trap : List Event → Bool
has_trap [] = false
has_trap (e ∷ events) = is_trap e.what || has_trap events

-- the core of a node right before its issue in a slot
abbrev pub core_to_issue : Fixed → NodeRec → Slot → Arrivals → PinView → CoreRec
core_to_issue fixed rec slot arrivals pins = (before_issue fixed rec slot arrivals pins).rec.core

-- it is told which threads of a node are able right before its issue in a slot, which of them issues and what that takes, and whether a
-- trap comes of it
pub record IsTold (fixed : Fixed) (rec : NodeRec) (slot : Slot) (arrivals : Arrivals) (pins : PinView) (told : Told) : Type 0 where
  pub able : (k : ThreadNumber) → k < THREADS → in_mask told.able k ≡ is_able (core_to_issue fixed rec slot arrivals pins) k slot
  pub issue : told.issue ≡ next_issue (core_to_issue fixed rec slot arrivals pins) slot
  pub within : IfSome told.issue (λ next. next.thread < THREADS)
  pub traps : told.traps ≡ has_trap (node_step fixed rec slot arrivals pins).emitted.events
