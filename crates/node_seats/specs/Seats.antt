-- Nodes at work: what they stand for, and what a slot makes of them.
use Rattle.std.specs.Prelude.{◌≡◌, ◌+◌, ◌-◌, ◌*◌, ◌<◌, ◌≤◌, List, ◌++◌}
use Rattle.xs_base.specs.Numbers.{Slot, Position}
use Rattle.xs_base.specs.declared.numbers.TheConstants.{EVENT_ROOM}
use Rattle.xs_model.specs.declared.event.Event.{Event}
use Rattle.xs_model.specs.declared.outside.Arrivals.{Arrivals}
use Rattle.xs_model.specs.declared.outside.PinView.{PinView}
use Rattle.xs_model.specs.Record.{NodeRec}
use Rattle.sys_plan.specs.declared.NodePlan.{NodePlan}
use Rattle.sys_plan.specs.Plan.{PlanRec, gaps_of}
use Rattle.step_model.specs.Start.{fixed_of}
use Rattle.step_model.specs.Step.{Stepped, node_step}
use Rattle.trace_lines.specs.Kept.{Keeps, HasRoom}
use Rattle.quiet_laws.specs.Undisturbed.{undisturbed_until, ShowsAll}
use Rattle.core_step.specs.Core.{StandsAt, SlotsBefore}
use Rattle.core_step.specs.PinLevels.{from_outside}
use Rattle.node_seats.specs.declared.pins.Pins.{Pins}
use Rattle.node_seats.specs.declared.seat.Seat.{Seat}

-- a node as it is before a slot
pub record IsSeat (slot : Slot) (seat : Seat) : Type 0 where
  pub before : SlotsBefore seat.core slot
  pub more : seat.events.more ≤ EVENT_ROOM * slot

-- a node of a plan, at a position, stands before a slot for its record, with these events so far
pub record Plays (plan : PlanRec) (slot : Slot) (n : Position) (node : NodePlan) (seat : Seat) (rec : NodeRec) (events : List Event) : Type 0 where
  pub fixed : seat.core.fixed ≡ fixed_of node (gaps_of plan n)
  pub stands : StandsAt seat.core rec slot
  pub keeps : Keeps seat.events events

-- before a slot, unless its pins may change in it, the node has noted what they show
abbrev pub HasNoted : Slot → Pins → Seat → Type 0
HasNoted slot pins seat = slot < pins.next → seat.core.levels ≡ from_outside pins.view

-- ---- Room

-- room for the events of a slot
abbrev pub HasEventRoom : Seat → Type 0
HasEventRoom seat = HasRoom EVENT_ROOM seat.events

-- nothing changed but the room
abbrev pub SameSeat : Seat → Seat → Type 0
SameSeat before after = record after { events = record after.events { spare = before.events.spare } } ≡ before

-- ---- One slot

-- what the slot of a node is, when this arrives, and its pins show this from outside
abbrev pub step_of : Slot → Arrivals → PinView → Seat → NodeRec → Stepped
step_of slot arrivals pins seat rec = node_step seat.core.fixed rec slot arrivals pins

-- what a slot makes of a node to which this comes
pub record StepsOn (slot : Slot) (arrivals : Arrivals) (pins : PinView) (before after : Seat) : Type 0 where
  pub fixed : after.core.fixed ≡ before.core.fixed
  pub stands : (rec : NodeRec) → StandsAt before.core rec slot → StandsAt after.core (step_of slot arrivals pins before rec).rec (slot + 1)
  pub given : (rec : NodeRec) → StandsAt before.core rec slot → after.given ≡ (step_of slot arrivals pins before rec).emitted
  pub keeps : (all : List Event) → Keeps before.events all → Keeps after.events (all ++ after.given.events)
  pub noted : after.core.levels ≡ from_outside pins
  pub next : IsSeat (slot + 1) after

-- ---- Quiet slots

-- what the slots from one on and before another make of a node, when it was quiet in each of them, and in the last one its pins showed
-- this from outside
pub record SkipsOn (from to : Slot) (last : PinView) (before after : Seat) : Type 0 where
  pub fixed : after.core.fixed ≡ before.core.fixed
  pub stands : (rec : NodeRec) (pins : Slot → PinView) → StandsAt before.core rec from → ((slot : Slot) → ShowsAll (pins slot)) → pins (to - 1) ≡ last →
      StandsAt after.core (undisturbed_until before.core.fixed rec from pins to) to
  pub events : after.events ≡ before.events
  pub given : after.given ≡ before.given
  pub noted : after.core.levels ≡ from_outside last
  pub next : IsSeat to after
