-- The switch at work in a slot, and the node at work that it stands for.
use Rattle.std.specs.Prelude.{ℕ, ◌≡◌, ◌+◌, ◌<◌, ◌≤◌, List, ◌++◌, length, map}
use Rattle.xs_base.specs.Numbers.{Slot}
use Rattle.xs_base.specs.declared.numbers.TheConstants.{EVENT_ROOM}
use Rattle.xs_model.specs.declared.event.Event.{Event}
use Rattle.xs_model.specs.Record.{NodeRec}
use Rattle.xs_model.specs.Outside.{in_slot}
use Rattle.xs_model.specs.AtWork.{AtWork}
use Rattle.net_model.specs.Switch.{Routes}
use Rattle.switch_routes.specs.declared.work.Work.{Work}
use Rattle.switch_routes.specs.Rows.{AllCountsOf, CreditedBy, SentBy, end_gaps}
use Rattle.switch_routes.specs.Switch.{with_parts}
use Rattle.switch_routes.specs.Ways.{routes_with}

-- where the work began: what is known of the node's plan, the slot, the node's record, and the events before the slot's
pub record Begun : Type 0 where
  pub routes : Routes
  pub slot : Slot
  pub start : NodeRec
  pub before : List Event

-- the switch at work stands for a node at work
pub record Stands (begun : Begun) (work : Work) (m : AtWork) : Type 0 where
  pub routes : routes_with work.ways (end_gaps work.links.now) ≡ begun.routes
  pub slot : work.slot ≡ begun.slot
  pub inputs : work.inputs.now ≡ m.rec.inputs
  pub chans : work.chans.now ≡ m.rec.core.chans
  pub links : AllCountsOf work.links.now m.rec.links
  pub credited : CreditedBy begun.slot m.rec.links
  pub events : work.out.now.events ≡ begun.before ++ map (in_slot begun.slot) m.happened
  pub tokens : work.out.now.tokens ≡ m.tokens
  pub credits : work.out.now.credits ≡ m.credits
  pub rest : m.rec ≡ with_parts begun.start m.rec.inputs m.rec.core.chans m.rec.links

-- the work goes on with the same parts, and told at most so many events
pub record GoesOn (count : ℕ) (old new : Work) : Type 0 where
  pub slot : new.slot ≡ old.slot
  pub ways : new.ways ≡ old.ways
  pub inputs : new.inputs.ghost_name ≡ old.inputs.ghost_name
  pub chans : new.chans.ghost_name ≡ old.chans.ghost_name
  pub links : new.links.ghost_name ≡ old.links.ghost_name
  pub out : new.out.ghost_name ≡ old.out.ghost_name
  pub gaps : end_gaps new.links.now ≡ end_gaps old.links.now
  pub sent : SentBy old.slot old.links.now → SentBy old.slot new.links.now
  pub events : length new.out.now.events ≤ length old.out.now.events + count

-- the work goes on by a rule of the definitions: whatever node at work it stood for, it stands for what the rule makes of it
pub record GoesBy (count : ℕ) (rule : Begun → AtWork → AtWork) (old new : Work) : Type 0 where
  pub on : GoesOn count old new
  pub by : (begun : Begun) (m : AtWork) → Stands begun old m → Stands begun new (rule begun m)

-- there is room for one more event
abbrev pub HasRoom : Work → Type 0
HasRoom work = length work.out.now.events < EVENT_ROOM
