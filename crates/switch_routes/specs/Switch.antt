-- What contracts see of a switch, and what it stands for.
use Rattle.std.specs.Prelude.{ℕ, ◌≡◌, List, replicate, Option, map, ◌++◌}
use Rattle.xs_base.specs.Numbers.{Slot, NodeId}
use Rattle.xs_model.specs.declared.event.Event.{Event}
use Rattle.xs_model.specs.Record.{NodeRec, InputRec, ChanRec, LinkRec, Idle}
use Rattle.xs_model.specs.Outside.{Emitted, in_slot}
use Rattle.xs_model.specs.AtWork.{AtWork}
use Rattle.net_model.specs.Switch.{Routes}
use Rattle.link_ends.specs.Counts.{EndCounts}
use Rattle.switch_routes.specs.Rows.{AllCountsOf, CreditedBy, end_gaps}

-- the id of the switch's node, for each bit of an id the link ends that lead on, as a mask, for each link end the network of
-- its link, and the inputs' states
pub record SwitchRec : Type 0 where
  pub id : NodeId
  pub ways : List ℕ  -- 16
  pub nets : List ℕ  -- 8
  pub inputs : List InputRec  -- 40

-- every input is idle
abbrev pub idle_switch : NodeId → List ℕ → List ℕ → SwitchRec
idle_switch id ways nets = record { id = id; ways = ways; nets = nets; inputs = replicate 40 Idle }

-- what a switch knows of its node's plan: the gaps are those of its link ends
abbrev pub known_routes : SwitchRec → List (Option EndCounts) → Routes
known_routes switch row = record { id = switch.id; ways = switch.ways; nets = switch.nets; gaps = end_gaps row }

-- a switch, channel ends and a row of link ends stand for a node's record in a slot
pub record StandsIn (slot : Slot) (switch : SwitchRec) (ends : List ChanRec) (row : List (Option EndCounts)) (rec : NodeRec) : Type 0 where
  pub inputs : switch.inputs ≡ rec.inputs
  pub chans : ends ≡ rec.core.chans
  pub links : AllCountsOf row rec.links
  pub credited : CreditedBy slot rec.links

-- a node with these inputs, channel ends and link records, and all else as it was
abbrev pub with_parts : NodeRec → List InputRec → List ChanRec → List (Option LinkRec) → NodeRec
with_parts rec inputs chans links = record rec { core = record rec.core { chans = chans }; inputs = inputs; links = links }

-- what a slot gave so far, after these events
abbrev pub emitted_after : List Event → Slot → AtWork → Emitted
emitted_after before slot m = record { events = before ++ map (in_slot slot) m.happened; tokens = m.tokens; credits = m.credits }
