-- The network of a core: its link ends and its switch, and what they make of a slot.
use Rattle.std.specs.Prelude.{ℕ, ◌≡◌, ◌==◌, ◌<◌, ◌↔◌, true, if◌then◌else◌, List, [], ◌∷◌, Option, Some, None, map, slice_index, slice_index_or}
use Rattle.xs_base.specs.Numbers.{Slot, NodeId, EndNumber}
use Rattle.xs_base.specs.declared.numbers.TheConstants.{LINK_ENDS}
use Rattle.xs_model.specs.declared.outside.Arrivals.{Arrivals}
use Rattle.xs_model.specs.Record.{ChanRec}
use Rattle.xs_model.specs.Outside.{Emitted}
use Rattle.xs_model.specs.AtWork.{AtWork, emitted_in}
use Rattle.net_model.specs.Links.{arrive}
use Rattle.net_model.specs.Switch.{Routes, moves}
use Rattle.link_ends.specs.Counts.{EndCounts, fresh_counts}
use Rattle.link_ends.specs.States.{counts_of, absent_end}
use Rattle.link_ends.specs.declared.state.EndState.{EndState}
use Rattle.switch_routes.specs.States.{switch_by}
use Rattle.switch_routes.specs.declared.state.InputState.{InputState}
use Rattle.switch_routes.specs.Switch.{SwitchRec, StandsIn, known_routes, idle_switch, with_parts}

-- the switch and the link ends
pub record NetworkRec : Type 0 where
  pub switch : SwitchRec
  pub links : List (Option EndCounts)

abbrev pub routes_of : NetworkRec → Routes
routes_of n = known_routes n.switch n.links

-- a link end with this gap as it starts; a gap of 0 says that it is not there
abbrev pub counts_with_gap : ℕ → Option EndCounts
counts_with_gap gap = if gap == 0 then None else Some (fresh_counts gap)

-- the network of a node as it starts, with the gaps of its link ends
abbrev pub first_network : NodeId → List ℕ → List ℕ → List ℕ → NetworkRec
first_network id ways nets gaps = record { switch = idle_switch id ways nets; links = map counts_with_gap gaps }

-- the network and the channel ends stand for a node at work in a slot, and so does what was emitted
pub record NetworkStands (slot : Slot) (n : NetworkRec) (chans : List ChanRec) (out : Emitted) (m : AtWork) : Type 0 where
  pub parts : StandsIn slot n.switch chans n.links m.rec
  pub emitted : out ≡ emitted_in slot m

-- a node at work after what arrives by its link ends, and its switch
abbrev pub arrived_and_moved : Routes → Slot → Arrivals → AtWork → AtWork
arrived_and_moved routes slot arrivals m = moves routes slot (arrive slot arrivals m)

-- what the network makes of a node at work
pub record Brings (slot : Slot) (arrivals : Arrivals) (routes : Routes) (n : NetworkRec) (chans : List ChanRec) (out : Emitted) (m : AtWork) : Type 0 where
  pub stands : NetworkStands slot n chans out (arrived_and_moved routes slot arrivals m)
  -- all else of the node is as it was
  pub rest : (arrived_and_moved routes slot arrivals m).rec ≡ with_parts m.rec n.switch.inputs chans (arrived_and_moved routes slot arrivals m).rec.links

-- a link end with this gap that a state says, where it is there
abbrev pub counts_by : ℕ → EndState → Option EndCounts
counts_by gap state = if state.present then Some (counts_of gap state) else None

-- the link ends with these gaps that states say
abbrev pub row_by : List ℕ → List EndState → List (Option EndCounts)
row_by (gap ∷ gaps) (state ∷ states) = counts_by gap state ∷ row_by gaps states
row_by _ _ = []

-- those link ends are there that have a gap
abbrev pub EndsHaveGaps : List ℕ → List EndState → Type 0
EndsHaveGaps gaps states =
    (end : EndNumber) → end < LINK_ENDS → (slice_index_or states end absent_end).present ≡ true ↔ 0 < slice_index gaps end

-- the network of a node, with the gaps of its link ends, whose inputs and link ends states say
abbrev pub network_by : NodeId → List ℕ → List ℕ → List ℕ → List InputState → List EndState → NetworkRec
network_by id ways nets gaps inputs ends = record { switch = switch_by id ways nets inputs; links = row_by gaps ends }
