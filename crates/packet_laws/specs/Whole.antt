-- What is true of each directed link before every slot of a run: what it has carried are packets, and what its two ends are at.
use Rattle.std.specs.Prelude.{ℕ, ◌≡◌, Bool, true, false, Some, List, [], ◌++◌, take, slice_get, slice_index_or}
use Rattle.xs_base.specs.Numbers.{Slot, NodeId, Position, EndNumber, InputNumber, LinkNumber}
use Rattle.xs_base.specs.declared.token.Token.{Token}
use Rattle.xs_model.specs.declared.dest.Dest.{Dest}
use Rattle.xs_model.specs.Record.{InputRec, Idle, Head1, Head2, Want, Local, Out, Lost}
use Rattle.net_model.specs.Switch.{state_at, is_out_by, buffer_of_link, link_at}
use Rattle.sys_plan.specs.Plan.{PlanRec, IsPlan, Arc, link_arcs}
use Rattle.serial_model.specs.Serial.{SystemRec, serial, node_by}
use Rattle.link_laws.specs.Travel.{opposite, tokens_of, credits_of}
use Rattle.rank_model.specs.Next.{arc_at, net_of, leads_by, is_next}
use Rattle.packet_laws.specs.Packets.{Place, Between, AfterOne, AfterTwo, Within, place_of, place_sent}

-- whether what is for an id leaves by a directed link, in the link's network
abbrev pub leads : PlanRec → LinkNumber → NodeId → Bool
leads plan l dest = is_next plan (arc_at plan l).from (net_of plan l) dest l

-- the tokens that a directed link has carried, and those of them that were taken at its far end: as many as credits went back
abbrev pub carried : SystemRec → LinkNumber → List Token
carried system l = tokens_of (slice_index_or system.histories l [])

abbrev pub taken : SystemRec → LinkNumber → List Token
taken system l = take (credits_of (slice_index_or system.histories (opposite l) [])) (carried system l)

-- ---- The sender's end. Its tokens are packets, each for an id that the link is on the way of; at most one input of the node holds the link
-- end, and the last packet is cut where one does.

-- these inputs of a node, and the tokens that have left by a link end
pub record Sends (passes : NodeId → Bool) (end : EndNumber) (inputs : List InputRec) (tokens : List Token) : Type 0 where
  pub place : Place
  pub packets : place_of passes tokens ≡ Some place
  -- the packet that is cut is that of the input that holds the link end, of which so many header bytes have gone out, 0 to 3
  pub held : (i : InputNumber) (headers : ℕ) (dest : Dest) → slice_index_or inputs i Idle ≡ Out end headers dest → (passes dest.node ≡ true) × (place ≡ place_sent headers dest)
  pub one : (i j : InputNumber) → is_out_by end (slice_index_or inputs i Idle) ≡ true → is_out_by end (slice_index_or inputs j Idle) ≡ true → i ≡ j
  pub free : ((i : InputNumber) → is_out_by end (slice_index_or inputs i Idle) ≡ false) → place ≡ Between

abbrev pub SenderEnd : PlanRec → SystemRec → LinkNumber → Arc → Type 0
SenderEnd plan system l d = Sends (leads plan l) d.from_end (node_by system.nodes d.from).inputs (carried system l)

-- ---- The receiver's end. What was taken are packets too, and the input is where they end.

-- a link end of the node at a position is on the way of what is for an id, in a network
abbrev pub IsOnWay : PlanRec → Position → ℕ → NodeId → EndNumber → Type 0
IsOnWay plan v net dest end = leads_by plan v net dest end ≡ true

-- an input where a link of a network ends is where the tokens that it took end. OnWay says of an id and a link end that the one is on the way
-- to the other
abbrev pub IsAt : (NodeId → EndNumber → Type 0) → ℕ → Place → InputRec → Type 0
IsAt OnWay net Between Idle = Unit {0}
IsAt OnWay net (AfterOne high) (Head1 b) = b ≡ high
IsAt OnWay net (AfterTwo high low) (Head2 b c) = (b ≡ high) × (c ≡ low)
IsAt OnWay net (Within dest) (Want to by) = (to ≡ dest) × (by ≡ net)
IsAt OnWay net (Within dest) (Local chan) = chan ≡ dest.chan
IsAt OnWay net (Within dest) (Out end headers to) = (to ≡ dest) × OnWay dest.node end
IsAt OnWay net (Within dest) Lost = Unit {0}
IsAt OnWay net _ _ = ⊥

pub record ReceiverEnd (plan : PlanRec) (system : SystemRec) (l : LinkNumber) (d : Arc) : Type 0 where
  pub place : Place
  pub packets : place_of (leads plan l) (taken system l) ≡ Some place
  pub at : IsAt (IsOnWay plan d.to (net_of plan l)) (net_of plan l) place (state_at (node_by system.nodes d.to) d.to_end)

-- ---- Both, before every slot, of a directed link l, which is d
pub record WholePackets (plan : PlanRec) (system : SystemRec) (l : LinkNumber) (d : Arc) : Type 0 where
  pub sender : SenderEnd plan system l d
  pub receiver : ReceiverEnd plan system l d
  -- what was taken came first; next come the tokens that wait at the input, and then those that are on their way
  pub on_their_way : List Token
  pub order : carried system l ≡ taken system l ++ (buffer_of_link (link_at (node_by system.nodes d.to) d.to_end) ++ on_their_way)

abbrev pub PacketsAreWhole : Type 0
PacketsAreWhole = (plan : PlanRec) (slot : Slot) (l : LinkNumber) (d : Arc) → IsPlan plan → slice_get (link_arcs plan.links) l ≡ Some d
    → WholePackets plan (serial plan slot) l d
