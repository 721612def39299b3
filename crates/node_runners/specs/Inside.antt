-- What a node that runs ahead keeps.
use Rattle.std.specs.Prelude.{ℕ, ◌≡◌, ◌+◌, ◌-◌, ◌^◌, ◌<◌, ◌≤◌, Option, Some, None, List, length, slice_get, slice_index, slice_index_or}
use Rattle.xs_base.specs.Numbers.{Slot, Word, Position, LinkNumber, EndNumber, PortNumber}
use Rattle.xs_base.specs.declared.numbers.TheConstants.{LINK_ENDS, PORTS}
use Rattle.sys_plan.specs.declared.NodePlan.{NodePlan}
use Rattle.sys_plan.specs.Plan.{PlanRec, IsPlan, incoming, outgoing, wire_to, delay_of}
use Rattle.sys_plan.specs.declared.system_plan.TheConstants.{ENDS}
use Rattle.serial_model.specs.Serial.{serial, history, driven_level}
use Rattle.locality_laws.specs.Locality.{node_in, events_in}
use Rattle.locality_laws.specs.Horizon.{level_before}
use Rattle.ahead_limits.specs.declared.horizon.Seen.{Seen}
use Rattle.ahead_limits.specs.Horizon.{HorizonRec, horizon_at}
use Rattle.node_seats.specs.declared.pins.Pins.{Pins}
use Rattle.node_seats.specs.declared.seat.Seat.{Seat}
use Rattle.node_seats.specs.Seats.{IsSeat, HasNoted, Plays}
use Rattle.node_seats.specs.Shown.{ArePins}
use Rattle.node_runners.specs.declared.inlets.Inlets.{Inlets}
use Rattle.node_runners.specs.declared.wire_inlets.WireInlet.{WireInlet}
use Rattle.node_runners.specs.Queue.{InletRec, no_inlet}
use Rattle.node_runners.specs.Wires.{wire_in}
use Rattle.node_runners.specs.Ends.{IsThere, inlet_by}
use Rattle.node_runners.specs.Sent.{WireOutRec, OutletsRec, wire_out, batch_by}
use Rattle.node_runners.specs.Joins.{ComesTo, LeavesFrom}

-- of an arc this much was seen, and of that the entries that arrive from the clock on wait
pub record HearsLink (plan : PlanRec) (clock : Slot) (link : LinkNumber) (s : Seen) (inlet : InletRec) : Type 0 where
  pub delay : s.delay ≡ delay_of plan link
  pub inlet_delay : inlet.delay ≡ delay_of plan link
  pub queue : inlet.queue ≡ history plan link (clock - delay_of plan link) s.seen
  pub ahead : clock ≤ horizon_at s

-- so it is at an end where an arc comes, and at another nothing is seen and nothing waits
abbrev pub Hears : PlanRec → Slot → Option LinkNumber → Option Seen → InletRec → Type 0
Hears plan clock None s inlet = (s ≡ None) × (inlet ≡ no_inlet)
Hears plan clock (Some link) None inlet = ⊥
Hears plan clock (Some link) (Some s) inlet = HearsLink plan clock link s inlet

-- the batch of an end by which an arc leaves has what it carried from the published slot on and before the clock
pub record Tells (plan : PlanRec) (clock : Slot) (link : LinkNumber) (end : EndNumber) (outlets : OutletsRec) (published : List Slot) : Type 0 where
  pub there : IsThere end (length outlets.links) (length outlets.wires)
  pub batch : (batch_by outlets end).entries ≡ history plan link (slice_index published end) clock

-- the arcs of a node, by its ends, as they are before the slot of its clock
pub record HasLinks (plan : PlanRec) (n : Position) (clock : Slot) (horizon : HorizonRec) (inlets : Inlets) (outlets : OutletsRec) (published : List Slot) : Type 0 where
  pub all_ends : length horizon.ends ≡ ENDS
  pub few_inlets : length inlets.links.ends ≤ LINK_ENDS
  pub few_batches : length outlets.links ≤ LINK_ENDS
  pub all_published : length published ≡ ENDS
  pub hears : (end : EndNumber) → Hears plan clock (incoming plan n end) (slice_index_or horizon.ends end None) (inlet_by inlets end)
  pub reached : (end : EndNumber) (link : LinkNumber) → incoming plan n end ≡ Some link → IsThere end (length inlets.links.ends) (length inlets.wires)
  pub tells : (end : EndNumber) (link : LinkNumber) → outgoing plan n end ≡ Some link → Tells plan clock link end outlets published
  pub behind : (end : EndNumber) → slice_index published end ≤ clock

-- what came last by wires to the pins of a node before a slot are these levels, by port number
abbrev pub HaveComeBefore : PlanRec → Position → Slot → List Word → Type 0
HaveComeBefore plan n slot levels = (port : PortNumber) (wire : LinkNumber) → port < PORTS → wire_to plan n port ≡ Some wire →
    slice_index_or levels port 0 ≡ level_before plan wire (slot - delay_of plan wire)

-- the pins of a node at its wires, as they are before the slot of its clock: the levels that came last, and those that were told last
pub record HasWires (plan : PlanRec) (n : Position) (clock : Slot) (levels : List Word) (wires_in : List WireInlet) (wires_out : List WireOutRec) : Type 0 where
  pub come : (k : ℕ) → k < length wires_in → ComesTo plan n (LINK_ENDS + k) (wire_in wires_in k).port
  pub came : HaveComeBefore plan n clock levels
  pub leave : (k : ℕ) → k < length wires_out → LeavesFrom plan n (LINK_ENDS + k) (wire_out wires_out k).port
  pub told : (k : ℕ) → k < length wires_out → (wire_out wires_out k).sent ≡ driven_level (node_in (serial plan clock) n) (wire_out wires_out k).port

-- the node is what it is in the serial machine
pub record Sits (plan : PlanRec) (n : Position) (clock : Slot) (seat : Seat) : Type 0 where
  pub node : NodePlan
  pub here : slice_get plan.nodes n ≡ Some node
  pub ready : IsSeat clock seat
  pub plays : Plays plan clock n node seat (node_in (serial plan clock) n) (events_in (serial plan clock) n)

pub record IsRunner (plan : PlanRec) (n : Position) (clock : Slot) (horizon : HorizonRec) (seat : Seat) (pins : Pins) (inlets : Inlets) (outlets : OutletsRec) (published : List Slot) : Type 0 where
  pub plan_is : IsPlan plan
  pub within : clock ≤ horizon.limit
  pub small : horizon.limit < 2 ^ 32
  pub seat_is : Sits plan n clock seat
  pub pins_are : ArePins plan n clock pins
  pub noted : HasNoted clock pins seat
  pub links : HasLinks plan n clock horizon inlets outlets published
  pub wires : HasWires plan n clock pins.levels inlets.wires outlets.wires
