-- What is handed on by the arcs of a plan, after all nodes have worked.
use Rattle.std.specs.Prelude.{◌≡◌, List, [], All, map, slice_index, slice_set}
use Rattle.xs_base.specs.Numbers.{Slot, Position, LinkNumber}
use Rattle.sys_plan.specs.Plan.{PlanRec}
use Rattle.node_runners.specs.Runner.{RunnerRec}
use Rattle.plan_lanes.specs.declared.lane.Lane.{Lane}
use Rattle.plan_lanes.specs.Lanes.{clocks_of, seen_of, published_of}
use Rattle.node_rounds.specs.declared.seat.Seat.{Seat}
use Rattle.node_rounds.specs.Rounds.{AreBetween, all_told, sender_of, run_by_senders}

-- the sender of an arc, the node at a position, publishes all that it has run
pub record Sends (plan : PlanRec) (link : LinkNumber) (node : Position) (limit : Slot) (seats : List Seat) (lanes : List Lane) (seats_after : List Seat) (lanes_after : List Lane) : Type 0 where
  pub between : AreBetween plan limit seats_after lanes_after
  pub same_clocks : clocks_of (all_told seats_after) ≡ clocks_of (all_told seats)
  pub published : published_of lanes_after ≡ slice_set (published_of lanes) link (slice_index (clocks_of (all_told seats)) node)
  pub same_seen : seen_of lanes_after ≡ seen_of lanes

-- what is published of the arc lies ready for its receiver
pub record Takes (plan : PlanRec) (link : LinkNumber) (limit : Slot) (seats : List Seat) (lanes : List Lane) (seats_after : List Seat) (lanes_after : List Lane) : Type 0 where
  pub between : AreBetween plan limit seats_after lanes_after
  pub same_clocks : clocks_of (all_told seats_after) ≡ clocks_of (all_told seats)
  pub same_published : published_of lanes_after ≡ published_of lanes
  pub seen : seen_of lanes_after ≡ slice_set (seen_of lanes) link (slice_index (published_of lanes) link)

-- all that its sender has run is handed on to its receiver
pub record HandsOn (plan : PlanRec) (link : LinkNumber) (limit : Slot) (seats : List Seat) (lanes : List Lane) (seats_after : List Seat) (lanes_after : List Lane) : Type 0 where
  pub between : AreBetween plan limit seats_after lanes_after
  pub same_clocks : clocks_of (all_told seats_after) ≡ clocks_of (all_told seats)
  pub published : published_of lanes_after ≡ slice_set (published_of lanes) link (slice_index (clocks_of (all_told seats)) (sender_of plan link))
  pub seen : seen_of lanes_after ≡ slice_set (seen_of lanes) link (slice_index (clocks_of (all_told seats)) (sender_of plan link))

-- and so by all arcs
pub record HandsAllOn (plan : PlanRec) (limit : Slot) (seats : List Seat) (lanes : List Lane) (seats_after : List Seat) (lanes_after : List Lane) : Type 0 where
  pub between : AreBetween plan limit seats_after lanes_after
  pub same_clocks : clocks_of (all_told seats_after) ≡ clocks_of (all_told seats)
  pub published : published_of lanes_after ≡ run_by_senders plan (clocks_of (all_told seats))
  pub seen : seen_of lanes_after ≡ run_by_senders plan (clocks_of (all_told seats))

-- ---- Before the first round

-- nodes for which nothing lies ready
pub record IsFreshSeat (seat : Seat) : Type 0 where
  pub none : seat.handed.items ≡ []

pub record AreFresh (runners : List RunnerRec) (seats : List Seat) : Type 0 where
  pub runners_are : map (λ (seat : Seat). seat.runner) seats ≡ runners
  pub fresh : All IsFreshSeat seats
