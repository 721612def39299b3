-- All nodes and lanes of a plan, between rounds and after them.
use Rattle.std.specs.Prelude.{ℕ, ◌≡◌, ◌<◌, ◌^◌, List, All, length, map, slice_index, slice_index_or}
use Rattle.xs_base.specs.Numbers.{Slot, Position, LinkNumber}
use Rattle.sys_plan.specs.Plan.{PlanRec, IsPlan, Arc, arcs}
use Rattle.node_runners.specs.Runner.{RunnerRec}
use Rattle.node_runners.specs.Busy.{HasSteppedBusy}
use Rattle.plan_lanes.specs.declared.lane.Lane.{Lane}
use Rattle.plan_lanes.specs.Lanes.{AreAt, clocks_of, seen_of, published_of}
use Rattle.round_laws.specs.Rounds.{round_clocks}
use Rattle.node_rounds.specs.declared.seat.Seat.{Seat}
use Rattle.node_rounds.specs.declared.table.Table.{Table}
use Rattle.node_rounds.specs.Seats.{MayTake, HasWorked, told}

-- the nodes as they will be once each has taken what lies ready for it
abbrev pub all_told : List Seat → List RunnerRec
all_told seats = map told seats

abbrev pub IsBusySeat : Seat → Type 0
IsBusySeat seat = HasSteppedBusy seat.runner

-- each node has worked
pub record HaveWorked (before after : List Seat) : Type 0 where
  pub count : length after ≡ length before
  pub each : (n : Position) (d : Seat) → n < length before → HasWorked (slice_index_or before n d) (slice_index_or after n d)

-- What holds at any time but while nodes work. Of an arc that much is seen, or will be, as was taken from its lane: some of it may lie
-- ready for its receiver.
pub record AreBetween (plan : PlanRec) (limit : Slot) (seats : List Seat) (lanes : List Lane) : Type 0 where
  pub plan_is : IsPlan plan
  pub small : limit < 2 ^ 32
  pub are_at : AreAt plan limit (all_told seats) lanes
  pub ready : All MayTake seats
  pub busy : All IsBusySeat seats

-- the position of the node that an arc with a number leaves, and by arc what that node has run
abbrev pub sender_of : PlanRec → LinkNumber → Position
sender_of plan link = slice_index (map (λ (d : Arc). d.from) (arcs plan)) link

abbrev pub run_by_senders : PlanRec → List Slot → List Slot
run_by_senders plan clocks = map (λ (d : Arc). slice_index clocks d.from) (arcs plan)

-- after so many rounds each node has that round's clock; and of each arc all that its sender had run then is published, and seen as soon as
-- what lies ready is taken
pub record AreAfter (plan : PlanRec) (limit : Slot) (rounds : ℕ) (seats : List Seat) (lanes : List Lane) : Type 0 where
  pub between : AreBetween plan limit seats lanes
  pub clocks : clocks_of (all_told seats) ≡ round_clocks plan limit rounds
  pub published : published_of lanes ≡ run_by_senders plan (round_clocks plan limit rounds)
  pub seen : seen_of lanes ≡ run_by_senders plan (round_clocks plan limit rounds)

-- ---- Of a table

abbrev pub clocks_in : Table → List Slot
clocks_in table = clocks_of (all_told table.seats.items)

abbrev pub IsBetween : PlanRec → Table → Type 0
IsBetween plan table = AreBetween plan table.limit table.seats.items table.lanes.items

abbrev pub IsAfter : PlanRec → ℕ → Table → Type 0
IsAfter plan rounds table = AreAfter plan table.limit rounds table.seats.items table.lanes.items

-- the run has as many slots as before, and this is told of the nodes and lanes before and after
abbrev pub Turns : (Slot → List Seat → List Lane → List Seat → List Lane → Type 0) → Table → Table → Type 0
Turns step before after = (after.limit ≡ before.limit) × step before.limit before.seats.items before.lanes.items after.seats.items after.lanes.items
