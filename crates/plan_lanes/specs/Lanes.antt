-- The nodes and the arcs of a plan, by how far each node has run, and how much of each arc was published and seen.
use Rattle.std.specs.Prelude.{ℕ, ◌≡◌, ◌<◌, None, List, length, map, slice_index_or}
use Rattle.xs_base.specs.Numbers.{Slot, Position, LinkNumber}
use Rattle.sys_plan.specs.Plan.{PlanRec, arc_count, outgoing, ends_out}
use Rattle.link_logs.specs.Logs.{Writes, Reads}
use Rattle.ahead_limits.specs.Schedule.{ScheduleRec, horizon_of}
use Rattle.play_model.specs.Play.{number_by}
use Rattle.node_runners.specs.Runner.{RunnerRec}
use Rattle.plan_lanes.specs.declared.lane.Lane.{Lane}

-- what holds of each place and what stands there
abbrev pub AllAt : {X : Type 0} → (ℕ → X → Type 0) → List X → Type 0
AllAt {X} P xs = (k : ℕ) (x : X) → k < length xs → P k (slice_index_or xs k x)

-- ---- One node, and one arc

-- what a node has published by each of its ends, 0 where no arc leaves
abbrev pub published_at : PlanRec → List Slot → Position → List Slot
published_at plan published n = map (λ end. number_by published (outgoing plan n end)) (ends_out plan n)

-- the node at a position, by what is seen and what is published of each arc
pub record IsRunner (plan : PlanRec) (limit : Slot) (seen published : List Slot) (n : Position) (runner : RunnerRec) : Type 0 where
  pub of_plan : runner.plan ≡ plan
  pub node_is : runner.node ≡ n
  pub horizon_is : runner.horizon ≡ horizon_of plan limit seen n
  pub published_is : runner.published ≡ published_at plan published n

-- the lane of the arc with a number: its log is open, and both ends are that log's
pub record IsLane (plan : PlanRec) (link : LinkNumber) (lane : Lane) : Type 0 where
  pub of_plan : lane.log.run ≡ plan
  pub number_is : lane.log.number ≡ link
  pub open_is : lane.log.cause ≡ None
  pub writes : Writes lane.w lane.log
  pub reads : Reads lane.r lane.log

-- nothing was published on it, and nothing seen
pub record IsNewLane (plan : PlanRec) (link : LinkNumber) (lane : Lane) : Type 0 where
  pub lane_is : IsLane plan link lane
  pub seen_none : lane.r.got ≡ 0
  pub published_none : lane.log.published ≡ 0

-- ---- All of them

abbrev pub clocks_of : List RunnerRec → List Slot
clocks_of runners = map (λ (r : RunnerRec). r.clock) runners

abbrev pub seen_of : List Lane → List Slot
seen_of lanes = map (λ (lane : Lane). lane.r.got) lanes

abbrev pub published_of : List Lane → List Slot
published_of lanes = map (λ (lane : Lane). lane.log.published) lanes

abbrev pub numbers_of : List RunnerRec → List Lane → ScheduleRec
numbers_of runners lanes = record { clocks = clocks_of runners; seen = seen_of lanes; published = published_of lanes }

-- nodes by position and arcs by number, all as the numbers of the schedule have them
pub record AreAt (plan : PlanRec) (limit : Slot) (runners : List RunnerRec) (lanes : List Lane) : Type 0 where
  pub node_count : length runners ≡ length plan.nodes
  pub link_count : length lanes ≡ arc_count plan
  pub each_node : AllAt (IsRunner plan limit (seen_of lanes) (published_of lanes)) runners
  pub each_lane : AllAt (IsLane plan) lanes
