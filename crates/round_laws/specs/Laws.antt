-- What rounds keep to.
use Rattle.std.specs.Prelude.{ℕ, ◌≡◌, ◌+◌, ◌-◌, ◌*◌, ◌/◌, ◌<◌, ◌≤◌, min, true, false, ◌↔◌, nat_lt, Option, Some, None, List, [], length, map, slice_get}
use Rattle.std.specs.List.{AllByRecursion}
use Rattle.xs_base.specs.Numbers.{Slot, Position, EndNumber, LinkNumber}
use Rattle.sys_plan.specs.Plan.{PlanRec, IsPlan, Arc, arcs, incoming}
use Rattle.ahead_limits.specs.declared.horizon.Seen.{Seen}
use Rattle.ahead_limits.specs.Horizon.{HorizonRec, Sees, may_run}
use Rattle.ahead_limits.specs.Bound.{least_bound}
use Rattle.ahead_limits.specs.Schedule.{horizon_of, clock_after}
use Rattle.round_laws.specs.Rounds.{least, arcs_to, round_clock, all_at_limit, rounds, least_delay}

-- ---- Clocks, round by round

-- before the first round every clock is 0
abbrev pub ClocksStartAtZero : Type 0
ClocksStartAtZero = (plan : PlanRec) (limit : Slot) (n : Position) → round_clock plan limit n 0 ≡ 0

-- after a round more a clock is the least of the limit and, over the arcs that come to the node, the sender's clock and the delay
abbrev pub ClocksGoByRounds : Type 0
ClocksGoByRounds = (plan : PlanRec) (limit : Slot) (n : Position) (k : ℕ) → n < length plan.nodes
    → round_clock plan limit n (k + 1) ≡ least limit (map (λ (d : Arc). round_clock plan limit d.from k + d.delay) (arcs_to plan n))

-- a round lets no clock fall
abbrev pub NoRoundFalls : Type 0
NoRoundFalls = (plan : PlanRec) (limit : Slot) (n : Position) (k : ℕ) → round_clock plan limit n k ≤ round_clock plan limit n (k + 1)

-- no clock passes the limit
abbrev pub ClocksStayWithin : Type 0
ClocksStayWithin = (plan : PlanRec) (limit : Slot) (n : Position) (k : ℕ) → round_clock plan limit n k ≤ limit

-- ---- How fast they rise

-- all nodes of a plan have run so many slots after so many rounds
abbrev pub AllHaveRun : PlanRec → Slot → ℕ → Slot → Type 0
AllHaveRun plan limit k least = (n : Position) → n < length plan.nodes → least ≤ round_clock plan limit n k

-- a round takes the least clock further by the least delay at least, or to the limit
abbrev pub RoundGoesOn : Type 0
RoundGoesOn = (plan : PlanRec) (limit delay least : Slot) (k : ℕ) → IsPlan plan → least_delay (arcs plan) ≡ Some delay
    → AllHaveRun plan limit k least → AllHaveRun plan limit (k + 1) (min limit (least + delay))

-- so after any rounds every clock is at least that many least delays, or the limit
abbrev pub RoundsGoOn : Type 0
RoundsGoOn = (plan : PlanRec) (limit delay : Slot) (k : ℕ) → IsPlan plan → least_delay (arcs plan) ≡ Some delay → AllHaveRun plan limit k (min limit (k * delay))

-- ---- How many rounds

-- no delay of these arcs is below this one, and one of them has it
pub record IsLeastOf (ds : List Arc) (delay : Slot) : Type 0 where
  pub none_below : AllByRecursion (λ (d : Arc). delay ≤ d.delay) ds
  pub place : ℕ
  pub arc : Arc
  pub there : slice_get ds place ≡ Some arc
  pub is_it : arc.delay ≡ delay

abbrev pub IsLeastDelay : List Arc → Option Slot → Type 0
IsLeastDelay ds None = ds ≡ []
IsLeastDelay ds (Some delay) = IsLeastOf ds delay

-- the least delay is one of the delays, and none is below it
abbrev pub LeastDelayIsLeast : Type 0
LeastDelayIsLeast = (ds : List Arc) → IsLeastDelay ds (least_delay ds)

-- they are at most the limit over the least delay, rounded up
abbrev pub RoundsByDelay : Type 0
RoundsByDelay = (plan : PlanRec) (limit delay : Slot) → IsPlan plan → least_delay (arcs plan) ≡ Some delay → rounds plan limit ≤ (limit + delay - 1) / delay

-- at most one where there is neither a link nor a wire
abbrev pub RoundsWithoutArcs : Type 0
RoundsWithoutArcs = (plan : PlanRec) (limit : Slot) → plan.links ≡ [] → plan.wires ≡ [] → rounds plan limit ≤ 1

-- never more than the run has slots, for a delay is a slot at least
abbrev pub RoundsWithinSlots : Type 0
RoundsWithinSlots = (plan : PlanRec) (limit : Slot) → IsPlan plan → rounds plan limit ≤ limit

-- none in a run of no slots
abbrev pub NoRoundsForNoSlots : Type 0
NoRoundsForNoSlots = (plan : PlanRec) → rounds plan 0 ≡ 0

-- ---- Which number that is

-- the test is whether each clock is the limit
abbrev pub TestIsOfEach : Type 0
TestIsOfEach = (plan : PlanRec) (limit : Slot) (k : ℕ) → (all_at_limit plan limit k ≡ true) ↔ ((n : Position) → n < length plan.nodes → round_clock plan limit n k ≡ limit)

-- from that number on all nodes are at the limit, and before it they are not
abbrev pub AllFromThenOn : Type 0
AllFromThenOn = (plan : PlanRec) (limit : Slot) (k : ℕ) → IsPlan plan → rounds plan limit ≤ k → all_at_limit plan limit k ≡ true

abbrev pub NotAllBefore : Type 0
NotAllBefore = (plan : PlanRec) (limit : Slot) (k : ℕ) → k < rounds plan limit → all_at_limit plan limit k ≡ false

-- so where they are not all there, more rounds are to come
abbrev pub MoreWhereNotAll : Type 0
MoreWhereNotAll = (plan : PlanRec) (limit : Slot) (k : ℕ) → IsPlan plan → all_at_limit plan limit k ≡ false → k < rounds plan limit

-- where all are at the limit before the first round, it is 0
abbrev pub NoneIfAllAtStart : Type 0
NoneIfAllAtStart = (plan : PlanRec) (limit : Slot) → all_at_limit plan limit 0 ≡ true → rounds plan limit ≡ 0

-- where a round is the first after which all are, it is the number of that round, counted from 1
abbrev pub CountIfFirst : Type 0
CountIfFirst = (plan : PlanRec) (limit : Slot) (k : ℕ) → IsPlan plan → all_at_limit plan limit k ≡ false → all_at_limit plan limit (k + 1) ≡ true → rounds plan limit ≡ k + 1

-- ---- A node that is told what the others ran in the round before

-- of each arc that comes to the node at a position, its horizon sees the slots that the sender had run after so many rounds, and sees no other
pub record SeesRound (plan : PlanRec) (limit : Slot) (n : Position) (k : ℕ) (h : HorizonRec) : Type 0 where
  pub limit_is : h.limit ≡ limit
  pub sees : (link : LinkNumber) (d : Arc) → slice_get (arcs plan) link ≡ Some d → d.to ≡ n → Sees h d.to_end (record { delay = d.delay; seen = round_clock plan limit d.from k })
  pub no_others : (end : EndNumber) (s : Seen) → Sees h end s → (link : LinkNumber) × (incoming plan n end ≡ Some link)

-- it is then the next clock up to which it may run
abbrev pub RoundRunsBelow : Type 0
RoundRunsBelow = (plan : PlanRec) (limit : Slot) (n : Position) (k : ℕ) (h : HorizonRec) → n < length plan.nodes → SeesRound plan limit n k h
    → least_bound h.limit h.ends ≡ round_clock plan limit n (k + 1)

-- it may run exactly the slots below that
abbrev pub RoundMayRun : Type 0
RoundMayRun = (plan : PlanRec) (limit : Slot) (n : Position) (k : ℕ) (h : HorizonRec) (clock : Slot) → n < length plan.nodes → SeesRound plan limit n k h
    → may_run h clock ≡ nat_lt clock (round_clock plan limit n (k + 1))

-- from its clock after so many rounds it runs to that after one more, where it is to run as many slots at least
abbrev pub RoundRunsTo : Type 0
RoundRunsTo = (plan : PlanRec) (limit : Slot) (n : Position) (k count : ℕ) (h : HorizonRec) → n < length plan.nodes → SeesRound plan limit n k h
    → round_clock plan limit n (k + 1) ≤ round_clock plan limit n k + count → clock_after h count (round_clock plan limit n k) ≡ round_clock plan limit n (k + 1)

-- what is seen of each arc where all know what all others had run after so many rounds
abbrev pub seen_after : PlanRec → Slot → ℕ → List Slot
seen_after plan limit k = map (λ (d : Arc). round_clock plan limit d.from k) (arcs plan)

-- the horizon by that sees it
abbrev pub HorizonSeesRound : Type 0
HorizonSeesRound = (plan : PlanRec) (limit : Slot) (n : Position) (k : ℕ) → IsPlan plan → SeesRound plan limit n k (horizon_of plan limit (seen_after plan limit k) n)
