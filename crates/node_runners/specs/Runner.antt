-- One node that runs ahead of the others, as far as what it has seen of the arcs that come to it lets it.
use Rattle.std.specs.Prelude.{ℕ, ◌≡◌, ◌+◌, ◌<◌, true, List, replicate}
use Rattle.xs_base.specs.Numbers.{Slot, Position}
use Rattle.sys_plan.specs.Plan.{PlanRec, arc_count}
use Rattle.sys_plan.specs.declared.system_plan.TheConstants.{ENDS}
use Rattle.ahead_limits.specs.Horizon.{HorizonRec, may_run, StopsAt}
use Rattle.ahead_limits.specs.Schedule.{horizon_of}
use Rattle.node_runners.specs.declared.runner.Ran.{Ran}
use Rattle.node_runners.specs.declared.runner.Ran.TheVariants.{Slot as one_slot, Blocked, AtLimit}

-- the node at a position of a plan: its clock, which is the number of slots that it has run, how many of these it has stepped, which is
-- to run them one by one, how far it may run, and up to which slot it has published what it sends, by end (0 where no arc leaves)
pub record RunnerRec : Type 0 where
  pub plan : PlanRec
  pub node : Position
  pub clock : Slot
  pub stepped : ℕ
  pub horizon : HorizonRec
  pub published : List Slot

-- before its first slot, in a run of so many slots
abbrev pub new_runner : PlanRec → Slot → Position → RunnerRec
new_runner plan limit n = record {
  plan = plan;
  node = n;
  clock = 0;
  stepped = 0;
  horizon = horizon_of plan limit (replicate (arc_count plan) 0) n;
  published = replicate ENDS 0;
}

-- why a node does not run the slot of its clock
abbrev pub Stops : HorizonRec → Slot → Ran → Type 0
Stops h clock one_slot = ⊥
Stops h clock (Blocked end seen) = (clock < h.limit) × StopsAt h clock end seen
Stops h clock AtLimit = clock ≡ h.limit

-- what came of a call to run a slot: a slot where the horizon lets the node run it; else nothing changes, and an end stops the node, or it is
-- at the limit
abbrev pub Runs : RunnerRec → Ran → RunnerRec → Type 0
Runs before one_slot after = (may_run before.horizon before.clock ≡ true) × (after ≡ record before { clock = before.clock + 1; stepped = before.stepped + 1 })
Runs before (Blocked end seen) after = (before.clock < before.horizon.limit) × StopsAt before.horizon before.clock end seen × (after ≡ before)
Runs before AtLimit after = (before.clock ≡ before.horizon.limit) × (after ≡ before)
