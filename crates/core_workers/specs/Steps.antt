-- The parts of a worker's turn, arc by arc.
use Rattle.std.specs.Prelude.{ℕ, ◌≡◌, ◌≢◌, ◌<◌, min, nat_lt, if◌then◌else◌, Option, Some, None, List, [], length, slice_get, slice_index}
use Rattle.std.specs.List.{AllByRecursion}
use Rattle.xs_base.specs.Numbers.{Slot, EndNumber, LinkNumber}
use Rattle.sys_plan.specs.Plan.{PlanRec, arc_count}
use Rattle.plan_cells.specs.declared.ends.Incoming.{Incoming}
use Rattle.node_runners.specs.Runner.{RunnerRec}
use Rattle.core_workers.specs.declared.turn.Turn.{Turn}
use Rattle.core_workers.specs.declared.turn.Turn.TheVariants.{Ran, Blocked, Busy, Finished, Stopped, Memory}
use Rattle.core_workers.specs.Worker.{IsLeast, IsReadTo, shut_links, stopping_ends}

-- what a node has heard at one end changes, and nothing else of it
pub record HearsAt (end : EndNumber) (before after : RunnerRec) : Type 0 where
  pub rest : after ≡ record before { horizon = record before.horizon { ends = after.horizon.ends } }
  pub others : (k : EndNumber) → k ≢ end → slice_get after.horizon.ends k ≡ slice_get before.horizon.ends k

-- what a node has published by one end changes, and nothing else of it
pub record PublishesAt (end : EndNumber) (before after : RunnerRec) : Type 0 where
  pub rest : after ≡ record before { published = after.published }
  pub others : (k : EndNumber) → k ≢ end → slice_index after.published k ≡ slice_index before.published k
  pub all_ends : length after.published ≡ length before.published

-- the least of these numbers, where there is one
abbrev pub IsLeastOf : Option LinkNumber → List LinkNumber → Type 0
IsLeastOf None links = links ≡ []
IsLeastOf (Some link) links = IsLeast link links

-- the lesser of two numbers, where there are two
abbrev pub least_of : Option ℕ → Option ℕ → Option ℕ
least_of None b = b
least_of (Some a) None = Some a
least_of (Some a) (Some b) = Some (min a b)

-- the lesser of two ends, where there are two, and up to which slot its arc was read
abbrev pub lesser_stop : Option (EndNumber × Slot) → EndNumber → Slot → EndNumber × Slot
lesser_stop None end slot = (end, slot)
lesser_stop (Some stop) end slot = if nat_lt end stop.0 then (end, slot) else stop

-- the least of the ends that stop the node, and up to which slot its arc was read; none where no end does
abbrev pub IsLeastStop : PlanRec → Slot → List Incoming → Option (EndNumber × Slot) → Type 0
IsLeastStop plan clock ends None = stopping_ends plan clock ends ≡ []
IsLeastStop plan clock ends (Some stop) = IsLeast stop.0 (stopping_ends plan clock ends) × IsReadTo stop.1 stop.0 ends

-- why a node runs no slot, by what was looked at, if that tells
abbrev pub Explains : PlanRec → Slot → List Incoming → Option Turn → Type 0
Explains plan clock ends None = (shut_links ends ≡ []) × (stopping_ends plan clock ends ≡ [])
Explains plan clock ends (Some (Stopped link)) = IsLeast link (shut_links ends)
Explains plan clock ends (Some (Blocked end seen)) = (shut_links ends ≡ []) × IsLeast end (stopping_ends plan clock ends) × IsReadTo seen end ends
Explains plan clock ends (Some (Ran from to)) = ⊥
Explains plan clock ends (Some (Busy end)) = ⊥
Explains plan clock ends (Some Finished) = ⊥
Explains plan clock ends (Some Memory) = ⊥

-- the arcs of these ends are of the plan
abbrev pub AreOfPlan : PlanRec → List Incoming → Type 0
AreOfPlan plan ends = AllByRecursion (λ (i : Incoming). i.link < arc_count plan) ends

-- a turn found cells in use, and names the least of these ends
abbrev pub NamesLeast : List EndNumber → Turn → Type 0
NamesLeast ends (Busy end) = IsLeast end ends
NamesLeast ends (Ran from to) = ⊥
NamesLeast ends (Blocked end seen) = ⊥
NamesLeast ends Finished = ⊥
NamesLeast ends (Stopped link) = ⊥
NamesLeast ends Memory = ⊥
