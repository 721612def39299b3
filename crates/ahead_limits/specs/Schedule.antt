-- A schedule in numbers: how far each node has run, and how much of each arc was seen and published.
use Rattle.std.specs.Prelude.{ℕ, ◌≡◌, zero, suc, ◌+◌, if◌then◌else◌, Option, Some, None, option_map, List, [], ◌∷◌, length, map, replicate, slice_index, slice_set}
use Rattle.xs_base.specs.Numbers.{Slot, Position, LinkNumber}
use Rattle.sys_plan.specs.declared.Step.{Step}
use Rattle.sys_plan.specs.declared.Step.TheVariants.{Take, Run, Send}
use Rattle.sys_plan.specs.Plan.{PlanRec, arc_count, outgoing, incoming, delay_of, ends_in}
use Rattle.ahead_limits.specs.declared.horizon.Seen.{Seen}
use Rattle.ahead_limits.specs.Horizon.{HorizonRec, may_run}

-- the clock of each node by position, which is the number of slots that it has run; of each arc by number, the slot up to which
-- its receiver has seen it, and the one up to which its sender has published it
pub record ScheduleRec : Type 0 where
  pub clocks : List Slot
  pub seen : List Slot
  pub published : List Slot

-- the clocks are those of the plan's nodes, and the other numbers those of its arcs
pub record IsOfPlan (plan : PlanRec) (s : ScheduleRec) : Type 0 where
  pub clocks : length s.clocks ≡ length plan.nodes
  pub seen : length s.seen ≡ arc_count plan
  pub published : length s.published ≡ arc_count plan

-- before the first step
abbrev pub schedule_at_start : PlanRec → ScheduleRec
schedule_at_start plan = record {
  clocks = replicate (length plan.nodes) 0;
  seen = replicate (arc_count plan) 0;
  published = replicate (arc_count plan) 0;
}

-- what is seen of the arc with a number
abbrev pub seen_of_link : PlanRec → List Slot → LinkNumber → Seen
seen_of_link plan seen link = record { delay = delay_of plan link; seen = slice_index seen link }

-- how far the node at a position may run in a run of so many slots, by what is seen of the arcs that come to it
abbrev pub horizon_of : PlanRec → Slot → List Slot → Position → HorizonRec
horizon_of plan limit seen n = record { limit = limit; ends = map (λ end. option_map (seen_of_link plan seen) (incoming plan n end)) (ends_in plan n) }

-- the clock of a node with this horizon that is to run so many slots: it runs each where its horizon lets it
unfoldable pub clock_after : HorizonRec → ℕ → Slot → Slot
clock_after h zero clock = clock
clock_after h (suc count) clock = clock_after h count (if may_run h clock then clock + 1 else clock)

-- what is published of an arc is seen
abbrev pub after_take : Option LinkNumber → ScheduleRec → ScheduleRec
after_take None s = s
after_take (Some link) s = record s { seen = slice_set s.seen link (slice_index s.published link) }

-- an arc is published up to a slot
abbrev pub after_send : Option LinkNumber → Slot → ScheduleRec → ScheduleRec
after_send None clock s = s
after_send (Some link) clock s = record s { published = slice_set s.published link clock }

-- a node runs so many slots, by what is seen of the arcs that come to it
abbrev pub after_run : PlanRec → Slot → Position → ℕ → ScheduleRec → ScheduleRec
after_run plan limit node count s =
    record s { clocks = slice_set s.clocks node (clock_after (horizon_of plan limit s.seen node) count (slice_index s.clocks node)) }

-- one step: a node takes what is published of the arc that comes to an end, runs so many slots, or publishes what it has sent on the arc
-- that leaves by an end
abbrev pub after_step : PlanRec → Slot → ScheduleRec → Step → ScheduleRec
after_step plan limit s (Take node end) = after_take (incoming plan node end) s
after_step plan limit s (Run node count) = after_run plan limit node count s
after_step plan limit s (Send node end) = after_send (outgoing plan node end) (slice_index s.clocks node) s

-- steps in their order
unfoldable pub after_steps : PlanRec → Slot → ScheduleRec → List Step → ScheduleRec
after_steps plan limit s [] = s
after_steps plan limit s (step ∷ steps) = after_steps plan limit (after_step plan limit s step) steps

-- the numbers after all steps of the plan, in a run of so many slots
abbrev pub numbers : PlanRec → Slot → ScheduleRec
numbers plan limit = after_steps plan limit (schedule_at_start plan) plan.steps
