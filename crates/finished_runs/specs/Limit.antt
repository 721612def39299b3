-- A run at its limit: the nodes of a plan, and what was sent on its arcs.
use Rattle.std.specs.Prelude.{ℕ, ◌≡◌, if◌then◌else◌, Bool, Some, List, All, length, slice_get}
use Rattle.xs_base.specs.Numbers.{Slot, LinkNumber, Position}
use Rattle.sys_plan.specs.Plan.{PlanRec, arc_count}
use Rattle.serial_model.specs.Serial.{history}
use Rattle.trace_model.specs.Trace.{tokens_sent, credits_sent}
use Rattle.busy_slots.specs.Busy.{busy_count}
use Rattle.node_runners.specs.Runner.{RunnerRec}
use Rattle.node_runners.specs.Busy.{HasSteppedBusy}

-- what contracts see of its nodes: the plan, and how many slots were run
pub record AtLimitRec : Type 0 where
  pub plan : PlanRec
  pub limit : Slot

-- what they see of the run: whether each node was run apart, too, which steps the busy slots alone
pub record FinishedRunRec : Type 0 where
  pub plan : PlanRec
  pub limit : Slot
  pub apart : Bool

-- how many slots the node at a position has stepped: those that are busy, where it was run apart, and else all
abbrev pub stepped_in : FinishedRunRec → Position → ℕ
stepped_in run n = if run.apart then busy_count run.plan n run.limit else run.limit

-- how many tokens, or levels of a wire, and how many credits
abbrev pub Totals : Type 0
Totals = ℕ × ℕ

-- the node at a position of a plan, which has run so many slots
pub record HasRun (plan : PlanRec) (limit : Slot) (n : Position) (runner : RunnerRec) : Type 0 where
  pub plan_is : runner.plan ≡ plan
  pub node : runner.node ≡ n
  pub clock : runner.clock ≡ limit

-- so many tokens and credits an arc of a plan carries below a slot
pub record HasSent (plan : PlanRec) (limit : Slot) (link : LinkNumber) (sent : Totals) : Type 0 where
  pub tokens : sent.0 ≡ tokens_sent (history plan link 0 limit)
  pub credits : sent.1 ≡ credits_sent (history plan link 0 limit)

-- all nodes of a plan, by position, at the limit of a run, and the totals of all its arcs, by number
pub record AreAtLimit (plan : PlanRec) (limit : Slot) (runners : List RunnerRec) (totals : List Totals) : Type 0 where
  pub nodes : length runners ≡ length plan.nodes
  pub each_node : (n : Position) (runner : RunnerRec) → slice_get runners n ≡ Some runner → HasRun plan limit n runner
  pub links : length totals ≡ arc_count plan
  pub each_link : (link : LinkNumber) (sent : Totals) → slice_get totals link ≡ Some sent → HasSent plan limit link sent

-- all nodes of a plan that were run apart, and the totals of all its arcs
pub record WereRunApart (plan : PlanRec) (limit : Slot) (runners : List RunnerRec) (totals : List Totals) : Type 0 where
  pub at_limit : AreAtLimit plan limit runners totals
  pub busy : All HasSteppedBusy runners
