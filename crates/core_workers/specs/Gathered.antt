-- The logs of all arcs of a plan, at the limit of a run.
use Rattle.std.specs.Prelude.{◌≡◌}
use Rattle.xs_base.specs.Numbers.{Slot, LinkNumber}
use Rattle.sys_plan.specs.Plan.{PlanRec}
use Rattle.serial_model.specs.Serial.{history}
use Rattle.trace_model.specs.Trace.{tokens_sent, credits_sent}
use Rattle.link_logs.specs.Logs.{LogRec}
use Rattle.plan_cells.specs.Ends.{IsLogOf}
use Rattle.finished_runs.specs.Limit.{Totals}

-- the log of an arc of a plan, to which all was published that the arc carries below a slot
pub record IsFull (plan : PlanRec) (limit : Slot) (link : LinkNumber) (log : LogRec PlanRec) : Type 0 where
  pub log_of : IsLogOf plan link log
  pub published : log.published ≡ limit

-- how many tokens, or levels of a wire, and how many credits, the arc of a log has carried before the published slot, whatever the log still holds
abbrev pub sent_in : LogRec PlanRec → Totals
sent_in log = (tokens_sent (history log.run log.number 0 log.published), credits_sent (history log.run log.number 0 log.published))
