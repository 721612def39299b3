-- What the characters of threads in a chart say of issues.
use Rattle.std.specs.Prelude.{◌≡◌, Bool, true, false, ◌==◌, Option, Some, None}
use Rattle.xs_base.specs.Numbers.{Slot, Position, ThreadNumber}
use Rattle.sys_plan.specs.declared.NodePlan.{NodePlan}
use Rattle.sys_plan.specs.Plan.{PlanRec}
use Rattle.processor.specs.declared.picks.NextIssue.{NextIssue}
use Rattle.issue_model.specs.Seen.{seen_at}
use Rattle.chart_model.specs.declared.Mark.{Mark}
use Rattle.chart_model.specs.declared.Mark.TheVariants as mark
use Rattle.chart_model.specs.Marks.{mark_at}

-- whether it is one of those that are written as capitals
abbrev pub is_capital : Mark → Bool
is_capital mark.Done = true
is_capital mark.Pauses = true
is_capital mark.Traps = true
is_capital mark.TakesEvent = true
is_capital mark.TakesInterrupt = true
is_capital _ = false

-- whether an issue, if there is one, is a thread's
abbrev pub is_by : ThreadNumber → Option NextIssue → Bool
is_by k None = false
is_by k (Some next) = next.thread == k

-- ---- The law

-- a thread has a capital exactly in the slots in which it issues
abbrev pub CapitalsAreIssues : Type 0
CapitalsAreIssues = (plan : PlanRec) (slot : Slot) (n : Position) (node : NodePlan) (k : ThreadNumber) →
    is_capital (mark_at plan slot n node k) ≡ is_by k (seen_at plan slot n node).issue
