-- What a thread does in a slot.
use Rattle.std.specs.Prelude.{ℕ, Bool, true, false, ◌==◌, if◌then◌else◌, Option, Some, None}
use Rattle.xs_base.specs.Numbers.{Slot, Position, ThreadNumber}
use Rattle.xs_model.specs.declared.thread.Run.{Run}
use Rattle.xs_model.specs.declared.thread.Run.TheVariants as run
use Rattle.xs_model.specs.declared.thread.Wait.{Wait}
use Rattle.xs_model.specs.declared.thread.Wait.TheVariants as wait
use Rattle.xs_model.specs.Picks.{eligible}
use Rattle.sys_plan.specs.declared.NodePlan.{NodePlan}
use Rattle.sys_plan.specs.Plan.{PlanRec}
use Rattle.processor.specs.declared.picks.NextIssue.{NextIssue}
use Rattle.issue_model.specs.declared.Ending.{Ending}
use Rattle.issue_model.specs.declared.Ending.TheVariants as ending
use Rattle.issue_model.specs.Endings.{ending_of}
use Rattle.issue_model.specs.Issues.{thread_in}
use Rattle.issue_model.specs.Seen.{Seen, seen_at}
use Rattle.chart_model.specs.declared.Mark.{Mark}
use Rattle.chart_model.specs.declared.Mark.TheVariants as mark

abbrev pub takes_mark : Bool → Mark
takes_mark false = mark.TakesEvent
takes_mark true = mark.TakesInterrupt

-- of a thread that issues, by how that ends
abbrev pub issue_mark : Ending → Mark
issue_mark (ending.Took interrupt) = takes_mark interrupt
issue_mark ending.Trapped = mark.Traps
issue_mark (ending.Paused w) = mark.Pauses
issue_mark ending.Ended = mark.Done
issue_mark ending.Done = mark.Done

-- of a thread that is paused, by what it waits for
abbrev pub wait_mark : Wait → Mark
wait_mark (wait.Room chan count) = mark.Room
wait_mark (wait.Tokens chan count) = mark.Tokens
wait_mark (wait.PortFull port) = mark.Port
wait_mark (wait.PortEmpty port) = mark.Port
wait_mark (wait.PortIdle port) = mark.Port
wait_mark (wait.Timer timer) = mark.Timer
wait_mark (wait.Lock lock) = mark.Lock
wait_mark (wait.Slaves sync) = mark.Slaves
wait_mark wait.Choice = mark.Choice
wait_mark wait.Divider = mark.Divider

abbrev pub ready_or : Bool → Mark → Mark
ready_or may other = if may then mark.Ready else other

-- of a thread that does not issue, by whether it may and what it does before the slot
abbrev pub run_mark : Bool → Run → Mark
run_mark may run.Free = mark.Free
run_mark may run.Unstarted = mark.Unstarted
run_mark may run.AtSync = mark.AtSync
run_mark may run.Going = ready_or may mark.Between
run_mark may (run.Paused w) = ready_or may (wait_mark w)
run_mark may run.Halted = mark.Halted

-- of thread k, by whether it may issue, what it does before the slot and after it, whether who issues traps, and who that is
abbrev pub mark_of : ThreadNumber → Bool → Run → Run → Bool → Option NextIssue → Mark
mark_of k may before after traps None = run_mark may before
mark_of k may before after traps (Some next) =
    if next.thread == k then issue_mark (ending_of next.takes traps after) else run_mark may before

-- of a node in a slot
abbrev pub mark_in : Seen → Slot → ThreadNumber → Mark
mark_in seen slot k =
    mark_of k (eligible seen.to_issue k slot) (thread_in seen.before.core.threads k).run (thread_in seen.after.core.threads k).run seen.traps seen.issue

-- of a thread of the node of a plan at a position, in a slot of the serial machine
abbrev pub mark_at : PlanRec → Slot → Position → NodePlan → ThreadNumber → Mark
mark_at plan slot n node k = mark_in (seen_at plan slot n node) slot k
