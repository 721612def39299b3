-- What issues is marked as a capital, and nothing else.
use Rattle.std.proofs.Common.{◌≡◌, Bool, true, false, ◌==◌, if◌then◌else◌, Option, Some, None, refl}
use Rattle.xs_base.specs.Numbers.{ThreadNumber}
use Rattle.xs_model.specs.declared.thread.Run.{Run}
use Rattle.xs_model.specs.declared.thread.Run.TheVariants as run
use Rattle.xs_model.specs.declared.thread.Wait.{Wait}
use Rattle.xs_model.specs.declared.thread.Wait.TheVariants as wait
use Rattle.xs_model.specs.Picks.{eligible}
use Rattle.processor.specs.declared.picks.NextIssue.{NextIssue}
use Rattle.issue_model.specs.declared.Ending.{Ending}
use Rattle.issue_model.specs.declared.Ending.TheVariants as ending
use Rattle.issue_model.specs.Endings.{ending_of}
use Rattle.issue_model.specs.Issues.{thread_in}
use Rattle.issue_model.specs.Seen.{seen_at}
use Rattle.chart_model.specs.declared.Mark.{Mark}
use Rattle.chart_model.specs.Marks.{takes_mark, issue_mark, wait_mark, ready_or, run_mark, mark_of}
use Rattle.chart_laws.specs.Capitals.{is_capital, is_by, CapitalsAreIssues}

taken : (interrupt : Bool) → is_capital (takes_mark interrupt) ≡ true
taken false = refl
taken true = refl

issued : (e : Ending) → is_capital (issue_mark e) ≡ true
issued (ending.Took interrupt) = taken interrupt
issued ending.Trapped = refl
issued (ending.Paused w) = refl
issued ending.Ended = refl
issued ending.Done = refl

waits : (w : Wait) → is_capital (wait_mark w) ≡ false
waits (wait.Room chan count) = refl
waits (wait.Tokens chan count) = refl
waits (wait.PortFull port) = refl
waits (wait.PortEmpty port) = refl
waits (wait.PortIdle port) = refl
waits (wait.Timer timer) = refl
waits (wait.Lock lock) = refl
waits (wait.Slaves sync) = refl
waits wait.Choice = refl
waits wait.Divider = refl

ready : (may : Bool) (other : Mark) → is_capital other ≡ false → is_capital (ready_or may other) ≡ false
ready true other h = refl
ready false other h = h

not_issued : (may : Bool) (r : Run) → is_capital (run_mark may r) ≡ false
not_issued may run.Free = refl
not_issued may run.Unstarted = refl
not_issued may run.AtSync = refl
not_issued may run.Going = ready may _ refl
not_issued may (run.Paused w) = ready may (wait_mark w) (waits w)
not_issued may run.Halted = refl

either : (holds : Bool) (x y : Mark) → is_capital x ≡ true → is_capital y ≡ false → is_capital (if holds then x else y) ≡ holds
either true x y one other = one
either false x y one other = other

marked : (k : ThreadNumber) (may : Bool) (before after : Run) (traps : Bool) (issue : Option NextIssue)
    → is_capital (mark_of k may before after traps issue) ≡ is_by k issue
marked k may before after traps None = not_issued may before
marked k may before after traps (Some next) =
    either (next.thread == k) (issue_mark (ending_of next.takes traps after)) (run_mark may before) (issued (ending_of next.takes traps after)) (not_issued may before)

pub capitals : CapitalsAreIssues
capitals plan slot n node k =
    let seen = seen_at plan slot n node in
    marked k (eligible seen.to_issue k slot) (thread_in seen.before.core.threads k).run (thread_in seen.after.core.threads k).run seen.traps seen.issue
