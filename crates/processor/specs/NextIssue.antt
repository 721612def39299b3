-- Who issues next, and what it takes, told before it does.
use Rattle.std.specs.Prelude.{Option, Some, None}
use Rattle.xs_base.specs.Numbers.{Slot, ThreadNumber}
use Rattle.xs_model.specs.Record.{CoreRec}
use Rattle.xs_model.specs.Picks.{picked}
use Rattle.xs_model.specs.Choices.{choice}
use Rattle.step_model.specs.Step.{issue_begins}
use Rattle.event_unit.specs.Ready.{choice_of}
use Rattle.processor.specs.declared.picks.NextIssue.{NextIssue}

-- the issue of a thread, where one issues: what it takes is what its issue goes by once it has begun
abbrev pub next_issue_by : CoreRec → Slot → Option ThreadNumber → Option NextIssue
next_issue_by core slot None = None
next_issue_by core slot (Some k) = Some (record { thread = k; takes = choice_of (choice (issue_begins core slot k) slot k) })

-- the issue of the thread that is picked in a slot
abbrev pub next_issue : CoreRec → Slot → Option NextIssue
next_issue core slot = next_issue_by core slot (picked core slot)
