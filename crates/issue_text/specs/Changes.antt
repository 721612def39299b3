-- The lines of stores to words that are watched.
use Rattle.std.specs.Prelude.{ℕ, Bool, Option, Some, None, List, [], ◌∷◌}
use Rattle.xs_base.specs.Numbers.{Word}
use Rattle.processor.specs.declared.picks.NextIssue.{NextIssue}
use Rattle.core_step.specs.declared.told.Told.{Told}
use Rattle.issue_model.specs.declared.Store.{Store}
use Rattle.issue_model.specs.Issues.{thread_in, stored_in}
use Rattle.issue_model.specs.Watch.{watch_line, watched_lines}
use Rattle.issue_text.specs.declared.change.Change.{Change}
use Rattle.issue_text.specs.declared.node_slot.NodeSlot.{NodeSlot}

-- what an issue of a node stores in a slot
abbrev pub store_in : NodeSlot → NextIssue → Bool → Option Store
store_in at next traps = stored_in at.node.now.image.code at.before.now at.after.now traps (Some next)

-- the line of a store, and that of one, where there is one
abbrev pub change_line : NodeSlot → Change → List ℕ
change_line at change =
    watch_line at.node.now at.lines.now at.slot change.thread (thread_in at.before.now change.thread).pc change.store change.was change.is

abbrev pub change_lines : NodeSlot → Option Change → List (List ℕ)
change_lines at None = []
change_lines at (Some change) = change_line at change ∷ []

-- the lines of an issue, by the memories before the slot and after it
abbrev pub watched_by : List Word → NodeSlot → Bool → List ℕ → List ℕ → Option NextIssue → List (List ℕ)
watched_by addresses at traps before after None = []
watched_by addresses at traps before after (Some next) =
    watched_lines addresses at.node.now at.lines.now at.slot next.thread (thread_in at.before.now next.thread).pc before after (store_in at next traps)

abbrev pub watched_in : List Word → NodeSlot → Told → List ℕ → List ℕ → List (List ℕ)
watched_in addresses at told before after = watched_by addresses at told.traps before after told.issue
