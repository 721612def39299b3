-- What a thread takes as its issue begins is what it takes before.
use Rattle.std.proofs.Common.{◌≡◌, ℕ, zero, suc, List, [], ◌∷◌, Option, Some, refl, ap, sym, ◌∙◌}
use Rattle.std.specs.Prelude.{slice_set, slice_index_or}
use Rattle.xs_model.specs.declared.thread.Thread.{Thread}
use Rattle.xs_model.specs.declared.thread.Run.{Run}
use Rattle.xs_model.specs.declared.thread.Run.TheVariants.{Going}
use Rattle.xs_model.specs.declared.status.Status.{Status}
use Rattle.xs_model.specs.Threads.{fresh_thread}
use Rattle.xs_model.specs.Record.{CoreRec}
use Rattle.xs_model.specs.Choices.{choice, choice_by, ready_in}
use Rattle.xs_model.specs.Picks.{picked}
use Rattle.step_model.specs.Step.{issue_begins}
use Rattle.event_unit.specs.declared.answers.Choice.{Choice}
use Rattle.event_unit.specs.Ready.{choice_of}
use Rattle.processor.specs.NextIssue.{next_issue, next_issue_by}

-- a thread that goes keeps its status
same_status : (threads : List Thread) (k : ℕ) (run : Run) → (slice_index_or (slice_set threads k (record (slice_index_or threads k fresh_thread) { run = run })) k fresh_thread).sr ≡ (slice_index_or threads k fresh_thread).sr
same_status [] k run = refl
same_status (th ∷ threads) zero run = refl
same_status (th ∷ threads) (suc k) run = same_status threads k run

choice_begun : (core : CoreRec) (slot k : ℕ) → choice core slot k ≡ choice (issue_begins core slot k) slot k
choice_begun core slot k = ap (λ (sr : Status). choice_by k sr (ready_in core slot) core.enabled) (sym (same_status core.threads k Going))

-- the issue of the thread that is picked, with what that takes before its issue begins
pub next_is : (core asked : CoreRec) (slot k : ℕ) (takes : Option Choice) → Some k ≡ picked core slot → asked ≡ core → takes ≡ choice_of (choice asked slot k)
    → Some (record { thread = k; takes = takes }) ≡ next_issue core slot
next_is core asked slot k takes is same its =
    let begun = its ∙ ap (λ (c : CoreRec). choice_of (choice c slot k)) same ∙ ap choice_of (choice_begun core slot k) in
    (λ i. Some (record { thread = k; takes = begun i })) ∙ ap (next_issue_by core slot) is
