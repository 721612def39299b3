-- What a thread takes, or the instruction that it executes, is its issue.
use Rattle.std.proofs.Common.{◌≡◌, ℕ, Some, None, List, [], refl, ap, sym, ◌∙◌}
use Rattle.std.specs.Prelude.{Option}
use Rattle.std.proofs.lemmas.List.{append-nil}
use Rattle.xs_model.specs.declared.event.Event.{Event}
use Rattle.xs_model.specs.Outside.{Emitted}
use Rattle.xs_model.specs.Record.{CoreRec, EnablingRec, thread_of, with_thread}
use Rattle.xs_model.specs.Choices.{choice}
use Rattle.xs_instructions.specs.declared.instr.Instr.{Instr}
use Rattle.xs_instructions.specs.Code.{code_at}
use Rattle.event_unit.specs.declared.answers.Choice.{Choice}
use Rattle.event_unit.specs.Ready.{choice_of}
use Rattle.step_model.specs.Effect.{Setting}
use Rattle.step_model.specs.Step.{quietly, executed, issue_begins, issued_with, issued_by}
use Rattle.processor.specs.Issue.{and_happened, entered_by}

-- an issue in which nothing happens gives no events
pub nothing_happened : (out : Emitted) (slot : ℕ) → out ≡ and_happened out slot []
nothing_happened out slot = ap (λ (events : List Event). record out { events = events }) (sym (append-nil out.events))

its : (e : EnablingRec) (taken : Choice) → choice_of (Some e) ≡ Some taken → taken ≡ record { interrupt = e.interrupt; vector = e.vector; env = e.environment }
its e taken is = cc

module _ (code : List Instr) (here : Setting) (core : CoreRec) (k : ℕ) where
  -- a thread takes what is chosen
  some_taken : (taken : Choice) (chosen : Option EnablingRec) → choice_of chosen ≡ Some taken → quietly (with_thread core k (entered_by taken (thread_of core k))) ≡ issued_with code here core k chosen
  some_taken taken None is = cc
  some_taken taken (Some e) is = ap (λ (c : Choice). quietly (with_thread core k (entered_by c (thread_of core k)))) (its e taken is)

  -- where nothing is, it executes the instruction where it is
  none_taken : (chosen : Option EnablingRec) → choice_of chosen ≡ None → executed code here core k (code_at code (thread_of core k).pc) ≡ issued_with code here core k chosen
  none_taken None is = refl
  none_taken (Some e) is = cc

module _ (code : List Instr) (here : Setting) (old core : CoreRec) (slot k : ℕ) (at : here.slot ≡ slot) (begun : core ≡ issue_begins old slot k) where
  -- so is its issue, which begins with the slot as its last one
  its_issue : issued_with code here core k (choice core slot k) ≡ issued_by code here old (Some k)
  its_issue =
      ap (λ slot. issued_with code here core k (choice core slot k)) (sym at)
      ∙ ap (λ core. issued_with code here core k (choice core here.slot k)) (begun ∙ ap (λ slot. issue_begins old slot k) (sym at))

  pub issue_taken : (taken : Choice) → Some taken ≡ choice_of (choice core slot k) → quietly (with_thread core k (entered_by taken (thread_of core k))) ≡ issued_by code here old (Some k)
  issue_taken taken is = some_taken code here core k taken (choice core slot k) (sym is) ∙ its_issue

  pub issue_executed : None ≡ choice_of (choice core slot k) → executed code here core k (code_at code (thread_of core k).pc) ≡ issued_by code here old (Some k)
  issue_executed is = none_taken code here core k (choice core slot k) (sym is) ∙ its_issue
