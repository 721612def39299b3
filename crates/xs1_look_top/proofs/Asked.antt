-- What is asked of the program and what it answers go together, whatever the words.
use Rattle.std.proofs.Common.{◌≡◌, ℕ, ◌+◌, true, false, min, List, [], ◌++◌, length, take, Option, Some, None, refl, ap, arith}
use Rattle.answer_model.specs.declared.Status.TheVariants as status
use Rattle.sys_plan.specs.Plan.{PlanRec}
use Rattle.answer_model.specs.OnSystem.{answer_to, on_system}
use Rattle.answer_model.specs.Refusals.{frame_text}
use Rattle.system_model.specs.declared.SysKind.TheVariants.{TooLong}
use Rattle.system_model.specs.System.{System, Plan, Frame, Source, Pins, longest_input, system_of}
use Rattle.program_calls.specs.Asked.{IsCoherent, IsFormStatus}
use Rattle.system_answers.proofs.Statuses.{answer_to-status}
use Rattle.system_answers.proofs.Taken.{of_taken, system_of-long}
use Rattle.look_forms.specs.declared.LookForm.{LookForm}
use Rattle.look_forms.specs.declared.LookForm.TheVariants.{Explain, States, Issues, Profile, Watch, Chart}
use Rattle.xs_text.specs.Lines.{lines_of}
use Rattle.explain_frame_model.specs.FrameTold.{frame_told}
use Rattle.explain_whole.specs.Explained.{explained, explained_by}
use Rattle.look_model.specs.States.{states_text}
use Rattle.look_forms.specs.Words.{look_form}
use Rattle.chart_model.specs.Chart.{chart_of}
use Rattle.look_forms.specs.Answers.{issues_text, profile_text, watch_text, look_by}
use Rattle.xs1_look_top.specs.Asked.{asked_by, asked_of}

-- what a form answers to the bytes taken, which reads a system text, is what it answers to the input
taken : (text_for : List ℕ → PlanRec → List ℕ) (input : List ℕ)
    → on_system (text_for (take (min (length input) (longest_input + 1)) input)) (take (min (length input) (longest_input + 1)) input) ≡ on_system (text_for input) input
taken text_for input =
    of_taken (λ text. on_system (text_for text) text) longest_input (record { text = frame_text 0 TooLong; status = status.SystemFault }) (λ text h. ap (answer_to (text_for text)) (system_of-long text h)) input

-- a text that is too long is refused without a line
explain-taken : (input : List ℕ) → explained (take (min (length input) (longest_input + 1)) input) ≡ explained input
unfolding frame_told
explain-taken input =
    of_taken explained longest_input (record { text = frame_text 0 TooLong ++ []; status = status.SystemFault })
    (λ text h. ap (explained_by (lines_of text)) (system_of-long text h)) input

explained_by-status : (ls : List (List ℕ)) (system : System) → IsFormStatus (explained_by ls system).status
explained_by-status ls (Plan plan) = tt
explained_by-status ls (Frame line kind) = tt
explained_by-status ls (Source node line kind) = tt
explained_by-status ls (Pins line kind) = tt

look_by-taken : (form : LookForm) (input : List ℕ) → look_by form (take (min (length input) (longest_input + 1)) input) ≡ look_by form input
look_by-taken Explain input = explain-taken input
look_by-taken (States slots) input = taken (λ text. states_text text slots) input
look_by-taken (Issues slots from) input = taken (λ text. issues_text text slots from) input
look_by-taken (Profile slots) input = taken (λ text. profile_text text slots) input
look_by-taken (Watch slots addresses) input = taken (λ text. watch_text text slots addresses.items) input
look_by-taken (Chart slots from) input = taken (λ text plan. chart_of plan slots from) input

look_by-status : (form : LookForm) (input : List ℕ) → IsFormStatus (look_by form input).status
look_by-status Explain input = explained_by-status (lines_of input) (system_of input)
look_by-status (States slots) input = answer_to-status (states_text input slots) (system_of input)
look_by-status (Issues slots from) input = answer_to-status (issues_text input slots from) (system_of input)
look_by-status (Profile slots) input = answer_to-status (profile_text input slots) (system_of input)
look_by-status (Watch slots addresses) input = answer_to-status (watch_text input slots addresses.items) (system_of input)
look_by-status (Chart slots from) input = answer_to-status (λ plan. chart_of plan slots from) (system_of input)

coherent_by : (form : Option LookForm) → IsCoherent (asked_by form)
coherent_by None = record {
  enough = λ input. refl;
  form_status = λ some. absurd (some refl);
  refused = λ none input. refl;
  unasked = λ none. refl;
  nothing = λ _. refl;
  some = λ asks. let apart : false ≡ true = asks in absurd cc;
  reads = λ asks. let apart : false ≡ true = asks in absurd cc;
  some_reads = omega arith;
}
coherent_by (Some form) = record {
  enough = look_by-taken form;
  form_status = λ some. look_by-status form;
  refused = λ none. let apart : Some form ≡ None = none in absurd cc;
  unasked = λ none. let apart : Some form ≡ None = none in absurd cc;
  nothing = λ asks. let apart : true ≡ false = asks in absurd cc;
  some = λ asks. omega arith;
  reads = λ asks. refl;
  some_reads = omega arith;
}

pub coherent : (words : List (List ℕ)) → IsCoherent (asked_of words)
coherent words = coherent_by (look_form words)
