-- What `xs1_look` answers to its words and its input.
use Rattle.std.specs.Prelude.{ℕ, Option, Some, None, List}
use Rattle.xs_base.specs.Numbers.{Word}
use Rattle.answer_model.specs.declared.Answer.{Answer}
use Rattle.answer_model.specs.declared.Status.TheVariants as status
use Rattle.answer_model.specs.OnSystem.{on_system}
use Rattle.sys_plan.specs.Plan.{PlanRec}
use Rattle.system_model.specs.CodeLines.{code_lines_of_text}
use Rattle.look_model.specs.States.{states_text}
use Rattle.issue_model.specs.Issues.{issues_of}
use Rattle.issue_model.specs.Watch.{watch_of}
use Rattle.chart_model.specs.Chart.{chart_of}
use Rattle.profile_model.specs.Profile.{profile_of}
use Rattle.explain_whole.specs.Explained.{explained}
use Rattle.look_forms.specs.declared.LookForm.{LookForm}
use Rattle.look_forms.specs.declared.LookForm.TheVariants.{Explain, States, Issues, Profile, Watch, Chart}
use Rattle.look_forms.specs.Words.{look_form, look_usage}

-- what is told of the issues of the system that a text stands for
abbrev pub issues_text : List ℕ → ℕ → ℕ → PlanRec → List ℕ
issues_text text slots from plan = issues_of plan (code_lines_of_text text) slots from

-- what is counted in a run of so many slots
abbrev pub profile_text : List ℕ → ℕ → PlanRec → List ℕ
profile_text text slots plan = profile_of plan (code_lines_of_text text) slots

-- what is told of the stores to some words
abbrev pub watch_text : List ℕ → ℕ → List Word → PlanRec → List ℕ
watch_text text slots addresses plan = watch_of plan (code_lines_of_text text) slots addresses

-- what a form answers to the bytes of the input: why they are refused, or the system that they stand for runs for so many slots, all nodes
-- together, and what it has come to is told, or its issues from a slot on, or what is counted in it, or its stores to some words, or what its
-- threads do from a slot on
abbrev pub look_by : LookForm → List ℕ → Answer
look_by Explain input = explained input
look_by (States slots) input = on_system (states_text input slots) input
look_by (Issues slots from) input = on_system (issues_text input slots from) input
look_by (Profile slots) input = on_system (profile_text input slots) input
look_by (Watch slots addresses) input = on_system (watch_text input slots addresses.items) input
look_by (Chart slots from) input = on_system (λ plan. chart_of plan slots from) input

abbrev pub look_of_form : Option LookForm → List ℕ → Answer
look_of_form None input = record { text = look_usage; status = status.Usage }
look_of_form (Some form) input = look_by form input

-- what the program answers to its words and the bytes of its input
abbrev pub look_answer : List (List ℕ) → List ℕ → Answer
look_answer words input = look_of_form (look_form words) input
