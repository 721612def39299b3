-- What words ask of the program, and what is answered to them: every form reads a system text.
use Rattle.std.specs.Prelude.{ℕ, ◌≡◌, ◌+◌, Bool, true, false, Option, Some, None, List}
use Rattle.system_model.specs.System.{longest_input}
use Rattle.program_calls.specs.Asked.{Asked}
use Rattle.look_forms.specs.declared.LookForm.{LookForm}
use Rattle.look_forms.specs.Words.{look_form, look_usage}
use Rattle.look_forms.specs.Answers.{look_of_form}

abbrev pub asks : Option LookForm → Bool
asks None = false
asks (Some form) = true

-- how many bytes of the input are taken at most: one past the longest, so that an input that is too long is seen
abbrev pub most_taken : Option LookForm → ℕ
most_taken None = 0
most_taken (Some form) = longest_input + 1

-- of words of this form, or of none
abbrev pub asked_by : Option LookForm → Asked
asked_by form = record {
  no_form = form ≡ None;
  usage = look_usage;
  asks = asks form;
  most = most_taken form;
  most_reads = longest_input + 1;
  answer = look_of_form form;
}

abbrev pub asked_of : List (List ℕ) → Asked
asked_of words = asked_by (look_form words)
