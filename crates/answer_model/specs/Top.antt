-- What the program answers to its words and its input: each form has its definition, which is chosen by the words alone.
use Rattle.std.specs.Prelude.{ℕ, ◌+◌, min, if◌then◌else◌, Option, Some, None, List, length}
use Rattle.system_model.specs.System.{longest_input}
use Rattle.snap_codec.specs.Snaps.{longest_snapshot}
use Rattle.answer_model.specs.declared.Form.{Form}
use Rattle.answer_model.specs.declared.Form.TheVariants.{Free, Serial, Rounds, Play, Make, Check, Save, Resume, Routes, Wave, PinsOf}
use Rattle.answer_model.specs.declared.Answer.{Answer}
use Rattle.answer_model.specs.declared.Status.TheVariants as status
use Rattle.answer_model.specs.Forms.{form_of_words, usage_text, reads_input}
use Rattle.answer_model.specs.RunForm.{run_answer}
use Rattle.answer_model.specs.PlayForm.{play_answer}
use Rattle.answer_model.specs.MakeForm.{made_answer}
use Rattle.answer_model.specs.CheckForm.{check_answer}
use Rattle.answer_model.specs.SaveForm.{save_answer}
use Rattle.answer_model.specs.ResumeForm.{resume_answer}
use Rattle.answer_model.specs.RoutesForm.{routes_answer}
use Rattle.answer_model.specs.WaveForm.{wave_answer}
use Rattle.answer_model.specs.PinsForm.{pins_answer}

-- what a form answers to the bytes of the input
abbrev pub answer_by : Form → List ℕ → Answer
answer_by (Free slots) input = run_answer slots input
answer_by (Serial slots) input = run_answer slots input
answer_by (Rounds slots) input = run_answer slots input
answer_by (Play slots) input = play_answer slots input
answer_by (Make number) input = made_answer number
answer_by Check input = check_answer input
answer_by (Save slots) input = save_answer slots input
answer_by (Resume slots) input = resume_answer slots input
answer_by Routes input = routes_answer input
answer_by (Wave slots) input = wave_answer slots input
answer_by (PinsOf node) input = pins_answer node input

abbrev pub usage_answer : Answer
usage_answer = record { text = usage_text; status = status.Usage }

abbrev pub answer_of_form : Option Form → List ℕ → Answer
answer_of_form None input = usage_answer
answer_of_form (Some form) input = answer_by form input

-- what the program answers to its words and the bytes of its input
unfoldable pub answer : List (List ℕ) → List ℕ → Answer
answer words input = answer_of_form (form_of_words words) input

-- how many bytes the input of a form may have
abbrev pub longest_of : Form → ℕ
longest_of (Resume slots) = longest_snapshot
longest_of _ = longest_input

-- how many bytes of the input are taken at most: one past the longest, so that an input that is too long is seen
abbrev pub most_taken : Option Form → ℕ
most_taken None = 0
most_taken (Some form) = if reads_input form then longest_of form + 1 else 0

-- how many reads words of this form, or of none, make at most. Where nothing is asked for, none is made
abbrev pub most_reads : Option Form → ℕ
most_reads None = longest_input + 1
most_reads (Some form) = longest_of form + 1

-- how many bytes of the input a form takes: all, or as many as that
abbrev pub taken_by : Option Form → List ℕ → ℕ
taken_by form input = min (length input) (most_taken form)

-- how many bytes of the input are taken
abbrev pub taken : List (List ℕ) → List ℕ → ℕ
taken words input = taken_by (form_of_words words) input
