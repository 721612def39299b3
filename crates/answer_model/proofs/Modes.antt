-- How the nodes are run makes no difference to what is answered.
use Rattle.std.proofs.Common.{◌≡◌, ℕ, false, Option, Some, None, List, refl}
use Rattle.std.specs.Prelude.{option_and_then, codes}
use Rattle.word_numbers.specs.Decimal.{decimal_up_to}
use Rattle.answer_model.specs.declared.Form.TheVariants.{Free, Serial, Rounds}
use Rattle.answer_model.specs.Forms.{most_slots, form_may_wait, form_of_words}
use Rattle.answer_model.specs.Top.{answer, answer_of_form, taken_by}
use Rattle.answer_model.specs.Modes.{run_words, mode_words, AreAlike}

serial_answers : (o : Option ℕ) (input : List ℕ)
    → answer_of_form (option_and_then (λ slots. Some (Serial slots)) o) input ≡ answer_of_form (option_and_then (λ slots. Some (Free slots)) o) input
serial_answers None input = refl
serial_answers (Some slots) input = refl

serial_takes : (o : Option ℕ) (input : List ℕ)
    → taken_by (option_and_then (λ slots. Some (Serial slots)) o) input ≡ taken_by (option_and_then (λ slots. Some (Free slots)) o) input
serial_takes None input = refl
serial_takes (Some slots) input = refl

serial_goes : (o : Option ℕ) → form_may_wait (option_and_then (λ slots. Some (Serial slots)) o) ≡ false
serial_goes None = refl
serial_goes (Some slots) = refl

rounds_answer : (o : Option ℕ) (input : List ℕ)
    → answer_of_form (option_and_then (λ slots. Some (Rounds slots)) o) input ≡ answer_of_form (option_and_then (λ slots. Some (Free slots)) o) input
rounds_answer None input = refl
rounds_answer (Some slots) input = refl

rounds_take : (o : Option ℕ) (input : List ℕ)
    → taken_by (option_and_then (λ slots. Some (Rounds slots)) o) input ≡ taken_by (option_and_then (λ slots. Some (Free slots)) o) input
rounds_take None input = refl
rounds_take (Some slots) input = refl

rounds_go : (o : Option ℕ) → form_may_wait (option_and_then (λ slots. Some (Rounds slots)) o) ≡ false
rounds_go None = refl
rounds_go (Some slots) = refl

pub free_is_usual : (slots : List ℕ) → form_of_words (mode_words slots (codes "free")) ≡ form_of_words (run_words slots)
unfolding form_of_words
free_is_usual slots = refl

pub serial_alike : (slots : List ℕ) → AreAlike (mode_words slots (codes "serial")) (run_words slots)
unfolding answer form_of_words
serial_alike slots = record {
  answers = λ input. serial_answers (decimal_up_to most_slots slots) input;
  takes = λ input. serial_takes (decimal_up_to most_slots slots) input;
}

pub rounds_alike : (slots : List ℕ) → AreAlike (mode_words slots (codes "rounds")) (run_words slots)
unfolding answer form_of_words
rounds_alike slots = record {
  answers = λ input. rounds_answer (decimal_up_to most_slots slots) input;
  takes = λ input. rounds_take (decimal_up_to most_slots slots) input;
}

pub serial_waits_not : (slots : List ℕ) → form_may_wait (form_of_words (mode_words slots (codes "serial"))) ≡ false
unfolding form_of_words
serial_waits_not slots = serial_goes (decimal_up_to most_slots slots)

pub rounds_wait_not : (slots : List ℕ) → form_may_wait (form_of_words (mode_words slots (codes "rounds"))) ≡ false
unfolding form_of_words
rounds_wait_not slots = rounds_go (decimal_up_to most_slots slots)
