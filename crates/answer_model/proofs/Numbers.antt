-- The numbers of loads that words may say.
use Rattle.std.proofs.Common.{◌≡◌, ℕ, ◌<◌, ◌≤◌, Bool, true, false, if◌then◌else◌, Option, Some, None, List, [], ◌∷◌, length, refl, ap, arith}
use Rattle.std.specs.Prelude.{option_and_then, codes, nat_le}
use Rattle.std.proofs.lemmas.Bool.Decides.{nat_tests}
use Rattle.xs_instructions.specs.Image.{same_name}
use Rattle.std.specs.Char.{is_ascii_digit}
use Rattle.xs_text.specs.Numbers.{at_most, value_in}
use Rattle.word_numbers.specs.Decimal.{decimal_up_to, plain_decimal_up_to}
use Rattle.wave_model.specs.Reads.{most_wave_slots}
use Rattle.answer_model.specs.declared.Form.{Form}
use Rattle.answer_model.specs.declared.Form.TheVariants.{Free, Serial, Rounds, Play, Make, Check, Save, Resume, Routes, Wave, PinsOf}
use Rattle.answer_model.specs.Forms.{most_slots, greatest_number, of_slots, form_of_one, form_of_waves, form_of_two, form_of_mode, form_of_words}
use Rattle.answer_model.specs.Top.{answer, answer_of_form}
use Rattle.answer_model.specs.MakeForm.{made_answer}

-- a form is that of no load, or of one whose number is below 2^32
abbrev SaysFew : Option Form → Type 0
SaysFew o = (n : ℕ) → o ≡ Some (Make n) → n < 4294967296

number_in : Option Form → ℕ
number_in (Some (Make n)) = n
number_in _ = 0

same_number : (m n : ℕ) → Some (Make m) ≡ Some (Make n) → m ≡ n
unfolding number_in
same_number m n e = ap number_in e

within : (fits : Bool) (m : ℕ) → fits ≡ nat_le m greatest_number → SaysFew (option_and_then (λ number. Some (Make number)) (if fits then Some m else None))
within true m fits n e =
    let few : m ≤ 4294967295 = grind (arith, nat_tests) in
    omega (arith, few, same_number m n e)
within false m fits n e = cc

at_most_few : (o : Option ℕ) → SaysFew (option_and_then (λ number. Some (Make number)) (at_most greatest_number o))
at_most_few None n e = cc
at_most_few (Some m) n e = within (nat_le m greatest_number) m refl n e

make_few : (short : Bool) (o : Option ℕ) → SaysFew (option_and_then (λ number. Some (Make number)) (if short then at_most greatest_number o else None))
make_few true o n e = at_most_few o n e
make_few false o n e = cc

-- of a form that is no load
slots_few : (form : ℕ → Form) → ((m n : ℕ) → ¬ (Some (form m) ≡ Some (Make n))) → (o : Option ℕ) → SaysFew (option_and_then (λ slots. Some (form slots)) o)
slots_few form differs None n e = cc
slots_few form differs (Some slots) n e = absurd (differs slots n e)

of_slots_few : (form : ℕ → Form) → ((m n : ℕ) → ¬ (Some (form m) ≡ Some (Make n))) → (word : List ℕ) → SaysFew (of_slots form word)
of_slots_few form differs word = slots_few form differs (decimal_up_to most_slots word)

-- a choice between two forms that say few
choice_few : (t : Bool) (o p : Option Form) → SaysFew o → SaysFew p → SaysFew (if t then o else p)
choice_few true o p h k = h
choice_few false o p h k = k

none_few : SaysFew None
none_few n e = cc

check_few : SaysFew (Some Check)
check_few n e = cc

routes_few : SaysFew (Some Routes)
routes_few n e = cc

one_few : (command : List ℕ) → SaysFew (form_of_one command)
one_few command = choice_few (same_name (codes "check") command) _ _ check_few (choice_few (same_name (codes "routes") command) _ _ routes_few none_few)

waves_few : (command word : List ℕ) → SaysFew (form_of_waves command word)
waves_few command word =
    choice_few _ _ _ (slots_few Wave (λ m n e. cc) (decimal_up_to most_wave_slots word))
    (choice_few _ _ _ (slots_few PinsOf (λ m n e. cc) (plain_decimal_up_to 99 word)) none_few)

two_few : (command word : List ℕ) → SaysFew (form_of_two command word)
two_few command word =
    choice_few _ _ _ (of_slots_few Free (λ m n e. cc) word)
    (choice_few _ _ _ (of_slots_few Play (λ m n e. cc) word)
    (choice_few _ _ _ (make_few (nat_le (length word) 10) (value_in 10 is_ascii_digit word))
    (choice_few _ _ _ (of_slots_few Save (λ m n e. cc) word)
    (choice_few _ _ _ (of_slots_few Resume (λ m n e. cc) word) (waves_few command word)))))

mode_few : (slots mode : List ℕ) → SaysFew (form_of_mode slots mode)
mode_few slots mode =
    choice_few _ _ _ (of_slots_few Free (λ m n e. cc) slots)
    (choice_few _ _ _ (of_slots_few Serial (λ m n e. cc) slots) (choice_few _ _ _ (of_slots_few Rounds (λ m n e. cc) slots) none_few))

pub number_is_small : (words : List (List ℕ)) (n : ℕ) → form_of_words words ≡ Some (Make n) → n < 4294967296
unfolding form_of_words
number_is_small [] n e = cc
number_is_small (a ∷ []) n e = one_few a n e
number_is_small (a ∷ word ∷ []) n e = two_few a word n e
number_is_small (a ∷ word ∷ mode ∷ []) n e = choice_few (same_name (codes "run") a) _ _ (mode_few word mode) none_few n e
number_is_small (a ∷ word ∷ mode ∷ more ∷ words) n e = cc

pub answer_of_load : (words : List (List ℕ)) (input : List ℕ) (n : ℕ) → form_of_words words ≡ Some (Make n) → answer words input ≡ made_answer n
unfolding answer
answer_of_load words input n e = ap (λ form. answer_of_form form input) e
