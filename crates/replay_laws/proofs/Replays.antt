-- What the two forms answer.
use Rattle.std.proofs.Common.{◌≡◌, ℕ, ◌<◌, ◌≤◌, Bool, true, false, if◌then◌else◌, Option, Some, None, List, [], ◌∷◌, length, refl, ap, ◌∙◌, arith}
use Rattle.std.specs.Prelude.{nat_le, nat_lt, option_and_then, slice_index, ◌==◌, codes}
use Rattle.std.specs.List.{list_any}
use Rattle.std.proofs.lemmas.Bool.Decides.{nat_tests}
use Rattle.std.proofs.lemmas.List.Folds.{list_any_at}
use Rattle.pin_scripts.specs.Script.{NodeNumber}
use Rattle.system_model.specs.System.{Plan, system_of, longest_input}
use Rattle.sys_plan.specs.Plan.{PlanRec}
use Rattle.word_numbers.specs.Decimal.{decimal_up_to, plain_decimal_up_to}
use Rattle.xs_text.specs.Numbers.{at_most, value_in}
use Rattle.xs_instructions.specs.Image.{same_name}
use Rattle.std.specs.Char.{is_ascii_digit}
use Rattle.wave_model.specs.Waves.{WaveRec, script_text}
use Rattle.wave_model.specs.Reads.{Wave, Pins, Refused, has_node, most_wave_slots, wave_of, pins_of, pins_in}
use Rattle.wave_model.specs.declared.wave_kind.WaveKind.TheVariants.{NoSuchNode}
use Rattle.wave_model.specs.Runs.{wave_text}
use Rattle.answer_model.specs.declared.Form.{Form}
use Rattle.answer_model.specs.declared.Form.TheVariants as form
use Rattle.answer_model.specs.declared.Status.TheVariants.{Done}
use Rattle.answer_model.specs.OnSystem.{answer_to}
use Rattle.answer_model.specs.PinsForm.{answer_to_pins, pins_answer, too_long}
use Rattle.answer_model.specs.Top.{answer, answer_of_form}
use Rattle.answer_model.specs.WaveForm.{waved_text}
use Rattle.answer_model.specs.Forms.{most_slots, greatest_number, form_of_one, form_of_two, form_of_mode, form_of_words}

-- ---- `wave SLOTS`

pub waved : (words : List (List ℕ)) (input : List ℕ) (slots : ℕ) (plan : PlanRec) → form_of_words words ≡ Some (form.Wave slots) → system_of input ≡ Plan plan
    → (answer words input).text ≡ wave_text plan slots
unfolding answer
waved words input slots plan is stands =
    ap (λ form. (answer_of_form form input).text) is ∙ ap (λ system. (answer_to (waved_text slots) system).text) stands

-- ---- `pinsof N`

-- the number at a place is among the numbers
pub has_number : (numbers : List ℕ) (n : ℕ) → n < length numbers → list_any (λ number. number == slice_index numbers n) numbers ≡ true
has_number numbers n within = list_any_at (λ number. number == slice_index numbers n) numbers n 0 within (grind (arith, nat_tests))

pub scripted : (node : NodeNumber) (text : List ℕ) (wave : WaveRec) → length text ≤ longest_input → wave_of text ≡ Wave wave → has_node wave node ≡ true
    → pins_answer node text ≡ record { text = script_text wave node; status = Done }
scripted node text wave short reads has =
    let few : nat_lt longest_input (length text) ≡ false = grind (arith, nat_tests) in
    ap (λ long. if long then too_long else answer_to_pins (pins_of text node)) few
    ∙ ap (λ read. answer_to_pins (pins_in node read)) reads
    ∙ ap (λ there. answer_to_pins (if there then Pins (script_text wave node) else Refused 0 NoSuchNode)) has

pub read_again : (words : List (List ℕ)) (text : List ℕ) (node : NodeNumber) (wave : WaveRec) → form_of_words words ≡ Some (form.PinsOf node) → length text ≤ longest_input
    → wave_of text ≡ Wave wave → has_node wave node ≡ true → answer words text ≡ record { text = script_text wave node; status = Done }
unfolding answer
read_again words text node wave is short reads has = ap (λ form. answer_of_form form text) is ∙ scripted node text wave short reads has

-- ---- So few slots

-- a form is that of no wave, or of one of at most 1,000,000 slots
abbrev SaysFew : Option Form → Type 0
SaysFew o = (n : ℕ) → o ≡ Some (form.Wave n) → n ≤ most_wave_slots

slots_in : Option Form → ℕ
slots_in (Some (form.Wave n)) = n
slots_in _ = 0

same_slots : (m n : ℕ) → Some (form.Wave m) ≡ Some (form.Wave n) → m ≡ n
unfolding slots_in
same_slots m n e = ap slots_in e

within : (fits : Bool) (m : ℕ) → fits ≡ nat_le m most_wave_slots → SaysFew (option_and_then (λ slots. Some (form.Wave slots)) (if fits then Some m else None))
within true m fits n e =
    let few : m ≤ 1000000 = grind (arith, nat_tests) in
    omega (arith, few, same_slots m n e)
within false m fits n e = cc

at_most_few : (o : Option ℕ) → SaysFew (option_and_then (λ slots. Some (form.Wave slots)) (at_most most_wave_slots o))
at_most_few None n e = cc
at_most_few (Some m) n e = within (nat_le m most_wave_slots) m refl n e

wave_few : (short : Bool) (o : Option ℕ) → SaysFew (option_and_then (λ slots. Some (form.Wave slots)) (if short then at_most most_wave_slots o else None))
wave_few true o n e = at_most_few o n e
wave_few false o n e = cc

-- of a form that is no wave
other_few : (make : ℕ → Form) → ((m n : ℕ) → ¬ (Some (make m) ≡ Some (form.Wave n))) → (o : Option ℕ) → SaysFew (option_and_then (λ m. Some (make m)) o)
other_few make differs None n e = cc
other_few make differs (Some m) n e = absurd (differs m n e)

-- a choice between two forms that say few
choice_few : (t : Bool) (o p : Option Form) → SaysFew o → SaysFew p → SaysFew (if t then o else p)
choice_few true o p h k = h
choice_few false o p h k = k

none_few : SaysFew None
none_few n e = cc

one_few : (command : List ℕ) → SaysFew (form_of_one command)
one_few command = choice_few (same_name (codes "check") command) _ _ (λ n e. cc) (choice_few (same_name (codes "routes") command) _ _ (λ n e. cc) none_few)

two_few : (command word : List ℕ) → SaysFew (form_of_two command word)
two_few command word =
    choice_few _ _ _ (other_few form.Free (λ m n e. cc) (decimal_up_to most_slots word))
    (choice_few _ _ _ (other_few form.Play (λ m n e. cc) (decimal_up_to most_slots word))
    (choice_few _ _ _ (other_few form.Make (λ m n e. cc) (decimal_up_to greatest_number word))
    (choice_few _ _ _ (other_few form.Save (λ m n e. cc) (decimal_up_to most_slots word))
    (choice_few _ _ _ (other_few form.Resume (λ m n e. cc) (decimal_up_to most_slots word))
    (choice_few _ _ _ (wave_few (nat_le (length word) 10) (value_in 10 is_ascii_digit word))
    (choice_few _ _ _ (other_few form.PinsOf (λ m n e. cc) (plain_decimal_up_to 99 word)) none_few))))))

mode_few : (slots mode : List ℕ) → SaysFew (form_of_mode slots mode)
mode_few slots mode =
    choice_few _ _ _ (other_few form.Free (λ m n e. cc) (decimal_up_to most_slots slots))
    (choice_few _ _ _ (other_few form.Serial (λ m n e. cc) (decimal_up_to most_slots slots))
    (choice_few _ _ _ (other_few form.Rounds (λ m n e. cc) (decimal_up_to most_slots slots)) none_few))

pub slots_are_few : (words : List (List ℕ)) (n : ℕ) → form_of_words words ≡ Some (form.Wave n) → n ≤ most_wave_slots
unfolding form_of_words
slots_are_few [] n e = cc
slots_are_few (a ∷ []) n e = one_few a n e
slots_are_few (a ∷ word ∷ []) n e = two_few a word n e
slots_are_few (a ∷ word ∷ mode ∷ []) n e = choice_few (same_name (codes "run") a) _ _ (mode_few word mode) none_few n e
slots_are_few (a ∷ word ∷ mode ∷ more ∷ words) n e = cc
