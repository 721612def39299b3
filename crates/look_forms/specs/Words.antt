-- The forms of the words of `xs1_look`, and the usage line beside them.
use Rattle.std.specs.Prelude.{ℕ, nat_le, if◌then◌else◌, Option, Some, None, option_map, option_and_then, List, [], ◌∷◌, ◌++◌, length, codes}
use Rattle.arrayvec.specs.ArrayVec.{ArrayVec}
use Rattle.xs_base.specs.Numbers.{Word}
use Rattle.xs_text.specs.Numbers.{at_most, number_of}
use Rattle.xs_instructions.specs.Image.{same_name}
use Rattle.word_numbers.specs.Decimal.{decimal_up_to}
use Rattle.answer_model.specs.Forms.{most_slots, greatest_number}
use Rattle.look_forms.specs.declared.TheConstants.{MOST_WATCHED}
use Rattle.look_forms.specs.declared.LookForm.{LookForm}
use Rattle.look_forms.specs.declared.LookForm.TheVariants.{Explain, States, Issues, Profile, Watch, Chart}

-- the form of one word
abbrev pub form_of_one : List ℕ → Option LookForm
form_of_one command = if same_name (codes "explain") command then Some Explain else None

-- the form of two words
abbrev pub form_of_two : List ℕ → List ℕ → Option LookForm
form_of_two command word =
    if same_name (codes "states") command then option_map States (decimal_up_to most_slots word)
    else (if same_name (codes "profile") command then option_map Profile (decimal_up_to most_slots word)
    else None)

-- ---- With a slot

abbrev pub both : Option ℕ → Option ℕ → Option (ℕ × ℕ)
both (Some a) (Some b) = Some (a, b)
both _ _ = None

-- a number of slots and a slot
abbrev pub slots_and_from : List ℕ → List ℕ → Option (ℕ × ℕ)
slots_and_from word other = both (decimal_up_to most_slots word) (decimal_up_to most_slots other)

-- the form of three words
abbrev pub form_of_three : List ℕ → List ℕ → List ℕ → Option LookForm
form_of_three command word other =
    if same_name (codes "issues") command then option_map (λ numbers. Issues numbers.0 numbers.1) (slots_and_from word other)
    else (if same_name (codes "chart") command then option_map (λ numbers. Chart numbers.0 numbers.1) (slots_and_from word other)
    else None)

-- ---- With addresses

-- an address: a number as system texts have them
abbrev pub address_of : List ℕ → Option Word
address_of word = at_most greatest_number (number_of word)

-- these addresses and those that more words are, where each is one
unfoldable pub addresses_with : List Word → List (List ℕ) → Option (List Word)
addresses_with before [] = Some before
addresses_with before (word ∷ words) = option_and_then (λ address. addresses_with (before ++ address ∷ []) words) (address_of word)

-- the addresses that words are, where there are not too many
abbrev pub addresses_of : List (List ℕ) → Option (List Word)
addresses_of words = if nat_le (length words) MOST_WATCHED then addresses_with [] words else None

abbrev pub watch_with : Option ℕ → Option (List Word) → Option LookForm
watch_with (Some slots) (Some addresses) = Some (Watch slots (record { items = addresses }))
watch_with _ _ = None

abbrev pub watch_form : List ℕ → List (List ℕ) → Option LookForm
watch_form word words = watch_with (decimal_up_to most_slots word) (addresses_of words)

-- ---- The table

-- the form of three words or more that is not one of addresses
abbrev pub form_of_others : List ℕ → List ℕ → List (List ℕ) → Option LookForm
form_of_others command word (other ∷ []) = form_of_three command word other
form_of_others command word _ = None

-- the form of three words or more
abbrev pub form_of_more : List ℕ → List ℕ → List (List ℕ) → Option LookForm
form_of_more command word others =
    if same_name (codes "watch") command then watch_form word others else form_of_others command word others

-- the form of the words, if they have one: `explain`, `states SLOTS`, `profile SLOTS`, `issues SLOTS FROM`, `watch SLOTS ADDRESS ..` or `chart SLOTS FROM`
unfoldable pub look_form : List (List ℕ) → Option LookForm
look_form (command ∷ []) = form_of_one command
look_form (command ∷ word ∷ []) = form_of_two command word
look_form (command ∷ word ∷ other ∷ others) = form_of_more command word (other ∷ others)
look_form _ = None

abbrev pub look_usage : List ℕ
look_usage = codes "usage: xs1_look states SLOTS | issues SLOTS FROM | watch SLOTS ADDRESS .. | chart SLOTS FROM | profile SLOTS | explain\n"
