-- The forms of the program's words: the table, the usage line beside it, which forms read the input, and which may wait for others.
use Rattle.std.specs.Prelude.{ℕ, Bool, true, false, if◌then◌else◌, Option, Some, None, option_and_then, List, [], ◌∷◌, ◌++◌, codes}
use Rattle.xs_instructions.specs.Image.{same_name}
use Rattle.word_numbers.specs.Decimal.{decimal_up_to, plain_decimal_up_to}
use Rattle.wave_model.specs.Reads.{most_wave_slots}
use Rattle.answer_model.specs.declared.Form.{Form}
use Rattle.answer_model.specs.declared.Form.TheVariants.{Free, Serial, Rounds, Play, Make, Check, Save, Resume, Routes, Wave, PinsOf}

abbrev pub most_slots : ℕ
most_slots = 16000000

abbrev pub greatest_number : ℕ
greatest_number = 4294967295

-- a form with so many slots as a word says, at most as many as a run may have
abbrev pub of_slots : (ℕ → Form) → List ℕ → Option Form
of_slots form word = option_and_then (λ slots. Some (form slots)) (decimal_up_to most_slots word)

-- the load of the number that the word says
abbrev pub make_of : List ℕ → Option Form
make_of word = option_and_then (λ number. Some (Make number)) (decimal_up_to greatest_number word)

-- the wave of a run of so many slots as the word says, at most as many as a wave may have
abbrev pub wave_of : List ℕ → Option Form
wave_of word = option_and_then (λ slots. Some (Wave slots)) (decimal_up_to most_wave_slots word)

-- the pin script of the node whose number the word is, as numbers are written: without leading zeros
abbrev pub pins_of : List ℕ → Option Form
pins_of word = option_and_then (λ node. Some (PinsOf node)) (plain_decimal_up_to 99 word)

-- the form of two words, of which the first has to do with waves
abbrev pub form_of_waves : List ℕ → List ℕ → Option Form
form_of_waves command word =
    if same_name (codes "wave") command then wave_of word else (if same_name (codes "pinsof") command then pins_of word else None)

-- the form of two words
abbrev pub form_of_two : List ℕ → List ℕ → Option Form
form_of_two command word =
    if same_name (codes "run") command then of_slots Free word
    else (if same_name (codes "play") command then of_slots Play word
    else (if same_name (codes "make") command then make_of word
    else (if same_name (codes "save") command then of_slots Save word
    else (if same_name (codes "resume") command then of_slots Resume word else form_of_waves command word))))

-- the form of a run with a mode
abbrev pub form_of_mode : List ℕ → List ℕ → Option Form
form_of_mode slots mode =
    if same_name (codes "free") mode then of_slots Free slots
    else (if same_name (codes "serial") mode then of_slots Serial slots
    else (if same_name (codes "rounds") mode then of_slots Rounds slots else None))

-- the form of one word
abbrev pub form_of_one : List ℕ → Option Form
form_of_one command = if same_name (codes "check") command then Some Check else (if same_name (codes "routes") command then Some Routes else None)

-- the form of the words, if they have one: `check`, `routes`, `play SLOTS`, `make NUMBER`, `save SLOTS`, `resume SLOTS`, `wave SLOTS`,
-- `pinsof N`, `run SLOTS` and `run SLOTS free`, which are the same, `run SLOTS serial`, or `run SLOTS rounds`
unfoldable pub form_of_words : List (List ℕ) → Option Form
form_of_words (a ∷ []) = form_of_one a
form_of_words (a ∷ n ∷ []) = form_of_two a n
form_of_words (a ∷ n ∷ mode ∷ []) = if same_name (codes "run") a then form_of_mode n mode else None
form_of_words _ = None

abbrev pub usage_text : List ℕ
usage_text =
    codes "usage: xs1 run SLOTS [serial|free|rounds] | play SLOTS | make NUMBER | check | save SLOTS | resume SLOTS | routes"
    ++ codes " | wave SLOTS | pinsof N\n"

-- whether a form asks for the input
abbrev pub reads_input : Form → Bool
reads_input (Free slots) = true
reads_input (Serial slots) = true
reads_input (Rounds slots) = true
reads_input (Play slots) = true
reads_input (Make number) = false
reads_input Check = true
reads_input (Save slots) = true
reads_input (Resume slots) = true
reads_input Routes = true
reads_input (Wave slots) = true
reads_input (PinsOf node) = true

-- whether words of this form, or of none, ask for the input
abbrev pub asks_for_input : Option Form → Bool
asks_for_input None = false
asks_for_input (Some form) = reads_input form

-- whether a form may wait for others: workers in threads do, for each other. Nodes that run round by round wait for nobody.
abbrev pub may_wait : Form → Bool
may_wait (Free slots) = true
may_wait (Serial slots) = false
may_wait (Rounds slots) = false
may_wait (Play slots) = false
may_wait (Make number) = false
may_wait Check = false
may_wait (Save slots) = false
may_wait (Resume slots) = false
may_wait Routes = false
may_wait (Wave slots) = false
may_wait (PinsOf node) = false

-- whether words of this form, or of none, may wait
abbrev pub form_may_wait : Option Form → Bool
form_may_wait None = false
form_may_wait (Some form) = may_wait form
