-- All that is told of a faulty line of a pin script, below the line that refuses the text. The lines before it have no fault, so each with words is
-- `SLOT N:PORT VALUE`.
use Rattle.std.specs.Prelude.{ℕ, ◌+◌, ◌-◌, ◌^◌, Bool, false, ◌&&◌, ◌==◌, if◌then◌else◌, Option, Some, None, option_and_then, List, [], ◌∷◌, ◌++◌, take, drop, get_or, slice_index, codes, decimal}
use Rattle.std.specs.List.{prefix_len}
use Rattle.xs_base.specs.Ids.{port_width}
use Rattle.xs_text.specs.Bytes.{is_allowed, all_allowed}
use Rattle.pin_scripts.specs.declared.pin_error.PinKind.{PinKind}
use Rattle.pin_scripts.specs.declared.pin_error.PinKind.TheVariants.{BadLine, SlotFalls, NoSuchPort, ValueTooWide, NoSuchNode, PinGivenTwice}
use Rattle.pin_scripts.specs.Pins.{before_colon, word_number}
use Rattle.explain_frame_model.specs.declared.ScriptPin.{ScriptPin}
use Rattle.explain_frame_model.specs.declared.SlotPin.{SlotPin}
use Rattle.explain_frame_model.specs.declared.SlotLine.{SlotLine}
use Rattle.explain_model.specs.declared.FixedWord.TheVariants as fixed
use Rattle.explain_model.specs.declared.Want.{Want}
use Rattle.explain_model.specs.declared.Want.TheVariants as want
use Rattle.explain_model.specs.Words.{PlacedWord, placed_words}
use Rattle.explain_model.specs.Forms.{Spot}
use Rattle.explain_model.specs.Spots.{spot_at}
use Rattle.explain_model.specs.Meant.{bad_byte_line}
use Rattle.explain_model.specs.Quote.{quote_text, accepted_text}
use Rattle.explain_frame_model.specs.FrameGifts.{already_line}
use Rattle.explain_frame_model.specs.WordForms.{script_pin, spot_of_forms}

-- a line of a script: its number in the script, from 1, all lines of the script, and the number that the first of them has in the whole text
pub record ScriptLine : Type 0 where
  pub first : ℕ
  pub lines : List (List ℕ)
  pub line : ℕ

-- its number in the whole text
abbrev pub number_of_line : ScriptLine → ℕ
number_of_line at = (at.first + at.line) - 1

abbrev pub bytes_of_line : ScriptLine → List ℕ
bytes_of_line at = get_or at.lines (at.line - 1) []

abbrev pub lines_before : ScriptLine → List (List ℕ)
lines_before at = take (at.line - 1) at.lines

-- ---- Its words

abbrev pub no_word : PlacedWord
no_word = record { at = 0; bytes = [] }

abbrev pub first_word : List PlacedWord → PlacedWord
first_word (a ∷ words) = a
first_word _ = no_word

abbrev pub second_word : List PlacedWord → PlacedWord
second_word (a ∷ b ∷ words) = b
second_word _ = no_word

abbrev pub third_word : List PlacedWord → PlacedWord
third_word (a ∷ b ∷ c ∷ words) = c
third_word _ = no_word

abbrev pub with_slot : ℕ → Option ScriptPin → Option SlotPin
with_slot slot None = None
with_slot slot (Some pin) = Some (record { slot = slot; pin = pin })

-- the slot and the pin that they give
abbrev pub slot_pin : List PlacedWord → Option SlotPin
slot_pin words = option_and_then (λ slot. with_slot slot (script_pin (second_word words).bytes)) (word_number (first_word words).bytes)

abbrev pub slot_pin_of : List ℕ → Option SlotPin
slot_pin_of l = slot_pin (placed_words l)

-- the name of the port, as it is written
abbrev pub port_in : List ℕ → List ℕ
port_in word = drop (before_colon word + 1) word

-- ---- The lines before it

abbrev pub slot_line : ℕ → Option SlotPin → Option SlotLine → Option SlotLine
slot_line n None before = before
slot_line n (Some given) before = Some (record { number = n; slot = given.slot })

-- the last of some lines that gives a slot, where the first of them has a number
unfoldable pub last_slot : ℕ → Option SlotLine → List (List ℕ) → Option SlotLine
last_slot n before [] = before
last_slot n before (l ∷ ls) = last_slot (n + 1) (slot_line n (slot_pin_of l) before) ls

abbrev pub slot_before : ScriptLine → Option SlotLine
slot_before at = last_slot at.first None (lines_before at)

abbrev pub is_same : SlotPin → SlotPin → Bool
is_same a b = (a.slot == b.slot) && ((a.pin.node == b.pin.node) && (a.pin.port == b.pin.port))

abbrev pub gives : SlotPin → Option SlotPin → Bool
gives given None = false
gives given (Some other) = is_same given other

-- the number of the first of some lines that gives this pin in this slot
unfoldable pub first_giving : SlotPin → ℕ → List (List ℕ) → Option ℕ
first_giving given n [] = None
first_giving given n (l ∷ ls) = if gives given (slot_pin_of l) then Some n else first_giving given (n + 1) ls

-- that of the first that gives what the line gives
abbrev pub given_before : ScriptLine → Option ℕ
given_before at = option_and_then (λ given. first_giving given at.first (lines_before at)) (slot_pin_of (bytes_of_line at))

-- ---- The place

-- the forms of a line: `SLOT N:PORT VALUE`, and `end`, which ends the script
abbrev pub script_forms : List (List Want)
script_forms =
    (want.Number 0 4294967295 ∷ want.ScriptPin ∷ want.Number 0 4294967295 ∷ []) ∷ (want.Word fixed.End ∷ []) ∷ []

-- the first byte that a text may not hold, or else the place up to which it has a form
abbrev pub form_spot : List ℕ → Spot
form_spot l =
    if all_allowed l then spot_of_forms script_forms (placed_words l) else spot_at (prefix_len is_allowed l) (want.AllowedByte ∷ [])

-- a slot that is not below that of the last line before
abbrev pub slot_wants : Option SlotLine → List Want
slot_wants None = []
slot_wants (Some before) = want.Number before.slot 4294967295 ∷ []

-- a value of as many bits as the port has pins
abbrev pub value_wants : Option ScriptPin → List Want
value_wants None = []
value_wants (Some pin) = want.Number 0 (2 ^ port_width pin.port - 1) ∷ []

abbrev pub spot_of_words : PinKind → ScriptLine → List PlacedWord → Spot
spot_of_words BadLine at words = form_spot (bytes_of_line at)
spot_of_words NoSuchPort at words = form_spot (bytes_of_line at)
spot_of_words SlotFalls at words = spot_at (first_word words).at (slot_wants (slot_before at))
spot_of_words ValueTooWide at words = spot_at (third_word words).at (value_wants (script_pin (second_word words).bytes))
spot_of_words NoSuchNode at words = spot_at (second_word words).at []
spot_of_words PinGivenTwice at words = spot_at (second_word words).at []

-- the place at which the line is faulty, by the kind of its fault, and what may stand there
abbrev pub script_spot : PinKind → ScriptLine → Spot
script_spot kind at = spot_of_words kind at (placed_words (bytes_of_line at))

-- ---- What is meant

abbrev pub bad_line : List ℕ → List ℕ
bad_line l = if all_allowed l then [] else bad_byte_line (slice_index l (prefix_len is_allowed l))

abbrev pub falls_line : Option SlotLine → List ℕ
falls_line None = []
falls_line (Some before) = codes "line " ++ (decimal before.number ++ (codes " has slot " ++ (decimal before.slot ++ codes "\n")))

abbrev pub width_line : List ℕ → Option ScriptPin → List ℕ
width_line word None = []
width_line word (Some pin) = codes "port " ++ (port_in word ++ (codes " has width " ++ (decimal (port_width pin.port) ++ codes "\n")))

-- The line that says what is meant, where there is one. That of `NoSuchNode` tells of the system, so it comes from outside.
abbrev pub script_meant : PinKind → ScriptLine → List PlacedWord → List ℕ
script_meant BadLine at words = bad_line (bytes_of_line at)
script_meant NoSuchPort at words = bad_line (bytes_of_line at)
script_meant SlotFalls at words = falls_line (slot_before at)
script_meant ValueTooWide at words = width_line (second_word words).bytes (script_pin (second_word words).bytes)
script_meant NoSuchNode at words = []
script_meant PinGivenTwice at words = already_line (given_before at)

-- ---- All of it

abbrev pub meant_of : PinKind → ScriptLine → List ℕ
meant_of kind at = script_meant kind at (placed_words (bytes_of_line at))

unfoldable pub script_told : PinKind → ScriptLine → List ℕ
script_told kind at =
    quote_text (number_of_line at) (bytes_of_line at) (script_spot kind at).at ++ (accepted_text (script_spot kind at).wants ++ meant_of kind at)
