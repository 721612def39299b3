-- All that is told of a faulty line of the frame, below the line that refuses the text.
use Rattle.std.specs.Prelude.{ℕ, ◌-◌, Bool, false, ◌&&◌, ◌==◌, nat_le, if◌then◌else◌, Option, Some, None, List, [], ◌∷◌, ◌++◌, length, take, map, get_or, slice_index, codes}
use Rattle.std.specs.List.{prefix_len}
use Rattle.xs_text.specs.Bytes.{is_allowed, all_allowed}
use Rattle.xs_instructions.specs.Image.{same_name}
use Rattle.system_model.specs.declared.SysKind.{SysKind}
use Rattle.system_model.specs.declared.SysKind.TheVariants.{FirstLine, BadLine, GivenTwice, IdTwice, LinkEndTwice, LinkToItself, NumberOutOfRange, NodeWithoutSource, SectionNotEnded, BitTwice, NoSuchNode, TooMany, WireWithinNode, WidthsDiffer, PinWiredTwice, TooManyWires}
use Rattle.explain_model.specs.declared.FixedWord.{FixedWord}
use Rattle.explain_model.specs.declared.Want.TheVariants.{AllowedByte}
use Rattle.explain_model.specs.Wants.{word_text}
use Rattle.explain_model.specs.Words.{PlacedWord, placed_words, words_left}
use Rattle.explain_model.specs.Forms.{Spot}
use Rattle.explain_model.specs.Spots.{spot_at}
use Rattle.explain_model.specs.Near.{near_from, near_line}
use Rattle.explain_model.specs.Meant.{bad_byte_line}
use Rattle.explain_model.specs.Quote.{quote_text, accepted_text}
use Rattle.explain_frame_model.specs.declared.frame.Inside.{Inside}
use Rattle.explain_frame_model.specs.declared.frame.Inside.TheVariants.{Frame}
use Rattle.explain_frame_model.specs.WordForms.{spot_of_forms}
use Rattle.explain_frame_model.specs.FrameBefore.{EarlierLine, inside_of, frame_lines, edition_of}
use Rattle.explain_frame_model.specs.FrameGifts.{giver, already_line}
use Rattle.explain_frame_model.specs.FrameForms.{forms_in, names_in}
use Rattle.explain_frame_model.specs.FrameWords.{word_at, bytes_at, gift_again, word_again, id_again, bit_again, pin_again, link_end_again, end_again_line, unknown_word, unknown_line, both_line, widths_line, too_many_line, no_source_line}

-- a line of a system text: its number, from 1, the lines before it, and its bytes
pub record FrameAt : Type 0 where
  pub number : ℕ
  pub before : List (List ℕ)
  pub bytes : List ℕ

abbrev pub words_in : FrameAt → List PlacedWord
words_in at = placed_words at.bytes

abbrev pub lines_before : FrameAt → List EarlierLine
lines_before at = frame_lines at.before

abbrev pub edition_in : FrameAt → Option ℕ
edition_in at = edition_of (lines_before at)

-- ---- The place

-- how far the line has a form
abbrev pub form_spot : FrameAt → Spot
form_spot at = spot_of_forms (forms_in (inside_of at.before) (edition_in at)) (words_in at)

-- the first byte that a text may not hold comes before that
abbrev pub bad_spot : FrameAt → Spot
bad_spot at = if all_allowed at.bytes then form_spot at else spot_at (prefix_len is_allowed at.bytes) (AllowedByte ∷ [])

-- the word at which the line is faulty, where its form is good
abbrev pub faulty_word : SysKind → List EarlierLine → List PlacedWord → PlacedWord
faulty_word GivenTwice lines words = word_again words
faulty_word IdTwice lines words = word_at words 3
faulty_word LinkEndTwice lines words = link_end_again lines words
faulty_word LinkToItself lines words = word_at words 2
faulty_word BitTwice lines words = word_at words 2
faulty_word NoSuchNode lines words = unknown_word lines words
faulty_word WireWithinNode lines words = word_at words 2
faulty_word WidthsDiffer lines words = word_at words 2
faulty_word PinWiredTwice lines words = word_at words 2
faulty_word _ lines words = word_at words 0

abbrev pub spot_of : SysKind → FrameAt → Spot
spot_of FirstLine at = form_spot at
spot_of BadLine at = bad_spot at
spot_of NumberOutOfRange at = form_spot at
spot_of kind at = spot_at (faulty_word kind (lines_before at) (words_in at)).at []

-- ---- What is meant

-- `net` in a line, and `wire` as its first word, are of edition 2
abbrev pub is_newer_word : List ℕ → Bool → Bool
is_newer_word word is_first = if is_first then same_name (codes "wire") word else same_name (codes "net") word

abbrev pub is_1 : Inside → Option ℕ → Bool
is_1 Frame (Some edition) = edition == 1
is_1 _ edition = false

abbrev pub beginning_line : List ℕ → List FixedWord → List ℕ
beginning_line word names = word ++ (codes " begins no line here" ++ near_line (near_from word [] (map word_text names)))

-- of a word with which no form goes on, by whether it is the first of the line
abbrev pub word_line : Inside → Option ℕ → List ℕ → Bool → List ℕ
word_line inside edition word is_first =
    if is_1 inside edition && is_newer_word word is_first then word ++ codes " is of edition 2: the text begins with xs1 2 then\n"
    else (if is_first then beginning_line word (names_in inside edition) else [])

-- of the word at a place; the first word stands there where its place is that
abbrev pub word_line_at : FrameAt → ℕ → List ℕ
word_line_at at place =
    word_line (inside_of at.before) (edition_in at) (bytes_at (words_left at.bytes place) 0) ((word_at (words_in at) 0).at == place)

abbrev pub bad_line : FrameAt → List ℕ
bad_line at =
    if all_allowed at.bytes then word_line_at at (form_spot at).at else bad_byte_line (slice_index at.bytes (prefix_len is_allowed at.bytes))

abbrev pub meant_by_words : SysKind → List EarlierLine → List PlacedWord → List ℕ
meant_by_words GivenTwice lines words = already_line (giver (gift_again words) lines)
meant_by_words IdTwice lines words = already_line (giver (id_again words) lines)
meant_by_words LinkEndTwice lines words = end_again_line lines words
meant_by_words LinkToItself lines words = both_line words
meant_by_words NodeWithoutSource lines words = no_source_line words
meant_by_words SectionNotEnded lines words = codes "no line end comes after it\n"
meant_by_words BitTwice lines words = already_line (giver (bit_again words) lines)
meant_by_words NoSuchNode lines words = unknown_line lines words
meant_by_words TooMany lines words = too_many_line words
meant_by_words WireWithinNode lines words = both_line words
meant_by_words WidthsDiffer lines words = widths_line (bytes_at words 1) (bytes_at words 2)
meant_by_words PinWiredTwice lines words = already_line (giver (pin_again words) lines)
meant_by_words TooManyWires lines words = codes "a system has at most 32 wires\n"
meant_by_words _ lines words = []

abbrev pub meant_line : SysKind → FrameAt → List ℕ
meant_line BadLine at = bad_line at
meant_line kind at = meant_by_words kind (lines_before at) (words_in at)

-- ---- All of it

unfoldable pub line_told : SysKind → FrameAt → List ℕ
line_told kind at = quote_text at.number at.bytes (spot_of kind at).at ++ (accepted_text (spot_of kind at).wants ++ meant_line kind at)

-- the line with a number, from 1, where there is one
abbrev pub line_at : List (List ℕ) → ℕ → Option FrameAt
line_at ls number =
    if nat_le 1 number && nat_le number (length ls)
    then Some (record { number = number; before = take (number - 1) ls; bytes = get_or ls (number - 1) [] })
    else None

abbrev pub told_if : SysKind → Option FrameAt → List ℕ
told_if kind None = []
told_if kind (Some at) = line_told kind at

-- of the line with a number of a text; the number may be 0, or that of the line past the last
unfoldable pub frame_told : SysKind → List (List ℕ) → ℕ → List ℕ
frame_told kind ls number = told_if kind (line_at ls number)
