-- A source of a load is read line by line, whatever its two words are.
use Rattle.std.proofs.Common.{◌≡◌, ℕ, ◌<◌, Bool, true, false, not, nat_le, List, [], ◌∷◌, ◌++◌, map, refl, ap, ◌∙◌, arith}
use Rattle.std.specs.Prelude.{Option, Some, None, codes}
use Rattle.std.specs.List.{flat_map}
use Rattle.std.proofs.lemmas.Bool.{and_from, cond-true}
use Rattle.std.proofs.lemmas.Bool.Decides.{nat_tests}
use Rattle.std.proofs.lemmas.List.Folds.{list_all-append}
use Rattle.xs_text.specs.Bytes.{is_allowed, all_allowed}
use Rattle.xs_text.specs.Tokens.{Token, tokens_of, tokens_after, token_of}
use Rattle.xs_text.specs.Numbers.{source_number_of, at_most}
use Rattle.xs_instructions.specs.Words.{register_number, fixed}
use Rattle.xs_instructions.specs.Find.{find, known}
use Rattle.source_model.specs.declared.layout.Home.TheVariants.{InBytes}
use Rattle.source_model.specs.declared.layout.Width.TheVariants.{Word}
use Rattle.source_model.specs.Each.{put_first, all_some}
use Rattle.source_model.specs.Operands.{Amount, Known, operands_after}
use Rattle.source_model.specs.Values.{little_endian, ValueNext, CommaNext, values_from, listed_values}
use Rattle.source_model.specs.Statement.{Values, valued, statement, labels_first, after_labels, Line, line_of}
use Rattle.source_model.specs.Layout.{place_of, define_all, nothing_yet, after_lines, whole_of}
use Rattle.source_model.specs.Source.{defines_twice, first_fault, outcome, bytes_of_lines, image_of, assembled_from}
use Rattle.trace_model.specs.EventLines.{hex_word}
use Rattle.load_model.specs.Load.{program, data_text, source_lines}
use Rattle.load_laws.specs.Accepted.{IsAcceptedSource}
use Rattle.load_laws.proofs.HexWords.{number_token, word_allowed, word_first, word_back}

-- ---- The line of data

-- what stands behind the second word
abbrev last_values : List ℕ
last_values = codes ", 200, 1664525, 1013904223"

-- and behind the first
abbrev after_target : ℕ → List ℕ
after_target value = codes ", " ++ (hex_word value ++ last_values)

-- a text may hold it
data_allowed : (target value : ℕ) → all_allowed (data_text target value) ≡ true
data_allowed target value =
    list_all-append is_allowed (hex_word target) (after_target value)
    ∙ and_from _ _ (word_allowed target) (list_all-append is_allowed (hex_word value) last_values ∙ and_from _ _ (word_allowed value) refl)

-- the tokens behind the second word
abbrev last_tokens : List Token
last_tokens =
    token_of (codes ",") ∷ token_of (codes "200") ∷ token_of (codes ",") ∷ token_of (codes "1664525") ∷ token_of (codes ",")
    ∷ token_of (codes "1013904223") ∷ []

-- and from the first word on
abbrev value_tokens : ℕ → ℕ → List Token
value_tokens target value = number_token (hex_word target) ∷ token_of (codes ",") ∷ number_token (hex_word value) ∷ last_tokens

-- its tokens: the directive, and the values with commas between them
data_tokens : (target value : ℕ) → tokens_of (data_text target value) ≡ token_of (codes ".word") ∷ value_tokens target value
unfolding tokens_after
data_tokens target value =
    let first = word_first target (after_target value) refl in
    let second = word_first value last_values refl in
    ap (λ (ts : List Token). token_of (codes ".word") ∷ ts) first
    ∙ ap (λ (ts : List Token). token_of (codes ".word") ∷ number_token (hex_word target) ∷ token_of (codes ",") ∷ ts) second

-- a word is in the range of its directive
in_range : (w : ℕ) → w < 4294967296 → at_most 4294967295 (source_number_of (hex_word w)) ≡ Some w
in_range w h =
    let small : nat_le w 4294967295 ≡ true = grind (arith, nat_tests) in
    ap (λ n. at_most 4294967295 n) (word_back w h) ∙ cond-true _ _ _ small

-- a word is a value
value_first : (w : ℕ) (rest : List Token) → w < 4294967296 → values_from ValueNext Word (number_token (hex_word w) ∷ rest) ≡ put_first (Some (Known (Some w))) (values_from CommaNext Word rest)
unfolding values_from hex_word
value_first w rest h = ap (λ n. put_first (Some (Known n)) (values_from CommaNext Word rest)) (in_range w h)

-- the five values
abbrev data_amounts : ℕ → ℕ → List Amount
data_amounts target value = Known (Some target) ∷ Known (Some value) ∷ Known (Some 200) ∷ Known (Some 1664525) ∷ Known (Some 1013904223) ∷ []

-- the tokens of the values are read as them
data_values : (target value : ℕ) → target < 4294967296 → value < 4294967296 → listed_values Word (value_tokens target value) ≡ Some (data_amounts target value)
unfolding values_from
data_values target value t v =
    value_first target (token_of (codes ",") ∷ number_token (hex_word value) ∷ last_tokens) t
    ∙ ap (λ vs. put_first (Some (Known (Some target))) vs) (value_first value last_tokens v)

-- the line as it is read
abbrev data_line : ℕ → ℕ → Line
data_line target value =
    record { bad_byte = false; labels = []; statement = record { home = InBytes; says = Values Word (data_amounts target value) } }

-- no label stands before the directive
no_labels : (target value : ℕ) → labels_first (token_of (codes ".word") ∷ value_tokens target value) ≡ []
unfolding labels_first hex_word
no_labels target value = refl

-- nor is anything taken off for one
all_behind : (target value : ℕ) → after_labels (token_of (codes ".word") ∷ value_tokens target value) ≡ token_of (codes ".word") ∷ value_tokens target value
unfolding after_labels hex_word
all_behind target value = refl

-- a line by its tokens
abbrev line_from : Bool → List Token → Line
line_from allowed ts = record { bad_byte = not allowed; labels = labels_first ts; statement = statement (after_labels ts) }

-- the line of data is read so
data_read : (target value : ℕ) → target < 4294967296 → value < 4294967296 → line_of (data_text target value) ≡ data_line target value
data_read target value t v =
    let ts = token_of (codes ".word") ∷ value_tokens target value in
    ap (λ b. line_from b (tokens_of (data_text target value))) (data_allowed target value)
    ∙ (ap (λ ts. line_from true ts) (data_tokens target value)
    ∙ (ap (λ (labels : List (List ℕ)). record { bad_byte = false; labels = labels; statement = statement (after_labels ts) }) (no_labels target value)
    ∙ (ap (λ (ts : List Token). record { bad_byte = false; labels = []; statement = statement ts }) (all_behind target value)
    ∙ ap (λ (amounts : Option (List Amount)). record { bad_byte = false; labels = []; statement = record { home = InBytes; says = valued Word amounts } }) (data_values target value t v))))

-- ---- All lines

-- the lines with the data read
unfoldable read_lines : ℕ → ℕ → List Line
read_lines target value = map line_of program ++ (data_line target value ∷ [])

-- the lines of a source are these
lines_read : (target value : ℕ) → target < 4294967296 → value < 4294967296 → map line_of (source_lines target value) ≡ read_lines target value
unfolding read_lines
lines_read target value t v = ap (λ line. map line_of program ++ (line ∷ [])) (data_read target value t v)

-- no line has a fault
no_fault : (target value : ℕ) → first_fault (whole_of (read_lines target value)) nothing_yet 1 (read_lines target value) ≡ None
unfolding read_lines tokens_after register_number fixed find known operands_after all_some labels_first after_labels place_of define_all after_lines defines_twice first_fault
no_fault target value = refl

-- the data are the bytes of the words
data_bytes : (target value : ℕ) → (image_of (whole_of (read_lines target value)) (read_lines target value)).bytes ≡ flat_map (little_endian Word) (target ∷ value ∷ 200 ∷ 1664525 ∷ 1013904223 ∷ [])
unfolding read_lines tokens_after register_number fixed find known operands_after all_some labels_first after_labels place_of define_all after_lines bytes_of_lines
data_bytes target value = refl

-- the source is accepted, whatever its two words are
pub source_read : (target value : ℕ) → target < 4294967296 → value < 4294967296 → IsAcceptedSource target value
source_read target value t v =
    let lines = read_lines target value in
    record {
      image = image_of (whole_of lines) lines;
      accepted = ap assembled_from (lines_read target value t v) ∙ ap (λ fault. outcome fault (image_of (whole_of lines) lines)) (no_fault target value);
      bytes = data_bytes target value;
    }
