-- Tokens of a line. Blanks part them, and a comment runs from `//` or `#` to the line's end.
use Rattle.std.specs.Prelude.{ℕ, zero, suc, Bool, false, IsTrue, not, ◌||◌, ◌&&◌, ◌==◌, if◌then◌else◌, List, [], ◌∷◌, ◌++◌, length, take, codes}
use Rattle.std.specs.List.{slice_range, list_all, list_any, prefix_len}
use Rattle.std.specs.Char.{is_ascii_digit, is_ascii_alphanumeric, is_ascii_hexdigit}
use Rattle.xs_text.specs.Bytes.{is_blank, is_name_start, is_name_byte, begins_with}
use Rattle.xs_text.specs.declared.token_reader.TokKind.{TokKind}
use Rattle.xs_text.specs.declared.token_reader.TokKind.TheVariants.{Name, Number, Mark, Stray}
use Rattle.xs_text.specs.declared.token_reader.Tok.{Tok}

pub record Token : Type 0 where
  pub kind : TokKind
  pub bytes : List ℕ

-- a name as a whole: a letter, `.` or `_`, and then bytes of a name
abbrev pub is_name : List ℕ → Bool
is_name [] = false
is_name (b ∷ rest) = is_name_start b && list_all is_name_byte rest

-- whether a name begins the bytes
abbrev pub BeginsAsName : List ℕ → Type 0
BeginsAsName [] = ⊥
BeginsAsName (b ∷ rest) = IsTrue (is_name_start b)

-- one or more bytes that pass
abbrev pub is_run : (ℕ → Bool) → List ℕ → Bool
is_run passes bytes = not (length bytes == 0) && list_all passes bytes

-- `0`, the letter of a base, and one or more of its digits
abbrev pub is_based : ℕ → (ℕ → Bool) → List ℕ → Bool
is_based letter is_digit [] = false
is_based letter is_digit (b ∷ []) = false
is_based letter is_digit (b ∷ c ∷ rest) = (b == 48) && ((c == letter) && is_run is_digit rest)

-- `0` or `1`
abbrev pub is_binary_digit : ℕ → Bool
is_binary_digit b = (b == 48) || (b == 49)

-- a number as a whole: decimal digits, or `0x` and hex digits, or `0b` and binary digits
abbrev pub is_number : List ℕ → Bool
is_number bytes =
    is_run is_ascii_digit bytes
    || (is_based 120 is_ascii_hexdigit bytes || is_based 98 is_binary_digit bytes)

-- one of the bytes `,`, `:`, `[`, `]` and `-`
abbrev pub is_mark_byte : ℕ → Bool
is_mark_byte b = list_any (λ m. b == m) (codes ",:[]-")

abbrev pub is_mark : List ℕ → Bool
is_mark [] = false
is_mark (b ∷ []) = is_mark_byte b
is_mark (b ∷ c ∷ rest) = false

-- what the bytes of one token make
abbrev pub kind_of : List ℕ → TokKind
kind_of bytes =
    if is_name bytes then Name
    else (if is_number bytes then Number
    else (if is_mark bytes then Mark else Stray))

abbrev pub token_of : List ℕ → Token
token_of bytes = record { kind = kind_of bytes; bytes = bytes }

-- how many bytes after its first, b, a token has: a name takes all bytes of a name, a number all
-- letters and digits, and any other token is one byte
abbrev pub tail_length : ℕ → List ℕ → ℕ
tail_length b rest =
    if is_name_start b then prefix_len is_name_byte rest
    else (if is_ascii_digit b then prefix_len is_ascii_alphanumeric rest else 0)

-- `#`, or `//`
abbrev pub begins_comment : ℕ → List ℕ → Bool
begins_comment b rest = (b == 35) || ((b == 47) && begins_with 47 rest)

-- the token that begins at b, none where b is a blank or begins a comment
abbrev pub token_at : ℕ → List ℕ → List Token
token_at b rest =
    if is_blank b || begins_comment b rest then []
    else token_of (b ∷ take (tail_length b rest) rest) ∷ []

-- how many bytes after b belong to the comment or token that begins there
abbrev pub skip_at : ℕ → List ℕ → ℕ
skip_at b rest = if begins_comment b rest then length rest else tail_length b rest

-- the tokens after the first bytes, `skip` many, which belong to what came before
unfoldable pub tokens_after : ℕ → List ℕ → List Token
tokens_after skip [] = []
tokens_after zero (b ∷ rest) = token_at b rest ++ tokens_after (skip_at b rest) rest
tokens_after (suc skip) (b ∷ rest) = tokens_after skip rest

-- the tokens of a line, or of what is left of one
abbrev pub tokens_of : List ℕ → List Token
tokens_of bytes = tokens_after 0 bytes

-- the token that a span of the text stands for
abbrev pub token_in : List ℕ → Tok → Token
token_in text token = record { kind = token.kind; bytes = slice_range text token.from token.to }

-- what the kind of a token says of its bytes
abbrev pub FormOf : TokKind → List ℕ → Type 0
FormOf Name bytes = IsTrue (is_name bytes)
FormOf Number bytes = IsTrue (is_number bytes)
FormOf Mark bytes = IsTrue (is_mark bytes)
FormOf Stray bytes = Unit {0}

abbrev pub HasForm : Token → Type 0
HasForm token = FormOf token.kind token.bytes
