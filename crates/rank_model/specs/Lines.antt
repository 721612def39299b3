-- The lines of ranks that stand before a system text, up to the line `system`.
use Rattle.std.specs.Prelude.{ℕ, zero, suc, ◌+◌, if◌then◌else◌, Option, Some, None, List, [], ◌∷◌, ◌++◌, take, drop, codes}
use Rattle.xs_instructions.specs.Image.{same_name}
use Rattle.xs_text.specs.Bytes.{all_allowed}
use Rattle.xs_text.specs.Lines.{lines_of, whole_line}
use Rattle.xs_text.specs.Numbers.{number_of, at_most}
use Rattle.xs_text.specs.Words.{words_of_line}
use Rattle.system_model.specs.FrameLines.{◌>>=◌, before_colon, same_words}
use Rattle.rank_model.specs.declared.rank_line.RankLine.{RankLine}
use Rattle.rank_model.specs.declared.rank_line.RankSays.{RankSays}
use Rattle.rank_model.specs.declared.rank_line.RankSays.TheVariants.{Blank, System, Rank, NoForm}

-- ---- One line

-- `rank N:E R` in line n: the rank R, 0 to 65,535, of link end E, 0 to 7, of node N, 0 to 99
unfoldable pub rank_line : ℕ → List (List ℕ) → Option RankLine
rank_line n (k ∷ name ∷ r ∷ []) =
    if same_name (codes "rank") k
    then (at_most 99 (number_of (take (before_colon name) name)) >>= λ node. at_most 7 (number_of (drop (before_colon name + 1) name)) >>= λ end.
    at_most 65535 (number_of r) >>= λ rank. Some (record { line = n; node = node; end = end; rank = rank }))
    else None
rank_line n _ = None

abbrev pub says_rank : Option RankLine → RankSays
says_rank None = NoForm
says_rank (Some rank) = Rank rank

abbrev pub says_words : ℕ → List (List ℕ) → RankSays
says_words n [] = Blank
says_words n (w ∷ ws) = if same_words (codes "system" ∷ []) (w ∷ ws) then System else says_rank (rank_line n (w ∷ ws))

-- what line n says: one with a byte that no text may hold, in its comment too, has no form
abbrev pub says : ℕ → List ℕ → RankSays
says n l = if all_allowed l then says_words n (words_of_line l) else NoForm

-- ---- All lines before the system text

-- the ranks that a line gives
abbrev pub given_by : RankSays → List RankLine
given_by (Rank rank) = rank ∷ []
given_by _ = []

-- the ranks before the line `system`, and its number; or the line that refuses them
pub data Head : Type 0 where
  Before : (lines : List RankLine) (system : ℕ) → Head
  BadAt : (line : ℕ) → Head

-- line n, after the ranks that are given, by what it says, and what the lines after it come to
abbrev pub head_with : ℕ → List RankLine → RankSays → Head → Head
head_with n given System rest = Before given n
head_with n given NoForm rest = BadAt n
head_with n given _ rest = rest

-- line n and those after it. Where none of them is `system`, the line after the last is the bad one
unfoldable pub head_from : ℕ → List RankLine → List (List ℕ) → Head
head_from n given [] = BadAt n
head_from n given (l ∷ ls) = head_with n given (says n l) (head_from (n + 1) (given ++ given_by (says n l)) ls)

-- ---- The text

-- how many bytes the first so many lines have, with their ends
unfoldable pub bytes_of_lines : ℕ → List ℕ → ℕ
bytes_of_lines zero text = 0
bytes_of_lines (suc n) text = whole_line text + bytes_of_lines n (drop (whole_line text) text)

-- the ranks of a text, the number of its line `system`, and how many bytes it has up to the system text, which begins in the line after that
pub record RanksRec : Type 0 where
  pub lines : List RankLine
  pub system : ℕ
  pub rest : ℕ

pub data RanksRead : Type 0 where
  Ranks : (ranks : RanksRec) → RanksRead
  BadLine : (line : ℕ) → RanksRead

abbrev pub ranks_with : List ℕ → Head → RanksRead
ranks_with text (Before lines system) = Ranks (record { lines = lines; system = system; rest = bytes_of_lines system text })
ranks_with text (BadAt line) = BadLine line

-- the ranks that a text gives before its system text, by its lines, which count from 1
abbrev pub ranks_of : List ℕ → RanksRead
ranks_of text = ranks_with text (head_from 1 [] (lines_of text))

-- the system text after the ranks
abbrev pub system_after : List ℕ → RanksRec → List ℕ
system_after text ranks = drop ranks.rest text
