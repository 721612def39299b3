-- Lines before a system text, one after another.
use Rattle.std.proofs.Common.{◌≡◌, ℕ, zero, suc, ◌+◌, ◌-◌, ◌≤◌, List, [], ◌∷◌, ◌++◌, length, drop, length-drop, sym, ap, ◌∙◌, arith}
use Rattle.std.proofs.lemmas.List.{drop-drop}
use Rattle.xs_text.specs.declared.line_reader.Line.{Line}
use Rattle.xs_text.specs.Lines.{Reading, lines_of, line_bytes, bytes_left, whole_line}
use Rattle.rank_model.specs.declared.rank_line.RankLine.{RankLine}
use Rattle.rank_model.specs.declared.rank_line.RankSays.{RankSays}
use Rattle.rank_model.specs.Lines.{Head, BadLine, bytes_of_lines, given_by, head_from, head_with, ranks_of, ranks_with, says}

-- one line more has its own bytes more
bytes-more : (n : ℕ) (text : List ℕ) → bytes_of_lines (suc n) text ≡ bytes_of_lines n text + whole_line (drop (bytes_of_lines n text) text)
unfolding bytes_of_lines
bytes-more zero text = omega arith
bytes-more (suc n) text =
    let first = whole_line text in
    let left = drop first text in
    let most = bytes_of_lines n left in
    let same : whole_line (drop most left) ≡ whole_line (drop (first + most) text) = ap (λ (l : List ℕ). whole_line l) (drop-drop most first text) in
    omega (arith, bytes-more n left, same)

-- where the lines end that were read, after one more
pub bytes-next : (text : List ℕ) (old new : Reading) → old.text ≡ text → old.at ≡ bytes_of_lines old.number text → new.at ≡ old.at + whole_line (bytes_left old) → new.number ≡ old.number + 1
    → new.at ≡ bytes_of_lines new.number text
bytes-next text old new same at moved count =
    let left : whole_line (bytes_left old) ≡ whole_line (drop (bytes_of_lines old.number text) text) = λ i. whole_line (drop (at i) (same i)) in
    let next : new.number ≡ suc old.number = omega (arith, count) in
    let more : bytes_of_lines new.number text ≡ bytes_of_lines (suc old.number) text = ap (λ n. bytes_of_lines n text) next in
    omega (arith, moved, at, left, more, bytes-more old.number text)

-- the bytes before those that are left
pub bytes-before : (text left : List ℕ) (new : Reading) → new.text ≡ text → new.at ≤ length text → left ≡ bytes_left new → length text - length left ≡ new.at
bytes-before text left new same within is =
    let count : length left ≡ length (drop new.at text) = ap (λ (l : List ℕ). length l) is ∙ (λ i. length (drop new.at (same i))) in
    let gone : length (drop new.at text) ≡ length text - new.at = length-drop new.at text in
    omega (arith, count, gone, within)

-- the lines from one on, by what it says
pub line-read : (text : List ℕ) (old new : Reading) (line : Line) (given : List RankLine) (said : RankSays) → old.text ≡ text
    → lines_of (bytes_left old) ≡ line_bytes old.text line ∷ lines_of (bytes_left new) → line.number ≡ old.number + 1 → says line.number (line_bytes text line) ≡ said
    → head_from (old.number + 1) given (lines_of (bytes_left old)) ≡ head_with line.number given said (head_from (line.number + 1) (given ++ given_by said) (lines_of (bytes_left new)))
unfolding head_from
line-read text old new line given said same cut count is =
    let says_so : says line.number (line_bytes old.text line) ≡ said = (λ i. says line.number (line_bytes (same i) line)) ∙ is in
    (λ i. head_from (sym count i) given (cut i))
    ∙ (λ i. head_with line.number given (says_so i) (head_from (line.number + 1) (given ++ given_by (says_so i)) (lines_of (bytes_left new))))

-- after the last line there is no line `system`
pub lines-end : (text : List ℕ) (reading : Reading) (given : List RankLine) (next : ℕ) → bytes_left reading ≡ []
    → head_from 1 [] (lines_of text) ≡ head_from (reading.number + 1) given (lines_of (bytes_left reading)) → next ≡ reading.number + 1 → ranks_of text ≡ BadLine next
unfolding head_from lines_of
lines-end text reading given next left whole is =
    ap (λ (h : Head). ranks_with text h) (whole ∙ (λ i. head_from (reading.number + 1) given (lines_of (left i))))
    ∙ ap (λ n. BadLine n) (sym is)
