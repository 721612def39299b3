-- A text that is put together of lines has these lines, where each is of allowed bytes and no longer than a hundred.
use Rattle.std.proofs.Common.{◌≡◌, ℕ, zero, suc, ◌+◌, ◌*◌, ◌<◌, ◌≤◌, Bool, true, nat_le, ◌&&◌, List, [], ◌∷◌, ◌++◌, length, map, ap, ◌∙◌, append_assoc, length-append, arith}
use Rattle.std.specs.List.{AllByRecursion, list_all, range_with_len, flat_map}
use Rattle.std.proofs.lemmas.Bool.{and_parts, and_from}
use Rattle.std.proofs.lemmas.Bool.Decides.{nat_tests}
use Rattle.std.proofs.lemmas.List.Folds.{list_all-append}
use Rattle.xs_text.specs.Bytes.{is_allowed, all_allowed}
use Rattle.xs_text.specs.Lines.{lines_of}
use Rattle.source_laws.proofs.TextLines.{lines_of-line, lines_of-none}
use Rattle.load_model.specs.Load.{text_of_lines}

-- bytes in front of bytes are all allowed if both are
pub allowed_append : (a b : List ℕ) → all_allowed a ≡ true → all_allowed b ≡ true → all_allowed (a ++ b) ≡ true
allowed_append a b h k = list_all-append is_allowed a b ∙ and_from _ _ h k

-- whether a line has allowed bytes alone, and is no longer than a hundred
pub record IsFineLine (line : List ℕ) : Type 0 where
  pub allowed : all_allowed line ≡ true
  pub short : length line ≤ 100

abbrev pub is_fine : List ℕ → Bool
is_fine line = all_allowed line && nat_le (length line) 100

-- what the test of a length means
is_short : (k : ℕ) → nat_le k 100 ≡ true → k ≤ 100
is_short k h = grind (arith, nat_tests)

-- lines whose test computes
pub all_fine : (lines : List (List ℕ)) → list_all is_fine lines ≡ true → AllByRecursion IsFineLine lines
all_fine [] h = tt
all_fine (line ∷ lines) h =
    let p = and_parts (is_fine line) (list_all is_fine lines) h in
    let q = and_parts (all_allowed line) (nat_le (length line) 100) p.0 in
    (record { allowed = q.0; short = is_short (length line) q.1 }, all_fine lines p.1)

-- lines after lines
pub fine_append : (xs ys : List (List ℕ)) → AllByRecursion IsFineLine xs → AllByRecursion IsFineLine ys → AllByRecursion IsFineLine (xs ++ ys)
fine_append [] ys h k = k
fine_append (x ∷ xs) ys h k = (h.0, fine_append xs ys h.1 k)

-- the numbers of a range below 16
pub fine_map : (f : ℕ → List ℕ) (a k : ℕ) → a + k ≤ 16 → ((i : ℕ) → i < 16 → IsFineLine (f i)) → AllByRecursion IsFineLine (map f (range_with_len a k))
fine_map f a zero h each = tt
fine_map f a (suc k) h each = (each a (omega arith), fine_map f (a + 1) k (omega arith) each)

-- the same where each number has several lines
pub fine_flat_map : (f : ℕ → List (List ℕ)) (a k : ℕ) → a + k ≤ 16 → ((i : ℕ) → i < 16 → AllByRecursion IsFineLine (f i))
    → AllByRecursion IsFineLine (flat_map f (range_with_len a k))
fine_flat_map f a zero h each = tt
fine_flat_map f a (suc k) h each = fine_append (f a) (flat_map f (range_with_len (a + 1) k)) (each a (omega arith)) (fine_flat_map f (a + 1) k (omega arith) each)

-- the lines of the text of lines are these lines
pub lines_of-text : (lines : List (List ℕ)) → AllByRecursion IsFineLine lines → lines_of (text_of_lines lines) ≡ lines
lines_of-text [] h = lines_of-none
lines_of-text (line ∷ lines) h =
    ap (λ t. lines_of t) (append_assoc line (10 ∷ []) (text_of_lines lines))
    ∙ (lines_of-line line (text_of_lines lines) h.0.allowed ∙ ap (λ l. line ∷ l) (lines_of-text lines h.1))

-- the text of lines has at most 101 bytes for each
pub length-text : (lines : List (List ℕ)) → AllByRecursion IsFineLine lines → length (text_of_lines lines) ≤ 101 * length lines
length-text [] h = omega arith
length-text (line ∷ lines) h =
    let e = length-text lines h.1 in
    omega (arith, e, h.0.short, length-append (line ++ (10 ∷ [])) (text_of_lines lines), length-append line (10 ∷ []))

-- how many lines there are where each number has the same number of them
pub length-flat_lines : (f : ℕ → List (List ℕ)) (c a k : ℕ) → ((i : ℕ) → length (f i) ≡ c) → length (flat_map f (range_with_len a k)) ≡ c * k
length-flat_lines f c a zero each = omega arith
length-flat_lines f c a (suc k) each =
    let e = length-flat_lines f c (a + 1) k each in
    let l = each a in
    omega (arith, e, l, length-append (f a) (flat_map f (range_with_len (a + 1) k)))
