-- The first lines of a text, and the line after them.
use Rattle.std.proofs.Common.{◌≡◌, ℕ, zero, suc, ◌+◌, ◌-◌, ◌≤◌, ◌<◌, true, false, List, [], ◌∷◌, ◌++◌, length, take, drop, get_or, Option, Some, None, refl, ap, sym, ◌∙◌, subst, arith, append_assoc, append-nil}
use Rattle.std.specs.Prelude.{nat_le, ◌&&◌}
use Rattle.std.specs.List.{slice_range}
use Rattle.std.proofs.lemmas.Bool.{cond-true, cond-false}
use Rattle.std.proofs.lemmas.Bool.Decides.{nat_tests}
use Rattle.xs_text.specs.Lines.{lines_of, Reading, bytes_left, line_bytes, IsLineOfParts}
use Rattle.xs_text.specs.declared.line_reader.Line.{Line}
use Rattle.explain_frame_model.specs.FrameTold.{FrameAt, line_at}

-- ---- Lists

take-more : (n : ℕ) (ls : List (List ℕ)) (l : List ℕ) (rest : List (List ℕ)) → drop n ls ≡ l ∷ rest → take (suc n) ls ≡ take n ls ++ l ∷ []
take-more zero [] l rest e = absurd cc
take-more (suc n) [] l rest e = absurd cc
take-more zero (x ∷ ls) l rest e = ap (λ (xs : List (List ℕ)). take 1 xs) e
take-more (suc n) (x ∷ ls) l rest e = ap (λ (xs : List (List ℕ)). x ∷ xs) (take-more n ls l rest e)

drop-more : (n : ℕ) (ls : List (List ℕ)) (l : List ℕ) (rest : List (List ℕ)) → drop n ls ≡ l ∷ rest → drop (suc n) ls ≡ rest
drop-more zero [] l rest e = absurd cc
drop-more (suc n) [] l rest e = absurd cc
drop-more zero (x ∷ ls) l rest e = ap (λ (xs : List (List ℕ)). drop 1 xs) e
drop-more (suc n) (x ∷ ls) l rest e = drop-more n ls l rest e

get-next : (n : ℕ) (ls : List (List ℕ)) (l : List ℕ) (rest : List (List ℕ)) → drop n ls ≡ l ∷ rest → get_or ls n [] ≡ l
get-next zero [] l rest e = absurd cc
get-next (suc n) [] l rest e = absurd cc
get-next zero (x ∷ ls) l rest e = ap (λ (xs : List (List ℕ)). get_or xs 0 []) e
get-next (suc n) (x ∷ ls) l rest e = get-next n ls l rest e

some-left : (n : ℕ) (ls : List (List ℕ)) (l : List ℕ) (rest : List (List ℕ)) → drop n ls ≡ l ∷ rest → n + 1 ≤ length ls
some-left zero [] l rest e = absurd cc
some-left (suc n) [] l rest e = absurd cc
some-left zero (x ∷ ls) l rest e = omega arith
some-left (suc n) (x ∷ ls) l rest e = omega (arith, some-left n ls l rest e)

none-left : (n : ℕ) (ls : List (List ℕ)) → drop n ls ≡ [] → length ls ≤ n
none-left zero [] e = omega arith
none-left (suc n) [] e = omega arith
none-left zero (x ∷ ls) e = absurd cc
none-left (suc n) (x ∷ ls) e = omega (arith, none-left n ls e)

-- ---- Parts of a text

-- The lines of the text before a place are its first ones, so many: and so are they of each part that goes on from there.
pub record IsFront (text : List ℕ) (at number : ℕ) : Type 0 where
  pub parts : (end : ℕ) → at ≤ end → end ≤ length text → lines_of (take end text) ≡ take number (lines_of text) ++ lines_of (slice_range text at end)
  pub left : lines_of (drop at text) ≡ drop number (lines_of text)

pub front-first : (text : List ℕ) → IsFront text 0 0
front-first text = record {
  parts = λ end h k. let whole : end ≡ end - 0 = omega arith in ap (λ n. lines_of (take n text)) whole;
  left = refl;
}

no_lines : (text : List ℕ) (n : ℕ) → lines_of (slice_range text n n) ≡ []
unfolding lines_of
no_lines text n = let e : n - n ≡ 0 = omega arith in ap (λ k. lines_of (take k (drop n text))) e

pub front-next : (text : List ℕ) (line : Line) (at after number : ℕ) → IsFront text at number → IsLineOfParts text line at after
    → lines_of (drop at text) ≡ line_bytes text line ∷ lines_of (drop after text) → at ≤ after → IsFront text after (number + 1)
front-next text line at after number front of_parts is passed =
    let ls = lines_of text in
    let l = line_bytes text line in
    let next : drop number ls ≡ l ∷ lines_of (drop after text) = sym front.left ∙ is in
    let more : suc number ≡ number + 1 = omega arith in
    record {
      parts = λ end h k.
          front.parts end (omega arith) k
          ∙ (ap (λ (x : List (List ℕ)). take number ls ++ x) (of_parts end h k)
          ∙ (sym (append_assoc (take number ls) (l ∷ []) (lines_of (slice_range text after end)))
          ∙ ap (λ (x : List (List ℕ)). x ++ lines_of (slice_range text after end)) (sym (take-more number ls l (lines_of (drop after text)) next) ∙ ap (λ k. take k ls) more)));
      left = sym (drop-more number ls l (lines_of (drop after text)) next) ∙ ap (λ k. drop k ls) more;
    }

-- the lines of the text before the place
pub front-lines : (text : List ℕ) (at number : ℕ) → IsFront text at number → at ≤ length text → lines_of (take at text) ≡ take number (lines_of text)
front-lines text at number front within =
    front.parts at (omega arith) within ∙ (ap (λ (x : List (List ℕ)). take number (lines_of text) ++ x) (no_lines text at) ∙ append-nil (take number (lines_of text)))

-- ---- The line after them

-- a line that was read, in terms of the text
pub line-left : (text : List ℕ) (old new : Reading) (line : Line) → old.text ≡ text → new.text ≡ old.text → lines_of (bytes_left old) ≡ line_bytes old.text line ∷ lines_of (bytes_left new)
    → lines_of (drop old.at text) ≡ line_bytes text line ∷ lines_of (drop new.at text)
line-left text old new line same new_same is =
    ap (λ (x : List ℕ). lines_of (drop old.at x)) (sym same)
    ∙ (is
    ∙ (ap (λ (x : List ℕ). line_bytes x line ∷ lines_of (drop new.at new.text)) same
    ∙ ap (λ (x : List ℕ). line_bytes text line ∷ lines_of (drop new.at x)) (new_same ∙ same)))

pub nothing-left : (text : List ℕ) (old : Reading) → old.text ≡ text → bytes_left old ≡ [] → lines_of (drop old.at text) ≡ []
unfolding lines_of
nothing-left text old same e = ap (λ (x : List ℕ). lines_of (drop old.at x)) (sym same) ∙ ap lines_of e

-- of a number that counts it
pub line-found : (text : List ℕ) (at after n number : ℕ) (front : List (List ℕ)) (line : Line) → IsFront text at n → lines_of (drop at text) ≡ line_bytes text line ∷ lines_of (drop after text)
    → number ≡ n + 1 → front ≡ take n (lines_of text)
    → Some (record { number = number; before = front; bytes = line_bytes text line }) ≡ line_at (lines_of text) number
line-found text at after n number front line is_front is counts before =
    let ls = lines_of text in
    let next : drop n ls ≡ line_bytes text line ∷ lines_of (drop after text) = sym is_front.left ∙ is in
    let there : n + 1 ≤ length ls = some-left n ls _ _ next in
    let tested : nat_le 1 number && nat_le number (length ls) ≡ true = grind (arith, nat_tests) in
    let last : n ≡ number - 1 = omega (arith, counts) in
    ap (λ (x : List (List ℕ)). Some (record { number = number; before = x; bytes = line_bytes text line })) (before ∙ ap (λ k. take k ls) last)
    ∙ (ap (λ (x : List ℕ). Some (record { number = number; before = take (number - 1) ls; bytes = x })) (sym (get-next n ls _ _ next) ∙ ap (λ k. get_or ls k []) last)
    ∙ sym (cond-true _ _ _ tested))

-- of a number that counts none
pub line-past : (text : List ℕ) (at n number : ℕ) → IsFront text at n → lines_of (drop at text) ≡ [] → n < number → None ≡ line_at (lines_of text) number
line-past text at n number is_front is past =
    let ls = lines_of text in
    let few : length ls ≤ n = none-left n ls (sym is_front.left ∙ is) in
    let tested : nat_le 1 number && nat_le number (length ls) ≡ false = grind (arith, nat_tests) in
    sym (cond-false _ _ _ tested)
