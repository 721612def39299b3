-- Where the first token of a line stands.
use Rattle.std.proofs.Common.{◌≡◌, ℕ, zero, suc, ◌+◌, ◌-◌, ◌<◌, ◌≤◌, true, false, ◌==◌, List, [], ◌∷◌, ◌++◌, length, take, drop, get_or, refl, ap, sym, ◌∙◌, subst, inl, inr, arith}
use Rattle.std.specs.List.{slice_range}
use Rattle.std.proofs.lemmas.Bool.{and_parts, cond-true, cond-false, cases_Bool, or_cases, or_from, or_right, eqb-true}
use Rattle.std.proofs.lemmas.List.{drop_all, drop-drop, length-drop, length-take-le, take_all}
use Rattle.xs_text.specs.Bytes.{all_blank, is_blank}
use Rattle.xs_text.specs.Tokens.{Token, tokens_of, tokens_after, token_of, token_at, skip_at, tail_length, begins_comment}
use Rattle.xs_text.proofs.FirstToken.{tokens_after-drop, tail_length-le}
use Rattle.explain_model.specs.Placed.{placed_at, placed_after}

-- ---- By what stands first

tokens_of-cons : (b : ℕ) (rest : List ℕ) → tokens_of (b ∷ rest) ≡ token_at b rest ++ tokens_after (skip_at b rest) rest
unfolding tokens_after
tokens_of-cons b rest = refl

placed-cons : (at b : ℕ) (rest : List ℕ) → placed_after 0 at (b ∷ rest) ≡ placed_at at b rest ++ placed_after (skip_at b rest) (at + 1) rest
unfolding placed_after
placed-cons at b rest = refl

placed-none : (skip at : ℕ) → placed_after skip at [] ≡ []
unfolding placed_after
placed-none zero at = refl
placed-none (suc skip) at = refl

-- bytes of what came before hold no token
placed-drop : (n at : ℕ) (xs : List ℕ) → n ≤ length xs → placed_after n at xs ≡ placed_after 0 (at + n) (drop n xs)
unfolding placed_after
placed-drop zero at xs h = let e : at ≡ at + 0 = omega arith in ap (λ a. placed_after 0 a xs) e
placed-drop (suc n) at [] h = absurd (omega arith)
placed-drop (suc n) at (b ∷ rest) h =
    let e : (at + 1) + n ≡ at + suc n = omega arith in
    placed-drop n (at + 1) rest (omega arith) ∙ ap (λ a. placed_after 0 a (drop n rest)) e

placed_over : (skip at b : ℕ) (rest : List ℕ) → placed_after (suc skip) at (b ∷ rest) ≡ placed_after skip (at + 1) rest
unfolding placed_after
placed_over skip at b rest = refl

blank_token : (b : ℕ) (rest : List ℕ) → is_blank b ≡ true → tokens_of (b ∷ rest) ≡ tokens_of rest
blank_token b rest e =
    let P : ℕ → Type 0 = λ b. tokens_of (b ∷ rest) ≡ tokens_of rest in
    elim (or_cases (b == 9) (b == 32) e) [
      | inl t ↦ subst P (sym (eqb-true b 9 t)) (tokens_of-cons 9 rest)
      | inr t ↦ subst P (sym (eqb-true b 32 t)) (tokens_of-cons 32 rest)
    ]

blank_placed : (at b : ℕ) (rest : List ℕ) → is_blank b ≡ true → placed_after 0 at (b ∷ rest) ≡ placed_after 0 (at + 1) rest
blank_placed at b rest e =
    let P : ℕ → Type 0 = λ b. placed_after 0 at (b ∷ rest) ≡ placed_after 0 (at + 1) rest in
    elim (or_cases (b == 9) (b == 32) e) [
      | inl t ↦ subst P (sym (eqb-true b 9 t)) (placed-cons at 9 rest)
      | inr t ↦ subst P (sym (eqb-true b 32 t)) (placed-cons at 32 rest)
    ]

tokens_of-none : tokens_of [] ≡ []
unfolding tokens_after
tokens_of-none = refl

comment_token : (b : ℕ) (rest : List ℕ) → begins_comment b rest ≡ true → tokens_of (b ∷ rest) ≡ []
comment_token b rest e =
    let none : token_at b rest ≡ [] = cond-true _ _ _ (or_right (is_blank b) _ e) in
    let all : skip_at b rest ≡ length rest = cond-true _ _ _ e in
    let gone : tokens_after (length rest) rest ≡ [] = tokens_after-drop (length rest) rest ∙ (ap (λ l. tokens_of l) (drop_all (length rest) rest (omega arith)) ∙ tokens_of-none) in
    tokens_of-cons b rest ∙ (ap (λ l. l ++ tokens_after (skip_at b rest) rest) none ∙ (ap (λ n. tokens_after n rest) all ∙ gone))

comment_placed : (at b : ℕ) (rest : List ℕ) → begins_comment b rest ≡ true → placed_after 0 at (b ∷ rest) ≡ []
comment_placed at b rest e =
    let none : placed_at at b rest ≡ [] = cond-true _ _ _ (or_right (is_blank b) _ e) in
    let all : skip_at b rest ≡ length rest = cond-true _ _ _ e in
    let gone : placed_after (length rest) (at + 1) rest ≡ [] = placed-drop (length rest) (at + 1) rest (omega arith) ∙ (ap (λ l. placed_after 0 (at + 1 + length rest) l) (drop_all (length rest) rest (omega arith)) ∙ placed-none 0 _) in
    placed-cons at b rest ∙ (ap (λ l. l ++ placed_after (skip_at b rest) (at + 1) rest) none ∙ (ap (λ n. placed_after n (at + 1) rest) all ∙ gone))

token_first : (b : ℕ) (rest : List ℕ) → is_blank b ≡ false → begins_comment b rest ≡ false → tokens_of (b ∷ rest) ≡ token_of (b ∷ take (tail_length b rest) rest) ∷ tokens_after (tail_length b rest) rest
token_first b rest e f =
    let one : token_at b rest ≡ token_of (b ∷ take (tail_length b rest) rest) ∷ [] = cond-false _ _ _ (or_from (is_blank b) (begins_comment b rest) e f) in
    let skip : skip_at b rest ≡ tail_length b rest = cond-false _ _ _ f in
    tokens_of-cons b rest ∙ (ap (λ l. l ++ tokens_after (skip_at b rest) rest) one ∙ ap (λ n. token_of (b ∷ take (tail_length b rest) rest) ∷ tokens_after n rest) skip)

placed_first : (at b : ℕ) (rest : List ℕ) → is_blank b ≡ false → begins_comment b rest ≡ false → placed_after 0 at (b ∷ rest) ≡ record { at = at; token = token_of (b ∷ take (tail_length b rest) rest) } ∷ placed_after (tail_length b rest) (at + 1) rest
placed_first at b rest e f =
    let one : placed_at at b rest ≡ record { at = at; token = token_of (b ∷ take (tail_length b rest) rest) } ∷ [] = cond-false _ _ _ (or_from (is_blank b) (begins_comment b rest) e f) in
    let skip : skip_at b rest ≡ tail_length b rest = cond-false _ _ _ f in
    placed-cons at b rest ∙ (ap (λ l. l ++ placed_after (skip_at b rest) (at + 1) rest) one ∙ ap (λ n. record { at = at; token = token_of (b ∷ take (tail_length b rest) rest) } ∷ placed_after n (at + 1) rest) skip)

-- ---- The first token

no_tokens : (skip : ℕ) → tokens_after skip [] ≡ []
unfolding tokens_after
no_tokens zero = refl
no_tokens (suc skip) = refl

passed_over : (skip b : ℕ) (rest : List ℕ) → tokens_after (suc skip) (b ∷ rest) ≡ tokens_after skip rest
unfolding tokens_after
passed_over skip b rest = refl

first_of : {X : Type 0} (x y : X) (xs ys : List X) → x ∷ xs ≡ y ∷ ys → x ≡ y
first_of x y xs ys e = ap (λ l. get_or l 0 x) e

-- no token begins with a blank
head_not_blank : (skip : ℕ) (xs : List ℕ) (t : Token) (ts : List Token) → tokens_after skip xs ≡ t ∷ ts → is_blank (get_or t.bytes 0 0) ≡ false
head_not_blank skip [] t ts e = let none = no_tokens skip in absurd cc
head_not_blank (suc skip) (b ∷ rest) t ts e = head_not_blank skip rest t ts (sym (passed_over skip b rest) ∙ e)
head_not_blank zero (b ∷ rest) t ts e =
    elim (cases_Bool (is_blank b)) [
      | inl blank ↦ head_not_blank zero rest t ts (sym (blank_token b rest blank) ∙ e)
      | inr other ↦ elim (cases_Bool (begins_comment b rest)) [
        | inl comment ↦ let none = comment_token b rest comment in absurd cc
        | inr token ↦
            let same : token_of (b ∷ take (tail_length b rest) rest) ≡ t = first_of _ _ _ _ (sym (token_first b rest other token) ∙ e) in
            let P : Token → Type 0 = λ t. is_blank (get_or t.bytes 0 0) ≡ false in
            subst P same other
      ]
    ]

-- a token of n bytes that stands here
token_here : (b : ℕ) (rest : List ℕ) (at n : ℕ) (t : Token) (ts : List Token) → tokens_of (b ∷ rest) ≡ t ∷ ts → t.bytes ≡ b ∷ take n rest → n ≤ length rest
    → placed_after 0 at (b ∷ rest) ≡ record { at = at; token = t } ∷ placed_after 0 (at + suc n) (drop n rest)
token_here b rest at n t ts e bytes h =
    elim (cases_Bool (is_blank b)) [
      | inl blank ↦
          let not_blank : is_blank (get_or t.bytes 0 0) ≡ false = head_not_blank 0 (b ∷ rest) t ts e in
          let same : is_blank (get_or t.bytes 0 0) ≡ is_blank b = ap (λ l. is_blank (get_or l 0 0)) bytes in
          absurd cc
      | inr other ↦ elim (cases_Bool (begins_comment b rest)) [
        | inl comment ↦ let none = comment_token b rest comment in absurd cc
        | inr token ↦
            let m = tail_length b rest in
            let same : token_of (b ∷ take m rest) ≡ t = first_of _ _ _ _ (sym (token_first b rest other token) ∙ e) in
            let same_bytes : b ∷ take m rest ≡ b ∷ take n rest = ap (λ (t : Token). t.bytes) same ∙ bytes in
            let lengths : suc (length (take m rest)) ≡ suc (length (take n rest)) = ap (λ l. length l) same_bytes in
            let equal : m ≡ n = omega (arith, lengths, length-take-le m rest (tail_length-le b rest), length-take-le n rest h) in
            let sums : (at + 1) + n ≡ at + suc n = omega arith in
            placed_first at b rest other token
            ∙ (ap (λ t. record { at = at; token = t } ∷ placed_after m (at + 1) rest) same
            ∙ ap (λ l. record { at = at; token = t } ∷ l) (ap (λ k. placed_after k (at + 1) rest) equal ∙ (placed-drop n (at + 1) rest h ∙ ap (λ a. placed_after 0 a (drop n rest)) sums)))
      ]
    ]

-- the same past k blanks
token_past : (k : ℕ) (xs : List ℕ) (at n : ℕ) (t : Token) (ts : List Token) → all_blank (take k xs) ≡ true → tokens_of xs ≡ t ∷ ts → t.bytes ≡ take (suc n) (drop k xs) → k + suc n ≤ length xs
    → placed_after 0 at xs ≡ record { at = at + k; token = t } ∷ placed_after 0 (at + (k + suc n)) (drop (k + suc n) xs)
token_past k [] at n t ts blank e bytes h = absurd (omega arith)
token_past zero (b ∷ rest) at n t ts blank e bytes h =
    let sums : (at ≡ at + 0) × (suc n ≡ 0 + suc n) = (omega arith, omega arith) in
    token_here b rest at n t ts e bytes (omega arith)
    ∙ (ap (λ a. record { at = a; token = t } ∷ placed_after 0 (at + suc n) (drop (suc n) (b ∷ rest))) sums.0
    ∙ ap (λ m. record { at = at + 0; token = t } ∷ placed_after 0 (at + m) (drop m (b ∷ rest))) sums.1)
token_past (suc k) (b ∷ rest) at n t ts blank e bytes h =
    let parts = and_parts (is_blank b) (all_blank (take k rest)) blank in
    let first : (at + 1) + k ≡ at + suc k = omega arith in
    let second : (at + 1) + (k + suc n) ≡ at + (suc k + suc n) = omega arith in
    let third : suc (k + suc n) ≡ suc k + suc n = omega arith in
    blank_placed at b rest parts.0
    ∙ (token_past k rest (at + 1) n t ts parts.1 (sym (blank_token b rest parts.0) ∙ e) bytes (omega arith)
    ∙ (ap (λ a. record { at = a; token = t } ∷ placed_after 0 ((at + 1) + (k + suc n)) (drop (k + suc n) rest)) first
    ∙ (ap (λ a. record { at = at + suc k; token = t } ∷ placed_after 0 a (drop (k + suc n) rest)) second
    ∙ ap (λ m. record { at = at + suc k; token = t } ∷ placed_after 0 (at + (suc k + suc n)) (drop m (b ∷ rest))) third)))

-- ---- In a line

-- what `next_tok` says of the first token from a place on
pub first_placed : (line : List ℕ) (at from to : ℕ) (t : Token) (ts : List Token) → at ≤ from → from < to → to ≤ length line
    → all_blank (slice_range line at from) ≡ true → tokens_of (slice_range line at (length line)) ≡ t ∷ ts → t.bytes ≡ slice_range line from to
    → placed_after 0 at (drop at line) ≡ record { at = from; token = t } ∷ placed_after 0 to (drop to line)
first_placed line at from to t ts h k l blank e bytes =
    let xs = drop at line in
    let long : length xs ≡ length line - at = length-drop at line in
    let whole : slice_range line at (length line) ≡ xs = take_all (length line - at) xs (omega arith) in
    let n = (to - from) - 1 in
    let count : to - from ≡ suc n = omega arith in
    let there : drop (from - at) xs ≡ drop from line = drop-drop (from - at) at line ∙ ap (λ m. drop m line) (let e : at + (from - at) ≡ from = omega arith in e) in
    let own : t.bytes ≡ take (suc n) (drop (from - at) xs) = bytes ∙ (ap (λ m. take m (drop from line)) count ∙ ap (λ l. take (suc n) l) (sym there)) in
    let past = token_past (from - at) xs at n t ts blank (sym (ap (λ l. tokens_of l) whole) ∙ e) own (omega arith) in
    let first : at + (from - at) ≡ from = omega arith in
    let second : at + ((from - at) + suc n) ≡ to = omega arith in
    past ∙ (ap (λ a. record { at = a; token = t } ∷ placed_after 0 (at + ((from - at) + suc n)) (drop ((from - at) + suc n) xs)) first
    ∙ (ap (λ l. record { at = from; token = t } ∷ placed_after 0 (at + ((from - at) + suc n)) l) (drop-drop ((from - at) + suc n) at line)
    ∙ ap (λ a. record { at = from; token = t } ∷ placed_after 0 a (drop a line)) second))

-- where there is no token there is none with a place
pub none_placed : (skip at : ℕ) (xs : List ℕ) → tokens_after skip xs ≡ [] → placed_after skip at xs ≡ []
none_placed skip at [] e = placed-none skip at
none_placed (suc skip) at (b ∷ rest) e = placed_over skip at b rest ∙ none_placed skip (at + 1) rest (sym (passed_over skip b rest) ∙ e)
none_placed zero at (b ∷ rest) e =
    elim (cases_Bool (is_blank b)) [
      | inl blank ↦ blank_placed at b rest blank ∙ none_placed 0 (at + 1) rest (sym (blank_token b rest blank) ∙ e)
      | inr other ↦ elim (cases_Bool (begins_comment b rest)) [
        | inl comment ↦ comment_placed at b rest comment
        | inr token ↦ let some = token_first b rest other token in absurd cc
      ]
    ]

pub none_in_line : (line : List ℕ) (at : ℕ) → at ≤ length line → tokens_of (slice_range line at (length line)) ≡ [] → placed_after 0 at (drop at line) ≡ []
none_in_line line at h e =
    let whole : slice_range line at (length line) ≡ drop at line = take_all (length line - at) (drop at line) (omega (arith, length-drop at line)) in
    none_placed 0 at (drop at line) (sym (ap (λ l. tokens_of l) whole) ∙ e)
