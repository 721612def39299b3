-- The token that stands first in a text: a name, a number or a mark that ends where the next byte does not go on with it.
use Rattle.std.proofs.Common.{◌≡◌, ℕ, suc, ◌+◌, Bool, true, false, ◌&&◌, not, ◌==◌, List, [], ◌∷◌, ◌++◌, length, drop, refl, ap, ◌∙◌, arith}
use Rattle.std.specs.List.{list_all, prefix_len}
use Rattle.std.specs.Char.{is_ascii_digit, is_ascii_alphanumeric}
use Rattle.std.proofs.lemmas.Bool.{and_parts, and_from, cond-true, cond-false, or_from}
use Rattle.std.proofs.lemmas.Bool.Decides.{nat_tests}
use Rattle.std.proofs.lemmas.List.{take_at, drop_at}
use Rattle.xs_text.specs.Bytes.{is_blank, is_name_byte, is_name_start, begins_with}
use Rattle.xs_text.specs.Tokens.{tokens_of, tokens_after, token_of, tail_length, begins_comment, is_name, is_run, is_mark, is_mark_byte}
use Rattle.xs_text.proofs.FirstToken.{tokens_of-token}

-- whether no byte that passes stands first
abbrev pub stops : (ℕ → Bool) → List ℕ → Bool
stops passes [] = true
stops passes (b ∷ rest) = not (passes b)

not_passing : (t : Bool) → not t ≡ true → t ≡ false
not_passing true h = absurd (cc)
not_passing false h = refl

prefix_len-whole : (passes : ℕ → Bool) (word rest : List ℕ) → list_all passes word ≡ true → stops passes rest ≡ true → prefix_len passes (word ++ rest) ≡ length word
prefix_len-whole passes [] [] h k = refl
prefix_len-whole passes [] (b ∷ rest) h k = cond-false _ _ _ (not_passing (passes b) k)
prefix_len-whole passes (b ∷ word) rest h k =
    let p = and_parts (passes b) (list_all passes word) h in
    let e = prefix_len-whole passes word rest p.1 k in
    cond-true _ _ _ p.0 ∙ (omega (arith, e))

-- a token, by how far its first byte takes it
token_first : (b : ℕ) (word rest : List ℕ) → is_blank b ≡ false → begins_comment b (word ++ rest) ≡ false → tail_length b (word ++ rest) ≡ length word → tokens_of (b ∷ (word ++ rest)) ≡ token_of (b ∷ word) ∷ tokens_of rest
token_first b word rest blank comment long =
    let n : suc (length word) ≡ 1 + tail_length b (word ++ rest) = omega (arith, long) in
    tokens_of-token (b ∷ (word ++ rest)) (suc (length word)) (omega arith) (cond-false _ _ _ blank) comment n
    ∙ (ap (λ t. token_of (b ∷ t) ∷ tokens_of (drop (length word) (word ++ rest))) (take_at word rest (length word) refl)
    ∙ ap (λ t. token_of (b ∷ word) ∷ tokens_of t) (drop_at word rest (length word) refl))

start_no_blank : (b : ℕ) → is_name_start b ≡ true → is_blank b ≡ false
start_no_blank b h = grind (arith, nat_tests)

start_no_hash : (b : ℕ) → is_name_start b ≡ true → (b == 35) ≡ false
start_no_hash b h = grind (arith, nat_tests)

start_no_slash : (b : ℕ) → is_name_start b ≡ true → (b == 47) ≡ false
start_no_slash b h = grind (arith, nat_tests)

no_comment : (b : ℕ) (rest : List ℕ) → (b == 35) ≡ false → (b == 47) ≡ false → begins_comment b rest ≡ false
no_comment b rest h s = or_from (b == 35) _ h (ap (λ t. t && begins_with 47 rest) s)

-- a name, where no byte of a name follows
pub name_first : (name rest : List ℕ) → is_name name ≡ true → stops is_name_byte rest ≡ true → tokens_of (name ++ rest) ≡ token_of name ∷ tokens_of rest
name_first [] rest h k = absurd (cc)
name_first (b ∷ word) rest h k =
    let p = and_parts (is_name_start b) (list_all is_name_byte word) h in
    token_first b word rest (start_no_blank b p.0) (no_comment b (word ++ rest) (start_no_hash b p.0) (start_no_slash b p.0))
    (cond-true _ _ _ p.0 ∙ prefix_len-whole is_name_byte word rest p.1 k)

digit_no_blank : (b : ℕ) → is_ascii_digit b ≡ true → is_blank b ≡ false
digit_no_blank b h = grind (arith, nat_tests)

digit_no_hash : (b : ℕ) → is_ascii_digit b ≡ true → (b == 35) ≡ false
digit_no_hash b h = grind (arith, nat_tests)

digit_no_slash : (b : ℕ) → is_ascii_digit b ≡ true → (b == 47) ≡ false
digit_no_slash b h = grind (arith, nat_tests)

digit_no_start : (b : ℕ) → is_ascii_digit b ≡ true → is_name_start b ≡ false
digit_no_start b h = grind (arith, nat_tests)

digit_goes_on : (b : ℕ) → is_ascii_digit b ≡ true → is_ascii_alphanumeric b ≡ true
digit_goes_on b h = grind (arith, nat_tests)

digits_go_on : (digits : List ℕ) → list_all is_ascii_digit digits ≡ true → list_all is_ascii_alphanumeric digits ≡ true
digits_go_on [] h = refl
digits_go_on (b ∷ digits) h =
    let p = and_parts (is_ascii_digit b) (list_all is_ascii_digit digits) h in
    and_from _ _ (digit_goes_on b p.0) (digits_go_on digits p.1)

-- digits, where no letter or digit follows
pub digits_first : (digits rest : List ℕ) → is_run is_ascii_digit digits ≡ true → stops is_ascii_alphanumeric rest ≡ true → tokens_of (digits ++ rest) ≡ token_of digits ∷ tokens_of rest
digits_first [] rest h k = absurd (cc)
digits_first (b ∷ word) rest h k =
    let all = and_parts (not (length (b ∷ word) == 0)) (list_all is_ascii_digit (b ∷ word)) h in
    let p = and_parts (is_ascii_digit b) (list_all is_ascii_digit word) all.1 in
    token_first b word rest (digit_no_blank b p.0) (no_comment b (word ++ rest) (digit_no_hash b p.0) (digit_no_slash b p.0))
    (cond-false _ _ _ (digit_no_start b p.0) ∙ (cond-true _ _ _ p.0 ∙ prefix_len-whole is_ascii_alphanumeric word rest (digits_go_on word p.1) k))

-- a blank holds no token
pub blank_first : (rest : List ℕ) → tokens_of (32 ∷ rest) ≡ tokens_of rest
unfolding tokens_after
blank_first rest = refl

mark_no_blank : (b : ℕ) → is_mark_byte b ≡ true → is_blank b ≡ false
mark_no_blank b h = grind (arith, nat_tests)

mark_no_hash : (b : ℕ) → is_mark_byte b ≡ true → (b == 35) ≡ false
mark_no_hash b h = grind (arith, nat_tests)

mark_no_slash : (b : ℕ) → is_mark_byte b ≡ true → (b == 47) ≡ false
mark_no_slash b h = grind (arith, nat_tests)

mark_no_start : (b : ℕ) → is_mark_byte b ≡ true → is_name_start b ≡ false
mark_no_start b h = grind (arith, nat_tests)

mark_no_digit : (b : ℕ) → is_mark_byte b ≡ true → is_ascii_digit b ≡ false
mark_no_digit b h = grind (arith, nat_tests)

mark_no_name_byte : (b : ℕ) → is_mark_byte b ≡ true → is_name_byte b ≡ false
mark_no_name_byte b h = grind (arith, nat_tests)

mark_no_alphanumeric : (b : ℕ) → is_mark_byte b ≡ true → is_ascii_alphanumeric b ≡ false
mark_no_alphanumeric b h = grind (arith, nat_tests)

-- a mark, whatever follows
pub mark_first : (mark rest : List ℕ) → is_mark mark ≡ true → tokens_of (mark ++ rest) ≡ token_of mark ∷ tokens_of rest
mark_first [] rest h = absurd (cc)
mark_first (b ∷ []) rest h =
    token_first b [] rest (mark_no_blank b h) (no_comment b rest (mark_no_hash b h) (mark_no_slash b h))
    (cond-false _ _ _ (mark_no_start b h) ∙ cond-false _ _ _ (mark_no_digit b h))
mark_first (b ∷ c ∷ more) rest h = absurd (cc)

-- no name and no number goes on with a mark
pub mark_stops : (mark rest : List ℕ) → is_mark mark ≡ true → (stops is_name_byte (mark ++ rest) ≡ true) × (stops is_ascii_alphanumeric (mark ++ rest) ≡ true)
mark_stops [] rest h = absurd (cc)
mark_stops (b ∷ []) rest h = (ap not (mark_no_name_byte b h), ap not (mark_no_alphanumeric b h))
mark_stops (b ∷ c ∷ more) rest h = absurd (cc)
