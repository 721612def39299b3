-- What is written of a number in binary: digits without a leading zero, whose value is the number. No other such digits have this value.
use Rattle.std.proofs.Common.{◌≡◌, ◌⊎◌, ℕ, zero, suc, ◌+◌, ◌*◌, ◌/◌, ◌%◌, ◌<◌, ◌≤◌, ◌^◌, true, false, cond, List, [], ◌∷◌, ◌++◌, length, get_or, refl}
use Rattle.std.proofs.Common.{sym, ap, subst, ◌∙◌, ⊎_elim, append_assoc, append-nil, length-append, arith, eq-eqb, ne_eqb}
use Rattle.std.specs.List.{list_all}
use Rattle.std.specs.Char.{digit_value}
use Rattle.std.specs.Fmt.{digit_glyph, digits_onto, digits}
use Rattle.std.specs.Str.Parse.{digits_value_after, digits_value}
use Rattle.std.proofs.lemmas.Bool.{and_parts, and_from, cases_lt}
use Rattle.std.proofs.lemmas.Bool.Decides.{nat_tests}
use Rattle.std.proofs.lemmas.Fmt.{digits_is_IsNumeral}
use Rattle.std.proofs.lemmas.List.Folds.{list_all-append}
use Rattle.xs_text.specs.Tokens.{is_binary_digit}
use Rattle.wave_model.specs.Lines.{binary}

-- ---- Digit by digit

abbrev spell : ℕ → ℕ → List ℕ → List ℕ
spell k n more = digits_onto k 2 false n more

abbrev last_digit : ℕ → ℕ
last_digit n = digit_glyph false (n % 2)

last_is : (n : ℕ) → last_digit n ≡ 48 + n % 2
last_is n = grind (arith, nat_tests)

spell_last : (k n : ℕ) (more : List ℕ) → n < 2 → spell (suc k) n more ≡ last_digit n ∷ more
spell_last k n more h = ap (λ t. cond t (last_digit n ∷ more) (spell k (n / 2) (last_digit n ∷ more))) (eq-eqb (n / 2) 0 (omega arith))

spell_next : (k n : ℕ) (more : List ℕ) → 2 ≤ n → spell (suc k) n more ≡ spell k (n / 2) (last_digit n ∷ more)
spell_next k n more h = ap (λ t. cond t (last_digit n ∷ more) (spell k (n / 2) (last_digit n ∷ more))) (ne_eqb (n / 2) 0 (λ e. omega arith))

spell-append : (k n : ℕ) (more : List ℕ) → spell k n more ≡ spell k n [] ++ more
spell-append zero n more = refl
spell-append (suc k) n more = ⊎_elim
    (λ l. spell_last k n more l ∙ ap (λ x. x ++ more) (sym (spell_last k n [] l)))
    (λ l. spell_next k n more l ∙ spell-append k (n / 2) (last_digit n ∷ more) ∙ sym (append_assoc (spell k (n / 2) []) (last_digit n ∷ []) more)
    ∙ ap (λ x. x ++ more) (sym (spell_next k n [] l ∙ spell-append k (n / 2) (last_digit n ∷ []))))
    (cases_lt n 2)

-- how many digits there may be does not matter once they are enough
spell_enough : (j k n : ℕ) (more : List ℕ) → n < 2 ^ suc j → n < 2 ^ suc k → spell (suc j) n more ≡ spell (suc k) n more
spell_enough zero k n more p q = spell_last zero n more (omega arith) ∙ sym (spell_last k n more (omega arith))
spell_enough (suc j) zero n more p q = spell_last (suc j) n more (omega arith) ∙ sym (spell_last zero n more (omega arith))
spell_enough (suc j) (suc k) n more p q = ⊎_elim
    (λ l. spell_last (suc j) n more l ∙ sym (spell_last (suc k) n more l))
    (λ l. spell_next (suc j) n more l ∙ spell_enough j k (n / 2) (last_digit n ∷ more) (omega arith) (omega arith) ∙ sym (spell_next (suc k) n more l))
    (cases_lt n 2)

spelled : (n : ℕ) → binary n ≡ spell 64 n []
unfolding digits
spelled n = refl

pub binary_one : (n : ℕ) → n < 2 → binary n ≡ (48 + n) ∷ []
binary_one n h = spelled n ∙ spell_last 63 n [] h ∙ ap (λ d. d ∷ []) (omega (arith, last_is n))

pub binary_step : (n : ℕ) → 2 ≤ n → n < 2 ^ 64 → binary n ≡ binary (n / 2) ++ ((48 + n % 2) ∷ [])
binary_step n h small =
    spelled n ∙ spell_next 63 n [] h ∙ spell_enough 62 63 (n / 2) (last_digit n ∷ []) (omega arith) (omega arith) ∙ spell-append 64 (n / 2) (last_digit n ∷ [])
    ∙ (λ i. sym (spelled (n / 2)) i ++ (last_is n i ∷ []))

module _ (P : ℕ → List ℕ → Type 0) (one : (n : ℕ) → n < 2 → P n ((48 + n) ∷ [])) (more : (n : ℕ) (ds : List ℕ) → 2 ≤ n → P (n / 2) ds → P n (ds ++ ((48 + n % 2) ∷ []))) where
  by : (k n : ℕ) → n ≤ k → n < 2 ^ 64 → P n (binary n)
  by zero n le small = subst (P n) (sym (binary_one n (omega arith))) (one n (omega arith))
  by (suc k) n le small = ⊎_elim
      (λ l. subst (P n) (sym (binary_one n l)) (one n l))
      (λ l. subst (P n) (sym (binary_step n l small)) (more n (binary (n / 2)) l (by k (n / 2) (omega arith) (omega arith))))
      (cases_lt n 2)

  -- one digit, and then one more at the end
  pub binary_by_steps : (n : ℕ) → n < 2 ^ 64 → P n (binary n)
  binary_by_steps n small = by n n (omega arith) small

-- ---- The digits of a number

binary_digit : (n : ℕ) → n < 2 → is_binary_digit (48 + n) ≡ true
binary_digit n h = grind (arith, nat_tests)

pub binary_digits : (n : ℕ) → n < 2 ^ 64 → list_all is_binary_digit (binary n) ≡ true
binary_digits =
    binary_by_steps (λ (n : ℕ) (ds : List ℕ). list_all is_binary_digit ds ≡ true)
    (λ n h. and_from _ _ (binary_digit n h) refl)
    (λ n ds h k. list_all-append is_binary_digit ds ((48 + n % 2) ∷ []) ∙ and_from _ _ k (and_from _ _ (binary_digit (n % 2) (omega arith)) refl))

pub binary_value : (n : ℕ) → n < 2 ^ 64 → (0 < length (binary n)) × (digits_value 2 (binary n) ≡ n)
binary_value n h = let e = digits_is_IsNumeral 2 false (omega arith) (omega arith) n h in (e.0.0, e.1)

first_front : (ds : List ℕ) (d : ℕ) → 0 < length ds → get_or (ds ++ (d ∷ [])) 0 0 ≡ get_or ds 0 0
first_front [] d h = absurd (omega arith)
first_front (b ∷ ds) d h = refl

pub first_binary : (n : ℕ) → 0 < n → n < 2 ^ 64 → 48 < get_or (binary n) 0 0
first_binary n some small = (binary_by_steps (λ m ds. (0 < length ds) × (0 < m → 48 < get_or ds 0 0)) (λ m l. (omega arith, λ a. omega arith))
    (λ m ds l h. (omega (arith, length-append ds ((48 + m % 2) ∷ [])), λ a. omega (arith, first_front ds (48 + m % 2) h.0, h.1 (omega arith)))) n small).1 some

-- ---- No other digits

which_digit : (c : ℕ) → is_binary_digit c ≡ true → (c ≡ 48) ⊎ (c ≡ 49)
which_digit c h = grind (arith, nat_tests)

digit_parts : (c : ℕ) → is_binary_digit c ≡ true → (48 + digit_value c ≡ c) × (digit_value c < 2)
digit_parts c h = ⊎_elim (λ (e : c ≡ 48). rw e (refl, omega arith)) (λ (e : c ≡ 49). rw e (refl, omega arith)) (which_digit c h)

grows : (n : ℕ) (ds : List ℕ) → n ≤ digits_value_after 2 n ds
grows n [] = omega arith
grows n (c ∷ cs) = omega (arith, grows (n * 2 + digit_value c) cs)

after_digits : (n : ℕ) (ds : List ℕ) → 0 < n → list_all is_binary_digit ds ≡ true → digits_value_after 2 n ds < 2 ^ 64
    → binary (digits_value_after 2 n ds) ≡ binary n ++ ds
after_digits n [] some d small = sym (append-nil (binary n))
after_digits n (c ∷ cs) some d small =
    let p = and_parts (is_binary_digit c) (list_all is_binary_digit cs) d in
    let k = digit_parts c p.0 in
    let m : ℕ = n * 2 + digit_value c in
    let front : m / 2 ≡ n = omega arith in
    let end : 48 + m % 2 ≡ c = omega arith in
    after_digits m cs (omega arith) p.1 small
    ∙ ap (λ x. x ++ cs) (binary_step m (omega arith) (omega (arith, grows m cs)) ∙ (λ i. binary (front i) ++ (end i ∷ [])))
    ∙ append_assoc (binary n) (c ∷ []) cs

-- digits of which the first is not a zero unless it is alone
pub binary_from : (ds : List ℕ) → list_all is_binary_digit ds ≡ true → 0 < length ds → (get_or ds 0 0 ≡ 48 → length ds ≡ 1) → digits_value 2 ds < 2 ^ 64
    → binary (digits_value 2 ds) ≡ ds
binary_from [] d some lead small = absurd (omega arith)
binary_from (c ∷ []) d some lead small =
    let k = digit_parts c (and_parts (is_binary_digit c) _ d).0 in
    binary_one (0 * 2 + digit_value c) (omega arith) ∙ ap (λ x. x ∷ []) (omega arith)
binary_from (c ∷ e ∷ cs) d some lead small =
    let p = and_parts (is_binary_digit c) (list_all is_binary_digit (e ∷ cs)) d in
    let k = digit_parts c p.0 in
    let no : c ≡ 48 → ⊥ = λ z. omega (arith, lead z) in
    let is : 48 + (0 * 2 + digit_value c) ≡ c = omega arith in
    after_digits (0 * 2 + digit_value c) (e ∷ cs) (omega arith) p.1 small
    ∙ ap (λ x. x ++ (e ∷ cs)) (binary_one (0 * 2 + digit_value c) (omega arith) ∙ ap (λ x. x ∷ []) is)
