-- The text of a value is read as this value, and no other text is.
use Rattle.std.proofs.Common.{◌≡◌, ℕ, ◌-◌, ◌<◌, ◌≤◌, ◌^◌, Bool, true, false, not, ◌&&◌, ◌==◌, List, [], ◌∷◌, ◌++◌, length, take, drop, Some, None}
use Rattle.std.proofs.Common.{refl, sym, ap, ◌∙◌, length-append, take-append-drop, take_at, drop_at, pow_pos, pow_mono, arith}
use Rattle.std.specs.Prelude.{bytes_eq, codes}
use Rattle.std.specs.List.{list_all}
use Rattle.std.specs.Str.Parse.{digits_value}
use Rattle.std.proofs.lemmas.Bool.{and_parts, and_from, cond-true, cond-false}
use Rattle.std.proofs.lemmas.Bool.Decides.{nat_tests}
use Rattle.std.proofs.lemmas.Slice.Eq.{bytes_eq-Decides}
use Rattle.xs_base.specs.Ids.{port_width}
use Rattle.xs_text.specs.Tokens.{is_run, is_binary_digit}
use Rattle.xs_text.specs.Numbers.{at_most, value_in}
use Rattle.word_numbers.specs.Decimal.{has_leading_zero}
use Rattle.wave_model.specs.Lines.{binary, value_text}
use Rattle.wave_model.specs.Reads.{slot_in, binary_in, vector_in, value_in_text}
use Rattle.wave_laws.proofs.Options.{some_unless, some_where, some_at_most, same_some, no_some}
use Rattle.wave_laws.proofs.Binary.{binary_one, binary_digits, binary_value, first_binary, binary_from}
use Rattle.wave_laws.proofs.Slots.{some_bytes, bytes_some, no_zero_first, zero_alone, at_most_back}

-- the widths that values may have
abbrev pub IsWidth : ℕ → Type 0
IsWidth width = width ≤ 64

-- ---- In binary

plain_binary : (v : ℕ) → v < 2 ^ 64 → has_leading_zero (binary v) ≡ false
plain_binary v h = by (v == 0) refl
  where
    by : (t : Bool) → (v == 0) ≡ t → has_leading_zero (binary v) ≡ false
    by true e = let one : v < 2 = grind (arith, nat_tests) in ap has_leading_zero (binary_one v one)
    by false e = no_zero_first (binary v) (first_binary v (grind (arith, nat_tests)) h)

pub below_width : (width v : ℕ) → IsWidth width → v < 2 ^ width → v < 2 ^ 64
below_width width v w h = let e : 2 ^ width ≤ 2 ^ 64 = pow_mono w in omega (arith, h, e)

pub binary_back : (width v : ℕ) → IsWidth width → v < 2 ^ width → binary_in width (binary v) ≡ Some v
binary_back width v w h =
    let b = below_width width v w h in
    let e = binary_value v b in
    let run : is_run is_binary_digit (binary v) ≡ true = and_from _ _ (some_bytes (binary v) e.0) (binary_digits v b) in
    let own : value_in 2 is_binary_digit (binary v) ≡ Some v = cond-true _ _ _ run ∙ ap (λ x. Some x) e.1 in
    cond-false _ _ _ (plain_binary v b) ∙ (ap (λ o. at_most (2 ^ width - 1) o) own ∙ at_most_back (2 ^ width - 1) v (omega (arith, h)))

pub binary_in_from : (width v : ℕ) (ds : List ℕ) → IsWidth width → binary_in width ds ≡ Some v → (ds ≡ binary v) × (v < 2 ^ width)
binary_in_from width v ds w h =
    let p = some_unless (has_leading_zero ds) _ v h in
    let q = some_at_most (2 ^ width - 1) (value_in 2 is_binary_digit ds) v p.1 in
    let r = some_where (is_run is_binary_digit ds) _ v q.0 in
    let run = and_parts (not (length ds == 0)) (list_all is_binary_digit ds) r.0 in
    let value = same_some (digits_value 2 ds) v r.1 in
    let some = bytes_some ds run.0 in
    let pos : 0 < 2 ^ width = pow_pos width in
    let less : v < 2 ^ width = omega (arith, q.1, pos) in
    let small = below_width width v w less in
    (sym (binary_from ds run.1 some (zero_alone ds some p.0) (omega (arith, value, small))) ∙ ap binary value, less)

-- ---- With what stands around it

last_byte : (ds : List ℕ) (d : ℕ) → (drop (length (ds ++ (d ∷ [])) - 1) (ds ++ (d ∷ [])) ≡ d ∷ []) × (take (length (ds ++ (d ∷ [])) - 1) (ds ++ (d ∷ [])) ≡ ds)
last_byte ds d =
    let e : length ds ≡ length (ds ++ (d ∷ [])) - 1 = omega (arith, length-append ds (d ∷ [])) in
    (drop_at ds (d ∷ []) (length (ds ++ (d ∷ [])) - 1) e, take_at ds (d ∷ []) (length (ds ++ (d ∷ [])) - 1) e)

vector_back : (width v : ℕ) → IsWidth width → v < 2 ^ width → vector_in width (codes "b" ++ (binary v ++ codes " ")) ≡ Some v
vector_back width v w h =
    let e = last_byte (binary v) 32 in
    cond-true _ _ _ ((bytes_eq-Decides (drop (length (binary v ++ (32 ∷ [])) - 1) (binary v ++ (32 ∷ []))) (32 ∷ [])).1 e.0)
    ∙ (ap (binary_in width) e.1 ∙ binary_back width v w h)

vector_from : (width v : ℕ) (text : List ℕ) → IsWidth width → vector_in width text ≡ Some v → (text ≡ codes "b" ++ (binary v ++ codes " ")) × (v < 2 ^ width)
vector_from width v [] w h = no_some v h
vector_from width v (b ∷ rest) w h =
    let k : ℕ = length rest - 1 in
    let p = some_where ((b == 98) && bytes_eq (drop k rest) (32 ∷ [])) _ v h in
    let q = and_parts (b == 98) _ p.0 in
    let letter : b ≡ 98 = grind (arith, nat_tests) in
    let blank : drop k rest ≡ 32 ∷ [] = (bytes_eq-Decides (drop k rest) (32 ∷ [])).0 q.1 in
    let r = binary_in_from width v (take k rest) w p.1 in
    ((λ i. letter i ∷ (sym (take-append-drop k rest) ∙ (λ j. r.0 j ++ blank j)) i), r.1)

-- ---- By the width

pub value_back : (width v : ℕ) → IsWidth width → v < 2 ^ width → value_in_text width (value_text width v) ≡ Some v
value_back width v w h = by (width == 1) refl
  where
    by : (t : Bool) → (width == 1) ≡ t → value_in_text width (value_text width v) ≡ Some v
    by true e =
        let one : width ≡ 1 = grind (arith, nat_tests) in
        let less : v < 2 ^ 1 = rw one at h in
        cond-true _ _ _ e ∙ (ap (binary_in 1) (cond-true _ _ _ e) ∙ binary_back 1 v (omega arith) less)
    by false e = cond-false _ _ _ e ∙ (ap (vector_in width) (cond-false _ _ _ e) ∙ vector_back width v w h)

pub value_from : (width v : ℕ) (text : List ℕ) → IsWidth width → value_in_text width text ≡ Some v → (text ≡ value_text width v) × (v < 2 ^ width)
value_from width v text w h = by (width == 1) refl
  where
    by : (t : Bool) → (width == 1) ≡ t → (text ≡ value_text width v) × (v < 2 ^ width)
    by true e =
        let one : width ≡ 1 = grind (arith, nat_tests) in
        let own : binary_in 1 text ≡ Some v = sym (cond-true _ _ _ e) ∙ h in
        let r = binary_in_from 1 v text (omega arith) own in
        (r.0 ∙ sym (cond-true _ _ _ e), rw one r.1)
    by false e =
        let own : vector_in width text ≡ Some v = sym (cond-false _ _ _ e) ∙ h in
        let r = vector_from width v text w own in
        (r.0 ∙ sym (cond-false _ _ _ e), r.1)

pub is_width : (port : ℕ) → IsWidth (port_width port)
is_width port = grind (arith, nat_tests)

-- ---- The first byte

no_hash : (b : ℕ) → is_binary_digit b ≡ true → (b == 35) ≡ false
no_hash b h = grind (arith, nat_tests)

digit_first : (ds more : List ℕ) → list_all is_binary_digit ds ≡ true → 0 < length ds → slot_in (ds ++ more) ≡ None
digit_first [] more d some = absurd (omega arith)
digit_first (b ∷ ds) more d some =
    let p = and_parts (is_binary_digit b) _ d in
    cond-false _ _ _ (no_hash b p.0)

pub value_no_slot : (width v : ℕ) (more : List ℕ) → IsWidth width → v < 2 ^ width → slot_in (value_text width v ++ more) ≡ None
value_no_slot width v more w h = by (width == 1) refl
  where
    by : (t : Bool) → (width == 1) ≡ t → slot_in (value_text width v ++ more) ≡ None
    by true e =
        let b = below_width width v w h in
        ap (λ t. slot_in (t ++ more)) (cond-true _ _ _ e) ∙ digit_first (binary v) more (binary_digits v b) (binary_value v b).0
    by false e = ap (λ t. slot_in (t ++ more)) (cond-false _ _ _ e)
