-- The highest bit in which two numbers differ, one bit more each time.
use Rattle.std.proofs.Common.{◌≡◌, ℕ, suc, ◌+◌, ◌^◌, ◌/◌, ◌%◌, true, false, eqb, if◌then◌else◌, refl, ap, sym, ◌∙◌, arith}
use Rattle.std.specs.Prelude.{Option, Some, unwrap_or}
use Rattle.std.specs.Int.{bit_at}
use Rattle.std.proofs.lemmas.Bool.{cond-true, cond-false}
use Rattle.std.proofs.lemmas.Bool.Decides.{nat_tests}
use Rattle.net_model.specs.Ways.{first_difference}

highest : ℕ → ℕ → ℕ → ℕ
highest k a b = unwrap_or (first_difference k a b) 0

next : (k a b : ℕ) → first_difference (suc k) a b ≡ (if eqb (bit_at a k) (bit_at b k) then first_difference k a b else Some k)
unfolding first_difference
next k a b = refl

one_more : (k a b : ℕ) → first_difference (k + 1) a b ≡ (if eqb (bit_at a k) (bit_at b k) then first_difference k a b else Some k)
one_more k a b = ap (λ n. first_difference n a b) (omega arith) ∙ next k a b

-- they differ there
pub highest_here : (k a b now : ℕ) → ¬ (a / 2 ^ k % 2 ≡ b / 2 ^ k % 2) → now ≡ k → now ≡ unwrap_or (first_difference (k + 1) a b) 0
highest_here k a b now differ is =
    let test : eqb (bit_at a k) (bit_at b k) ≡ false = grind (arith, nat_tests) in
    is ∙ sym (ap (λ (o : Option ℕ). unwrap_or o 0) (one_more k a b ∙ cond-false _ _ _ test))

-- they do not
pub highest_before : (k a b before now : ℕ) → a / 2 ^ k % 2 ≡ b / 2 ^ k % 2 → now ≡ before → before ≡ unwrap_or (first_difference k a b) 0 → now ≡ unwrap_or (first_difference (k + 1) a b) 0
highest_before k a b before now same is h =
    let test : eqb (bit_at a k) (bit_at b k) ≡ true = grind (arith, nat_tests) in
    is ∙ (h ∙ sym (ap (λ (o : Option ℕ). unwrap_or o 0) (one_more k a b ∙ cond-true _ _ _ test)))
