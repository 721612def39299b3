-- The first port that passes a test.
use Rattle.std.proofs.Common.{◌≡◌, ℕ, zero, suc, ◌+◌, ◌<◌, Bool, true, false, Some, None, refl, ◌∙◌, sym, subst, arith}
use Rattle.std.specs.Prelude.{find}
use Rattle.std.specs.List.{range_with_len}
use Rattle.std.proofs.lemmas.Bool.{cond-false, cond-true}
use Rattle.pin_scripts.specs.Script.{port_numbers}

numbers : port_numbers ≡ range_with_len 0 29
numbers = refl

none-from : (test : ℕ → Bool) (start count : ℕ) → ((n : ℕ) → start + n < start + count → test (start + n) ≡ false) → find test (range_with_len start count) ≡ None
none-from test start zero h = refl
none-from test start (suc count) h =
    let here : test start ≡ false = subst (λ n. test n ≡ false) (omega arith) (h 0 (omega arith)) in
    cond-false (test start) _ _ here
    ∙ none-from test (start + 1) count (λ n l. subst (λ m. test m ≡ false) (omega arith) (h (suc n) (omega (arith, l))))

first-from : (test : ℕ → Bool) (start count n : ℕ) → n < count → ((m : ℕ) → m < n → test (start + m) ≡ false) → test (start + n) ≡ true
    → find test (range_with_len start count) ≡ Some (start + n)
first-from test start zero n l h t = absurd (omega (arith, l))
first-from test start (suc count) zero l h t =
    let same : start + 0 ≡ start = omega arith in
    cond-true (test start) _ _ (subst (λ m. test m ≡ true) same t) ∙ (λ i. Some (sym same i))
first-from test start (suc count) (suc n) l h t =
    let here : test start ≡ false = subst (λ m. test m ≡ false) (omega arith) (h 0 (omega arith)) in
    let same : start + 1 + n ≡ start + suc n = omega arith in
    cond-false (test start) _ _ here
    ∙ first-from test (start + 1) count n (omega (arith, l)) (λ m k. subst (λ j. test j ≡ false) (omega arith) (h (suc m) (omega (arith, k))))
    (subst (λ j. test j ≡ true) (sym same) t)
    ∙ (λ i. Some (same i))

pub no-port : (test : ℕ → Bool) → ((n : ℕ) → n < 29 → test n ≡ false) → find test port_numbers ≡ None
no-port test h = none-from test 0 29 (λ n l. subst (λ m. test m ≡ false) (omega arith) (h n (omega (arith, l))))

pub first-port : (test : ℕ → Bool) (n : ℕ) → n < 29 → ((m : ℕ) → m < n → test m ≡ false) → test n ≡ true → find test port_numbers ≡ Some n
first-port test n l h t =
    let same : n ≡ 0 + n = omega arith in
    first-from test 0 29 n l (λ m k. subst (λ j. test j ≡ false) (omega arith) (h m k)) (subst (λ j. test j ≡ true) same t) ∙ (λ i. Some (sym same i))
