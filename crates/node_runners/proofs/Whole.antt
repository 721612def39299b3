-- A list that was lent whole, and given back.
use Rattle.std.proofs.Common.{◌≡◌, ℕ, List, ◌++◌, length, take, drop, ap, ◌∙◌, arith}
use Rattle.std.specs.Prelude.{true, false, Result, Ok, Err, is_ok, OnOk}
use Rattle.std.proofs.lemmas.List.{take_all, drop_all, append-nil}

pub given-back : {X : Type 0} (n : ℕ) (xs ys : List X) → length xs ≡ length ys → n ≡ length ys → take n (xs ++ drop (length xs) ys) ≡ xs
given-back {X} n xs ys count is =
    ap (λ (zs : List X). take n (xs ++ zs)) (drop_all (length xs) ys (omega (arith, count)))
    ∙ ap (take n) (append-nil xs)
    ∙ take_all n xs (omega (arith, count, is))

-- ---- A call that went well

false_true : false ≡ true → ⊥
false_true h = cc

pub went-well : {T E P : Type 0} (r : Result T E) → is_ok r ≡ true → OnOk r P → P
went-well (Ok x) h p = p
went-well (Err e) h p = absurd (false_true h)
