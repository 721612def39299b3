-- What is put together from the elements of a list, one after the other.
use Rattle.std.proofs.Common.{◌≡◌, ℕ, suc, ◌+◌, Some, List, ◌∷◌, ◌++◌, drop, drop-cons, sym, ap, ◌∙◌, arith, append_assoc}
use Rattle.std.specs.Prelude.{slice_get}
use Rattle.std.proofs.lemmas.Option.{slice_get_within, get_or_from_slice_get}
use Rattle.trace_model.specs.Trace.{by_position}

-- one element more
pub one-more : {A : Type 0} (piece : ℕ → A → List ℕ) (xs : List A) (n : ℕ) (x : A) (out : List ℕ) → slice_get xs n ≡ Some x
    → (out ++ piece n x) ++ by_position piece (n + 1) (drop (n + 1) xs) ≡ out ++ by_position piece n (drop n xs)
unfolding by_position
one-more piece xs n x out here =
    let next : suc n ≡ n + 1 = omega arith in
    let rest : drop n xs ≡ x ∷ drop (n + 1) xs =
    drop-cons xs n x (slice_get_within xs n x here) ∙ (λ i. get_or_from_slice_get xs n x x here i ∷ drop (next i) xs) in
    append_assoc out (piece n x) (by_position piece (n + 1) (drop (n + 1) xs)) ∙ ap (λ left. out ++ by_position piece n left) (sym rest)
