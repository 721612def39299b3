-- Lists of the same thing.
use Rattle.std.proofs.Common.{ℕ, ◌≡◌, List, replicate, sym, ◌∙◌, arith, ◌<◌}
use Rattle.std.specs.Array.{AllOfLen}
use Rattle.std.proofs.lemmas.List.{ext_get_or, length-replicate, get_or-replicate}

pub all_alike : (A : Type 0) (P : A → Type 0) (x : A) (xs : List A) (n : ℕ) → AllOfLen P xs n → ((a : A) → P a → a ≡ x) → xs ≡ replicate n x
all_alike A P x xs n all is =
    ext_get_or x xs (replicate n x) (all.long ∙ sym (length-replicate n x)) (λ i h. let within : i < n = omega (arith, h, all.long) in is _ (all.at i x within) ∙ sym (get_or-replicate n i x x within))
