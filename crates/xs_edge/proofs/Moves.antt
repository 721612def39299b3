-- A list cut at one place and then at another.
use Rattle.std.proofs.Common.{◌≡◌, ℕ, ◌+◌, List, ◌++◌, take, drop, ◌∙◌, ap, sym}
use Rattle.std.proofs.lemmas.List.{drop-drop, take-append-drop}

-- what is left from a place on is its first n bytes, and then what is left n further
pub drop_split : (place n : ℕ) (bytes : List ℕ) → drop place bytes ≡ take n (drop place bytes) ++ drop (place + n) bytes
drop_split place n bytes =
    sym (take-append-drop n (drop place bytes))
    ∙ ap (λ (rest : List ℕ). take n (drop place bytes) ++ rest) (drop-drop n place bytes)
