-- Labels one by one.
use Rattle.std.proofs.Common.{◌≡◌, ℕ, zero, suc, ◌+◌, List, [], ◌∷◌, drop, Option, Some, ap, ◌∙◌, arith}
use Rattle.std.specs.Prelude.{slice_get, option_map, unwrap_or}
use Rattle.xs_instructions.specs.Image.{Symbol}
use Rattle.explain_model.specs.Labels.{names_of}

-- the label with a number, and those after it
pub label-next : (labels : List Symbol) (k : ℕ) (s : Symbol) → slice_get labels k ≡ Some s → names_of (drop k labels) ≡ s.0 ∷ names_of (drop (k + 1) labels)
label-next [] k s e = absurd cc
label-next (l ∷ labels) zero s e = let same : Some l ≡ Some s = e in ap (λ (l : Option Symbol). unwrap_or (option_map (λ (l : Symbol). l.0) l) [] ∷ names_of labels) same
label-next (l ∷ labels) (suc k) s e =
    let next : suc (k + 1) ≡ suc k + 1 = omega arith in
    label-next labels k s e ∙ ap (λ n. s.0 ∷ names_of (drop n (l ∷ labels))) next
