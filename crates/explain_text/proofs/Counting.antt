-- The labels of the first lines of a source, so many.
use Rattle.std.proofs.Common.{◌≡◌, ℕ, ◌+◌, ◌-◌, ◌≤◌, List, [], ◌∷◌, take, ap, sym, ◌∙◌, arith}
use Rattle.xs_instructions.specs.Image.{Symbol}
use Rattle.explain_model.specs.Labels.{note_line, note_lines}
use Rattle.placed_tokens.proofs.Counting.{take-next, take-none, take-nil}

pub labels-next : (first count number : ℕ) (ls : List (List ℕ)) (l : List ℕ) (rest : List (List ℕ)) (labels after : List Symbol) → ls ≡ l ∷ rest → number + 1 ≤ count → after ≡ note_line (first + number) l labels
    → note_lines (first + (number + 1)) (take (count - (number + 1)) rest) after ≡ note_lines (first + number) (take (count - number) ls) labels
unfolding note_lines
labels-next first count number ls l rest labels after e h is =
    let next : first + (number + 1) ≡ first + number + 1 = omega arith in
    ap (λ n. note_lines n (take (count - (number + 1)) rest) after) next
    ∙ (ap (λ (x : List Symbol). note_lines (first + number + 1) (take (count - (number + 1)) rest) x) is
    ∙ sym (ap (λ (x : List (List ℕ)). note_lines (first + number) x labels) (take-next count number ls l rest e h)))

pub labels-enough : (n count number : ℕ) (ls : List (List ℕ)) (labels : List Symbol) → count ≤ number → note_lines n (take (count - number) ls) labels ≡ labels
unfolding note_lines
labels-enough n count number ls labels h = ap (λ (x : List (List ℕ)). note_lines n x labels) (take-none count number ls h)

pub labels-all : (n k : ℕ) (ls : List (List ℕ)) (labels : List Symbol) → ls ≡ [] → note_lines n (take k ls) labels ≡ labels
unfolding note_lines
labels-all n k ls labels e = ap (λ (x : List (List ℕ)). note_lines n x labels) (take-nil k ls e)
