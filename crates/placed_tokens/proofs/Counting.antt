-- The first lines of a source, so many.
use Rattle.std.proofs.Common.{◌≡◌, ℕ, zero, suc, ◌+◌, ◌-◌, ◌≤◌, Bool, true, false, List, [], ◌∷◌, length, take, get_or, refl, ap, sym, ◌∙◌, arith}
use Rattle.std.specs.Prelude.{if◌then◌else◌, ◌==◌}
use Rattle.xs_text.specs.Lines.{lines_of, put_in_front, is_dropped_return}
use Rattle.source_model.specs.declared.layout.Section.{Section}
use Rattle.explain_model.specs.Sections.{section_after_line, section_after_lines}

-- ---- How many lines there are

front_length : (b : ℕ) (lines : List (List ℕ)) → length (put_in_front b lines) ≤ 1 + length lines
front_length b [] = omega arith
front_length b (line ∷ lines) = omega arith

of_three : (p q : Bool) (b : ℕ) (lines : List (List ℕ)) → length (if p then [] ∷ lines else (if q then lines else put_in_front b lines)) ≤ 1 + length lines
of_three true q b lines = omega arith
of_three false true b lines = omega arith
of_three false false b lines = front_length b lines

-- no more than bytes
pub lines-few : (xs : List ℕ) → length (lines_of xs) ≤ length xs
unfolding lines_of
lines-few [] = omega arith
lines-few (b ∷ rest) = omega (arith, of_three (b == 10) (is_dropped_return b rest) b (lines_of rest), lines-few rest)

-- no lines are left where no bytes are
pub none-left : (xs : List ℕ) → xs ≡ [] → lines_of xs ≡ []
unfolding lines_of
none-left xs e = ap lines_of e

pub none-at : (xs : List ℕ) (k : ℕ) → xs ≡ [] → get_or (lines_of xs) k [] ≡ []
none-at xs k e = ap (λ (ls : List (List ℕ)). get_or ls k []) (none-left xs e)

-- ---- One line more

pub take-next : (count number : ℕ) (ls : List (List ℕ)) (l : List ℕ) (rest : List (List ℕ)) → ls ≡ l ∷ rest → number + 1 ≤ count → take (count - number) ls ≡ l ∷ take (count - (number + 1)) rest
take-next count number ls l rest e h =
    let one : count - number ≡ suc (count - (number + 1)) = omega arith in
    ap (λ (x : List (List ℕ)). take (count - number) x) e ∙ ap (λ n. take n (l ∷ rest)) one

pub take-none : (count number : ℕ) (ls : List (List ℕ)) → count ≤ number → take (count - number) ls ≡ []
take-none count number ls h = let none : count - number ≡ 0 = omega arith in ap (λ n. take n ls) none

pub take-nil : (n : ℕ) (ls : List (List ℕ)) → ls ≡ [] → take n ls ≡ []
take-nil zero ls e = refl
take-nil (suc n) ls e = ap (λ (x : List (List ℕ)). take (suc n) x) e

pub section-next : (count number : ℕ) (ls : List (List ℕ)) (l : List ℕ) (rest : List (List ℕ)) (section after : Section) → ls ≡ l ∷ rest → number + 1 ≤ count → after ≡ section_after_line section l
    → section_after_lines after (take (count - (number + 1)) rest) ≡ section_after_lines section (take (count - number) ls)
unfolding section_after_lines
section-next count number ls l rest section after e h is =
    ap (λ (x : Section). section_after_lines x (take (count - (number + 1)) rest)) is
    ∙ sym (ap (λ (x : List (List ℕ)). section_after_lines section x) (take-next count number ls l rest e h))

pub section-enough : (count number : ℕ) (ls : List (List ℕ)) (section : Section) → count ≤ number → section_after_lines section (take (count - number) ls) ≡ section
unfolding section_after_lines
section-enough count number ls section h = ap (λ (x : List (List ℕ)). section_after_lines section x) (take-none count number ls h)

pub section-all : (k : ℕ) (ls : List (List ℕ)) (section : Section) → ls ≡ [] → section_after_lines section (take k ls) ≡ section
unfolding section_after_lines
section-all k ls section e = ap (λ (x : List (List ℕ)). section_after_lines section x) (take-nil k ls e)
