-- The first line of a part of a text, where the part holds the line and its end.
use Rattle.std.proofs.Common.{◌≡◌, ℕ, zero, suc, ◌+◌, ◌-◌, ◌<◌, ◌≤◌, true, false, ◌||◌, ◌==◌, List, [], ◌∷◌, length, take, drop, refl, ap, sym, ◌∙◌, inl, inr, arith}
use Rattle.std.proofs.lemmas.Bool.{cases_Bool}
use Rattle.std.proofs.lemmas.Bool.Decides.{nat_tests}
use Rattle.std.proofs.lemmas.List.{drop-drop, drop-take, length-drop, take_rest, take-take}
use Rattle.std.specs.List.{slice_range}
use Rattle.xs_text.specs.Lines.{lines_of, line_length, end_length, is_line_end, is_dropped_return}
use Rattle.xs_text.proofs.FirstLine.{line_length-end, line_length-more, step_length, step_fits, step_length-le, lines_of_step}

end_length-take : (xs : List ℕ) (k : ℕ) → end_length xs ≤ k → end_length (take k xs) ≡ end_length xs
end_length-take [] zero h = refl
end_length-take [] (suc k) h = refl
end_length-take (b ∷ rest) zero h = absurd (grind (arith, nat_tests))
end_length-take (b ∷ rest) (suc k) h = refl

step_at : (b : ℕ) (rest : List ℕ) → is_line_end b rest ≡ true → step_length (b ∷ rest) ≡ end_length (b ∷ rest)
step_at b rest e = ap (λ n. n + end_length (drop n (b ∷ rest))) (line_length-end b rest e) ∙ (omega arith)

step_more : (b : ℕ) (rest : List ℕ) → is_line_end b rest ≡ false → step_length (b ∷ rest) ≡ suc (step_length rest)
step_more b rest e = ap (λ n. n + end_length (drop n (b ∷ rest))) (line_length-more b rest e) ∙ (omega arith)

lone_end : (b c : ℕ) (rest : List ℕ) → end_length (b ∷ c ∷ rest) ≤ 1 → is_line_end b (c ∷ rest) ≡ true → (b == 10) ≡ true
lone_end b c rest h e = grind (arith, nat_tests)

end_at_one : (b : ℕ) → (b == 10) ≡ true → (rest : List ℕ) → is_line_end b rest ≡ true
end_at_one b e rest = ap (λ t. t || is_dropped_return b rest) e

no_end_at_one : (b c : ℕ) (rest : List ℕ) → is_line_end b (c ∷ rest) ≡ false → is_line_end b [] ≡ false
no_end_at_one b c rest e = grind (arith, nat_tests)

is_line_end-take : (b : ℕ) (rest : List ℕ) (k : ℕ) → step_length (b ∷ rest) ≤ suc k → is_line_end b (take k rest) ≡ is_line_end b rest
is_line_end-take b [] zero h = refl
is_line_end-take b [] (suc k) h = refl
is_line_end-take b (c ∷ rest) (suc k) h = refl
is_line_end-take b (c ∷ rest) zero h =
    elim (cases_Bool (is_line_end b (c ∷ rest))) [
      | inl t ↦ end_at_one b (lone_end b c rest (omega (arith, h, step_at b (c ∷ rest) t)) t) [] ∙ sym t
      | inr f ↦ no_end_at_one b c rest f ∙ sym f
    ]

-- a part that holds the first line and its end has the same first line
line_length-take : (xs : List ℕ) (k : ℕ) → step_length xs ≤ k → line_length (take k xs) ≡ line_length xs
line_length-take [] zero h = refl
line_length-take [] (suc k) h = refl
line_length-take (b ∷ rest) zero h = absurd (omega (arith, h, (step_fits b rest).0))
line_length-take (b ∷ rest) (suc k) h =
    elim (cases_Bool (is_line_end b rest)) [
      | inl t ↦ line_length-end b (take k rest) (is_line_end-take b rest k h ∙ t) ∙ sym (line_length-end b rest t)
      | inr f ↦
          line_length-more b (take k rest) (is_line_end-take b rest k h ∙ f)
          ∙ (ap suc (line_length-take rest k (omega (arith, h, step_more b rest f))) ∙ sym (line_length-more b rest f))
    ]

drop-take_of : (xs : List ℕ) (n k : ℕ) → n ≤ k → drop n (take k xs) ≡ take (k - n) (drop n xs)
drop-take_of xs n k h = let e : k ≡ n + (k - n) = omega arith in ap (λ j. drop n (take j xs)) e ∙ drop-take n (k - n) xs

some_taken : (xs : List ℕ) (k : ℕ) → 0 < length xs → 0 < k → 0 < length (take k xs)
some_taken [] k h j = absurd (omega arith)
some_taken (b ∷ rest) zero h j = absurd (omega arith)
some_taken (b ∷ rest) (suc k) h j = omega arith

-- the lines of such a part
lines_of-take : (xs : List ℕ) (k : ℕ) → 0 < length xs → step_length xs ≤ k → lines_of (take k xs) ≡ take (line_length xs) xs ∷ lines_of (take (k - step_length xs) (drop (step_length xs) xs))
lines_of-take xs k h fits =
    let part = take k xs in
    let n = line_length xs in
    let same : line_length part ≡ n = line_length-take xs k fits in
    let end : end_length (drop n part) ≡ end_length (drop n xs) = ap end_length (drop-take_of xs n k (omega (arith, fits))) ∙ end_length-take (drop n xs) (k - n) (omega (arith, fits)) in
    let step : step_length part ≡ step_length xs = ap (λ m. m + end_length (drop m part)) same ∙ ap (λ e. n + e) end in
    let some : 0 < length part = some_taken xs k h (omega (arith, fits, (step_length-le xs h).0)) in
    lines_of_step part some
    ∙ (ap (λ m. take m part ∷ lines_of (drop (step_length part) part)) same
    ∙ (ap (λ m. take n part ∷ lines_of (drop m part)) step
    ∙ (ap (λ l. take n part ∷ lines_of l) (drop-take_of xs (step_length xs) k fits)
    ∙ ap (λ l. l ∷ lines_of (take (k - step_length xs) (drop (step_length xs) xs))) (take-take n k xs (omega (arith, fits))))))

part_left : (text xs : List ℕ) (at n e end : ℕ) → xs ≡ drop at text → at < length text → n ≡ line_length xs → e ≡ end_length (drop n xs) → at + n + e ≤ end → lines_of (slice_range text at end) ≡ slice_range text at (at + n) ∷ lines_of (slice_range text (at + n + e) end)
part_left text xs at n e end is_left h n_is e_is past =
    let long : length xs ≡ length text - at = ap length is_left ∙ length-drop at text in
    let some : 0 < length xs = omega arith in
    let step : n + e ≡ step_length xs = ap (λ k. n + k) e_is ∙ ap (λ k. k + end_length (drop k xs)) n_is in
    let fits : step_length xs ≤ end - at = omega (arith, step, past) in
    let kept : take (line_length xs) xs ≡ slice_range text at (at + n) =
    ap (λ k. take k xs) (let e : line_length xs ≡ (at + n) - at = omega arith in e) ∙ ap (λ l. take ((at + n) - at) l) is_left in
    let after : take (end - at - step_length xs) (drop (step_length xs) xs) ≡ slice_range text (at + n + e) end =
    ap (λ k. take (end - at - k) (drop k xs)) (sym step)
    ∙ (ap (λ k. take k (drop (n + e) xs)) (let f : end - at - (n + e) ≡ end - (at + n + e) = omega arith in f)
    ∙ (ap (λ l. take (end - (at + n + e)) (drop (n + e) l)) is_left
    ∙ (ap (λ l. take (end - (at + n + e)) l) (drop-drop (n + e) at text)
    ∙ ap (λ k. take (end - (at + n + e)) (drop k text)) (let f : at + (n + e) ≡ at + n + e = omega arith in f)))) in
    ap (λ l. lines_of (take (end - at) l)) (sym is_left)
    ∙ (lines_of-take xs (end - at) some fits
    ∙ (ap (λ l. l ∷ lines_of (take (end - at - step_length xs) (drop (step_length xs) xs))) kept
    ∙ ap (λ l. slice_range text at (at + n) ∷ lines_of l) after))

-- the same, as `&text[at..]` and a part of it are written
pub part_is : (text : List ℕ) (at n e end : ℕ) → at ≤ length text → (at ≡ length text → ⊥) → n ≡ line_length (take (length text - at) (drop at text)) → e ≡ end_length (take (length (take (length text - at) (drop at text)) - n) (drop n (take (length text - at) (drop at text)))) → at + n + e ≤ end → lines_of (slice_range text at end) ≡ slice_range text at (at + n) ∷ lines_of (slice_range text (at + n + e) end)
part_is text at n e end h ne n_is e_is past =
    let left = take (length text - at) (drop at text) in
    part_left text left at n e end (take_rest text at) (omega arith) n_is (e_is ∙ ap end_length (take_rest left n)) past
