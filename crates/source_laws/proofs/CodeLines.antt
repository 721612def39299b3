-- The lines of the code: of each instruction the line whose own code it is of.
use Rattle.std.proofs.Common.{◌≡◌, ℕ, zero, suc, ◌+◌, ◌-◌, ◌<◌, ◌≤◌, inl, inr, List, [], ◌∷◌, ◌++◌, length, None, map, get_or, slice_get, replicate, refl, sym, ap, ◌∙◌, subst, arith, length-append}
use Rattle.std.proofs.lemmas.Bool.{cases_lt}
use Rattle.std.proofs.lemmas.List.{length-replicate, get_or-replicate, get_or_append_left, get_or-append_right}
use Rattle.xs_instructions.specs.Image.{ImageRec}
use Rattle.source_model.specs.declared.layout.Layout.{Layout}
use Rattle.source_model.specs.Statement.{Line, line_of}
use Rattle.source_model.specs.Layout.{Sofar, nothing_yet, after_line, after_lines, whole_of}
use Rattle.source_model.specs.Source.{first_fault, code_of_line, code_of_lines, image_of, Image, assembled_lines}
use Rattle.source_model.specs.CodeLines.{instructions_added, code_lines_from, code_lines}
use Rattle.source_laws.specs.CodeLines.{own_code, ComesFromLine}
use Rattle.source_laws.proofs.FirstFault.{absent}
use Rattle.source_laws.proofs.Fine.{IsFine, AreFine, all_sound, all_fine}
use Rattle.source_laws.proofs.Lengths.{code_step, layout_after}
use Rattle.source_laws.proofs.IsImage.{outcome_none}

-- lists

front_at : {X : Type 0} (xs ys : List X) (i : ℕ) → i < length xs → slice_get (xs ++ ys) i ≡ slice_get xs i
front_at [] ys i h = absurd (omega (arith, h))
front_at (x ∷ xs) ys zero h = refl
front_at (x ∷ xs) ys (suc i) h = front_at xs ys i (omega (arith, h))

add-zero-left : (i : ℕ) → 0 + i ≡ i
add-zero-left i = omega arith

suc-left : (n i : ℕ) → suc n + i ≡ suc (n + i)
suc-left n i = omega arith

behind_at : {X : Type 0} (xs ys : List X) (i : ℕ) → slice_get (xs ++ ys) (length xs + i) ≡ slice_get ys i
behind_at [] ys i = ap (slice_get ys) (add-zero-left i)
behind_at (x ∷ xs) ys i = ap (slice_get (x ∷ (xs ++ ys))) (suc-left (length xs) i) ∙ behind_at xs ys i

-- a line without faults adds as many instructions as its code has

adds_its_code : (whole before : Sofar) (line : Line) → IsFine whole before line → instructions_added before line ≡ length (code_of_line whole before line)
adds_its_code whole before line h =
    let layout = before.layout in
    let step = code_step whole layout.section layout.instructions layout.data_bytes layout.constant_bytes line.statement.home line.statement.says h.sound.says h.stands h.in_range in
    let after = ap (λ (l : Layout). l.instructions) (layout_after before line h.allowed) in
    omega (arith, step, after)

pub as_many_from : (whole before : Sofar) (number : ℕ) (lines : List Line) → AreFine whole before lines → length (code_lines_from before number lines) ≡ length (code_of_lines whole before lines)
unfolding code_lines_from code_of_lines
as_many_from whole before number [] h = refl
as_many_from whole before number (line ∷ lines) h =
    let rest = as_many_from whole (after_line before line) (number + 1) lines h.1 in
    length-append (replicate (instructions_added before line) number) (code_lines_from (after_line before line) (number + 1) lines)
    ∙ (ap (λ n. n + length (code_lines_from (after_line before line) (number + 1) lines)) (length-replicate (instructions_added before line) number ∙ adds_its_code whole before line h.0)
    ∙ (ap (λ n. length (code_of_line whole before line) + n) rest
    ∙ sym (length-append (code_of_line whole before line) (code_of_lines whole (after_line before line) lines))))

-- the line of a place, among lines after others

record ComesFrom (whole before : Sofar) (first : ℕ) (ls : List (List ℕ)) (place number : ℕ) : Type 0 where
  pub front : List (List ℕ)
  pub line : List ℕ
  pub rest : List (List ℕ)
  pub offset : ℕ
  pub lines : ls ≡ front ++ line ∷ rest
  pub numbered : number ≡ first + length front
  pub placed : place ≡ length (code_of_lines whole before (map line_of front)) + offset
  pub within : offset < length (code_of_line whole (after_lines before (map line_of front)) (line_of line))
  pub instruction : slice_get (code_of_lines whole before (map line_of ls)) place ≡ slice_get (code_of_line whole (after_lines before (map line_of front)) (line_of line)) offset

number_own : (times number place : ℕ) (more : List ℕ) → place < times → get_or (replicate times number ++ more) place 0 ≡ number
number_own times number place more h =
    get_or_append_left (replicate times number) more 0 place (omega (arith, h, length-replicate times number)) ∙ get_or-replicate times place number 0 h

number_later : (times number place : ℕ) (more : List ℕ) → times ≤ place → get_or (replicate times number ++ more) place 0 ≡ get_or more (place - times) 0
number_later times number place more h = get_or-append_right (replicate times number) more times place 0 (length-replicate times number) h

-- it is of the first of the lines
own_place : (whole before : Sofar) (number : ℕ) (bytes : List ℕ) (ls : List (List ℕ)) (place : ℕ) → IsFine whole before (line_of bytes) → place < length (code_of_line whole before (line_of bytes)) →
    ComesFrom whole before number (bytes ∷ ls) place (get_or (code_lines_from before number (map line_of (bytes ∷ ls))) place 0)
unfolding code_lines_from code_of_lines after_lines
own_place whole before number bytes ls place fine h =
    let line = line_of bytes in
    let added : instructions_added before line ≡ length (code_of_line whole before line) = adds_its_code whole before line fine in
    record {
      front = [];
      line = bytes;
      rest = ls;
      offset = place;
      lines = refl;
      numbered = number_own (instructions_added before line) number place (code_lines_from (after_line before line) (number + 1) (map line_of ls)) (omega (arith, added, h)) ∙ omega arith;
      placed = omega arith;
      within = h;
      instruction = front_at (code_of_line whole before line) (code_of_lines whole (after_line before line) (map line_of ls)) place h;
    }

-- it is of one of the lines after it
later_place : (whole before : Sofar) (number : ℕ) (bytes : List ℕ) (ls : List (List ℕ)) (place : ℕ) → IsFine whole before (line_of bytes) → length (code_of_line whole before (line_of bytes)) ≤ place →
    ComesFrom whole (after_line before (line_of bytes)) (number + 1) ls (place - length (code_of_line whole before (line_of bytes))) (get_or (code_lines_from (after_line before (line_of bytes)) (number + 1) (map line_of ls)) (place - length (code_of_line whole before (line_of bytes))) 0) →
    ComesFrom whole before number (bytes ∷ ls) place (get_or (code_lines_from before number (map line_of (bytes ∷ ls))) place 0)
unfolding code_lines_from code_of_lines after_lines
later_place whole before number bytes ls place fine h r =
    let line = line_of bytes in
    let own = code_of_line whole before line in
    let next = after_line before line in
    let added : instructions_added before line ≡ length own = adds_its_code whole before line fine in
    let back : length own + (place - length own) ≡ place = omega (arith, h) in
    let number_is : get_or (replicate (instructions_added before line) number ++ code_lines_from next (number + 1) (map line_of ls)) place 0 ≡ get_or (code_lines_from next (number + 1) (map line_of ls)) (place - length own) 0 =
    number_later (instructions_added before line) number place (code_lines_from next (number + 1) (map line_of ls)) (omega (arith, added, h))
    ∙ ap (λ n. get_or (code_lines_from next (number + 1) (map line_of ls)) (place - n) 0) added in
    record {
      front = bytes ∷ r.front;
      line = r.line;
      rest = r.rest;
      offset = r.offset;
      lines = ap (λ l. bytes ∷ l) r.lines;
      numbered = number_is ∙ (r.numbered ∙ omega arith);
      placed = omega (arith, r.placed, h, length-append own (code_of_lines whole next (map line_of r.front)));
      within = r.within;
      instruction =
          ap (slice_get (own ++ code_of_lines whole next (map line_of ls))) (sym back)
          ∙ (behind_at own (code_of_lines whole next (map line_of ls)) (place - length own) ∙ r.instruction);
    }

comes_from : (whole before : Sofar) (number : ℕ) (ls : List (List ℕ)) (place : ℕ) → AreFine whole before (map line_of ls) → place < length (code_of_lines whole before (map line_of ls)) →
    ComesFrom whole before number ls place (get_or (code_lines_from before number (map line_of ls)) place 0)
unfolding code_of_lines
comes_from whole before number [] place fine h = absurd (omega (arith, h))
comes_from whole before number (bytes ∷ ls) place fine h =
    let own = code_of_line whole before (line_of bytes) in
    let next = after_line before (line_of bytes) in
    elim (cases_lt place (length own)) [
      | inl less ↦ own_place whole before number bytes ls place fine.0 less
      | inr not_less ↦
          later_place whole before number bytes ls place fine.0 (omega (arith, not_less))
          (comes_from whole next (number + 1) ls (place - length own) fine.1 (omega (arith, h, not_less, length-append own (code_of_lines whole next (map line_of ls)))))
    ]

-- a source that stands for an image

module _ (ls : List (List ℕ)) (image : ImageRec) (is : assembled_lines ls ≡ Image image) where
  parts : (first_fault (whole_of (map line_of ls)) nothing_yet 1 (map line_of ls) ≡ None) × (image_of (whole_of (map line_of ls)) (map line_of ls) ≡ image)
  parts = outcome_none (first_fault (whole_of (map line_of ls)) nothing_yet 1 (map line_of ls)) (image_of (whole_of (map line_of ls)) (map line_of ls)) image is

  fine : AreFine (whole_of (map line_of ls)) nothing_yet (map line_of ls)
  fine = all_fine (whole_of (map line_of ls)) nothing_yet (map line_of ls) (all_sound ls) (absent (map line_of ls) parts.0)

  code_is : code_of_lines (whole_of (map line_of ls)) nothing_yet (map line_of ls) ≡ image.code
  code_is = ap (λ (i : ImageRec). i.code) parts.1

  pub as_many : length (code_lines ls) ≡ length image.code
  as_many = as_many_from (whole_of (map line_of ls)) nothing_yet 1 (map line_of ls) fine ∙ ap length code_is

  pub comes_from_line : (place : ℕ) → place < length image.code → ComesFromLine ls image place (get_or (code_lines ls) place 0)
  comes_from_line place h =
      let found = comes_from (whole_of (map line_of ls)) nothing_yet 1 ls place fine (omega (arith, h, ap length code_is)) in
      record {
        before = found.front;
        line = found.line;
        after = found.rest;
        offset = found.offset;
        lines = found.lines;
        numbered = found.numbered ∙ omega arith;
        placed = found.placed;
        within = found.within;
        instruction = subst (λ code. slice_get code place ≡ slice_get (own_code ls found.front found.line) found.offset) code_is found.instruction;
      }
