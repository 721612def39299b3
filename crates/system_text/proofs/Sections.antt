-- A section of the text, read line by line.
use Rattle.std.proofs.Common.{◌≡◌, ℕ, ◌-◌, ◌≤◌, true, false, List, [], ◌∷◌, ◌++◌, length, Option, Some, None, refl, ap, sym, ◌∙◌, cond, subst, arith, append_assoc, append-nil, take, drop, length-drop, length-append, ◌+◌}
use Rattle.std.specs.Prelude.{option_map}
use Rattle.std.specs.List.{slice_range}
use Rattle.std.proofs.lemmas.Bool.{cond-true, cond-false}
use Rattle.std.proofs.lemmas.List.{length-take}
use Rattle.xs_text.specs.Lines.{lines_of, line_bytes, IsLineOfParts}
use Rattle.xs_text.specs.declared.line_reader.Line.{Line}
use Rattle.system_model.specs.FrameLines.{is_end}
use Rattle.system_text.specs.Sections.{Section, section_of, with_line}

-- lines put in front of a section
abbrev pub with_front : List (List ℕ) → Option Section → Option Section
with_front front None = None
with_front front (Some section) = Some (record section { lines = front ++ section.lines })

pub lines_of-nothing : (text : List ℕ) → text ≡ [] → lines_of text ≡ []
unfolding lines_of
lines_of-nothing text e = ap lines_of e

pub section_of-cons : (l : List ℕ) (ls : List (List ℕ)) → section_of (l ∷ ls) ≡ cond (is_end l) (Some (record { lines = []; end = l; rest = ls })) (option_map (with_line l) (section_of ls))
unfolding section_of
section_of-cons l ls = refl

pub section_of-none : section_of [] ≡ None
unfolding section_of
section_of-none = refl

with_front-none : (o : Option Section) → with_front [] o ≡ o
with_front-none None = refl
with_front-none (Some section) = refl

with_front-more : (front : List (List ℕ)) (l : List ℕ) (o : Option Section) → with_front front (option_map (with_line l) o) ≡ with_front (front ++ l ∷ []) o
with_front-more front l None = refl
with_front-more front l (Some section) = ap (λ (ls : List (List ℕ)). Some (record section { lines = ls })) (sym (append_assoc front (l ∷ []) section.lines))

-- The section that begins at `first`, where `line` was read last and `left` is still to be read from `at` on.
pub record SectionSoFar (text : List ℕ) (first : ℕ) (line : Line) (at : ℕ) (left : List (List ℕ)) (whole : Option Section) : Type 0 where
  pub found : with_front (lines_of (slice_range text first line.from)) (section_of (line_bytes text line ∷ left)) ≡ whole
  pub parts : (end : ℕ) → line.from ≤ end → end ≤ length text → lines_of (slice_range text first end) ≡ lines_of (slice_range text first line.from) ++ lines_of (slice_range text line.from end)
  pub line_parts : IsLineOfParts text line line.from at
  pub begins : first ≤ line.from
  pub ordered : line.from ≤ line.to
  pub passed : line.to ≤ at
  pub within : at ≤ length text

no_bytes : (text : List ℕ) (n : ℕ) → slice_range text n n ≡ []
no_bytes text n = let e : n - n ≡ 0 = omega arith in ap (λ k. take k (drop n text)) e

no_lines : (text : List ℕ) (n : ℕ) → lines_of (slice_range text n n) ≡ []
no_lines text n = lines_of-nothing _ (no_bytes text n)

-- the first line of the section
pub section_first : (text : List ℕ) (line : Line) (at : ℕ) (left all : List (List ℕ)) → all ≡ line_bytes text line ∷ left
    → IsLineOfParts text line line.from at → line.from ≤ line.to → line.to ≤ at → at ≤ length text → SectionSoFar text line.from line at left (section_of all)
section_first text line at left all is parts ordered passed within = record {
  found = ap (λ front. with_front front (section_of (line_bytes text line ∷ left))) (no_lines text line.from) ∙ (with_front-none _ ∙ ap section_of (sym is));
  parts = λ end h k. ap (λ front. front ++ lines_of (slice_range text line.from end)) (sym (no_lines text line.from));
  line_parts = parts;
  begins = omega arith;
  ordered = ordered;
  passed = passed;
  within = within;
}

-- past a line that does not end it
front_more : (text : List ℕ) (first : ℕ) (line : Line) (at : ℕ) (left : List (List ℕ)) (whole : Option Section) → SectionSoFar text first line at left whole
    → lines_of (slice_range text first at) ≡ lines_of (slice_range text first line.from) ++ line_bytes text line ∷ []
front_more text first line at left whole h =
    let until : line.from ≤ at = omega arith in
    h.parts at until h.within
    ∙ ap (λ ls. lines_of (slice_range text first line.from) ++ ls) (h.line_parts at (omega arith) h.within ∙ ap (λ ls. line_bytes text line ∷ ls) (no_lines text at))

pub section_next : (text : List ℕ) (first : ℕ) (line next : Line) (at after : ℕ) (left more : List (List ℕ)) (whole : Option Section)
    → SectionSoFar text first line at left whole → is_end (line_bytes text line) ≡ false → left ≡ line_bytes text next ∷ more → next.from ≡ at
    → IsLineOfParts text next at after → next.from ≤ next.to → next.to ≤ after → after ≤ length text → SectionSoFar text first next after more whole
section_next text first line next at after left more whole h goes_on is begins parts ordered passed within =
    let l = line_bytes text line in
    let front = lines_of (slice_range text first line.from) in
    let here : lines_of (slice_range text first next.from) ≡ front ++ l ∷ [] = ap (λ n. lines_of (slice_range text first n)) begins ∙ front_more text first line at left whole h in
    record {
      found =
          ap (λ f. with_front f (section_of (line_bytes text next ∷ more))) here
          ∙ (ap (λ ls. with_front (front ++ l ∷ []) (section_of ls)) (sym is)
          ∙ (sym (with_front-more front l (section_of left))
          ∙ (ap (λ o. with_front front o) (sym (section_of-cons l left ∙ cond-false _ _ _ goes_on)) ∙ h.found)));
      parts = λ end k m.
          h.parts end (omega arith) m
          ∙ (ap (λ ls. front ++ ls) (h.line_parts end (omega arith) m)
          ∙ (sym (append_assoc front (l ∷ []) (lines_of (slice_range text at end)))
          ∙ (ap (λ f. f ++ lines_of (slice_range text at end)) (sym here) ∙ ap (λ n. lines_of (slice_range text first next.from) ++ lines_of (slice_range text n end)) (sym begins))));
      line_parts = subst (λ (n : ℕ). IsLineOfParts text next n after) (sym begins) parts;
      begins = omega arith;
      ordered = ordered;
      passed = passed;
      within = within;
    }

-- the text ends within the section
pub section_open : (text : List ℕ) (first : ℕ) (line : Line) (at : ℕ) (left : List (List ℕ)) (whole : Option Section)
    → SectionSoFar text first line at left whole → is_end (line_bytes text line) ≡ false → left ≡ [] → whole ≡ None
section_open text first line at left whole h goes_on is =
    let l = line_bytes text line in
    sym h.found ∙ ap (λ o. with_front (lines_of (slice_range text first line.from)) o)
    (section_of-cons l left ∙ (cond-false _ _ _ goes_on ∙ ap (λ o. option_map (with_line l) o) (ap section_of is ∙ section_of-none)))

-- the line that ends it
pub section_done : (text : List ℕ) (first : ℕ) (line : Line) (at : ℕ) (left : List (List ℕ)) (whole : Option Section)
    → SectionSoFar text first line at left whole → is_end (line_bytes text line) ≡ true
    → whole ≡ Some (record { lines = lines_of (slice_range text first line.from); end = line_bytes text line; rest = left })
section_done text first line at left whole h ends =
    let front = lines_of (slice_range text first line.from) in
    sym h.found ∙ (ap (λ o. with_front front o) (section_of-cons (line_bytes text line) left ∙ cond-true _ _ _ ends)
    ∙ ap (λ (ls : List (List ℕ)). Some (record { lines = ls; end = line_bytes text line; rest = left })) (append-nil front))

-- The number of a line of the section, which begins at `first` after `start` lines.
abbrev pub IsCounted : List ℕ → ℕ → ℕ → Line → Type 0
IsCounted text start first line = line.number ≡ start + length (lines_of (slice_range text first line.from)) + 1

pub counted_first : (text : List ℕ) (start : ℕ) (line : Line) → line.number ≡ start + 1 → IsCounted text start line.from line
counted_first text start line h = rw (no_lines text line.from) (omega (arith, h))

pub counted_next : (text : List ℕ) (start first : ℕ) (line next : Line) (at : ℕ) (left : List (List ℕ)) (whole : Option Section)
    → SectionSoFar text first line at left whole → IsCounted text start first line → next.from ≡ at → next.number ≡ line.number + 1
    → IsCounted text start first next
counted_next text start first line next at left whole h counted begins number =
    rw (begins, front_more text first line at left whole h)
    (omega (arith, counted, number, length-append (lines_of (slice_range text first line.from)) (line_bytes text line ∷ [])))

-- the line as the code takes it from the text
pub line_in_text : (text other : List ℕ) (line : Line) (left after : List (List ℕ)) → other ≡ text → left ≡ line_bytes other line ∷ after → left ≡ line_bytes text line ∷ after
line_in_text text other line left after e h = h ∙ ap (λ t. line_bytes t line ∷ after) e

pub part_length : (text : List ℕ) (from to : ℕ) → length (take (to - from) (drop from text)) ≤ length text
part_length text from to = omega (arith, length-take (to - from) (drop from text), length-drop from text)

pub section_at_end : (left : List (List ℕ)) → left ≡ [] → section_of left ≡ None
section_at_end left e = ap section_of e ∙ section_of-none

-- the parts of the text that the code reads
pub parts_of : (text other : List ℕ) (line : Line) (from at : ℕ) → other ≡ text → IsLineOfParts other line from at → IsLineOfParts text line from at
parts_of text other line from at e h = let P : List ℕ → Type 0 = λ t. IsLineOfParts t line from at in subst P e h

pub parts_from : (text : List ℕ) (line : Line) (from at : ℕ) → line.from ≡ from → IsLineOfParts text line from at → IsLineOfParts text line line.from at
parts_from text line from at e h = let P : ℕ → Type 0 = λ n. IsLineOfParts text line n at in subst P (sym e) h

pub within_text : (text other : List ℕ) (at : ℕ) → other ≡ text → at ≤ length other → at ≤ length text
within_text text other at e h = let P : List ℕ → Type 0 = λ t. at ≤ length t in subst P e h
