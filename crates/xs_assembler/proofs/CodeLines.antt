-- The lines of the code, as the loop over a source's lines gives them.
use Rattle.std.proofs.Common.{◌≡◌, ℕ, ◌+◌, ◌-◌, ◌≤◌, Bool, true, false, if◌then◌else◌, List, [], ◌∷◌, ◌++◌, replicate, refl, sym, ap, ◌∙◌, subst, arith, append-nil}
use Rattle.xs_text.specs.Lines.{Reading, lines_of, bytes_left}
use Rattle.xs_text.specs.declared.line_reader.Line.{Line as Span}
use Rattle.source_model.specs.declared.layout.Section.{Section}
use Rattle.source_model.specs.declared.layout.Section.TheVariants.{Text, Data, Constants}
use Rattle.source_model.specs.declared.layout.Layout.{Layout}
use Rattle.source_model.specs.Statement.{Line}
use Rattle.source_model.specs.Layout.{Sofar, section_length, may_stand, added, longer_in, after_line}
use Rattle.source_model.specs.CodeLines.{instructions_added, code_lines_from, code_lines}
use Rattle.xs_assembler.proofs.Passing.{SoFar, Steps, sofar_next, left_in, left_next, left_none, grown}

-- the code grows

longer_grows : (section : Section) (layout : Layout) (n : ℕ) → layout.instructions ≤ (longer_in section layout n).instructions
longer_grows Text layout n = omega arith
longer_grows Data layout n = omega arith
longer_grows Constants layout n = omega arith

either : {A : Type 0} (P : A → Type 0) (b : Bool) (x y : A) → P x → P y → P (if b then x else y)
either P true x y h k = h
either P false x y h k = k

line_grows : (before : Sofar) (line : Line) → before.layout.instructions ≤ (after_line before line).layout.instructions
line_grows before line =
    let P : ℕ → Type 0 = λ n. before.layout.instructions ≤ n in
    either (λ (s : Sofar). P s.layout.instructions) line.bad_byte before _ (omega arith)
    (either (λ (l : Layout). P l.instructions) (may_stand before.layout.section line.statement.home) _ _
    (longer_grows before.layout.section before.layout (added (section_length before.layout before.layout.section) line.statement.says)) (omega arith))

pub grows : (before after : Sofar) (line : Line) → after ≡ after_line before line → before.layout.instructions ≤ after.layout.instructions
grows before after line is = subst (λ (s : Sofar). before.layout.instructions ≤ s.layout.instructions) (sym is) (line_grows before line)

-- the loop

code_lines-cons : (before : Sofar) (number : ℕ) (line : Line) (lines : List Line) → code_lines_from before number (line ∷ lines) ≡ replicate (instructions_added before line) number ++ code_lines_from (after_line before line) (number + 1) lines
unfolding code_lines_from
code_lines-cons before number line lines = refl

code_lines-nil : (before : Sofar) (number : ℕ) → code_lines_from before number [] ≡ []
unfolding code_lines_from
code_lines-nil before number = refl

-- the numbers so far, and those of the lines that are left
pub record NumbersSoFar (text : List ℕ) (reading : Reading) (sofar : Sofar) (numbers : List ℕ) : Type 0 where
  pub base : SoFar text reading sofar.layout
  pub all : numbers ++ code_lines_from sofar (reading.number + 1) (left_in reading) ≡ code_lines (lines_of text)

pub numbers_next : (text : List ℕ) (old new : Reading) (span : Span) (line : Line) (before after : Sofar) (numbers more : List ℕ) (times number : ℕ) → NumbersSoFar text old before numbers → Steps text old new span line →
    after ≡ after_line before line → times ≡ after.layout.instructions - before.layout.instructions → number ≡ old.number + 1 → new.number ≡ number → more ≡ numbers ++ replicate times number → NumbersSoFar text new after more
numbers_next text old new span line before after numbers more times number h k is t n m e =
    let left : left_in old ≡ line ∷ left_in new = left_next text old new span line h.base.of_text k in
    let unrolled : code_lines_from before (old.number + 1) (left_in old) ≡ replicate (instructions_added before line) (old.number + 1) ++ code_lines_from (after_line before line) (old.number + 1 + 1) (left_in new) =
    ap (code_lines_from before (old.number + 1)) left ∙ code_lines-cons before (old.number + 1) line (left_in new) in
    let count : new.number ≡ old.number + 1 = m ∙ n in
    let added : times ≡ instructions_added before line = t ∙ ap (λ (s : Sofar). s.layout.instructions - before.layout.instructions) is in
    let put : more ≡ numbers ++ replicate (instructions_added before line) (old.number + 1) = e ∙ (ap (λ x. numbers ++ replicate x number) added ∙ ap (λ x. numbers ++ replicate (instructions_added before line) x) n) in
    let rest : code_lines_from before (old.number + 1) (left_in old) ≡ replicate (instructions_added before line) (old.number + 1) ++ code_lines_from (after_line before line) (new.number + 1) (left_in new) =
    unrolled ∙ ap (λ x. replicate (instructions_added before line) (old.number + 1) ++ code_lines_from (after_line before line) (x + 1) (left_in new)) (sym count) in
    let next : NumbersSoFar text new (after_line before line) more = record {
      base = sofar_next text old new span line before h.base k;
      all = grown numbers more _ _ _ _ put rest h.all;
    } in
    subst (λ (s : Sofar). NumbersSoFar text new s more) (sym is) next

pub numbers_done : (text : List ℕ) (reading : Reading) (sofar : Sofar) (numbers : List ℕ) → NumbersSoFar text reading sofar numbers → bytes_left reading ≡ [] → numbers ≡ code_lines (lines_of text)
numbers_done text reading sofar numbers h e =
    sym (ap (λ ls. numbers ++ code_lines_from sofar (reading.number + 1) ls) (left_none reading e) ∙ (ap (λ ns. numbers ++ ns) (code_lines-nil sofar (reading.number + 1)) ∙ append-nil numbers)) ∙ h.all
