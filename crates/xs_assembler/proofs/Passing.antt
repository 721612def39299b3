-- What the passes keep from line to line.
use Rattle.std.proofs.Common.{◌≡◌, ℕ, ◌+◌, ◌-◌, ◌*◌, ◌<◌, ◌≤◌, ◌^◌, Bool, true, false, if◌then◌else◌, List, [], ◌∷◌, ◌++◌, length, Some, None, refl, sym, ap, ◌∙◌, subst, arith, map, drop, append_assoc, append-nil}
use Rattle.std.specs.List.{slice_range}
use Rattle.std.proofs.lemmas.List.{length-take}
use Rattle.xs_text.specs.Lines.{Reading, lines_of, line_bytes, bytes_left, start_of}
use Rattle.xs_text.specs.declared.line_reader.Line.{Line as Span}
use Rattle.source_model.specs.declared.AsmKind.{AsmKind}
use Rattle.source_model.specs.declared.layout.Section.{Section}
use Rattle.source_model.specs.declared.layout.Section.TheVariants.{Text, Data, Constants}
use Rattle.source_model.specs.declared.layout.Layout.{Layout}
use Rattle.source_model.specs.Statement.{Says, Statement, Line, line_of}
use Rattle.source_model.specs.Layout.{Sofar, nothing_yet, section_length, may_stand, added, longer, longer_in, section_after, moved, after_line, after_lines, whole_of}
use Rattle.source_model.specs.Source.{first_fault, fault_of_line, or_fault, code_of_line, bytes_of_line, code_of_lines, bytes_of_lines}
use Rattle.xs_assembler.specs.declared.output.Output.{Output}
use Rattle.xs_assembler.specs.Output.{HasLine, HasLines}
use Rattle.xs_assembler.specs.Passes.{source_lines, AreWithin}
use Rattle.xs_assembler.specs.Names.{IsFront}
use Rattle.xs_assembler.proofs.Fronts.{stands_in_front}
use Rattle.xs_assembler.proofs.Sizes.{line_adds}

-- lengths

pub section_length-le : (most : ℕ) (layout : Layout) (section : Section) → AreWithin most layout → section_length layout section ≤ most
section_length-le most layout Text h = h.instructions
section_length-le most layout Data h = h.data_bytes
section_length-le most layout Constants h = h.constant_bytes

longer-le : (most more : ℕ) (section : Section) (layout : Layout) (n : ℕ) → AreWithin most layout → n ≤ more → AreWithin (most + more) (longer_in section layout n)
longer-le most more Text layout n h k = record { instructions = omega (arith, h.instructions); data_bytes = omega (arith, h.data_bytes); constant_bytes = omega (arith, h.constant_bytes) }
longer-le most more Data layout n h k = record { instructions = omega (arith, h.instructions); data_bytes = omega (arith, h.data_bytes); constant_bytes = omega (arith, h.constant_bytes) }
longer-le most more Constants layout n h k = record { instructions = omega (arith, h.instructions); data_bytes = omega (arith, h.data_bytes); constant_bytes = omega (arith, h.constant_bytes) }

pub weaker : (most more : ℕ) (layout : Layout) → most ≤ more → AreWithin most layout → AreWithin more layout
weaker most more layout k h = record { instructions = omega (arith, h.instructions); data_bytes = omega (arith, h.data_bytes); constant_bytes = omega (arith, h.constant_bytes) }

in_section : (most : ℕ) (layout : Layout) (section : Section) → AreWithin most layout → AreWithin most (record layout { section = section })
in_section most layout section h = record { instructions = h.instructions; data_bytes = h.data_bytes; constant_bytes = h.constant_bytes }

either : {A : Type 0} (P : A → Type 0) (b : Bool) (x y : A) → P x → P y → P (if b then x else y)
either P true x y h k = h
either P false x y h k = k

moved-le : (most more : ℕ) (layout : Layout) (statement : Statement) → AreWithin most layout → added (section_length layout layout.section) statement.says ≤ more → AreWithin (most + more) (moved layout statement)
moved-le most more layout statement h k =
    either (AreWithin (most + more)) (may_stand layout.section statement.home) _ _
    (in_section (most + more) (longer layout (added (section_length layout layout.section) statement.says)) (section_after layout.section statement.home)
    (longer-le most more layout.section layout _ h k))
    (weaker most (most + more) layout (omega arith) h)

-- past a line that adds at most so much
pub after_line-le : (most more : ℕ) (sofar : Sofar) (line : Line) → AreWithin most sofar.layout → added (section_length sofar.layout sofar.layout.section) line.statement.says ≤ more → AreWithin (most + more) (after_line sofar line).layout
after_line-le most more sofar line h k =
    either (λ (s : Sofar). AreWithin (most + more) s.layout) line.bad_byte sofar _
    (weaker most (most + more) sofar.layout (omega arith) h)
    (moved-le most more sofar.layout line.statement h k)

-- reading

-- the text is read so far, and the sections are no longer than what was read allows
pub record SoFar (text : List ℕ) (reading : Reading) (layout : Layout) : Type 0 where
  pub of_text : reading.text ≡ text
  pub at : reading.at ≤ length text
  pub within : AreWithin (65540 * reading.at) layout

-- the next line was read
pub record Steps (text : List ℕ) (old new : Reading) (span : Span) (line : Line) : Type 0 where
  pub lines : lines_of (bytes_left old) ≡ line_bytes old.text span ∷ lines_of (bytes_left new)
  pub read : line ≡ line_of (line_bytes text span)
  pub begins : span.from ≡ old.at
  pub ordered : span.from ≤ span.to
  pub passed : span.to ≤ new.at
  pub progress : old.at < new.at
  pub same_text : new.text ≡ old.text
  pub within : new.at ≤ length old.text

-- how many bytes a line has
span_length : (text : List ℕ) (from to : ℕ) → length (slice_range text from to) ≤ to - from
span_length text from to = omega (arith, length-take (to - from) (drop from text))

line_small : (text : List ℕ) (old new : Reading) (span : Span) (line : Line) (long : ℕ) → Steps text old new span line → added long line.statement.says ≤ 65536 + 4 * (new.at - old.at)
line_small text old new span line long h =
    let P : Line → Type 0 = λ l. added long l.statement.says ≤ 65536 + 4 * (new.at - old.at) in
    subst P (sym h.read) (omega (arith, line_adds (line_bytes text span) long, span_length text span.from span.to, h.begins, h.ordered, h.passed))

pub sofar_next : (text : List ℕ) (old new : Reading) (span : Span) (line : Line) (before : Sofar) → SoFar text old before.layout → Steps text old new span line → SoFar text new (after_line before line).layout
sofar_next text old new span line before h k = record {
  of_text = k.same_text ∙ h.of_text;
  at = subst (λ (t : List ℕ). new.at ≤ length t) h.of_text k.within;
  within =
      let gained = line_small text old new span line (section_length before.layout before.layout.section) k in
      weaker (65540 * old.at + (65536 + 4 * (new.at - old.at))) (65540 * new.at) (after_line before line).layout (omega (arith, k.progress))
      (after_line-le (65540 * old.at) (65536 + 4 * (new.at - old.at)) before line h.within gained);
}

pub sofar_first : (text : List ℕ) → SoFar text (start_of text) nothing_yet.layout
sofar_first text = record { of_text = refl; at = omega arith; within = record { instructions = omega arith; data_bytes = omega arith; constant_bytes = omega arith } }

-- lengths that fit
pub sofar_small : (text : List ℕ) (reading : Reading) (layout : Layout) → length text < 2 ^ 32 → SoFar text reading layout → AreWithin (2 ^ 50) layout
sofar_small text reading layout small h =
    let read : reading.at ≤ length text = h.at in
    weaker (65540 * reading.at) 1125899906842624 layout (omega (arith, read, small)) h.within

pub line_fits : (text : List ℕ) (old new : Reading) (span : Span) (line : Line) (long : ℕ) → length text < 2 ^ 32 → old.text ≡ text → Steps text old new span line → added long line.statement.says ≤ 2 ^ 50
line_fits text old new span line long small is h =
    let within : new.at ≤ length text = subst (λ (t : List ℕ). new.at ≤ length t) is h.within in
    omega (arith, line_small text old new span line long h, within, small)

-- the lines that are left
abbrev pub left_in : Reading → List Line
left_in reading = map line_of (lines_of (bytes_left reading))

pub left_next : (text : List ℕ) (old new : Reading) (span : Span) (line : Line) → old.text ≡ text → Steps text old new span line → left_in old ≡ line ∷ left_in new
left_next text old new span line is h =
    ap (λ ls. map line_of ls) h.lines
    ∙ ap (λ l. l ∷ left_in new) (ap (λ t. line_of (line_bytes t span)) is ∙ sym h.read)

lines_of-nothing : (text : List ℕ) → text ≡ [] → lines_of text ≡ []
unfolding lines_of
lines_of-nothing text e = ap lines_of e

pub left_none : (reading : Reading) → bytes_left reading ≡ [] → left_in reading ≡ []
left_none reading e = ap (λ ls. map line_of ls) (lines_of-nothing (bytes_left reading) e)

-- the first pass

pub record WholeSoFar (text : List ℕ) (reading : Reading) (sofar : Sofar) : Type 0 where
  pub base : SoFar text reading sofar.layout
  pub whole : after_lines sofar (left_in reading) ≡ whole_of (source_lines text)

pub whole_first : (text : List ℕ) → WholeSoFar text (start_of text) nothing_yet
whole_first text = record { base = sofar_first text; whole = refl }

after_lines-cons : (sofar : Sofar) (line : Line) (lines : List Line) → after_lines sofar (line ∷ lines) ≡ after_lines (after_line sofar line) lines
unfolding after_lines
after_lines-cons sofar line lines = refl

after_lines-nil : (sofar : Sofar) → after_lines sofar [] ≡ sofar
unfolding after_lines
after_lines-nil sofar = refl

pub whole_next : (text : List ℕ) (old new : Reading) (span : Span) (line : Line) (before after : Sofar) → WholeSoFar text old before → Steps text old new span line → after ≡ after_line before line → WholeSoFar text new after
whole_next text old new span line before after h k is =
    let next : WholeSoFar text new (after_line before line) = record {
      base = sofar_next text old new span line before h.base k;
      whole = sym (ap (λ ls. after_lines before ls) (left_next text old new span line h.base.of_text k) ∙ after_lines-cons before line (left_in new)) ∙ h.whole;
    } in
    subst (WholeSoFar text new) (sym is) next

pub whole_done : (text : List ℕ) (reading : Reading) (sofar : Sofar) → WholeSoFar text reading sofar → bytes_left reading ≡ [] → sofar ≡ whole_of (source_lines text)
whole_done text reading sofar h e = sym (ap (λ ls. after_lines sofar ls) (left_none reading e) ∙ after_lines-nil sofar) ∙ h.whole

-- the second pass

pub record OutputSoFar (whole : Sofar) (text : List ℕ) (reading : Reading) (before : Sofar) (output : Output) : Type 0 where
  pub base : SoFar text reading before.layout
  pub rest : after_lines before (left_in reading) ≡ whole
  pub fault : first_fault whole before (reading.number + 1) (left_in reading) ≡ first_fault whole nothing_yet 1 (source_lines text)
  pub code : output.code.items ++ code_of_lines whole before (left_in reading) ≡ code_of_lines whole nothing_yet (source_lines text)
  pub data_bytes : output.data_bytes.items ++ bytes_of_lines Data whole before (left_in reading) ≡ bytes_of_lines Data whole nothing_yet (source_lines text)
  pub constant_bytes : output.constant_bytes.items ++ bytes_of_lines Constants whole before (left_in reading) ≡ bytes_of_lines Constants whole nothing_yet (source_lines text)

pub output_first : (whole : Sofar) (text : List ℕ) (output : Output) → whole ≡ whole_of (source_lines text) → output.code.items ≡ [] → output.data_bytes.items ≡ [] → output.constant_bytes.items ≡ [] → OutputSoFar whole text (start_of text) nothing_yet output
output_first whole text output is e f g = record {
  base = sofar_first text;
  rest = sym is;
  fault = refl;
  code = ap (λ xs. xs ++ code_of_lines whole nothing_yet (source_lines text)) e;
  data_bytes = ap (λ xs. xs ++ bytes_of_lines Data whole nothing_yet (source_lines text)) f;
  constant_bytes = ap (λ xs. xs ++ bytes_of_lines Constants whole nothing_yet (source_lines text)) g;
}

first_fault-cons : (whole before : Sofar) (number : ℕ) (line : Line) (lines : List Line) → first_fault whole before number (line ∷ lines) ≡ or_fault number (fault_of_line whole before line) (first_fault whole (after_line before line) (number + 1) lines)
unfolding first_fault
first_fault-cons whole before number line lines = refl

first_fault-nil : (whole before : Sofar) (number : ℕ) → first_fault whole before number [] ≡ None
unfolding first_fault
first_fault-nil whole before number = refl

code_of_lines-cons : (whole before : Sofar) (line : Line) (lines : List Line) → code_of_lines whole before (line ∷ lines) ≡ code_of_line whole before line ++ code_of_lines whole (after_line before line) lines
unfolding code_of_lines
code_of_lines-cons whole before line lines = refl

code_of_lines-nil : (whole before : Sofar) → code_of_lines whole before [] ≡ []
unfolding code_of_lines
code_of_lines-nil whole before = refl

bytes_of_lines-cons : (section : Section) (whole before : Sofar) (line : Line) (lines : List Line) → bytes_of_lines section whole before (line ∷ lines) ≡ bytes_of_line section whole before line ++ bytes_of_lines section whole (after_line before line) lines
unfolding bytes_of_lines
bytes_of_lines-cons section whole before line lines = refl

bytes_of_lines-nil : (section : Section) (whole before : Sofar) → bytes_of_lines section whole before [] ≡ []
unfolding bytes_of_lines
bytes_of_lines-nil section whole before = refl

-- the list so far, with what a line adds, and what comes after
pub grown : {A : Type 0} (old new more rest all whole : List A) → new ≡ old ++ more → all ≡ more ++ rest → old ++ all ≡ whole → new ++ rest ≡ whole
grown old new more rest all whole e f h = ap (λ xs. xs ++ rest) e ∙ (append_assoc old more rest ∙ (ap (λ xs. old ++ xs) (sym f) ∙ h))

rest_next : (whole : Sofar) (text : List ℕ) (old new : Reading) (span : Span) (line : Line) (before : Sofar) (output : Output) → OutputSoFar whole text old before output → Steps text old new span line
    → after_lines (after_line before line) (left_in new) ≡ whole
rest_next whole text old new span line before output h k =
    sym (ap (λ ls. after_lines before ls) (left_next text old new span line h.base.of_text k) ∙ after_lines-cons before line (left_in new)) ∙ h.rest

-- the labels after a line stand in front of those of all lines
pub output_front : (whole : Sofar) (text : List ℕ) (old new : Reading) (span : Span) (line : Line) (before : Sofar) (output : Output) → OutputSoFar whole text old before output → Steps text old new span line
    → IsFront (after_line before line).labels whole.labels
output_front whole text old new span line before output h k =
    stands_in_front (after_line before line) whole (left_in new) (rest_next whole text old new span line before output h k)

pub output_next : (whole : Sofar) (text : List ℕ) (old new : Reading) (span : Span) (line : Line) (before after : Sofar) (output more : Output) → OutputSoFar whole text old before output → Steps text old new span line → new.number ≡ old.number + 1
    → fault_of_line whole before line ≡ None → after ≡ after_line before line → HasLine whole before line output more → OutputSoFar whole text new after more
output_next whole text old new span line before after output more h k number none is has =
    let left = left_next text old new span line h.base.of_text k in
    let next : OutputSoFar whole text new (after_line before line) more = record {
      base = sofar_next text old new span line before h.base k;
      rest = rest_next whole text old new span line before output h k;
      fault =
          ap (λ n. first_fault whole (after_line before line) (n + 1) (left_in new)) number
          ∙ (sym (ap (λ ls. first_fault whole before (old.number + 1) ls) left
          ∙ (first_fault-cons whole before (old.number + 1) line (left_in new)
          ∙ ap (λ o. or_fault (old.number + 1) o (first_fault whole (after_line before line) ((old.number + 1) + 1) (left_in new))) none))
          ∙ h.fault);
      code = grown output.code.items more.code.items (code_of_line whole before line) (code_of_lines whole (after_line before line) (left_in new)) _ _ has.code
          (ap (λ ls. code_of_lines whole before ls) left ∙ code_of_lines-cons whole before line (left_in new)) h.code;
      data_bytes = grown output.data_bytes.items more.data_bytes.items (bytes_of_line Data whole before line) (bytes_of_lines Data whole (after_line before line) (left_in new)) _ _ has.data_bytes
          (ap (λ ls. bytes_of_lines Data whole before ls) left ∙ bytes_of_lines-cons Data whole before line (left_in new)) h.data_bytes;
      constant_bytes = grown output.constant_bytes.items more.constant_bytes.items (bytes_of_line Constants whole before line) (bytes_of_lines Constants whole (after_line before line) (left_in new)) _ _ has.constant_bytes
          (ap (λ ls. bytes_of_lines Constants whole before ls) left ∙ bytes_of_lines-cons Constants whole before line (left_in new)) h.constant_bytes;
    } in
    subst (λ (s : Sofar). OutputSoFar whole text new s more) (sym is) next

pub output_fault : (whole : Sofar) (text : List ℕ) (old new : Reading) (span : Span) (line : Line) (before : Sofar) (output : Output) (kind : AsmKind) → OutputSoFar whole text old before output → Steps text old new span line
    → span.number ≡ old.number + 1 → fault_of_line whole before line ≡ Some kind → first_fault whole nothing_yet 1 (source_lines text) ≡ Some (span.number, kind)
output_fault whole text old new span line before output kind h k number some =
    sym h.fault
    ∙ (ap (λ ls. first_fault whole before (old.number + 1) ls) (left_next text old new span line h.base.of_text k)
    ∙ (first_fault-cons whole before (old.number + 1) line (left_in new)
    ∙ (ap (λ o. or_fault (old.number + 1) o (first_fault whole (after_line before line) ((old.number + 1) + 1) (left_in new))) some
    ∙ ap (λ n. Some (n, kind)) (sym number))))

pub output_done : (whole : Sofar) (text : List ℕ) (reading : Reading) (before : Sofar) (output : Output) → OutputSoFar whole text reading before output → bytes_left reading ≡ [] → first_fault whole nothing_yet 1 (source_lines text) ≡ None
output_done whole text reading before output h e =
    sym h.fault ∙ (ap (λ ls. first_fault whole before (reading.number + 1) ls) (left_none reading e) ∙ first_fault-nil whole before (reading.number + 1))

all_of : {A : Type 0} (xs rest all : List A) → rest ≡ [] → xs ++ rest ≡ all → xs ≡ all
all_of xs rest all e h = sym (append-nil xs) ∙ (ap (λ r. xs ++ r) (sym e) ∙ h)

pub output_has : (whole : Sofar) (text : List ℕ) (reading : Reading) (before : Sofar) (output : Output) → OutputSoFar whole text reading before output → bytes_left reading ≡ [] → HasLines whole nothing_yet (source_lines text) output
output_has whole text reading before output h e =
    let none = left_none reading e in
    record {
      code = all_of _ _ _ (ap (λ ls. code_of_lines whole before ls) none ∙ code_of_lines-nil whole before) h.code;
      data_bytes = all_of _ _ _ (ap (λ ls. bytes_of_lines Data whole before ls) none ∙ bytes_of_lines-nil Data whole before) h.data_bytes;
      constant_bytes = all_of _ _ _ (ap (λ ls. bytes_of_lines Constants whole before ls) none ∙ bytes_of_lines-nil Constants whole before) h.constant_bytes;
    }

-- what the calls for one line require

pub span_small : (text : List ℕ) (from to : ℕ) → length text < 2 ^ 32 → to ≤ length text → length (slice_range text from to) < 2 ^ 32
span_small text from to h k = omega (arith, span_length text from to, h, k)

added_small : (bytes : List ℕ) (long : ℕ) (says : Says) → says ≡ (line_of bytes).statement.says → length bytes < 2 ^ 32 → added long says ≤ 2 ^ 40
added_small bytes long says is h =
    let P : Says → Type 0 = λ s. added long s ≤ 1099511627776 in
    subst P (sym is) (omega (arith, line_adds bytes long, h))

pub noted_fits : (bytes : List ℕ) (layout : Layout) (line : Line) → AreWithin (2 ^ 50) layout → length bytes < 2 ^ 32 → line ≡ line_of bytes
    → section_length layout layout.section + added (section_length layout layout.section) line.statement.says < 2 ^ 64
noted_fits bytes layout line h k is =
    omega (arith, section_length-le 1125899906842624 layout layout.section h, added_small bytes (section_length layout layout.section) line.statement.says (ap (λ (l : Line). l.statement.says) is) k)

pub after_within : (bytes : List ℕ) (before : Sofar) (line : Line) (after : Layout) → AreWithin (2 ^ 50) before.layout → length bytes < 2 ^ 32 → line ≡ line_of bytes → after ≡ (after_line before line).layout → AreWithin (2 ^ 51) after
after_within bytes before line after h k is e =
    let long = section_length before.layout before.layout.section in
    let P : Layout → Type 0 = λ l. AreWithin 2251799813685248 l in
    subst P (sym e)
    (weaker (1125899906842624 + 1099511627776) 2251799813685248 _ (omega arith)
    (after_line-le 1125899906842624 1099511627776 before line h (added_small bytes long line.statement.says (ap (λ (l : Line). l.statement.says) is) k)))
