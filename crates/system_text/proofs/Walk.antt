-- The frame of lines, line by line.
use Rattle.std.proofs.Common.{◌≡◌, ℕ, ◌+◌, Bool, true, false, not, List, [], ◌∷◌, ◌++◌, length, Option, Some, None, Result, Ok, Err, refl, sym, ap, ◌∙◌, cond, append_assoc, append-nil, arith, subst}
use Rattle.std.specs.Prelude.{option_map}
use Rattle.std.proofs.lemmas.Bool.{cond-true, cond-false}
use Rattle.xs_text.specs.Bytes.{all_allowed}
use Rattle.xs_text.specs.Words.{words_of_line}
use Rattle.system_model.specs.declared.SysKind.{SysKind}
use Rattle.system_model.specs.declared.SysKind.TheVariants.{BadLine, SectionNotEnded, FirstLine}
use Rattle.system_model.specs.declared.frame_line.FrameLine.TheVariants as form
use Rattle.system_model.specs.declared.frame_line.SectionKind.{SectionKind}
use Rattle.system_model.specs.declared.frame_line.SectionKind.TheVariants.{Source, Pins, Play}
use Rattle.system_model.specs.FrameLines.{is_end}
use Rattle.system_model.specs.Frame.{SectionText, Given, FrameSays, Own, End, says, says_in_section, fault_of, given_with, given_after, with_own_line, unless_faulty, at_the_end, Framed, Refused, frame_from, framed, nothing_given, have_no_words, is_empty}
use Rattle.system_text.specs.declared.frame.Said.{Said}
use Rattle.system_text.specs.declared.frame.Said.TheVariants as said
use Rattle.system_text.specs.declared.system_error.SystemError.{SystemError}
use Rattle.system_text.specs.declared.system_error.SystemError.TheVariants as error
use Rattle.system_text.specs.declared.system_error.SystemError.TheVariants.{Frame, Memory}
use Rattle.system_text.specs.Judged.{said_by, with_section}
use Rattle.system_text.specs.Reads.{ReadsFrame, ReadsLine}
use Rattle.system_text.specs.Sections.{IsTextKind, Section, section_of, with_line}
use Rattle.system_text.specs.Wants.{HasGoodEnd, IsKept, MayWant}
use Rattle.system_text.proofs.Judged.{fault_is}
use Rattle.system_text.proofs.Sections.{section_of-cons, section_of-none}

pub from-cons : (n : ℕ) (given : Given) (l : List ℕ) (ls : List (List ℕ)) → frame_from n given (l ∷ ls) ≡ unless_faulty (fault_of given l) n (frame_from (n + 1) (given_after n l given) ls)
unfolding frame_from
from-cons n given l ls = refl

pub from-end : (n : ℕ) (given : Given) → frame_from n given [] ≡ at_the_end given given.reading
unfolding frame_from
from-end n given = refl

-- a line with a fault
pub line_refused : (n : ℕ) (given : Given) (l : List ℕ) (ls : List (List ℕ)) (kind : SysKind) → fault_of given l ≡ Some kind → frame_from n given (l ∷ ls) ≡ Refused n kind
line_refused n given l ls kind e = from-cons n given l ls ∙ ap (λ f. unless_faulty f n (frame_from (n + 1) (given_after n l given) ls)) e

-- a line without one
pub line_taken : (n : ℕ) (given : Given) (l : List ℕ) (ls : List (List ℕ)) (what : FrameSays) → fault_of given l ≡ None → says given l ≡ what
    → frame_from n given (l ∷ ls) ≡ frame_from (n + 1) (given_with n l what given) ls
line_taken n given l ls what e s =
    from-cons n given l ls
    ∙ (ap (λ f. unless_faulty f n (frame_from (n + 1) (given_after n l given) ls)) e ∙ ap (λ w. frame_from (n + 1) (given_with n l w given) ls) s)

-- Inside a section

abbrev pub reading : SectionText → Given → Given
reading begun given = record given { reading = Some begun }

own : (kind : SectionKind) (words : List (List ℕ)) → IsTextKind kind → says_in_section kind words ≡ Own
own (Source n) words k = refl
own Pins words k = refl
own Play words k = absurd k

says_inside : (given : Given) (begun : SectionText) (l : List ℕ) (end : Bool) → IsTextKind begun.kind → is_end l ≡ end → says (reading begun given) l ≡ cond end End Own
says_inside given begun l end k e =
    ap (λ b. cond b End (says_in_section begun.kind (words_of_line l))) e ∙ ap (λ s. cond end End s) (own begun.kind (words_of_line l) k)

own_line : (n : ℕ) (given : Given) (begun : SectionText) (l : List ℕ) (ls : List (List ℕ)) → IsTextKind begun.kind → is_end l ≡ false
    → frame_from n (reading begun given) (l ∷ ls) ≡ frame_from (n + 1) (reading (with_own_line l begun) given) ls
own_line n given begun l ls k e =
    let is = says_inside given begun l false k e in
    line_taken n (reading begun given) l ls Own (fault_is (reading begun given) l (all_allowed l) Own refl is) is

end_allowed : (n : ℕ) (given : Given) (begun : SectionText) (l : List ℕ) (ls : List (List ℕ)) → IsTextKind begun.kind → is_end l ≡ true → all_allowed l ≡ true
    → frame_from n (reading begun given) (l ∷ ls) ≡ frame_from (n + 1) (with_section begun given) ls
end_allowed n given begun l ls k e a =
    let is = says_inside given begun l true k e in
    line_taken n (reading begun given) l ls End (fault_is (reading begun given) l true End a is) is

end_refused : (n : ℕ) (given : Given) (begun : SectionText) (l : List ℕ) (ls : List (List ℕ)) → IsTextKind begun.kind → is_end l ≡ true → all_allowed l ≡ false
    → frame_from n (reading begun given) (l ∷ ls) ≡ Refused n BadLine
end_refused n given begun l ls k e a =
    let is = says_inside given begun l true k e in
    line_refused n (reading begun given) l ls BadLine (fault_is (reading begun given) l false End a is)

-- with so many lines more
abbrev pub longer : List (List ℕ) → SectionText → SectionText
longer lines begun = record begun { lines = begun.lines ++ lines }

-- after a section whose lines are left, from line n on
abbrev after_section : ℕ → Given → SectionText → Section → Framed
after_section n given begun section =
    cond (all_allowed section.end) (frame_from (n + length section.lines + 1) (with_section (longer section.lines begun) given) section.rest) (Refused (n + length section.lines) BadLine)

abbrev by_section : ℕ → Given → SectionText → Option Section → Framed
by_section n given begun None = Refused begun.line SectionNotEnded
by_section n given begun (Some section) = after_section n given begun section

end_by : (n : ℕ) (given : Given) (begun : SectionText) (l : List ℕ) (ls : List (List ℕ)) (a : Bool) → IsTextKind begun.kind → is_end l ≡ true → all_allowed l ≡ a
    → frame_from n (reading begun given) (l ∷ ls) ≡ cond a (frame_from (n + 0 + 1) (with_section (longer [] begun) given) ls) (Refused (n + 0) BadLine)
end_by n given begun l ls true k e h =
    let zero_more : n + 0 ≡ n = omega arith in
    rw (zero_more, append-nil begun.lines) (end_allowed n given begun l ls k e h)
end_by n given begun l ls false k e h =
    let zero_more : n + 0 ≡ n = omega arith in
    rw zero_more (end_refused n given begun l ls k e h)

one_longer : (n : ℕ) (given : Given) (begun : SectionText) (l : List ℕ) (o : Option Section)
    → by_section (n + 1) given (with_own_line l begun) o ≡ by_section n given begun (option_map (with_line l) o)
one_longer n given begun l None = refl
one_longer n given begun l (Some section) =
    let count : n + 1 + length section.lines ≡ n + length (l ∷ section.lines) = omega arith in
    rw (count, append_assoc begun.lines (l ∷ []) section.lines) refl

walk_by : (n : ℕ) (given : Given) (begun : SectionText) (l : List ℕ) (ls : List (List ℕ)) (end : Bool) → IsTextKind begun.kind → is_end l ≡ end
    → ((s : SectionText) → IsTextKind s.kind → frame_from (n + 1) (reading s given) ls ≡ by_section (n + 1) given s (section_of ls))
    → frame_from n (reading begun given) (l ∷ ls) ≡ by_section n given begun
    (cond end (Some (record { lines = []; end = l; rest = ls })) (option_map (with_line l) (section_of ls)))
walk_by n given begun l ls true k e h = end_by n given begun l ls (all_allowed l) k e refl
walk_by n given begun l ls false k e h = own_line n given begun l ls k e ∙ (h (with_own_line l begun) k ∙ one_longer n given begun l (section_of ls))

-- a section that is being read
walk : (ls : List (List ℕ)) (n : ℕ) (given : Given) (begun : SectionText) → IsTextKind begun.kind → frame_from n (reading begun given) ls ≡ by_section n given begun (section_of ls)
walk [] n given begun k = rw section_of-none (from-end n (reading begun given))
walk (l ∷ ls) n given begun k = rw (section_of-cons l ls) (walk_by n given begun l ls (is_end l) k refl (λ s j. walk ls (n + 1) given s j))

-- no line ends it
pub section_unended : (ls : List (List ℕ)) (n : ℕ) (given : Given) (begun : SectionText) → IsTextKind begun.kind → None ≡ section_of ls → frame_from n (reading begun given) ls ≡ Refused begun.line SectionNotEnded
section_unended ls n given begun t e = walk ls n given begun t ∙ ap (by_section n given begun) (sym e)

-- the line that ends it has a byte that is not allowed
pub section_refused : (ls : List (List ℕ)) (n at : ℕ) (given : Given) (begun : SectionText) (section : Section) → IsTextKind begun.kind → Some section ≡ section_of ls
    → all_allowed section.end ≡ false → n + length section.lines ≡ at → frame_from n (reading begun given) ls ≡ Refused at BadLine
section_refused ls n at given begun section t e a k =
    walk ls n given begun t ∙ (ap (by_section n given begun) (sym e) ∙ (cond-false _ _ _ a ∙ ap (λ (m : ℕ). Refused m BadLine) k))

-- it has ended
pub section_taken : (ls : List (List ℕ)) (n at : ℕ) (given new : Given) (begun : SectionText) (section : Section) → IsTextKind begun.kind → Some section ≡ section_of ls
    → all_allowed section.end ≡ true → n + length section.lines ≡ at → new ≡ with_section (longer section.lines begun) given
    → frame_from n (reading begun given) ls ≡ frame_from (at + 1) new section.rest
section_taken ls n at given new begun section t e a k is =
    walk ls n given begun t ∙ (ap (by_section n given begun) (sym e) ∙ (cond-true _ _ _ a
    ∙ (ap (λ (m : ℕ). frame_from (m + 1) (with_section (longer section.lines begun) given) section.rest) k ∙ ap (λ (g : Given). frame_from (at + 1) g section.rest) (sym is))))

-- A line as the reader takes it

given_without_line : (n : ℕ) (l : List ℕ) (what : Said) (given : Given) → given_with n l (said_by what) given ≡ given_with n [] (said_by what) given
given_without_line n l said.End given = refl
given_without_line n l said.Blank given = refl
given_without_line n l (said.Header edition) given = refl
given_without_line n l (said.Form (form.Node node)) given = refl
given_without_line n l (said.Form (form.Link link)) given = refl
given_without_line n l (said.Form (form.Bit bit)) given = refl
given_without_line n l (said.Form (form.Wire wire)) given = refl
given_without_line n l (said.Form (form.Section kind)) given = refl
given_without_line n l (said.Form (form.Step step)) given = refl

pub line_read : (n at : ℕ) (given : Given) (l : List ℕ) (ls : List (List ℕ)) (what : Said) → fault_of given l ≡ None → says given l ≡ said_by what → at ≡ n
    → frame_from n given (l ∷ ls) ≡ frame_from (at + 1) (given_with n [] (said_by what) given) ls
line_read n at given l ls what f s k =
    line_taken n given l ls (said_by what) f s
    ∙ (ap (λ (g : Given). frame_from (n + 1) g ls) (given_without_line n l what given) ∙ ap (λ m. frame_from (m + 1) (given_with n [] (said_by what) given) ls) (sym k))

-- no line is left
pub frame_ends : (n : ℕ) (given : Given) (ls : List (List ℕ)) → ls ≡ [] → frame_from n given ls ≡ at_the_end given given.reading
frame_ends n given ls e = ap (frame_from n given) e ∙ from-end n given

pub read_by : (framed other rest : Framed) (result : Result (Unit {0}) SystemError) → framed ≡ other → ReadsLine other rest result → ReadsLine framed rest result
read_by framed other rest (Ok u) e h = e ∙ h
read_by framed other rest (Err (Frame line kind)) e h = e ∙ h
read_by framed other rest (Err (error.Source node line kind)) e h = h
read_by framed other rest (Err (error.Pins line kind)) e h = h
read_by framed other rest (Err Memory) e h = tt

pub frame_by : (framed other : Framed) (result : Result Given SystemError) → framed ≡ other → ReadsFrame other result → ReadsFrame framed result
frame_by framed other (Ok given) e h = e ∙ h
frame_by framed other (Err (Frame line kind)) e h = e ∙ h
frame_by framed other (Err (error.Source node line kind)) e h = h
frame_by framed other (Err (error.Pins line kind)) e h = h
frame_by framed other (Err Memory) e h = tt

-- a line refuses the frame, or memory was wanting
pub line_decides : (framed other rest : Framed) (e : SystemError) → framed ≡ other → ReadsLine other rest (Err e) → ReadsFrame framed (Err e)
line_decides framed other rest (Frame line kind) i h = i ∙ h
line_decides framed other rest (error.Source node line kind) i h = h
line_decides framed other rest (error.Pins line kind) i h = h
line_decides framed other rest Memory i h = tt

-- Whether a line has words

pub words_found : (ls rest : List (List ℕ)) (l : List ℕ) → ls ≡ l ∷ rest → is_empty (words_of_line l) ≡ false → true ≡ not (have_no_words ls)
words_found ls rest l e h = rw (e, h) refl

pub words_passed : (ls rest : List (List ℕ)) (l : List ℕ) → ls ≡ l ∷ rest → is_empty (words_of_line l) ≡ true → have_no_words rest ≡ have_no_words ls
words_passed ls rest l e h = rw (e, h) refl

pub words_none : (ls : List (List ℕ)) → ls ≡ [] → false ≡ not (have_no_words ls)
words_none ls e = rw e refl

pub framed_is : (ls : List (List ℕ)) → framed ls ≡ cond (have_no_words ls) (Refused 1 FirstLine) (frame_from 1 nothing_given ls)
unfolding framed
framed_is ls = refl

pub framed_wordless : (ls : List (List ℕ)) → have_no_words ls ≡ true → framed ls ≡ Refused 1 FirstLine
framed_wordless ls e = framed_is ls ∙ cond-true _ _ _ e

pub framed_worded : (ls : List (List ℕ)) → have_no_words ls ≡ false → framed ls ≡ frame_from 1 nothing_given ls
framed_worded ls e = framed_is ls ∙ cond-false _ _ _ e

pub not_true : (b c : Bool) → c ≡ not b → c ≡ true → b ≡ false
not_true true c e h = cc
not_true false c e h = refl

pub not_false : (b c : Bool) → c ≡ not b → c ≡ false → b ≡ true
not_false true c e h = refl
not_false false c e h = cc

-- a section that ends, by a line whose bytes are all allowed
pub good_end : (found : Option Section) (section : Section) → Some section ≡ found → all_allowed section.end ≡ true → HasGoodEnd found
good_end found section is good = subst HasGoodEnd is good

-- a line without a fault of which something is kept
pub may_want : (given : Given) (l : List ℕ) (after : List (List ℕ)) (what : Said) → fault_of given l ≡ None → says given l ≡ said_by what → IsKept after (said_by what) → MayWant given l after
may_want given l after what sound is kept = record { sound = sound; kept = subst (IsKept after) (sym is) kept }
