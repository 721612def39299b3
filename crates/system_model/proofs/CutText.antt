-- A text that stands for a plan, cut inside a source or the script, ends in that section.
use Rattle.std.proofs.Common.{◌≡◌, ◌≢◌, ℕ, suc, ◌+◌, ◌≤◌, Bool, true, false, ◌&&◌, List, [], ◌∷◌, ◌++◌, length, Option, Some, None, refl, sym, ap, ◌∙◌, subst, inl, inr, arith, length-append}
use Rattle.std.specs.Prelude.{◌==◌, nat_lt, option_map, codes, if◌then◌else◌}
use Rattle.std.specs.List.{list_any}
use Rattle.std.proofs.lemmas.Bool.{cases_Bool, cond-true, cond-false, or_from, or_parts, and_left, and_right}
use Rattle.std.proofs.lemmas.Bool.Decides.{nat_tests}
use Rattle.xs_text.specs.Bytes.{all_allowed, begins_with}
use Rattle.xs_text.specs.Lines.{lines_of, lines_from, put_in_front, is_dropped_return}
use Rattle.xs_text.specs.Words.{words_of_line}
use Rattle.sys_plan.specs.Plan.{PlanRec}
use Rattle.system_model.specs.declared.SysKind.{SysKind}
use Rattle.system_model.specs.declared.SysKind.TheVariants.{FirstLine, SectionNotEnded, TooLong}
use Rattle.system_model.specs.declared.frame_line.FrameLine.{FrameLine}
use Rattle.system_model.specs.declared.frame_line.FrameLine.TheVariants.{Section}
use Rattle.system_model.specs.declared.frame_line.SectionKind.{SectionKind}
use Rattle.system_model.specs.declared.frame_line.SectionKind.TheVariants.{Source, Pins, Play}
use Rattle.system_model.specs.FrameLines.{same_words, is_end}
use Rattle.system_model.specs.Frame.{SectionText, Given, Framed, Whole, Refused, FrameSays, Own, End, Form, nothing_given, says, says_by, says_in_frame, says_in_section, first_that_holds, tests, fault_of, with_own_line, given_with, given_after, at_the_end, unless_faulty, frame_from, is_empty, have_no_words, framed}
use Rattle.system_model.specs.FirstFault.{given_after_lines, given_by}
use Rattle.system_model.specs.System.{Plan, Frame, plan_of, longest_input, system_of}
use Rattle.system_model.specs.CutText.{EndWithOpening, IsCutInside}

-- The lines of a text that is put together

abbrev HasLines : List (List ℕ) → Type 0
HasLines [] = ⊥
HasLines (l ∷ ls) = Unit {0}

put_has : (b : ℕ) (ls : List (List ℕ)) → HasLines (put_in_front b ls)
put_has b [] = tt
put_has b (l ∷ ls) = tt

-- the tests of a byte as they come out: whether it is a line feed, and whether it is a return that is dropped
abbrev from_tests : Bool → Bool → ℕ → List (List ℕ) → List (List ℕ)
from_tests feed dropped b ls = if feed then [] ∷ ls else (if dropped then ls else put_in_front b ls)

from_has : (feed dropped : Bool) (b : ℕ) (ls : List (List ℕ)) → HasLines ls → HasLines (from_tests feed dropped b ls)
from_has true dropped b ls h = tt
from_has false true b ls h = h
from_has false false b ls h = put_has b ls

-- a text that ends with a line feed has a line
feed_has : (up : List ℕ) → HasLines (lines_of (up ++ 10 ∷ []))
unfolding lines_of
feed_has [] = tt
feed_has (b ∷ up) = from_has (b == 10) (is_dropped_return b (up ++ 10 ∷ [])) b _ (feed_has up)

lone_has : (feed : Bool) (b : ℕ) → HasLines (from_tests feed false b [])
lone_has true b = tt
lone_has false b = tt

-- a text that is not empty has a line
some_has : (b : ℕ) (rest : List ℕ) → HasLines (lines_of (b ∷ rest))
unfolding lines_of
some_has b [] = subst (λ (t : Bool). HasLines (from_tests (b == 10) t b [])) (sym (and_right (b == 13) false refl)) (lone_has (b == 10) b)
some_has b (c ∷ rest) = from_has (b == 10) (is_dropped_return b (c ∷ rest)) b _ (some_has c rest)

put_onto : (b : ℕ) (ls ms : List (List ℕ)) → HasLines ls → put_in_front b (ls ++ ms) ≡ put_in_front b ls ++ ms
put_onto b [] ms h = absurd h
put_onto b (l ∷ ls) ms h = refl

from_onto : (feed dropped : Bool) (b : ℕ) (ls ms : List (List ℕ)) → HasLines ls → from_tests feed dropped b (ls ++ ms) ≡ from_tests feed dropped b ls ++ ms
from_onto true dropped b ls ms h = refl
from_onto false true b ls ms h = refl
from_onto false false b ls ms h = put_onto b ls ms h

begins_same : (up rest : List ℕ) → begins_with 10 ((up ++ 10 ∷ []) ++ rest) ≡ begins_with 10 (up ++ 10 ∷ [])
begins_same [] rest = refl
begins_same (b ∷ up) rest = refl

-- the lines up to a line feed, and those after it
lines_after_feed : (up rest : List ℕ) → lines_of ((up ++ 10 ∷ []) ++ rest) ≡ lines_of (up ++ 10 ∷ []) ++ lines_of rest
unfolding lines_of
lines_after_feed [] rest = refl
lines_after_feed (b ∷ up) rest =
    ap (λ ls. lines_from b ((up ++ 10 ∷ []) ++ rest) ls) (lines_after_feed up rest)
    ∙ (ap (λ t. from_tests (b == 10) ((b == 13) && t) b (lines_of (up ++ 10 ∷ []) ++ lines_of rest)) (begins_same up rest)
    ∙ from_onto (b == 10) (is_dropped_return b (up ++ 10 ∷ [])) b _ _ (feed_has up))

-- The lines of a text that is cut

-- what is asked of a line, and is not of the last one
abbrev UnlessLast : List (List ℕ) → Type 0 → Type 0
UnlessLast [] A = Unit {0}
UnlessLast (q ∷ qs) A = A

-- lines that are the first of others, but the last of them, which may be another
abbrev AreFirstOf : List (List ℕ) → List (List ℕ) → Type 0
AreFirstOf [] ls = Unit {0}
AreFirstOf (q ∷ qs) [] = ⊥
AreFirstOf (q ∷ qs) (l ∷ ls) = UnlessLast qs (q ≡ l) × AreFirstOf qs ls

unless_last : (qs : List (List ℕ)) (A : Type 0) → A → UnlessLast qs A
unless_last [] A a = tt
unless_last (q ∷ qs) A a = a

unless_last_too : (qs : List (List ℕ)) (A B : Type 0) → (A → B) → UnlessLast qs A → UnlessLast qs B
unless_last_too [] A B f a = tt
unless_last_too (q ∷ qs) A B f a = f a

-- the same where a line begins that the text goes on with
first_alone : (b : ℕ) (ls : List (List ℕ)) → HasLines ls → AreFirstOf ((b ∷ []) ∷ []) ls
first_alone b [] h = absurd h
first_alone b (l ∷ ls) h = (tt, tt)

put_first : (b : ℕ) (qs ls : List (List ℕ)) → AreFirstOf qs ls → AreFirstOf (put_in_front b qs) (put_in_front b ls)
put_first b [] ls h = first_alone b (put_in_front b ls) (put_has b ls)
put_first b (q ∷ qs) [] h = absurd h
put_first b (q ∷ qs) (l ∷ ls) h = (unless_last_too qs (q ≡ l) (b ∷ q ≡ b ∷ l) (λ e. ap (λ x. b ∷ x) e) h.0, h.1)

from_first : (feed dropped : Bool) (b : ℕ) (qs ls : List (List ℕ)) → AreFirstOf qs ls → AreFirstOf (from_tests feed dropped b qs) (from_tests feed dropped b ls)
from_first true dropped b qs ls h = (unless_last qs ([] ≡ []) refl, h)
from_first false true b qs ls h = h
from_first false false b qs ls h = put_first b qs ls h

alone : (b : ℕ) → (b == 10) ≡ false → lines_of (b ∷ []) ≡ (b ∷ []) ∷ []
unfolding lines_of
alone b e = ap (λ t. from_tests t ((b == 13) && false) b []) e ∙ ap (λ t. from_tests false t b []) (and_right (b == 13) false refl)

feed_first : (b : ℕ) (rest : List ℕ) → (b == 10) ≡ true → lines_of (b ∷ rest) ≡ [] ∷ lines_of rest
unfolding lines_of
feed_first b rest e = ap (λ t. from_tests t (is_dropped_return b rest) b (lines_of rest)) e

no_lines : lines_of [] ≡ []
unfolding lines_of
no_lines = refl

cut_alone : (b : ℕ) (lost : List ℕ) → AreFirstOf (lines_of (b ∷ [])) (lines_of (b ∷ lost))
cut_alone b lost =
    elim (cases_Bool (b == 10)) [
      | inl e ↦
          subst (λ (qs : List (List ℕ)). AreFirstOf qs (lines_of (b ∷ lost))) (sym (feed_first b [] e ∙ ap (λ ls. [] ∷ ls) no_lines))
          (subst (λ (ls : List (List ℕ)). AreFirstOf ([] ∷ []) ls) (sym (feed_first b lost e)) (tt, tt))
      | inr e ↦ subst (λ (qs : List (List ℕ)). AreFirstOf qs (lines_of (b ∷ lost))) (sym (alone b e)) (first_alone b _ (some_has b lost))
    ]

-- what is left of a text has its first lines, but the one that is cut
cut_lines : (left lost : List ℕ) → AreFirstOf (lines_of left) (lines_of (left ++ lost))
unfolding lines_of
cut_lines [] lost = tt
cut_lines (b ∷ []) lost = cut_alone b lost
cut_lines (b ∷ c ∷ left) lost = from_first (b == 10) (is_dropped_return b (c ∷ left)) b _ _ (cut_lines (c ∷ left) lost)

-- No line that is left ends the section

-- the last line does not
abbrev EndsOpen : List (List ℕ) → Type 0
EndsOpen [] = Unit {0}
EndsOpen (q ∷ []) = is_end q ≡ false
EndsOpen (q ∷ r ∷ qs) = EndsOpen (r ∷ qs)

last_open : (ls : List (List ℕ)) (last : List ℕ) → is_end last ≡ false → EndsOpen (ls ++ last ∷ [])
last_open [] last e = e
last_open (l ∷ []) last e = e
last_open (l ∷ m ∷ ls) last e = last_open (m ∷ ls) last e

open_after : (before qs : List (List ℕ)) → EndsOpen (before ++ qs) → EndsOpen qs
open_after [] qs h = h
open_after (l ∷ []) [] h = tt
open_after (l ∷ []) (q ∷ qs) h = h
open_after (l ∷ m ∷ before) qs h = open_after (m ∷ before) qs h

none_left : (qs own : List (List ℕ)) (begun : List ℕ) → AreFirstOf qs (own ++ begun ∷ []) → list_any is_end own ≡ false → EndsOpen qs → list_any is_end qs ≡ false
none_left [] own begun h none last = refl
none_left (q ∷ []) own begun h none last = or_from (is_end q) false last refl
none_left (q ∷ r ∷ qs) [] begun h none last = absurd h.1
none_left (q ∷ r ∷ qs) (o ∷ own) begun h none last =
    let parts = or_parts (is_end o) (list_any is_end own) none in
    or_from (is_end q) (list_any is_end (r ∷ qs)) (ap (λ l. is_end l) h.0 ∙ parts.0) (none_left (r ∷ qs) own begun h.1 parts.1 last)

-- The frame of the lines up to the section, and of those in it

-- a line of the frame that begins a section has words
abbrev says_words : Option ℕ → Option SectionText → List (List ℕ) → FrameSays
says_words edition None words = says_in_frame edition words
says_words edition (Some section) words = if same_words (codes "end" ∷ []) words then End else says_in_section section.kind words

says_is : (edition : Option ℕ) (reading : Option SectionText) (l : List ℕ) → says_by edition reading l ≡ says_words edition reading (words_of_line l)
says_is edition None l = refl
says_is edition (Some section) l = refl

blank_in_section : (kind : SectionKind) (form : FrameLine) → says_in_section kind [] ≡ Form form → ⊥
blank_in_section (Source n) form e = cc
blank_in_section Pins form e = cc
blank_in_section Play form e = cc

form_has_words : (edition : Option ℕ) (reading : Option SectionText) (words : List (List ℕ)) (form : FrameLine) → says_words edition reading words ≡ Form form → is_empty words ≡ false
form_has_words edition reading (w ∷ ws) form e = refl
form_has_words edition None [] form e = cc
form_has_words edition (Some section) [] form e = absurd (blank_in_section section.kind form e)

words_at_last : (before : List (List ℕ)) (opening : List ℕ) (rest : List (List ℕ)) → is_empty (words_of_line opening) ≡ false → have_no_words ((before ++ opening ∷ []) ++ rest) ≡ false
words_at_last [] opening rest e = and_left _ _ e
words_at_last (l ∷ before) opening rest e = and_right _ _ (words_at_last before opening rest e)

-- a frame that is whole has no fault in its first line, and its other lines are whole too
whole_parts : (fault : Option SysKind) (n : ℕ) (rest : Framed) (given : Given) → unless_faulty fault n rest ≡ Whole given → (fault ≡ None) × (rest ≡ Whole given)
whole_parts None n rest given e = (refl, e)
whole_parts (Some kind) n rest given e = cc

-- after lines of such a frame other lines come to what they come to there
passed : (ls xs ys : List (List ℕ)) (n : ℕ) (given whole : Given) (to : Framed) → frame_from n given (ls ++ ys) ≡ Whole whole
    → ((m : ℕ) → frame_from m (given_after_lines n given ls) xs ≡ to) → frame_from n given (ls ++ xs) ≡ to
unfolding frame_from given_after_lines
passed [] xs ys n given whole to e h = h n
passed (l ∷ ls) xs ys n given whole to e h =
    let parts = whole_parts (fault_of given l) n (frame_from (n + 1) (given_after n l given) (ls ++ ys)) whole e in
    ap (λ o. unless_faulty o n (frame_from (n + 1) (given_after n l given) (ls ++ xs))) parts.0 ∙ passed ls xs ys (n + 1) (given_after n l given) whole to parts.1 h

-- what is given after one more line
given_at_last : (ls : List (List ℕ)) (l : List ℕ) (n : ℕ) (given : Given) → given_after_lines n given (ls ++ l ∷ []) ≡ given_after (n + length ls) l (given_after_lines n given ls)
unfolding given_after_lines
given_at_last [] l n given = let e : n ≡ n + 0 = omega arith in ap (λ k. given_after k l given) e
given_at_last (x ∷ ls) l n given =
    let e : n + 1 + length ls ≡ n + suc (length ls) = omega arith in
    given_at_last ls l (n + 1) (given_after n x given) ∙ ap (λ k. given_after k l (given_after_lines (n + 1) (given_after n x given) ls)) e

own_of : (kind : SectionKind) (words : List (List ℕ)) → kind ≢ Play → says_in_section kind words ≡ Own
own_of (Source n) words h = refl
own_of Pins words h = refl
own_of Play words h = absurd (h refl)

own_sound : (given : Given) (allowed : Bool) → first_that_holds (tests given allowed Own) ≡ None
own_sound given allowed = refl

-- lines of which none ends the section leave it without an end
stays_open : (qs : List (List ℕ)) (n : ℕ) (given : Given) (section : SectionText) → given.reading ≡ Some section → section.kind ≢ Play → list_any is_end qs ≡ false
    → frame_from n given qs ≡ Refused section.line SectionNotEnded
unfolding frame_from
stays_open [] n given section e kind none = ap (λ o. at_the_end given o) e
stays_open (q ∷ qs) n given section e kind none =
    let parts = or_parts (is_end q) (list_any is_end qs) none in
    let said : says given q ≡ Own =
    ap (λ o. says_by given.edition o q) e ∙ (cond-false _ _ _ parts.0 ∙ own_of section.kind (words_of_line q) kind) in
    let next : (given_after n q given).reading ≡ Some (with_own_line q section) =
    ap (λ s. (given_with n q s given).reading) said ∙ ap (λ o. option_map (with_own_line q) o) e in
    ap (λ o. unless_faulty o n (frame_from (n + 1) (given_after n q given) qs)) (ap (λ s. first_that_holds (tests given (all_allowed q) s)) said ∙ own_sound given (all_allowed q))
    ∙ stays_open qs (n + 1) (given_after n q given) (with_own_line q section) next kind parts.1

-- The whole text

framed_whole : (framed : Framed) (plan : PlanRec) → plan_of framed ≡ Plan plan → (given : Given) × (framed ≡ Whole given)
framed_whole (Refused line kind) plan e = cc
framed_whole (Whole given) plan e = (given, refl)

-- a plan comes of a text that is not too long, and whose frame is whole
plan_parts : (text : List ℕ) (plan : PlanRec) → system_of text ≡ Plan plan → (nat_lt longest_input (length text) ≡ false) × ((given : Given) × (framed (lines_of text) ≡ Whole given))
unfolding system_of
plan_parts text plan e =
    elim (cases_Bool (nat_lt longest_input (length text))) [
      | inl long ↦ let no : Frame 0 TooLong ≡ Plan plan = sym (cond-true _ _ _ long) ∙ e in cc
      | inr short ↦ (short, framed_whole (framed (lines_of text)) plan (sym (cond-false _ _ _ short) ∙ e))
    ]

whole_from : (ls : List (List ℕ)) (given : Given) → framed ls ≡ Whole given → frame_from 1 nothing_given ls ≡ Whole given
unfolding framed
whole_from ls given e =
    elim (cases_Bool (have_no_words ls)) [
      | inl none ↦ let no : Refused 1 FirstLine ≡ Whole given = sym (cond-true _ _ _ none) ∙ e in cc
      | inr some ↦ sym (cond-false _ _ _ some) ∙ e
    ]

framed_from : (ls : List (List ℕ)) (to : Framed) → have_no_words ls ≡ false → frame_from 1 nothing_given ls ≡ to → framed ls ≡ to
unfolding framed
framed_from ls to some e = cond-false _ _ _ some ∙ e

-- the line after which the section is read
opened : (before : List (List ℕ)) (opening : List ℕ) (kind : SectionKind) → says (given_by before) opening ≡ Form (Section kind)
    → (given_by (before ++ opening ∷ [])).reading ≡ Some (record { kind = kind; line = 1 + length before; lines = [] })
opened before opening kind e =
    ap (λ (g : Given). g.reading) (given_at_last before opening 1 nothing_given) ∙ ap (λ s. (given_with (1 + length before) opening s (given_by before)).reading) e

-- the lines of what is left, in the section
none_ends : (text part : List ℕ) (line : ℕ) → (c : IsCutInside text part line) → lines_of part ≡ lines_of c.front ++ lines_of c.left → list_any is_end (lines_of c.left) ≡ false
none_ends text part line c e =
    none_left (lines_of c.left) c.ending.own c.ending.begun
    (subst (λ (ls : List (List ℕ)). AreFirstOf (lines_of c.left) ls) c.ending.up_to_d (cut_lines c.left c.lost))
    c.ending.none_ends
    (open_after (lines_of c.front) (lines_of c.left) (subst (λ (ls : List (List ℕ)). EndsOpen ls) (sym c.lines ∙ e) (last_open c.before_last c.last c.no_end)))

lines_past : (front : List ℕ) (line : ℕ) (rest : List ℕ) → EndWithOpening front line → lines_of (front ++ rest) ≡ lines_of front ++ lines_of rest
lines_past front line rest o =
    ap (λ t. lines_of (t ++ rest)) o.feed ∙ (lines_after_feed o.up rest ∙ ap (λ t. lines_of t ++ lines_of rest) (sym o.feed))

cut_framed : (text part : List ℕ) (line : ℕ) (given : Given) → framed (lines_of text) ≡ Whole given → IsCutInside text part line → framed (lines_of part) ≡ Refused line SectionNotEnded
cut_framed text part line given e c =
    let o = c.opening in
    let others = (c.left ++ c.lost) ++ 100 ∷ c.others in
    let ls = o.before ++ o.opening ∷ [] in
    let text_lines : lines_of text ≡ ls ++ lines_of others =
    ap (λ t. lines_of t) c.whole ∙ (lines_past c.front line others o ∙ ap (λ f. f ++ lines_of others) o.lines) in
    let front_lines : lines_of part ≡ lines_of c.front ++ lines_of c.left = ap (λ t. lines_of t) c.cut ∙ lines_past c.front line c.left o in
    let part_lines : lines_of part ≡ ls ++ lines_of c.left = front_lines ∙ ap (λ f. f ++ lines_of c.left) o.lines in
    let words : is_empty (words_of_line o.opening) ≡ false =
    form_has_words (given_by o.before).edition (given_by o.before).reading (words_of_line o.opening) (Section o.kind)
    (sym (says_is (given_by o.before).edition (given_by o.before).reading o.opening) ∙ o.begins) in
    let count : 1 + length o.before ≡ line = omega (arith, o.number) in
    let to : frame_from 1 nothing_given (ls ++ lines_of c.left) ≡ Refused line SectionNotEnded =
    passed ls (lines_of c.left) (lines_of others) 1 nothing_given given (Refused line SectionNotEnded)
    (ap (λ x. frame_from 1 nothing_given x) (sym text_lines) ∙ whole_from (lines_of text) given e)
    (λ m.
    stays_open (lines_of c.left) m (given_by ls) (record { kind = o.kind; line = 1 + length o.before; lines = [] })
    (opened o.before o.opening o.kind o.begins) o.no_schedule (none_ends text part line c front_lines)
    ∙ ap (λ n. Refused n SectionNotEnded) count) in
    ap (λ x. framed x) part_lines ∙ framed_from (ls ++ lines_of c.left) (Refused line SectionNotEnded) (words_at_last o.before o.opening (lines_of c.left) words) to

-- no part is longer than its text
short_too : (m n : ℕ) → nat_lt longest_input n ≡ false → m ≤ n → nat_lt longest_input m ≡ false
short_too m n e l = grind (arith, nat_tests)

part_length : (text part : List ℕ) (line : ℕ) → IsCutInside text part line → length part ≤ length text
part_length text part line c =
    let t : length text ≡ length c.front + (length c.left + length c.lost + suc (length c.others)) =
    ap (λ x. length x) c.whole ∙ (simp length-append) in
    let p : length part ≡ length c.front + length c.left = ap (λ x. length x) c.cut ∙ length-append c.front c.left in
    omega (arith, t, p)

pub cut_refused : (text part : List ℕ) (plan : PlanRec) (line : ℕ) → system_of text ≡ Plan plan → IsCutInside text part line → system_of part ≡ Frame line SectionNotEnded
unfolding system_of
cut_refused text part plan line e c =
    let parts = plan_parts text plan e in
    cond-false _ _ _ (short_too (length part) (length text) parts.0 (part_length text part line c))
    ∙ ap (λ f. plan_of f) (cut_framed text part line parts.1.0 parts.1.1 c)
