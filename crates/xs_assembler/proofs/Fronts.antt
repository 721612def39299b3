-- The labels of the lines before stand in front of those of all lines.
use Rattle.std.proofs.Common.{◌≡◌, ℕ, ◌+◌, ◌<◌, Bool, true, false, if◌then◌else◌, ◌||◌, List, [], ◌∷◌, ◌++◌, length, take, drop, refl, sym, ap, ◌∙◌, subst, arith, append_assoc, length-append}
use Rattle.std.specs.Prelude.{is_some}
use Rattle.std.proofs.lemmas.List.{take-append-drop, length-take}
use Rattle.std.proofs.Math.Seq.{take-append_seam, take-length}
use Rattle.xs_instructions.specs.Image.{is_reserved}
use Rattle.source_model.specs.declared.layout.Layout.{Layout}
use Rattle.source_model.specs.declared.layout.Place.{Place}
use Rattle.source_model.specs.Statement.{Line}
use Rattle.source_model.specs.Layout.{Label, place_of, Sofar, define, define_all, after_line, after_lines, here}
use Rattle.source_model.specs.Source.{defines_twice}
use Rattle.xs_assembler.specs.Names.{IsFront}
use Rattle.xs_assembler.proofs.NameTable.{define_new}
use Rattle.xs_assembler.proofs.LabelSteps.{defined_next, twice_next}

front_split : (front labels : List Label) → IsFront front labels → labels ≡ front ++ drop (length front) labels
front_split front labels h = sym (take-append-drop (length front) labels) ∙ ap (λ ls. ls ++ drop (length front) labels) h

front_less : (front more labels : List Label) → IsFront (front ++ more) labels → IsFront front labels
front_less front more labels h =
    let rest = drop (length (front ++ more)) labels in
    ap (λ ls. take (length front) ls) (front_split (front ++ more) labels h ∙ append_assoc front more rest) ∙ take-append_seam front (more ++ rest)

either : (b : Bool) (front more labels : List Label) → IsFront (if b then front else front ++ more) labels → IsFront front labels
either true front more labels h = h
either false front more labels h = front_less front more labels h

define_front : (place : Place) (name : List ℕ) (front labels : List Label) → IsFront (define place name front) labels → IsFront front labels
define_front place name front labels h = either (is_reserved name || is_some (place_of front name)) front ((name, place) ∷ []) labels h

define_all_front : (place : Place) (names : List (List ℕ)) (front labels : List Label) → IsFront (define_all place names front) labels → IsFront front labels
unfolding define_all
define_all_front place [] front labels h = h
define_all_front place (name ∷ names) front labels h = define_front place name front labels (define_all_front place names (define place name front) labels h)

line_front : (bad : Bool) (before after : Sofar) (labels : List Label) → (IsFront after.labels labels → IsFront before.labels labels) → IsFront (if bad then before else after).labels labels → IsFront before.labels labels
line_front true before after labels f h = h
line_front false before after labels f h = f h

after_line_front : (before : Sofar) (line : Line) (labels : List Label) → IsFront (after_line before line).labels labels → IsFront before.labels labels
after_line_front before line labels h = line_front line.bad_byte before _ labels (define_all_front _ line.labels before.labels labels) h

after_lines_front : (before : Sofar) (lines : List Line) (labels : List Label) → IsFront (after_lines before lines).labels labels → IsFront before.labels labels
unfolding after_lines
after_lines_front before [] labels h = h
after_lines_front before (line ∷ lines) labels h = after_line_front before line labels (after_lines_front (after_line before line) lines labels h)

-- the labels so far stand in front of those after more lines
pub stands_in_front : (before whole : Sofar) (lines : List Line) → after_lines before lines ≡ whole → IsFront before.labels whole.labels
stands_in_front before whole lines e =
    after_lines_front before lines whole.labels (subst (λ (s : Sofar). IsFront s.labels whole.labels) (sym e) (take-length whole.labels))

-- one label more is the next of all
pub next_label : (n : ℕ) (labels : List Label) (label : Label) → IsFront (take n labels ++ label ∷ []) labels → (n < length labels) × (take (n + 1) labels ≡ take n labels ++ label ∷ [])
next_label n labels label h =
    let long = length-append (take n labels) (label ∷ []) in
    let there : n < length labels = omega (arith, ap length h, long, length-take n labels, length-take (length (take n labels ++ label ∷ [])) labels) in
    let next : n + 1 ≡ length (take n labels ++ label ∷ []) = omega (arith, long, length-take n labels, there) in
    (there, ap (λ k. take k labels) next ∙ h)

pub pass_new : (place : Place) (name : List ℕ) (n : ℕ) (labels : List Label) → is_reserved name ≡ false → is_some (place_of (take n labels) name) ≡ false
    → IsFront (define place name (take n labels)) labels → (n < length labels) × (take (n + 1) labels ≡ define place name (take n labels))
pass_new place name n labels free new h =
    let is = define_new place name (take n labels) free new in
    let both = next_label n labels (name, place) (subst (λ (ls : List Label). IsFront ls labels) is h) in
    (both.0, both.1 ∙ sym is)

-- a step over the labels of a line

define_all-cons : (place : Place) (name : List ℕ) (names : List (List ℕ)) (labels : List Label) → define_all place (name ∷ names) labels ≡ define_all place names (define place name labels)
unfolding define_all
define_all-cons place name names labels = refl

step_front : (place : Place) (name : List ℕ) (before after : List (List ℕ)) (old all labels : List Label) → before ≡ name ∷ after → define_all place before old ≡ all → IsFront all labels
    → IsFront (define place name old) labels
step_front place name before after old all labels is inv front =
    define_all_front place after (define place name old) labels
    (subst (λ (ls : List Label). IsFront ls labels)
    (sym inv ∙ (ap (λ ns. define_all place ns old) is ∙ define_all-cons place name after old))
    front)

-- the same where the layout is known to be another

pub step_front_at : (now start : Layout) (name : List ℕ) (before after : List (List ℕ)) (old all labels : List Label) → now ≡ start → before ≡ name ∷ after → define_all (here start) before old ≡ all → IsFront all labels
    → IsFront (define (here now) name old) labels
step_front_at now start name before after old all labels e is inv front =
    subst (λ (l : Layout). IsFront (define (here l) name old) labels) (sym e) (step_front (here start) name before after old all labels is inv front)

pub defined_next_at : (now start : Layout) (name : List ℕ) (before after : List (List ℕ)) (old new all : List Label) → now ≡ start → before ≡ name ∷ after → new ≡ define (here now) name old
    → define_all (here start) before old ≡ all → define_all (here start) after new ≡ all
defined_next_at now start name before after old new all e is defines inv =
    defined_next (here start) name before after old new all is (defines ∙ ap (λ (l : Layout). define (here l) name old) e) inv

pub twice_next_at : (now start : Layout) (name : List ℕ) (before after : List (List ℕ)) (old new : List Label) (twice found later all : Bool) → now ≡ start → before ≡ name ∷ after → new ≡ define (here now) name old
    → found ≡ is_some (place_of old name) → later ≡ (twice || found)
    → (twice || defines_twice (here start) old before) ≡ all → (later || defines_twice (here start) new after) ≡ all
twice_next_at now start name before after old new twice found later all e is defines finds joins inv =
    twice_next (here start) name before after old new twice found later all is (defines ∙ ap (λ (l : Layout). define (here l) name old) e) finds joins inv
