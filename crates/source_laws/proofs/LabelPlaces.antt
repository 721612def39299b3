-- A label stands at the layout before the first line that has it.
use Rattle.std.proofs.Common.{◌≡◌, ℕ, suc, ◌+◌, ◌-◌, Bool, true, false, cond, ◌||◌, ◌&&◌, not, List, [], ◌∷◌, ◌++◌, map, take, Option, Some, None, option_map, refl, sym, ap, ◌∙◌, subst, arith, inl, inr}
use Rattle.std.specs.Prelude.{is_some, is_none, fold}
use Rattle.std.specs.List.{list_any, position_from}
use Rattle.std.proofs.lemmas.Bool.{cases_Bool, false≢true}
use Rattle.xs_text.specs.Lines.{lines_of}
use Rattle.xs_instructions.specs.Image.{ImageRec, same_name, is_reserved, address_of}
use Rattle.source_model.specs.declared.AsmKind.{AsmKind}
use Rattle.source_model.specs.declared.layout.Layout.{Layout}
use Rattle.source_model.specs.declared.layout.Place.{Place}
use Rattle.source_model.specs.Statement.{Line, line_of}
use Rattle.source_model.specs.Layout.{Label, place_of, Sofar, nothing_yet, here, moved, define, define_all, after_line, after_lines, whole_of, address_in}
use Rattle.source_model.specs.Source.{Image, assembled, outcome, first_fault, image_of}
use Rattle.source_laws.specs.LabelPlaces.{has_label, moved_by_line, layout_of_lines, layout_before, label_place}
use Rattle.source_laws.proofs.Words.{same_name-Decides}
use Rattle.source_laws.proofs.Labels.{address_of-labels}

-- the first of two places, if there is one
abbrev or_place : Option Place → Option Place → Option Place
or_place None then = then
or_place (Some place) then = Some place

or_place-none : (o : Option Place) → or_place o None ≡ o
or_place-none None = refl
or_place-none (Some place) = refl

or_place-assoc : (a b c : Option Place) → or_place (or_place a b) c ≡ or_place a (or_place b c)
or_place-assoc None b c = refl
or_place-assoc (Some place) b c = refl

or_place-there : (o then : Option Place) → is_some o ≡ true → or_place o then ≡ o
or_place-there None then h = absurd (false≢true h)
or_place-there (Some place) then h = refl

abbrev place_if : Bool → Place → Option Place
place_if b place = cond b (Some place) None

-- one label more at the end
place_first : (b : Bool) (place : Place) (o then : Option Place) → cond b (Some place) (or_place o then) ≡ or_place (cond b (Some place) o) then
place_first true place o then = refl
place_first false place o then = refl

place_pushed : (labels : List Label) (own : List ℕ) (place : Place) (name : List ℕ) → place_of (labels ++ (own, place) ∷ []) name ≡ or_place (place_of labels name) (place_if (same_name own name) place)
unfolding place_of
place_pushed [] own place name = refl
place_pushed (label ∷ labels) own place name =
    ap (λ o. cond (same_name label.0 name) (Some label.1) o) (place_pushed labels own place name)
    ∙ place_first (same_name label.0 name) label.1 (place_of labels name) (place_if (same_name own name) place)

-- nothing where the second test fails
or_place-else : (o : Option Place) (b c : Bool) (place : Place) → c ≡ false → or_place o (place_if (b && c) place) ≡ o
or_place-else o true c place e = ap (λ d. or_place o (place_if d place)) e ∙ or_place-none o
or_place-else o false c place e = or_place-none o

kept_or_pushed : (labels : List Label) (own : List ℕ) (place : Place) (name : List ℕ) → same_name own name ≡ false → (b : Bool) → place_of (cond b labels (labels ++ (own, place) ∷ [])) name ≡ place_of labels name
kept_or_pushed labels own place name other true = refl
kept_or_pushed labels own place name other false =
    place_pushed labels own place name ∙ (ap (λ c. or_place (place_of labels name) (place_if c place)) other ∙ or_place-none (place_of labels name))

-- a name that is defined: a reserved one, or one that was defined before, changes nothing
place_defined : (labels : List Label) (own : List ℕ) (place : Place) (name : List ℕ) → place_of (define place own labels) name ≡ or_place (place_of labels name) (place_if (not (is_reserved name) && same_name own name) place)
place_defined labels own place name =
    elim (cases_Bool (same_name own name)) [
      | inl same ↦
          let e : own ≡ name = (same_name-Decides own name).0 same in
          subst (λ n. place_of (define place own labels) n ≡ or_place (place_of labels n) (place_if (not (is_reserved n) && same_name own n) place)) e (own_defined labels own place)
      | inr other ↦ other_defined labels own place name other
    ]
  where
    own_defined : (labels : List Label) (own : List ℕ) (place : Place) → place_of (define place own labels) own ≡ or_place (place_of labels own) (place_if (not (is_reserved own) && same_name own own) place)
    own_defined labels own place =
        elim (cases_Bool (is_reserved own)) [
          | inl reserved ↦ rw (reserved) (sym (or_place-none (place_of labels own)))
          | inr free ↦ elim (cases_Bool (is_some (place_of labels own))) [
            | inl there ↦ rw (free, there) (sym (or_place-there (place_of labels own) _ there))
            | inr new ↦ rw (free, new) (place_pushed labels own place own)
          ]
        ]

    other_defined : (labels : List Label) (own : List ℕ) (place : Place) (name : List ℕ) → same_name own name ≡ false → place_of (define place own labels) name ≡ or_place (place_of labels name) (place_if (not (is_reserved name) && same_name own name) place)
    other_defined labels own place name other =
        kept_or_pushed labels own place name other (is_reserved own || is_some (place_of labels own))
        ∙ sym (or_place-else (place_of labels name) (not (is_reserved name)) (same_name own name) place other)

either : (free same others : Bool) (place : Place) → or_place (place_if (free && same) place) (place_if (free && others) place) ≡ place_if (free && (same || others)) place
either true true others place = refl
either true false others place = refl
either false same others place = refl

-- all names of a line
place_defined_all : (place : Place) (names : List (List ℕ)) (labels : List Label) (name : List ℕ)
    → place_of (define_all place names labels) name ≡ or_place (place_of labels name) (place_if (not (is_reserved name) && list_any (λ own. same_name own name) names) place)
unfolding define_all
place_defined_all place [] labels name = sym (or_place-else (place_of labels name) (not (is_reserved name)) false place refl)
place_defined_all place (own ∷ names) labels name =
    let free = not (is_reserved name) in
    let others = list_any (λ own. same_name own name) names in
    place_defined_all place names (define place own labels) name
    ∙ (ap (λ o. or_place o (place_if (free && others) place)) (place_defined labels own place name)
    ∙ (or_place-assoc (place_of labels name) (place_if (free && same_name own name) place) (place_if (free && others) place)
    ∙ ap (or_place (place_of labels name)) (either free (same_name own name) others place)))

-- one line
placed_unless : (b : Bool) (before : Sofar) (line : Line) (name : List ℕ)
    → place_of (cond b before (record { layout = moved before.layout line.statement; labels = define_all (here before.layout) line.labels before.labels })).labels name
    ≡ or_place (place_of before.labels name) (place_if (not b && (not (is_reserved name) && list_any (λ own. same_name own name) line.labels)) (here before.layout))
placed_unless true before line name = sym (or_place-none (place_of before.labels name))
placed_unless false before line name = place_defined_all (here before.layout) line.labels before.labels name

placed_by_line : (before : Sofar) (line : Line) (name : List ℕ) → place_of (after_line before line).labels name ≡ or_place (place_of before.labels name) (place_if (has_label name line) (here before.layout))
placed_by_line before line name = placed_unless line.bad_byte before line name

laid_unless : (b : Bool) (before : Sofar) (line : Line)
    → (cond b before (record { layout = moved before.layout line.statement; labels = define_all (here before.layout) line.labels before.labels })).layout ≡ cond b before.layout (moved before.layout line.statement)
laid_unless true before line = refl
laid_unless false before line = refl

laid_by_line : (before : Sofar) (line : Line) → (after_line before line).layout ≡ moved_by_line before.layout line
laid_by_line before line = laid_unless line.bad_byte before line

pub layout_of-whole : (before : Sofar) (lines : List Line) → (after_lines before lines).layout ≡ fold moved_by_line before.layout lines
unfolding after_lines
layout_of-whole before [] = refl
layout_of-whole before (line ∷ lines) = layout_of-whole (after_line before line) lines ∙ ap (λ l. fold moved_by_line l lines) (laid_by_line before line)

-- all lines, which count from 0 here
abbrev place_at : Layout → List Line → ℕ → Place
place_at layout lines k = here (fold moved_by_line layout (take k lines))

abbrev place_from : Layout → List Line → List ℕ → Option Place
place_from layout lines name = option_map (place_at layout lines) (position_from (has_label name) 0 lines)

next_by : (b : Bool) (n : ℕ) (later earlier : Option ℕ) → later ≡ option_map suc earlier → cond b (Some (suc n)) later ≡ option_map suc (cond b (Some n) earlier)
next_by true n later earlier e = refl
next_by false n later earlier e = e

next_number : {X : Type 0} (p : X → Bool) (n : ℕ) (xs : List X) → position_from p (suc n) xs ≡ option_map suc (position_from p n xs)
next_number p n [] = refl
next_number p n (x ∷ xs) =
    let e : suc n + 1 ≡ suc (n + 1) = omega arith in
    next_by (p x) n (position_from p (suc n + 1) xs) (position_from p (n + 1) xs) (ap (λ m. position_from p m xs) e ∙ next_number p (n + 1) xs)

place_later : (layout : Layout) (line : Line) (lines : List Line) (o : Option ℕ) → option_map (place_at (moved_by_line layout line) lines) o ≡ option_map (place_at layout (line ∷ lines)) (option_map suc o)
place_later layout line lines None = refl
place_later layout line lines (Some k) = refl

place_from-cons : (layout : Layout) (line : Line) (lines : List Line) (name : List ℕ) → or_place (place_if (has_label name line) (here layout)) (place_from (moved_by_line layout line) lines name) ≡ place_from layout (line ∷ lines) name
place_from-cons layout line lines name = by_line layout line lines name (has_label name line) where
  by_line : (layout : Layout) (line : Line) (lines : List Line) (name : List ℕ) (b : Bool) → or_place (place_if b (here layout)) (place_from (moved_by_line layout line) lines name) ≡ option_map (place_at layout (line ∷ lines)) (cond b (Some 0) (position_from (has_label name) (0 + 1) lines))
  by_line layout line lines name true = refl
  by_line layout line lines name false =
      place_later layout line lines (position_from (has_label name) 0 lines)
      ∙ ap (option_map (place_at layout (line ∷ lines))) (sym (next_number (has_label name) 0 lines))

placed : (before : Sofar) (lines : List Line) (name : List ℕ) → place_of (after_lines before lines).labels name ≡ or_place (place_of before.labels name) (place_from before.layout lines name)
unfolding after_lines
placed before [] name = sym (or_place-none (place_of before.labels name))
placed before (line ∷ lines) name =
    placed (after_line before line) lines name
    ∙ (ap (λ l. or_place (place_of (after_line before line).labels name) (place_from l lines name)) (laid_by_line before line)
    ∙ (ap (λ o. or_place o (place_from (moved_by_line before.layout line) lines name)) (placed_by_line before line name)
    ∙ (or_place-assoc (place_of before.labels name) (place_if (has_label name line) (here before.layout)) (place_from (moved_by_line before.layout line) lines name)
    ∙ ap (or_place (place_of before.labels name)) (place_from-cons before.layout line lines name))))

-- the same by numbers from 1
by_number : (lines : List Line) (o : Option ℕ) → option_map (place_at nothing_yet.layout lines) o ≡ option_map (λ number. here (layout_before lines number)) (option_map suc o)
by_number lines None = refl
by_number lines (Some k) = let e : suc k - 1 ≡ k = omega arith in ap (λ n. Some (place_at nothing_yet.layout lines n)) (sym e)

pub place_is : (lines : List Line) (name : List ℕ) → place_of (whole_of lines).labels name ≡ label_place lines name
unfolding place_of
place_is lines name =
    placed nothing_yet lines name
    ∙ (by_number lines (position_from (has_label name) 0 lines)
    ∙ ap (option_map (λ number. here (layout_before lines number))) (sym (next_number (has_label name) 0 lines)))

none_by : (b : Bool) (place : ℕ → Place) (n : ℕ) (later : Option ℕ) (others : Bool) → is_none (option_map place later) ≡ not others → is_none (option_map place (cond b (Some n) later)) ≡ not (b || others)
none_by true place n later others e = refl
none_by false place n later others e = e

-- no place exactly where no line has the label
none_in : (p : Line → Bool) (place : ℕ → Place) (n : ℕ) (lines : List Line) → is_none (option_map place (position_from p n lines)) ≡ not (list_any p lines)
none_in p place n [] = refl
none_in p place n (line ∷ lines) = none_by (p line) place n (position_from p (n + 1) lines) (list_any p lines) (none_in p place (n + 1) lines)

pub nowhere_is : (lines : List Line) (name : List ℕ) → is_none (place_of (whole_of lines).labels name) ≡ not (list_any (has_label name) lines)
nowhere_is lines name = ap is_none (place_is lines name) ∙ none_in (has_label name) (λ number. here (layout_before lines number)) 1 lines

image_taken : (o : Option (ℕ × AsmKind)) (image taken : ImageRec) → outcome o image ≡ Image taken → image ≡ taken
image_taken None image taken e = cc
image_taken (Some fault) image taken e = cc

pub address_is : (text : List ℕ) (image : ImageRec) (name : List ℕ) → assembled text ≡ Image image
    → address_of image.symbols name ≡ option_map (address_in (layout_of_lines (map line_of (lines_of text)))) (label_place (map line_of (lines_of text)) name)
address_is text image name e =
    let lines = map line_of (lines_of text) in
    ap (λ (i : ImageRec). address_of i.symbols name) (sym (image_taken (first_fault (whole_of lines) nothing_yet 1 lines) (image_of (whole_of lines) lines) image e))
    ∙ (address_of-labels (whole_of lines).layout (whole_of lines).labels name
    ∙ (ap (λ l. option_map (address_in l) (place_of (whole_of lines).labels name)) (layout_of-whole nothing_yet lines)
    ∙ ap (option_map (address_in (layout_of_lines lines))) (place_is lines name)))
