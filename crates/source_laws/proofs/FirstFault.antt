-- The recursion over the lines gives the least faulty line and the first kind of its faults.
use Rattle.std.proofs.Common.{◌≡◌, ℕ, zero, suc, ◌+◌, Bool, false, List, [], ◌∷◌, Option, Some, None, refl, sym, ap, ◌∙◌, map, get_or}
use Rattle.std.specs.Prelude.{find}
use Rattle.source_model.specs.declared.AsmKind.{AsmKind}
use Rattle.source_model.specs.declared.AsmKind.TheVariants.{BadByte, UnknownName, WrongOperands, NumberOutOfRange, LabelTwice, LabelMissing, DirectiveNotAllowed, TooManyInstructions, TooManyBytes}
use Rattle.xs_text.specs.Lines.{lines_of}
use Rattle.xs_instructions.specs.Image.{ImageRec}
use Rattle.source_model.specs.Statement.{Line, line_of}
use Rattle.source_model.specs.Layout.{Sofar, nothing_yet, after_line, whole_of}
use Rattle.source_model.specs.Source.{order, fault_of_line, or_fault, first_fault, Image, Fault, outcome, assembled}
use Rattle.source_model.proofs.LeastLine.{none_of_each, first_in, fault_in, Tells, first_is_least, least_is_first, none_has_none, no_fault_none}
use Rattle.source_laws.specs.Faults.{has_fault_after, has_fault_in, IsFirstSourceFault, HasNoSourceFault, image_of_text}

-- of no kind in the order, so of none
none_at : (p : AsmKind → Bool) → find p order ≡ None → (k : AsmKind) → p k ≡ false
none_at p e k =
    let all = none_of_each p order e in
    elim k as (λ k. p k ≡ false) [
      | BadByte ↦ all.0
      | UnknownName ↦ all.1.1.1.0
      | WrongOperands ↦ all.1.1.1.1.0
      | NumberOutOfRange ↦ all.1.1.1.1.1.0
      | LabelTwice ↦ all.1.0
      | LabelMissing ↦ all.1.1.1.1.1.1.0
      | DirectiveNotAllowed ↦ all.1.1.0
      | TooManyInstructions ↦ all.1.1.1.1.1.1.1.0
      | TooManyBytes ↦ all.1.1.1.1.1.1.1.1.0
    ]

-- what each line has
unfoldable faults_of : Sofar → Sofar → List Line → List (Option AsmKind)
faults_of whole before [] = []
faults_of whole before (line ∷ lines) = fault_of_line whole before line ∷ faults_of whole (after_line before line) lines

-- the recursion over the lines gives the first of those
first_of_all : (whole before : Sofar) (number : ℕ) (lines : List Line) → first_fault whole before number lines ≡ first_in number (faults_of whole before lines)
unfolding first_fault faults_of
first_of_all whole before number [] = refl
first_of_all whole before number (line ∷ lines) = step number (first_fault whole (after_line before line) (number + 1) lines) (faults_of whole (after_line before line) lines) (fault_of_line whole before line) (first_of_all whole (after_line before line) (number + 1) lines) where
  step : (number : ℕ) (later : Option (ℕ × AsmKind)) (faults : List (Option AsmKind)) (fault : Option AsmKind) → later ≡ first_in (number + 1) faults → or_fault number fault later ≡ first_in number (fault ∷ faults)
  step number later faults (Some kind) e = refl
  step number later faults None e = e

first_kind : (whole before : Sofar) (i : ℕ) (lines : List Line) → find (λ k. has_fault_after k whole before i lines) order ≡ get_or (faults_of whole before lines) i None
unfolding has_fault_after faults_of
first_kind whole before i [] = refl
first_kind whole before zero (line ∷ lines) = refl
first_kind whole before (suc i) (line ∷ lines) = first_kind whole (after_line before line) i lines

first_kind_in : (lines : List Line) (n : ℕ) → find (λ k. has_fault_in k n lines) order ≡ fault_in n (faults_of (whole_of lines) nothing_yet lines)
first_kind_in lines zero = refl
first_kind_in lines (suc i) = first_kind (whole_of lines) nothing_yet i lines

tells : (lines : List Line) → Tells (λ k n. has_fault_in k n lines) order (faults_of (whole_of lines) nothing_yet lines)
tells lines = record { first = first_kind_in lines; complete = λ n e. none_at (λ k. has_fault_in k n lines) e }

pub absent : (lines : List Line) → first_fault (whole_of lines) nothing_yet 1 lines ≡ None → (m : ℕ) (j : AsmKind) → has_fault_after j (whole_of lines) nothing_yet m lines ≡ false
absent lines h m j = none_has_none _ _ _ (tells lines) (sym (first_of_all (whole_of lines) nothing_yet 1 lines) ∙ h) (suc m) j

-- the same of a text
outcome_fault : (o : Option (ℕ × AsmKind)) (image : ImageRec) (line : ℕ) (kind : AsmKind) → outcome o image ≡ Fault line kind → o ≡ Some (line, kind)
outcome_fault None image line kind e = cc
outcome_fault (Some fault) image line kind e =
    let a : fault.0 ≡ line = cc in
    let b : fault.1 ≡ kind = cc in
    ap (λ n. Some (n, fault.1)) a ∙ ap (λ k. Some (line, k)) b

outcome_image : (o : Option (ℕ × AsmKind)) (image taken : ImageRec) → outcome o image ≡ Image taken → o ≡ None
outcome_image None image taken e = refl
outcome_image (Some fault) image taken e = cc

abbrev lines_in : List ℕ → List Line
lines_in text = map line_of (lines_of text)

first_of_text : (text : List ℕ) → first_fault (whole_of (lines_in text)) nothing_yet 1 (lines_in text) ≡ first_in 1 (faults_of (whole_of (lines_in text)) nothing_yet (lines_in text))
first_of_text text = first_of_all (whole_of (lines_in text)) nothing_yet 1 (lines_in text)

pub refused_at : (text : List ℕ) (line : ℕ) (kind : AsmKind) → assembled text ≡ Fault line kind → IsFirstSourceFault text line kind
refused_at text line kind e = first_is_least _ _ _ (tells (lines_in text)) line kind (sym (first_of_text text) ∙ outcome_fault _ _ line kind e)

pub faulty_at : (text : List ℕ) (line : ℕ) (kind : AsmKind) → IsFirstSourceFault text line kind → assembled text ≡ Fault line kind
faulty_at text line kind h = ap (λ o. outcome o (image_of_text text)) (first_of_text text ∙ least_is_first _ _ _ (tells (lines_in text)) line kind h)

pub taken_at : (text : List ℕ) (image : ImageRec) → assembled text ≡ Image image → HasNoSourceFault text
taken_at text image e = none_has_none _ _ _ (tells (lines_in text)) (sym (first_of_text text) ∙ outcome_image _ _ image e)

pub faultless_at : (text : List ℕ) → HasNoSourceFault text → assembled text ≡ Image (image_of_text text)
faultless_at text h = ap (λ o. outcome o (image_of_text text)) (first_of_text text ∙ no_fault_none _ _ _ (tells (lines_in text)) h)
