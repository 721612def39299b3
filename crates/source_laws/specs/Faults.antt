-- The fault of a source in the reader's words: nine predicates on a line's number and the whole text.
use Rattle.std.specs.Prelude.{ℕ, zero, suc, Bool, false, List, [], ◌∷◌, map}
use Rattle.xs_text.specs.Lines.{lines_of}
use Rattle.source_model.specs.declared.AsmKind.{AsmKind}
use Rattle.source_model.specs.LeastLine.{IsFirstFault, HasNoFault}
use Rattle.source_model.specs.Statement.{Line, line_of}
use Rattle.source_model.specs.Layout.{Sofar, nothing_yet, after_line, whole_of}
use Rattle.xs_instructions.specs.Image.{ImageRec}
use Rattle.source_model.specs.Source.{has_kind, order, image_of}

-- whether line i + 1 of some lines has a fault of the kind, after the lines that come before them
unfoldable pub has_fault_after : AsmKind → Sofar → Sofar → ℕ → List Line → Bool
has_fault_after kind whole before i [] = false
has_fault_after kind whole before zero (line ∷ lines) = has_kind kind whole before line
has_fault_after kind whole before (suc i) (line ∷ lines) = has_fault_after kind whole (after_line before line) i lines

-- whether the line with a number, from 1, has a fault of the kind; there is no line 0
abbrev pub has_fault_in : AsmKind → ℕ → List Line → Bool
has_fault_in kind zero lines = false
has_fault_in kind (suc i) lines = has_fault_after kind (whole_of lines) nothing_yet i lines

-- the nine predicates
abbrev pub has_fault : List ℕ → AsmKind → ℕ → Bool
has_fault text kind number = has_fault_in kind number (map line_of (lines_of text))

-- The line is the least that has a fault, and the kind the first in the order of which it has one.
abbrev pub IsFirstSourceFault : List ℕ → ℕ → AsmKind → Type 0
IsFirstSourceFault text number kind = IsFirstFault (has_fault text) order number kind

-- No line has a fault.
abbrev pub HasNoSourceFault : List ℕ → Type 0
HasNoSourceFault text = HasNoFault (has_fault text)

-- the image of the text's lines, which a source without faults stands for
abbrev pub image_of_text : List ℕ → ImageRec
image_of_text text = image_of (whole_of (map line_of (lines_of text))) (map line_of (lines_of text))
