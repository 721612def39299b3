-- The fault of a frame in the reader's words: that of the least line that has one. Lines count from 1.
use Rattle.std.specs.Prelude.{ℕ, zero, suc, ◌+◌, Bool, false, List, [], ◌∷◌}
use Rattle.xs_text.specs.Bytes.{all_allowed}
use Rattle.source_model.specs.LeastLine.{IsFirstFault, HasNoFault}
use Rattle.system_model.specs.declared.SysKind.{SysKind}
use Rattle.system_model.specs.Frame.{Given, Framed, nothing_given, given_after, says, has_frame_kind, frame_order, at_the_end}

-- Whether line i + 1 of some lines has a fault of the kind, after what is given. The first of them is line n of the text.
unfoldable pub has_frame_fault_after : SysKind → ℕ → Given → ℕ → List (List ℕ) → Bool
has_frame_fault_after kind n given i [] = false
has_frame_fault_after kind n given zero (l ∷ ls) = has_frame_kind kind given (all_allowed l) (says given l)
has_frame_fault_after kind n given (suc i) (l ∷ ls) = has_frame_fault_after kind (n + 1) (given_after n l given) i ls

-- whether the line with a number, from 1, has a fault of the kind; there is no line 0
abbrev pub has_frame_fault : List (List ℕ) → SysKind → ℕ → Bool
has_frame_fault ls kind zero = false
has_frame_fault ls kind (suc i) = has_frame_fault_after kind 1 nothing_given i ls

-- The line is the least that has a fault, and the kind the first in the order of which it has one.
abbrev pub IsFirstFrameFault : List (List ℕ) → ℕ → SysKind → Type 0
IsFirstFrameFault ls number kind = IsFirstFault (has_frame_fault ls) frame_order number kind

-- No line has a fault.
abbrev pub HasNoFrameFault : List (List ℕ) → Type 0
HasNoFrameFault ls = HasNoFault (has_frame_fault ls)

-- what lines give after what is given, the first of them being line n of the text
unfoldable pub given_after_lines : ℕ → Given → List (List ℕ) → Given
given_after_lines n given [] = given
given_after_lines n given (l ∷ ls) = given_after_lines (n + 1) (given_after n l given) ls

-- what all lines of a text give
abbrev pub given_by : List (List ℕ) → Given
given_by ls = given_after_lines 1 nothing_given ls

-- what the end of a text decides
abbrev pub decided_at_the_end : List (List ℕ) → Framed
decided_at_the_end ls = at_the_end (given_by ls) (given_by ls).reading
