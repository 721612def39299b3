-- A source without faults, line by line.
use Rattle.std.proofs.Common.{◌≡◌, ℕ, suc, ◌≤◌, true, false, List, [], ◌∷◌, map}
use Rattle.std.specs.List.{AllByRecursion}
use Rattle.std.proofs.lemmas.Bool.{not-false, ltb-false}
use Rattle.source_model.specs.declared.AsmKind.{AsmKind}
use Rattle.source_model.specs.declared.AsmKind.TheVariants.{BadByte, NumberOutOfRange, LabelMissing, DirectiveNotAllowed, TooManyInstructions, TooManyBytes}
use Rattle.source_model.specs.Statement.{Line, line_of}
use Rattle.source_model.specs.Layout.{Sofar, may_stand, after_line, after_lines, bytes_length}
use Rattle.source_model.specs.Source.{is_out_of_range, names_missing}
use Rattle.source_laws.specs.Faults.{has_fault_after}
use Rattle.source_laws.proofs.Sound.{IsSound, sound}

-- what is used of a line without faults
pub record IsFine (whole before : Sofar) (line : Line) : Type 0 where
  pub sound : IsSound line
  pub allowed : line.bad_byte ≡ false
  pub stands : may_stand before.layout.section line.statement.home ≡ true
  pub in_range : is_out_of_range whole line.statement.says ≡ false
  pub defined : names_missing whole line.statement.says ≡ false
  pub code_fits : (after_line before line).layout.instructions ≤ 16384
  pub bytes_fit : bytes_length (after_line before line).layout.data_bytes (after_line before line).layout.constant_bytes ≤ 65536

-- the lines are fine, each after those before it
abbrev pub AreFine : Sofar → Sofar → List Line → Type 0
AreFine whole before [] = Unit {0}
AreFine whole before (line ∷ lines) = IsFine whole before line × AreFine whole (after_line before line) lines

pub all_sound : (ls : List (List ℕ)) → AllByRecursion IsSound (map line_of ls)
all_sound [] = tt
all_sound (bytes ∷ ls) = (sound bytes, all_sound ls)

pub all_fine : (whole before : Sofar) (lines : List Line) → AllByRecursion IsSound lines
    → ((m : ℕ) (k : AsmKind) → has_fault_after k whole before m lines ≡ false) → AreFine whole before lines
unfolding has_fault_after
all_fine whole before [] s h = tt
all_fine whole before (line ∷ lines) s h =
    let head : IsFine whole before line = record {
      sound = s.0;
      allowed = h 0 BadByte;
      stands = not-false _ (h 0 DirectiveNotAllowed);
      in_range = h 0 NumberOutOfRange;
      defined = h 0 LabelMissing;
      code_fits = ltb-false _ _ (h 0 TooManyInstructions);
      bytes_fit = ltb-false _ _ (h 0 TooManyBytes);
    } in
    (head, all_fine whole (after_line before line) lines s.1 (λ m k. h (suc m) k))

-- what all lines say fits, if what comes before does
pub all_code_fits : (whole before : Sofar) (lines : List Line) → AreFine whole before lines → before.layout.instructions ≤ 16384
    → (after_lines before lines).layout.instructions ≤ 16384
unfolding after_lines
all_code_fits whole before [] h fits = fits
all_code_fits whole before (line ∷ lines) h fits = all_code_fits whole (after_line before line) lines h.1 h.0.code_fits

pub all_bytes_fit : (whole before : Sofar) (lines : List Line) → AreFine whole before lines → bytes_length before.layout.data_bytes before.layout.constant_bytes ≤ 65536
    → bytes_length (after_lines before lines).layout.data_bytes (after_lines before lines).layout.constant_bytes ≤ 65536
unfolding after_lines
all_bytes_fit whole before [] h fits = fits
all_bytes_fit whole before (line ∷ lines) h fits = all_bytes_fit whole (after_line before line) lines h.1 h.0.bytes_fit
