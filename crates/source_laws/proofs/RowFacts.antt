-- What all forms of the table have in common, row by row.
use Rattle.std.proofs.Common.{◌≡◌, ℕ, Bool, true, false, ◌&&◌, ◌||◌, ◌==◌, List, [], ◌∷◌, refl, nat_lt, nat_le}
use Rattle.std.specs.List.{list_all}
use Rattle.xs_text.specs.Bytes.{all_allowed, begins_with}
use Rattle.xs_text.specs.Tokens.{is_name}
use Rattle.xs_instructions.specs.declared.rows.Part.{Part}
use Rattle.xs_instructions.specs.declared.rows.Part.TheVariants.{Register, Exactly, Label, Word}
use Rattle.xs_instructions.specs.declared.rows.Row.{Row}
use Rattle.xs_instructions.specs.declared.rows.Row.TheVariants as row
use Rattle.xs_instructions.specs.Words.{same_name}
use Rattle.xs_instructions.specs.Rows.{name_of, parts_of}

-- whether a register, a fixed word or a fixed number that a row itself names is there
abbrev pub names_what_is : Part → Bool
names_what_is (Register n) = nat_lt n 16
names_what_is (Word n) = nat_lt n 16
names_what_is (Exactly n) = nat_lt n 65536
names_what_is _ = true

pub rows_name_what_is : (r : Row) → list_all names_what_is (parts_of r) ≡ true
rows_name_what_is row.Add = refl
rows_name_what_is _ = refl

-- the marks are the last of the fixed words
abbrev pub is_mark_part : Part → Bool
is_mark_part (Word n) = nat_le 11 n
is_mark_part _ = false

-- whether a mark stands between any two names or numbers
abbrev pub are_parted : List Part → Bool
are_parted [] = true
are_parted (p ∷ []) = true
are_parted (p ∷ q ∷ parts) = (is_mark_part p || is_mark_part q) && are_parted (q ∷ parts)

pub rows_are_parted : (r : Row) → are_parted (parts_of r) ≡ true
rows_are_parted row.Add = refl
rows_are_parted _ = refl

abbrev pub is_comma : Part → Bool
is_comma (Word n) = 11 == n
is_comma _ = false

-- whether each label stands first or behind a comma
abbrev pub labels_clear : Bool → List Part → Bool
labels_clear clear [] = true
labels_clear clear (Label ∷ parts) = clear && labels_clear false parts
labels_clear clear (p ∷ parts) = labels_clear (is_comma p) parts

pub rows_labels_clear : (r : Row) → labels_clear true (parts_of r) ≡ true
rows_labels_clear row.Add = refl
rows_labels_clear _ = refl

abbrev pub begins_with_colon : List Part → Bool
begins_with_colon [] = false
begins_with_colon (Word n ∷ parts) = 12 == n
begins_with_colon (p ∷ parts) = false

pub rows_no_colon : (r : Row) → begins_with_colon (parts_of r) ≡ false
rows_no_colon row.Add = refl
rows_no_colon _ = refl

-- what the name of a row is as a token
pub record IsRowName (name : List ℕ) : Type 0 where
  pub named : is_name name ≡ true
  pub no_comma : same_name (44 ∷ []) name ≡ false
  pub no_directive : begins_with 46 name ≡ false
  pub allowed : all_allowed name ≡ true

pub rows_have_names : (r : Row) → IsRowName (name_of r)
rows_have_names row.Add = record { named = refl; no_comma = refl; no_directive = refl; allowed = refl }
rows_have_names _ = record { named = refl; no_comma = refl; no_directive = refl; allowed = refl }
