-- Forms: what stands at each place of a line, one after another. A line has a form up to the first token that does not fit.
use Rattle.std.specs.Prelude.{ℕ, Bool, true, false, ◌||◌, ◌&&◌, ◌==◌, nat_lt, nat_le, if◌then◌else◌, Option, Some, None, List, [], ◌∷◌}
use Rattle.xs_text.specs.Tokens.{Token}
use Rattle.xs_text.specs.Numbers.{source_number_of, at_most}
use Rattle.xs_instructions.specs.declared.rows.Part.{Part}
use Rattle.xs_instructions.specs.declared.rows.Part.TheVariants.{Common, Register, Short, Label, Word}
use Rattle.xs_instructions.specs.declared.rows.Row.{Row}
use Rattle.xs_instructions.specs.declared.shape.Shape.{Shape}
use Rattle.xs_instructions.specs.declared.shape.Shape.TheVariants as shape
use Rattle.xs_instructions.specs.Image.{same_name}
use Rattle.xs_instructions.specs.Rows.{name_of, parts_of}
use Rattle.xs_instructions.specs.Find.{shape_fits, is_in_range}
use Rattle.source_model.specs.declared.layout.Section.{Section}
use Rattle.source_model.specs.declared.layout.Section.TheVariants.{Data, Constants}
use Rattle.source_model.specs.Operands.{shape_by_kind}
use Rattle.source_model.specs.Statement.{is_name_kind, is_number_kind}
use Rattle.explain_model.specs.declared.Want.{Want}
use Rattle.explain_model.specs.declared.Want.TheVariants as want
use Rattle.explain_model.specs.Placed.{Placed, end_of}
use Rattle.explain_model.specs.Wants.{add_wants}

-- ---- Whether a token may stand at a place

-- the number that a token is, None where it has more than 32 bits
abbrev pub number_of : Token → Option ℕ
number_of t = at_most 4294967295 (source_number_of t.bytes)

abbrev pub is_part_value : Part → Option ℕ → Bool
is_part_value part None = false
is_part_value part (Some value) = is_in_range part value

-- a number has to be in its range too
abbrev pub shape_is_part : Part → Token → Option Shape → Bool
shape_is_part part t None = false
shape_is_part part t (Some shape.Num) = shape_fits part shape.Num && is_part_value part (number_of t)
shape_is_part part t (Some s) = shape_fits part s

abbrev pub fits_part : Part → Token → Bool
fits_part part t = shape_is_part part t (shape_by_kind t.kind None t.bytes)

abbrev pub is_between : ℕ → ℕ → Option ℕ → Bool
is_between least most None = false
is_between least most (Some value) = nat_le least value && nat_le value most

abbrev pub fits_number : ℕ → ℕ → Token → Bool
fits_number least most t = is_number_kind t.kind && is_between least most (number_of t)

abbrev pub fits : Want → Token → Bool
fits (want.Operand part) t = fits_part part t
fits (want.Offset base) t = fits_part Short t || fits_part Label t
fits (want.Number least most) t = fits_number least most t
fits want.AnyName t = is_name_kind t.kind
fits _ t = false

-- ---- The form of a row

-- the section that a register stands for, by its number: that of dp is 13, and that of cp 12
abbrev pub base_of : Part → Option Section
base_of (Register r) = if r == 13 then Some Data else (if r == 12 then Some Constants else None)
base_of _ = None

-- The section whose words a place counts, after two other places: `dp [` and `cp [` are before it. The number of `[` is 13.
abbrev pub base_between : Part → Part → Option Section
base_between second (Word k) = if k == 13 then base_of second else None
base_between second _ = None

abbrev pub want_of : Option Section → Part → Want
want_of (Some base) Short = want.Offset base
want_of _ part = want.Operand part

-- the form of these parts, which come after two others
unfoldable pub form_after : Part → Part → List Part → List Want
form_after second last [] = []
form_after second last (part ∷ parts) = want_of (base_between second last) part ∷ form_after last part parts

-- The form of a row of the instruction table. No part stands before the first.
abbrev pub form_of_row : Row → List Want
form_of_row r = form_after Common Common (parts_of r)

-- ---- How far a line has a form

-- Where a line stops to have a form: the place of the first token that does not fit, or behind the last where all do; and what may stand there,
-- None where the line has the whole form.
pub record Stop : Type 0 where
  pub at : ℕ
  pub all_fit : Bool
  pub want : Option Want

abbrev pub first_want : List Want → Option Want
first_want [] = None
first_want (w ∷ form) = Some w

-- of a form, where the token before the first of these ends at a place
unfoldable pub stop_of : ℕ → List Want → List Placed → Stop
stop_of behind form [] = record { at = behind; all_fit = true; want = first_want form }
stop_of behind [] (p ∷ tokens) = record { at = p.at; all_fit = false; want = Some want.LineEnd }
stop_of behind (w ∷ form) (p ∷ tokens) =
    if fits w p.token then stop_of (end_of p) form tokens else record { at = p.at; all_fit = false; want = Some w }

-- ---- Of several forms the farthest

-- the place where the forms of a line stop that go farthest, and all that may stand there
pub record Spot : Type 0 where
  pub at : ℕ
  pub all_fit : Bool
  pub wants : List Want

abbrev pub spot_of_stop : Stop → Spot
spot_of_stop stop = record { at = stop.at; all_fit = stop.all_fit; wants = add_wants [] stop.want }

-- with one form more
abbrev pub with_stop : Spot → Stop → Spot
with_stop spot stop =
    if nat_lt spot.at stop.at then spot_of_stop stop
    else (if nat_lt stop.at spot.at then spot
    else record { at = spot.at; all_fit = stop.all_fit; wants = add_wants spot.wants stop.want })

-- with those of these rows that have the name
unfoldable pub with_rows : List Row → List ℕ → ℕ → List Placed → Spot → Spot
with_rows [] name behind tokens spot = spot
with_rows (r ∷ rows) name behind tokens spot =
    if same_name (name_of r) name
    then with_rows rows name behind tokens (with_stop spot (stop_of behind (form_of_row r) tokens))
    else with_rows rows name behind tokens spot
