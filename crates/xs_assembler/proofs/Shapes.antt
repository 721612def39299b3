-- Steps of the loop over the operands of an instruction.
use Rattle.std.proofs.Common.{◌≡◌, ℕ, ◌<◌, ◌≤◌, Bool, true, false, ◌&&◌, ◌||◌, List, [], ◌∷◌, ◌++◌, length, Option, Some, None, refl, sym, ap, ◌∙◌, arith, append_assoc, length-append}
use Rattle.std.specs.Prelude.{nat_le, option_and_then, if◌then◌else◌, IfSome}
use Rattle.std.specs.List.{list_all, list_any}
use Rattle.std.proofs.lemmas.List.{append-nil}
use Rattle.std.proofs.lemmas.Bool.{leb-true}
use Rattle.xs_instructions.specs.Table.{parts_of, name_of}
use Rattle.xs_instructions.specs.Image.{same_name}
use Rattle.xs_instructions.specs.Find.{shape_fits, have_form, first_row, find, known}
use Rattle.xs_instructions.specs.declared.rows.Part.{Part}
use Rattle.xs_instructions.specs.declared.rows.Row.{Row}
use Rattle.xs_instructions.specs.declared.rows.TheConstants.{ROWS}
use Rattle.xs_instructions.specs.declared.shape.Shape.{Shape}
use Rattle.source_model.specs.Each.{all_some, put_first}
use Rattle.source_model.specs.Operands as model
use Rattle.source_model.specs.Operands.{shape_of, shapes_of}
use Rattle.xs_assembler.specs.Parts.{HasShapes}

-- all before, and then what a function gives for each of the rest
abbrev pub before_all : {B : Type 0} → List B → Option (List B) → Option (List B)
before_all ys None = None
before_all ys (Some zs) = Some (ys ++ zs)

before_put : {B : Type 0} (ys : List B) (y : B) (o : Option (List B)) → before_all (ys ++ y ∷ []) o ≡ before_all ys (put_first (Some y) o)
before_put ys y None = refl
before_put ys y (Some zs) = ap (λ l. Some l) (append_assoc ys (y ∷ []) zs)

before_nothing : {B : Type 0} (o : Option (List B)) → before_all [] o ≡ o
before_nothing None = refl
before_nothing (Some zs) = refl

pub shapes_first : (ys : List Shape) (operands : List model.Operand) → ys ≡ [] → before_all ys (all_some shape_of operands) ≡ shapes_of operands
shapes_first ys operands e = ap (λ l. before_all l (all_some shape_of operands)) e ∙ before_nothing (all_some shape_of operands)

pub shapes_next : (old rest : List model.Operand) (operand : model.Operand) (shape : Shape) (ys new : List Shape) (all : Option (List Shape))
    → old ≡ operand ∷ rest → Some shape ≡ shape_of operand → new ≡ ys ++ shape ∷ []
    → before_all ys (all_some shape_of old) ≡ all → before_all new (all_some shape_of rest) ≡ all
unfolding all_some
shapes_next old rest operand shape ys new all e is grows inv =
    ap (λ l. before_all l (all_some shape_of rest)) grows
    ∙ (before_put ys shape (all_some shape_of rest)
    ∙ (ap (λ o. before_all ys (put_first o (all_some shape_of rest))) is
    ∙ (ap (λ l. before_all ys (all_some shape_of l)) (sym e) ∙ inv)))

none_of : (operands : List model.Operand) → None ≡ shapes_of operands → HasShapes operands None
none_of operands e = λ name. ap (λ o. option_and_then (find name) o) (sym e)

-- one has no shape
pub shapes_none : (old rest operands : List model.Operand) (operand : model.Operand) (ys : List Shape)
    → old ≡ operand ∷ rest → None ≡ shape_of operand
    → before_all ys (all_some shape_of old) ≡ shapes_of operands → HasShapes operands None
unfolding all_some
shapes_none old rest operands operand ys e is inv =
    none_of operands
    (ap (λ o. before_all ys (put_first o (all_some shape_of rest))) is
    ∙ (ap (λ l. before_all ys (all_some shape_of l)) (sym e) ∙ inv))

pub shapes_end : (old operands : List model.Operand) (ys : List Shape) → old ≡ [] → before_all ys (all_some shape_of old) ≡ shapes_of operands → shapes_of operands ≡ Some ys
unfolding all_some
shapes_end old operands ys e inv =
    sym inv ∙ (ap (λ l. before_all ys (all_some shape_of l)) e ∙ ap (λ l. Some l) (append-nil ys))

-- no row has so many places

and_false : (b c : Bool) → c ≡ false → (b && c) ≡ false
and_false true c e = e
and_false false c e = refl

longer_form : (parts : List Part) (shapes : List Shape) → length parts < length shapes → have_form parts shapes ≡ false
longer_form [] [] h = absurd (omega (arith, h))
longer_form [] (s ∷ shapes) h = refl
longer_form (p ∷ parts) [] h = refl
longer_form (p ∷ parts) (s ∷ shapes) h = and_false (shape_fits p s) (have_form parts shapes) (longer_form parts shapes (omega (arith, h)))

abbrev is_short : Row → Bool
is_short row = nat_le (length (parts_of row)) 16

all_short : list_all is_short ROWS ≡ true
all_short = refl

and_both : (b c : Bool) → (b && c) ≡ true → (b ≡ true) × (c ≡ true)
and_both true c e = (refl, e)
and_both false c e = cc

other_row : (row : Row) (rows : List Row) (name : List ℕ) (shapes : List Shape) → have_form (parts_of row) shapes ≡ false → first_row (row ∷ rows) name shapes ≡ first_row rows name shapes
other_row row rows name shapes e = ap (λ b. if b then Some row else first_row rows name shapes) (and_false (same_name (name_of row) name) (have_form (parts_of row) shapes) e)

no_row : (rows : List Row) (name : List ℕ) (shapes : List Shape) → 16 < length shapes → list_all is_short rows ≡ true → first_row rows name shapes ≡ None
no_row [] name shapes h e = refl
no_row (row ∷ rows) name shapes h e =
    let both = and_both (is_short row) (list_all is_short rows) e in
    let short : length (parts_of row) ≤ 16 = leb-true (length (parts_of row)) 16 both.0 in
    other_row row rows name shapes (longer_form (parts_of row) shapes (omega (arith, short, h))) ∙ no_row rows name shapes h both.1

find_none : (name : List ℕ) (shapes : List Shape) → 16 < length shapes → find name shapes ≡ None
unfolding find
find_none name shapes h = no_row ROWS name shapes h all_short

too_many : (name : List ℕ) (ys : List Shape) (y : Option Shape) (o : Option (List Shape)) → length ys ≡ 16 → option_and_then (find name) (before_all ys (put_first y o)) ≡ None
too_many name ys None o h = refl
too_many name ys (Some y) None h = refl
too_many name ys (Some y) (Some zs) h = find_none name (ys ++ y ∷ zs) (omega (arith, length-append ys (y ∷ zs), h))

-- there are more of them than any row has places
pub shapes_full : (old rest operands : List model.Operand) (operand : model.Operand) (ys : List Shape)
    → old ≡ operand ∷ rest → length ys ≡ 16
    → before_all ys (all_some shape_of old) ≡ shapes_of operands → HasShapes operands None
unfolding all_some
shapes_full old rest operands operand ys e h inv = λ name.
    ap (λ o. option_and_then (find name) o) (sym inv)
    ∙ (ap (λ l. option_and_then (find name) (before_all ys (all_some shape_of l))) e ∙ too_many name ys (shape_of operand) (all_some shape_of rest) h)

-- a name with which a row is found is known

known_step : (a b : Bool) (first row : Row) (o : Option Row) (later : Bool) → (if a && b then Some first else o) ≡ Some row → (o ≡ Some row → later ≡ true) → (a || later) ≡ true
known_step true b first row o later e h = refl
known_step false b first row o later e h = h e

first_row_known : (rows : List Row) (name : List ℕ) (shapes : List Shape) (row : Row) → first_row rows name shapes ≡ Some row → list_any (λ r. same_name (name_of r) name) rows ≡ true
first_row_known [] name shapes row e = cc
first_row_known (first ∷ rows) name shapes row e =
    known_step (same_name (name_of first) name) (have_form (parts_of first) shapes) first row (first_row rows name shapes) _ e (first_row_known rows name shapes row)

found_name : (name : List ℕ) (shapes : List Shape) (row : Row) → find name shapes ≡ Some row → known name ≡ true
unfolding find known
found_name name shapes row e = first_row_known ROWS name shapes row e

pub found_is_known : (name : List ℕ) (shapes : List Shape) (found : Option Row) → found ≡ find name shapes → IfSome found (λ row. known name ≡ true)
found_is_known name shapes None e = tt
found_is_known name shapes (Some row) e = found_name name shapes row (sym e)
