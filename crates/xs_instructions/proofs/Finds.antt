-- Each row is found by its own name and the shapes of its form.
use Rattle.std.proofs.Common.{⊎_elim, subst, ◌≡◌, ℕ, Bool, true, false, not, ◌||◌, ◌==◌, nat_lt, if◌then◌else◌, Option, Some, None, List, [], ◌∷◌, refl, sym, ap, arith}
use Rattle.std.specs.List.{filter}
use Rattle.std.proofs.lemmas.Bool.{and_parts, or_cases, not-true, false≢true}
use Rattle.std.proofs.lemmas.Option.{none-some}
use Rattle.std.proofs.Math.Bool.{and-false}
use Rattle.std.proofs.lemmas.Bool.Decides.{nat_tests}
use Rattle.xs_instructions.specs.declared.instr.Instr.{Instr}
use Rattle.xs_instructions.specs.declared.rows.Part.{Part}
use Rattle.xs_instructions.specs.declared.rows.Part.TheVariants.{Common, AnyRegister, Register, Word}
use Rattle.xs_instructions.specs.declared.rows.Row.{Row}
use Rattle.xs_instructions.specs.declared.rows.Row.TheVariants as row
use Rattle.xs_instructions.specs.declared.rows.TheConstants.{ROWS}
use Rattle.xs_instructions.specs.declared.shape.Shape.TheVariants as shape
use Rattle.xs_instructions.specs.Words.{same_name}
use Rattle.xs_instructions.specs.Rows.{name_of, parts_of}
use Rattle.xs_instructions.specs.Operands.{row_of, values_of, at}
use Rattle.xs_instructions.specs.Instr.{InRange, takes_value, value_parts}
use Rattle.xs_instructions.specs.Find.{shape_fits, have_form, is_of_row, first_row, find, is_in_range, are_in_range}
use Rattle.xs_instructions.specs.Spelling.{shape_at, shapes, values_after}
use Rattle.xs_instructions.proofs.Names.{same_name-same}
use Rattle.xs_instructions.proofs.Made.{InRange-test}

-- whether no register below a number may stand at a part
abbrev no_register_below : ℕ → Part → Bool
no_register_below n Common = false
no_register_below n AnyRegister = false
no_register_below n (Register r) = not (nat_lt r n)
no_register_below n _ = true

-- whether what stands at the first part may not stand at the second one, whatever its value
abbrev apart : Part → Part → Bool
apart Common q = no_register_below 12 q
apart AnyRegister q = no_register_below 16 q
apart p q = not (shape_fits q (shape_at p []))

-- the same for two forms
abbrev forms_apart : List Part → List Part → Bool
forms_apart [] [] = false
forms_apart [] (q ∷ others) = true
forms_apart (p ∷ parts) [] = true
forms_apart (p ∷ parts) (q ∷ others) = apart p q || forms_apart parts others

-- whether no line of the first row is of the second one
abbrev rows_apart : Row → Row → Bool
rows_apart r q = not (same_name (name_of q) (name_of r)) || forms_apart (parts_of r) (parts_of q)

-- the first of the rows that some line of the row might be of
abbrev first_similar : List Row → Row → Option Row
first_similar [] r = None
first_similar (q ∷ rows) r = if rows_apart r q then first_similar rows r else Some q

each_is_similar_to_itself : (r : Row) → first_similar ROWS r ≡ Some r
each_is_similar_to_itself row.Add = refl
each_is_similar_to_itself _ = refl

-- whether the value of a part, if it takes one, is in range
abbrev first_in_range : Part → List ℕ → Bool
first_in_range p values = if takes_value p then is_in_range p (at values 0) else true

first_and_rest : (p : Part) (parts : List Part) (values : List ℕ) → are_in_range (filter takes_value (p ∷ parts)) values ≡ true
    → (first_in_range p values ≡ true) × (are_in_range (filter takes_value parts) (values_after p values) ≡ true)
first_and_rest (Register n) parts values h = (refl, h)
first_and_rest (Word n) parts values h = (refl, h)
first_and_rest p parts [] h = absurd (false≢true h)
first_and_rest p parts (v ∷ values) h = and_parts (is_in_range p v) (are_in_range (filter takes_value parts) values) h

-- what stands at a part may stand there

same_number : (n : ℕ) → (n == n) ≡ true
same_number n = grind (arith, nat_tests)

stands : (p : Part) (values : List ℕ) → first_in_range p values ≡ true → shape_fits p (shape_at p values) ≡ true
stands Common values h = h
stands AnyRegister values h = h
stands (Register n) values h = same_number n
stands (Word n) values h = same_number n
stands _ values h = refl

stand : (parts : List Part) (values : List ℕ) → are_in_range (filter takes_value parts) values ≡ true → have_form parts (shapes parts values) ≡ true
stand [] values h = refl
stand (p ∷ parts) values h =
    let both = first_and_rest p parts values h in
    rw (stands p values both.0, stand parts (values_after p values) both.1) refl

-- and not at a part that is apart from it

other_number : (r v n : ℕ) → nat_lt v n ≡ true → not (nat_lt r n) ≡ true → (r == v) ≡ false
other_number r v n below above = grind (arith, nat_tests)

common_elsewhere : (q : Part) (v n : ℕ) → nat_lt v n ≡ true → no_register_below n q ≡ true → shape_fits q (shape.Reg v) ≡ false
common_elsewhere Common v n h a = absurd (false≢true a)
common_elsewhere AnyRegister v n h a = absurd (false≢true a)
common_elsewhere (Register r) v n h a = other_number r v n h a
common_elsewhere _ v n h a = refl

stands_not : (p q : Part) (values : List ℕ) → apart p q ≡ true → first_in_range p values ≡ true → shape_fits q (shape_at p values) ≡ false
stands_not Common q values a h = common_elsewhere q (at values 0) 12 h a
stands_not AnyRegister q values a h = common_elsewhere q (at values 0) 16 h a
stands_not p q values a h = not-true (shape_fits q (shape_at p [])) a

stand_not : (parts others : List Part) (values : List ℕ) → forms_apart parts others ≡ true → are_in_range (filter takes_value parts) values ≡ true → have_form others (shapes parts values) ≡ false
stand_not [] [] values a h = absurd (false≢true a)
stand_not [] (q ∷ others) values a h = refl
stand_not (p ∷ parts) [] values a h = refl
stand_not (p ∷ parts) (q ∷ others) values a h =
    let both = first_and_rest p parts values h in
    ⊎_elim
    (λ here. rw (stands_not p q values here both.0) refl)
    (λ later. rw (stand_not parts others (values_after p values) later both.1) (and-false (shape_fits q (shape_at p values))))
    (or_cases (apart p q) (forms_apart parts others) a)

row_fits : (r : Row) (values : List ℕ) → are_in_range (value_parts r) values ≡ true → is_of_row r (name_of r) (shapes (parts_of r) values) ≡ true
row_fits r values h = rw (same_name-same (name_of r), stand (parts_of r) values h) refl

row_fits_not : (r q : Row) (values : List ℕ) → rows_apart r q ≡ true → are_in_range (value_parts r) values ≡ true → is_of_row q (name_of r) (shapes (parts_of r) values) ≡ false
row_fits_not r q values a h =
    ⊎_elim
    (λ other. rw (not-true (same_name (name_of q) (name_of r)) other) refl)
    (λ forms. rw (stand_not (parts_of r) (parts_of q) values forms h) (and-false (same_name (name_of q) (name_of r))))
    (or_cases (not (same_name (name_of q) (name_of r))) (forms_apart (parts_of r) (parts_of q)) a)

abbrev row_or : Row → Option Row → Row
row_or r None = r
row_or r (Some q) = q

first_or_next : (q : Row) (rows : List Row) (r : Row) (values : List ℕ) → are_in_range (value_parts r) values ≡ true
    → (first_similar rows r ≡ Some r → first_row rows (name_of r) (shapes (parts_of r) values) ≡ Some r)
    → (b : Bool) → rows_apart r q ≡ b → (if b then first_similar rows r else Some q) ≡ Some r → first_row (q ∷ rows) (name_of r) (shapes (parts_of r) values) ≡ Some r
first_or_next q rows r values h after true a first = rw (row_fits_not r q values a h) (after first)
first_or_next q rows r values h after false a first =
    subst (λ q. first_row (q ∷ rows) (name_of r) (shapes (parts_of r) values) ≡ Some r) (sym (ap (row_or r) first)) (rw (row_fits r values h) refl)

is_first : (rows : List Row) (r : Row) (values : List ℕ) → first_similar rows r ≡ Some r → are_in_range (value_parts r) values ≡ true → first_row rows (name_of r) (shapes (parts_of r) values) ≡ Some r
is_first [] r values first h = absurd (none-some r first)
is_first (q ∷ rows) r values first h = first_or_next q rows r values h (λ later. is_first rows r values later h) (rows_apart r q) refl first

-- a row's name and the shapes of its form, with values in range filled in, find the row
pub find_back : (ins : Instr) → InRange ins → find (name_of (row_of ins)) (shapes (parts_of (row_of ins)) (values_of ins)) ≡ Some (row_of ins)
unfolding find
find_back ins h = is_first ROWS (row_of ins) (values_of ins) (each_is_similar_to_itself (row_of ins)) (InRange-test ins h)
