-- Each piece of an instruction can be written: its registers are there, and a label leads to its place.
use Rattle.std.proofs.Common.{◌≡◌, ℕ, Bool, true, List, [], ◌∷◌, Option, Some, None, refl, sym, subst, arith, nat_lt, IsTrue}
use Rattle.std.specs.Prelude.{IfSome, option_to_list, map}
use Rattle.std.specs.List.{AllByRecursion, list_all, filter}
use Rattle.std.proofs.lemmas.Bool.{and_parts}
use Rattle.std.proofs.lemmas.Bool.Decides.{nat_tests}
use Rattle.xs_instructions.specs.declared.instr.Instr.{Instr}
use Rattle.xs_instructions.specs.declared.rows.Part.{Part}
use Rattle.xs_instructions.specs.declared.rows.Part.TheVariants.{Common, AnyRegister, Register, Small, Width, Short, Exactly, Label, Word}
use Rattle.xs_instructions.specs.declared.rows.Row.{Row}
use Rattle.xs_instructions.specs.declared.rows.Row.TheVariants as row
use Rattle.xs_instructions.specs.declared.shape.Piece.{Piece}
use Rattle.xs_instructions.specs.Rows.{parts_of}
use Rattle.xs_instructions.specs.Operands.{row_of, values_of}
use Rattle.xs_instructions.specs.Instr.{AreInRange, label_of, takes_value}
use Rattle.xs_instructions.specs.Spelling.{spelled, spelled_piece, spelling}
use Rattle.xs_instructions.specs.Code.{place_address}
use Rattle.xs_instructions.specs.Image.{Symbol, has_symbol_at}
use Rattle.source_laws.specs.LabelValues.{label_values}
use Rattle.xs_printer.specs.Firsts.{IsWritable}

-- whether a register that a row itself names is there
abbrev pub names_register : Part → Bool
names_register (Register n) = nat_lt n 16
names_register _ = true

rows_name_registers : (r : Row) → list_all names_register (parts_of r) ≡ true
rows_name_registers row.Add = refl
rows_name_registers _ = refl

module _ (symbols : List Symbol) where
  abbrev LeadsToLabel : ℕ → Type 0
  LeadsToLabel p = IsTrue (has_symbol_at symbols (place_address p))

  all_from_some : (o : Option ℕ) → IfSome o LeadsToLabel → AllByRecursion LeadsToLabel (option_to_list o)
  all_from_some None h = tt
  all_from_some (Some p) h = (h, tt)

  parts_writable : (parts : List Part) (values : List ℕ) → list_all names_register parts ≡ true → AreInRange (filter takes_value parts) values → AllByRecursion LeadsToLabel (label_values parts values) → AllByRecursion (IsWritable symbols) (spelled parts values)
  parts_writable [] values ok h k = tt
  parts_writable (Common ∷ parts) [] ok h k = absurd h
  parts_writable (Common ∷ parts) (v ∷ values) ok h k = (omega (arith, h.0), parts_writable parts values ok h.1 k)
  parts_writable (AnyRegister ∷ parts) [] ok h k = absurd h
  parts_writable (AnyRegister ∷ parts) (v ∷ values) ok h k = (h.0, parts_writable parts values ok h.1 k)
  parts_writable (Register n ∷ parts) values ok h k =
      let p = and_parts (nat_lt n 16) (list_all names_register parts) ok in
      ((let t : nat_lt n 16 ≡ true = p.0 in grind (arith, nat_tests)), parts_writable parts values p.1 h k)
  parts_writable (Small ∷ parts) [] ok h k = absurd h
  parts_writable (Small ∷ parts) (v ∷ values) ok h k = (tt, parts_writable parts values ok h.1 k)
  parts_writable (Width ∷ parts) [] ok h k = absurd h
  parts_writable (Width ∷ parts) (v ∷ values) ok h k = (tt, parts_writable parts values ok h.1 k)
  parts_writable (Short ∷ parts) [] ok h k = absurd h
  parts_writable (Short ∷ parts) (v ∷ values) ok h k = (tt, parts_writable parts values ok h.1 k)
  parts_writable (Exactly n ∷ parts) [] ok h k = absurd h
  parts_writable (Exactly n ∷ parts) (v ∷ values) ok h k = (tt, parts_writable parts values ok h.1 k)
  parts_writable (Label ∷ parts) [] ok h k = absurd h
  parts_writable (Label ∷ parts) (v ∷ values) ok h k = (k.0, parts_writable parts values ok h.1 k.1)
  parts_writable (Word n ∷ parts) values ok h k = (tt, parts_writable parts values ok h k)

  unmapped : (pieces : List Piece) → AllByRecursion (IsWritable symbols) (map spelled_piece pieces) → AllByRecursion (λ (p : Piece). IsWritable symbols (spelled_piece p)) pieces
  unmapped [] h = tt
  unmapped (p ∷ pieces) h = (h.0, unmapped pieces h.1)

  -- the pieces that spell an instruction
  module _ (ins : Instr) (values : AreInRange (filter takes_value (parts_of (row_of ins))) (values_of ins)) (label : label_values (parts_of (row_of ins)) (values_of ins) ≡ option_to_list (label_of ins)) where
    writable : IfSome (label_of ins) LeadsToLabel → AllByRecursion (IsWritable symbols) (spelling ins)
    writable k = (
      tt,
      parts_writable (parts_of (row_of ins)) (values_of ins) (rows_name_registers (row_of ins)) values
          (subst (AllByRecursion LeadsToLabel) (sym label) (all_from_some (label_of ins) k)),
    )

    pub pieces_writable : (pieces : List Piece) → map spelled_piece pieces ≡ spelling ins → IfSome (label_of ins) LeadsToLabel → AllByRecursion (λ (p : Piece). IsWritable symbols (spelled_piece p)) pieces
    pieces_writable pieces e k = unmapped pieces (subst (AllByRecursion (IsWritable symbols)) (sym e) (writable k))
