-- The parts of a form, written with values in range, are read as these parts and values.
use Rattle.std.proofs.Common.{◌≡◌, ℕ, ◌<◌, true, false, ◌||◌, not, List, [], ◌∷◌, ◌⊎◌, sym, ap, ◌∙◌, inl, inr, arith, nat_lt, nat_le}
use Rattle.std.specs.Prelude.{Option, Some, None, option_map, decimal, if◌then◌else◌}
use Rattle.std.specs.List.{AllByRecursion, list_all, filter}
use Rattle.std.proofs.lemmas.Bool.{and_parts, cond-true, cond-false, cases_Bool, not-true}
use Rattle.std.proofs.lemmas.Bool.Decides.{nat_tests}
use Rattle.xs_text.specs.Tokens.{kind_of, is_name}
use Rattle.xs_text.specs.Numbers.{at_most}
use Rattle.xs_instructions.specs.declared.rows.Part.{Part}
use Rattle.xs_instructions.specs.declared.rows.Part.TheVariants.{Common, AnyRegister, Register, Small, Width, Short, Exactly, Label, Word}
use Rattle.xs_instructions.specs.declared.shape.Shape.TheVariants as shape
use Rattle.xs_instructions.specs.Words.{register_number, fixed}
use Rattle.xs_instructions.specs.Operands.{at}
use Rattle.xs_instructions.specs.Instr.{AreInRange, takes_value, is_width}
use Rattle.xs_instructions.specs.Spelling.{Num, spelled, spelled_at, shape_at, values_after}
use Rattle.xs_instructions.specs.Code.{place_address}
use Rattle.xs_instructions.specs.Image.{Symbol, may_be_label, is_reserved}
use Rattle.source_model.specs.declared.layout.Section.{Section}
use Rattle.source_model.specs.Operands.{Amount, Known, Target, shape_by_kind, amount_by_kind, name_shape, or_shape, label_shape, name_amount}
use Rattle.source_model.specs.Canonical.{first_name_at}
use Rattle.source_laws.proofs.Words.{register_name, is_register_name, is_fixed_text, label_no_register, label_not_fixed, name_kind}
use Rattle.source_laws.proofs.Digits.{decimal_run, number_back, run_is_number}
use Rattle.source_laws.proofs.RowFacts.{names_what_is, is_mark_part, are_parted}
use Rattle.source_laws.proofs.PieceTokens.{piece_bytes, IsMarkPiece, IsWordPiece, ArePartedPieces}
use Rattle.source_laws.specs.LabelValues.{label_values}

width_small : (v : ℕ) → is_width v ≡ true → v < 65536
width_small v h = grind (arith, nat_tests)

module _ (symbols : List Symbol) where
  abbrev pub name_of_place : ℕ → List ℕ
  name_of_place p = first_name_at symbols (place_address p)

  -- the first value is one that the part can be written with
  abbrev pub FirstFits : Part → List ℕ → Type 0
  FirstFits Common values = at values 0 < 16
  FirstFits AnyRegister values = at values 0 < 16
  FirstFits (Register n) values = n < 16
  FirstFits Small values = at values 0 < 65536
  FirstFits Width values = at values 0 < 65536
  FirstFits Short values = at values 0 < 65536
  FirstFits (Exactly n) values = at values 0 < 65536
  FirstFits Label values = may_be_label (name_of_place (at values 0)) ≡ true
  FirstFits (Word n) values = n < 16

  abbrev pub AllFit : List Part → List ℕ → Type 0
  AllFit [] values = Unit {0}
  AllFit (p ∷ parts) values = FirstFits p values × AllFit parts (values_after p values)

  abbrev pub HasName : ℕ → Type 0
  HasName p = may_be_label (name_of_place p) ≡ true

  pub all_fit : (parts : List Part) (values : List ℕ) → list_all names_what_is parts ≡ true → AreInRange (filter takes_value parts) values → AllByRecursion HasName (label_values parts values) → AllFit parts values
  all_fit [] values ok h k = tt
  all_fit (Common ∷ parts) [] ok h k = absurd h
  all_fit (Common ∷ parts) (v ∷ values) ok h k = (omega (arith, h.0), all_fit parts values ok h.1 k)
  all_fit (AnyRegister ∷ parts) [] ok h k = absurd h
  all_fit (AnyRegister ∷ parts) (v ∷ values) ok h k = (h.0, all_fit parts values ok h.1 k)
  all_fit (Register n ∷ parts) values ok h k =
      let p = and_parts (nat_lt n 16) (list_all names_what_is parts) ok in
      ((let t : nat_lt n 16 ≡ true = p.0 in grind (arith, nat_tests)), all_fit parts values p.1 h k)
  all_fit (Small ∷ parts) [] ok h k = absurd h
  all_fit (Small ∷ parts) (v ∷ values) ok h k = (omega (arith, h.0), all_fit parts values ok h.1 k)
  all_fit (Width ∷ parts) [] ok h k = absurd h
  all_fit (Width ∷ parts) (v ∷ values) ok h k = (width_small v h.0, all_fit parts values ok h.1 k)
  all_fit (Short ∷ parts) [] ok h k = absurd h
  all_fit (Short ∷ parts) (v ∷ values) ok h k = (omega (arith, h.0), all_fit parts values ok h.1 k)
  all_fit (Exactly n ∷ parts) [] ok h k = absurd h
  all_fit (Exactly n ∷ parts) (v ∷ values) ok h k =
      let p = and_parts (nat_lt n 65536) (list_all names_what_is parts) ok in
      ((let t : nat_lt n 65536 ≡ true = p.0 in let e : v ≡ n = h.0 in grind (arith, nat_tests)), all_fit parts values p.1 h.1 k)
  all_fit (Label ∷ parts) [] ok h k = absurd h
  all_fit (Label ∷ parts) (v ∷ values) ok h k = (k.0, all_fit parts values ok h.1 k.1)
  all_fit (Word n ∷ parts) values ok h k =
      let p = and_parts (nat_lt n 16) (list_all names_what_is parts) ok in
      ((let t : nat_lt n 16 ≡ true = p.0 in grind (arith, nat_tests)), all_fit parts values p.1 h k)

  -- the pieces are parted by marks

  mark_part : (p : Part) (values : List ℕ) → FirstFits p values → is_mark_part p ≡ true → IsMarkPiece symbols (spelled_at p values)
  mark_part Common values h m = absurd (cc)
  mark_part AnyRegister values h m = absurd (cc)
  mark_part (Register n) values h m = absurd (cc)
  mark_part Small values h m = absurd (cc)
  mark_part Width values h m = absurd (cc)
  mark_part Short values h m = absurd (cc)
  mark_part (Exactly n) values h m = absurd (cc)
  mark_part Label values h m = absurd (cc)
  mark_part (Word n) values h m = (is_fixed_text n h).mark ∙ m

  number_piece : (n : ℕ) → n < 65536 → IsWordPiece symbols (Num n)
  number_piece n h = inr (decimal_run n (omega arith))

  word_part : (p : Part) (values : List ℕ) → FirstFits p values → is_mark_part p ≡ false → IsWordPiece symbols (spelled_at p values)
  word_part Common values h m = inl (is_register_name (at values 0) h).named
  word_part AnyRegister values h m = inl (is_register_name (at values 0) h).named
  word_part (Register n) values h m = inl (is_register_name n h).named
  word_part Small values h m = number_piece (at values 0) h
  word_part Width values h m = number_piece (at values 0) h
  word_part Short values h m = number_piece (at values 0) h
  word_part (Exactly n) values h m = number_piece (at values 0) h
  word_part Label values h m = inl (and_parts (is_name (name_of_place (at values 0))) (not (is_reserved (name_of_place (at values 0)))) h).0
  word_part (Word n) values h m = inl ((is_fixed_text n h).named ∙ ap not m)

  any_part : (p : Part) (values : List ℕ) → FirstFits p values → IsMarkPiece symbols (spelled_at p values) ⊎ IsWordPiece symbols (spelled_at p values)
  any_part p values h =
      elim (cases_Bool (is_mark_part p)) [ inl t ↦ inl (mark_part p values h t) | inr f ↦ inr (word_part p values h f) ]

  pub parted : (parts : List Part) (values : List ℕ) → AllFit parts values → are_parted parts ≡ true → ArePartedPieces symbols (spelled parts values)
  parted [] values h k = tt
  parted (p ∷ []) values h k = any_part p values h.0
  parted (p ∷ q ∷ parts) values h k =
      let c = and_parts (is_mark_part p || is_mark_part q) (are_parted (q ∷ parts)) k in
      let after = values_after p values in (
        elim (cases_Bool (is_mark_part p)) [
          | inl t ↦ inl (mark_part p values h.0 t)
          | inr f ↦ inr (word_part p values h.0 f, mark_part q after h.1.0 (sym (ap (λ b. b || is_mark_part q) f) ∙ c.0))
        ],
        parted (q ∷ parts) after h.1 c.1,
      )

  -- shapes and amounts

  abbrev pub BaseFits : Part → Option Section → Type 0
  BaseFits Label base = base ≡ None
  BaseFits p base = Unit {0}

  register_shape : (n : ℕ) (base : Option Section) → n < 16 → shape_by_kind (kind_of (register_name n)) base (register_name n) ≡ Some (shape.Reg n)
  register_shape n base h =
      let r = is_register_name n h in
      ap (λ k. shape_by_kind k base (register_name n)) r.kind
      ∙ ap (λ o. or_shape (option_map shape.Reg o) (or_shape (option_map shape.Word (fixed (register_name n))) (if is_reserved (register_name n) then None else Some (label_shape base)))) r.number

  number_shape : (n : ℕ) (base : Option Section) → n < 65536 → shape_by_kind (kind_of (decimal n)) base (decimal n) ≡ Some shape.Num
  number_shape n base h = ap (λ k. shape_by_kind k base (decimal n)) (run_is_number (decimal n) (decimal_run n (omega arith)))

  label_shape_is : (name : List ℕ) (base : Option Section) → may_be_label name ≡ true → base ≡ None → shape_by_kind (kind_of name) base name ≡ Some shape.Label
  label_shape_is name base h e =
      let p = and_parts (is_name name) (not (is_reserved name)) h in
      let free : is_reserved name ≡ false = not-true _ p.1 in
      ap (λ k. shape_by_kind k base name) (name_kind name p.0)
      ∙ (ap (λ b. name_shape b name) e
      ∙ (ap (λ o. or_shape (option_map shape.Reg o) (or_shape (option_map shape.Word (fixed name)) (if is_reserved name then None else Some shape.Label))) (label_no_register name h)
      ∙ (ap (λ o. or_shape (option_map shape.Word o) (if is_reserved name then None else Some shape.Label)) (label_not_fixed name h)
      ∙ cond-false _ _ _ free)))

  pub part_shape : (p : Part) (values : List ℕ) (base : Option Section) → FirstFits p values → BaseFits p base → shape_by_kind (kind_of (piece_bytes symbols (spelled_at p values))) base (piece_bytes symbols (spelled_at p values)) ≡ Some (shape_at p values)
  part_shape Common values base h k = register_shape (at values 0) base h
  part_shape AnyRegister values base h k = register_shape (at values 0) base h
  part_shape (Register n) values base h k = register_shape n base h
  part_shape Small values base h k = number_shape (at values 0) base h
  part_shape Width values base h k = number_shape (at values 0) base h
  part_shape Short values base h k = number_shape (at values 0) base h
  part_shape (Exactly n) values base h k = number_shape (at values 0) base h
  part_shape Label values base h k = label_shape_is (name_of_place (at values 0)) base h k
  part_shape (Word n) values base h k = (is_fixed_text n h).shape base

  -- what a part stands for, if it takes a value
  abbrev pub amount_at : Part → List ℕ → Amount
  amount_at Label values = Target (name_of_place (at values 0))
  amount_at p values = Known (Some (at values 0))

  abbrev pub amounts_at : List Part → List ℕ → List Amount
  amounts_at [] values = []
  amounts_at (p ∷ parts) values =
      if takes_value p then amount_at p values ∷ amounts_at parts (values_after p values) else amounts_at parts (values_after p values)

  register_amount : (n : ℕ) (base : Option Section) → n < 16 → amount_by_kind (kind_of (register_name n)) base (register_name n) ≡ Known (Some n)
  register_amount n base h =
      let r = is_register_name n h in
      ap (λ k. amount_by_kind k base (register_name n)) r.kind
      ∙ ap (λ o. name_amount o base (register_name n)) r.number

  in_word : (n : ℕ) → n < 65536 → at_most 4294967295 (Some n) ≡ Some n
  in_word n h = cond-true _ _ _ (let t : nat_le n 4294967295 ≡ true = grind (arith, nat_tests) in t)

  number_amount_is : (n : ℕ) (base : Option Section) → n < 65536 → amount_by_kind (kind_of (decimal n)) base (decimal n) ≡ Known (Some n)
  number_amount_is n base h =
      ap (λ k. amount_by_kind k base (decimal n)) (run_is_number (decimal n) (decimal_run n (omega arith)))
      ∙ ap (λ o. Known o) (ap (λ o. at_most 4294967295 o) (number_back n (omega arith)) ∙ in_word n h)

  label_amount_is : (name : List ℕ) (base : Option Section) → may_be_label name ≡ true → base ≡ None → amount_by_kind (kind_of name) base name ≡ Target name
  label_amount_is name base h e =
      let p = and_parts (is_name name) (not (is_reserved name)) h in
      ap (λ k. amount_by_kind k base name) (name_kind name p.0)
      ∙ (ap (λ b. name_amount (register_number name) b name) e
      ∙ ap (λ o. name_amount o None name) (label_no_register name h))

  pub part_amount : (p : Part) (values : List ℕ) (base : Option Section) → takes_value p ≡ true → FirstFits p values → BaseFits p base → amount_by_kind (kind_of (piece_bytes symbols (spelled_at p values))) base (piece_bytes symbols (spelled_at p values)) ≡ amount_at p values
  part_amount Common values base t h k = register_amount (at values 0) base h
  part_amount AnyRegister values base t h k = register_amount (at values 0) base h
  part_amount (Register n) values base t h k = absurd (cc)
  part_amount Small values base t h k = number_amount_is (at values 0) base h
  part_amount Width values base t h k = number_amount_is (at values 0) base h
  part_amount Short values base t h k = number_amount_is (at values 0) base h
  part_amount (Exactly n) values base t h k = number_amount_is (at values 0) base h
  part_amount Label values base t h k = label_amount_is (name_of_place (at values 0)) base h k
  part_amount (Word n) values base t h k = absurd (cc)
