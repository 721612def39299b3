-- What each line of a canonical text says.
use Rattle.std.proofs.Common.{◌≡◌, ℕ, ◌<◌, true, false, ◌&&◌, not, ◌==◌, List, [], ◌∷◌, ◌++◌, map, refl, sym, ap, ◌∙◌, subst, inl, inr, arith, append-nil, length, nat_le}
use Rattle.std.specs.Prelude.{Some, decimal, option_and_then}
use Rattle.std.specs.List.{AllByRecursion, list_all, list_any}
use Rattle.std.specs.Char.{is_ascii_digit}
use Rattle.std.proofs.lemmas.Bool.{cases_Bool, and_parts, and_from, cond-true, cond-false, and_right, or_left, or_right}
use Rattle.std.proofs.lemmas.Bool.Decides.{nat_tests}
use Rattle.std.proofs.lemmas.List.Folds.{list_all-append}
use Rattle.xs_text.specs.Bytes.{is_allowed, all_allowed, is_name_byte, is_name_start}
use Rattle.xs_text.specs.Tokens.{Token, tokens_of, tokens_after, token_of, kind_of, is_name, is_run}
use Rattle.xs_text.specs.Numbers.{at_most}
use Rattle.xs_text.proofs.FirstToken.{tokens_of-none}
use Rattle.xs_instructions.specs.declared.rows.Row.{Row}
use Rattle.xs_instructions.specs.declared.rows.TheConstants.{ROWS}
use Rattle.xs_instructions.specs.declared.rows.Part.{Part}
use Rattle.xs_instructions.specs.declared.rows.Part.TheVariants as part
use Rattle.xs_instructions.specs.declared.shape.Shape.{Shape}
use Rattle.xs_instructions.specs.declared.instr.Instr.{Instr}
use Rattle.xs_instructions.specs.Words.{same_name}
use Rattle.xs_instructions.specs.Rows.{name_of, parts_of}
use Rattle.xs_instructions.specs.Operands.{row_of, values_of, at}
use Rattle.xs_instructions.specs.Instr.{InRange}
use Rattle.xs_instructions.specs.Find.{find, known, first_row, is_of_row, have_form}
use Rattle.xs_instructions.specs.Spelling.{Spelled, spelled, spelled_at, spelling, shapes, values_after}
use Rattle.xs_instructions.specs.Image.{Symbol, may_be_label, is_reserved}
use Rattle.source_model.specs.declared.layout.Home.TheVariants.{Anywhere, InText, InBytes, BeginsData, BeginsConstants}
use Rattle.source_model.specs.declared.layout.Width.TheVariants as width
use Rattle.source_model.specs.Operands.{Known, Operand, operands_of, shapes_of}
use Rattle.source_model.specs.Values as values
use Rattle.source_model.specs.Values.{values_from}
use Rattle.source_model.specs.Statement as says
use Rattle.source_model.specs.Statement.{Says, Statement, Line, line_of, statement, instruction, of_row, is_name_kind, begins_label, labels_first, after_labels}
use Rattle.source_model.specs.Canonical as item
use Rattle.source_model.specs.Canonical.{Item, item_line, statement_text, operands_text, piece_text, first_name_at}
use Rattle.source_laws.proofs.TokenText.{name_first, digits_first, mark_first, blank_first}
use Rattle.source_laws.proofs.Words.{is_register_name, is_fixed_text, name_kind}
use Rattle.source_laws.proofs.Digits.{decimal_run, number_back, run_is_number, decimal_allowed}
use Rattle.source_laws.proofs.RowFacts.{rows_name_what_is, rows_are_parted, rows_labels_clear, begins_with_colon, rows_no_colon, rows_have_names}
use Rattle.source_laws.proofs.PieceTokens.{piece_bytes, piece_token, pieces_text, text_is, operands_tokens, operands_stop}
use Rattle.source_laws.proofs.PartsRead.{name_of_place, AllFit, FirstFits, HasName, all_fit, parted, amounts_at}
use Rattle.source_laws.proofs.OperandsRead.{AreRead, operands_read}
use Rattle.source_laws.specs.LabelValues.{label_values}
use Rattle.source_laws.proofs.LabelValues.{in_range_parts}
use Rattle.source_model.specs.Each.{put_first}

-- what an item's line says
abbrev pub line_item : List Symbol → Item → Line
line_item symbols (item.Label name) = record { bad_byte = false; labels = name ∷ []; statement = record { home = Anywhere; says = says.NoEffect } }
line_item symbols (item.Instruction ins) = record { bad_byte = false; labels = []; statement = record { home = InText; says = says.Instruction (row_of ins) (amounts_at symbols (parts_of (row_of ins)) (values_of ins)) } }
line_item symbols item.DataSection = record { bad_byte = false; labels = []; statement = record { home = BeginsData; says = says.NoEffect } }
line_item symbols item.ConstantSection = record { bad_byte = false; labels = []; statement = record { home = BeginsConstants; says = says.NoEffect } }
line_item symbols (item.Byte value) = record { bad_byte = false; labels = []; statement = record { home = InBytes; says = says.Values width.Byte (Known (Some value) ∷ []) } }

-- an instruction that can be read: in range, and with a name for each label
pub record IsReadable (symbols : List Symbol) (ins : Instr) : Type 0 where
  pub in_range : InRange ins
  pub named : AllByRecursion (HasName symbols) (label_values (parts_of (row_of ins)) (values_of ins))

-- what the item's line needs
abbrev pub IsPlain : List Symbol → Item → Type 0
IsPlain symbols (item.Label name) = may_be_label name ≡ true
IsPlain symbols (item.Instruction ins) = IsReadable symbols ins
IsPlain symbols item.DataSection = Unit {0}
IsPlain symbols item.ConstantSection = Unit {0}
IsPlain symbols (item.Byte value) = value < 256

-- what the tokens of a line say
abbrev says_of : List Token → Line
says_of tokens = record { bad_byte = false; labels = labels_first tokens; statement = statement (after_labels tokens) }

by_tokens : (bytes : List ℕ) (tokens : List Token) → all_allowed bytes ≡ true → tokens_of bytes ≡ tokens → line_of bytes ≡ says_of tokens
by_tokens bytes tokens h e =
    ap (λ b. record { bad_byte = not b; labels = labels_first (tokens_of bytes); statement = statement (after_labels (tokens_of bytes)) }) h
    ∙ ap says_of e

-- a label's line

start_allowed : (b : ℕ) → is_name_start b ≡ true → is_allowed b ≡ true
start_allowed b h = grind (arith, nat_tests)

name_byte_allowed : (b : ℕ) → is_name_byte b ≡ true → is_allowed b ≡ true
name_byte_allowed b h = grind (arith, nat_tests)

name_bytes_allowed : (bytes : List ℕ) → list_all is_name_byte bytes ≡ true → all_allowed bytes ≡ true
name_bytes_allowed [] h = refl
name_bytes_allowed (b ∷ bytes) h =
    let p = and_parts (is_name_byte b) (list_all is_name_byte bytes) h in
    and_from _ _ (name_byte_allowed b p.0) (name_bytes_allowed bytes p.1)

pub name_allowed : (name : List ℕ) → is_name name ≡ true → all_allowed name ≡ true
name_allowed [] h = refl
name_allowed (b ∷ name) h =
    let p = and_parts (is_name_start b) (list_all is_name_byte name) h in
    and_from _ _ (start_allowed b p.0) (name_bytes_allowed name p.1)

both_allowed : (xs ys : List ℕ) → all_allowed xs ≡ true → all_allowed ys ≡ true → all_allowed (xs ++ ys) ≡ true
both_allowed xs ys h k = list_all-append is_allowed xs ys ∙ and_from _ _ h k

label_tokens : (name : List ℕ) → is_name name ≡ true → tokens_of (name ++ (58 ∷ [])) ≡ token_of name ∷ token_of (58 ∷ []) ∷ []
label_tokens name h =
    name_first name (58 ∷ []) h refl ∙ ap (λ l. token_of name ∷ l) (mark_first (58 ∷ []) [] refl ∙ ap (λ l. token_of (58 ∷ []) ∷ l) tokens_of-none)

labels-one : (t : Token) → is_name_kind t.kind ≡ true → labels_first (t ∷ token_of (58 ∷ []) ∷ []) ≡ t.bytes ∷ []
unfolding labels_first
labels-one t h = cond-true _ _ _ (and_from _ _ h refl)

after-one : (t : Token) → is_name_kind t.kind ≡ true → after_labels (t ∷ token_of (58 ∷ []) ∷ []) ≡ []
unfolding after_labels
after-one t h = cond-true _ _ _ (and_from _ _ h refl)

label_line : (symbols : List Symbol) (name : List ℕ) → may_be_label name ≡ true → line_of (name ++ (58 ∷ [])) ≡ line_item symbols (item.Label name)
label_line symbols name h =
    let named = (and_parts (is_name name) (not (is_reserved name)) h).0 in
    let kind : is_name_kind (kind_of name) ≡ true = ap is_name_kind (name_kind name named) in
    by_tokens (name ++ (58 ∷ [])) _ (both_allowed name (58 ∷ []) (name_allowed name named) refl) (label_tokens name named)
    ∙ (ap (λ l. record { bad_byte = false; labels = l; statement = statement (after_labels (token_of name ∷ token_of (58 ∷ []) ∷ [])) }) (labels-one (token_of name) kind)
    ∙ ap (λ l. record { bad_byte = false; labels = name ∷ []; statement = statement l }) (after-one (token_of name) kind))

-- the lines of the sections

data_line : (symbols : List Symbol) → line_of (item_line symbols item.DataSection) ≡ line_item symbols item.DataSection
unfolding tokens_after labels_first after_labels
data_line symbols = refl

constants_line : (symbols : List Symbol) → line_of (item_line symbols item.ConstantSection) ≡ line_item symbols item.ConstantSection
unfolding tokens_after labels_first after_labels
constants_line symbols = refl

-- no label at the front

labels-none : (t c : Token) (rest : List Token) → same_name (58 ∷ []) c.bytes ≡ false → labels_first (t ∷ c ∷ rest) ≡ []
unfolding labels_first
labels-none t c rest h = cond-false _ _ _ (and_right (is_name_kind t.kind) _ h)

after-none : (t c : Token) (rest : List Token) → same_name (58 ∷ []) c.bytes ≡ false → after_labels (t ∷ c ∷ rest) ≡ t ∷ c ∷ rest
unfolding after_labels
after-none t c rest h = cond-false _ _ _ (and_right (is_name_kind t.kind) _ h)

labels-alone : (t : Token) → labels_first (t ∷ []) ≡ []
unfolding labels_first
labels-alone t = refl

after-alone : (t : Token) → after_labels (t ∷ []) ≡ t ∷ []
unfolding after_labels
after-alone t = refl

-- a byte's line

digit_no_colon : (b : ℕ) → is_ascii_digit b ≡ true → (58 == b) ≡ false
digit_no_colon b h = grind (arith, nat_tests)

digit_no_minus : (b : ℕ) → is_ascii_digit b ≡ true → (45 == b) ≡ false
digit_no_minus b h = grind (arith, nat_tests)

first_digit : (b : ℕ) (ds : List ℕ) → is_run is_ascii_digit (b ∷ ds) ≡ true → is_ascii_digit b ≡ true
first_digit b ds h = (and_parts (is_ascii_digit b) (list_all is_ascii_digit ds) (and_parts (not (length (b ∷ ds) == 0)) (list_all is_ascii_digit (b ∷ ds)) h).1).0

digits_no_colon : (ds : List ℕ) → is_run is_ascii_digit ds ≡ true → same_name (58 ∷ []) ds ≡ false
digits_no_colon [] h = refl
digits_no_colon (b ∷ ds) h = ap (λ t. t && same_name [] ds) (digit_no_colon b (first_digit b ds h))

digits_no_minus : (ds : List ℕ) → is_run is_ascii_digit ds ≡ true → same_name (45 ∷ []) ds ≡ false
digits_no_minus [] h = refl
digits_no_minus (b ∷ ds) h = ap (λ t. t && same_name [] ds) (digit_no_minus b (first_digit b ds h))

abbrev byte_name : List ℕ
byte_name = 46 ∷ 98 ∷ 121 ∷ 116 ∷ 101 ∷ []

byte_tokens : (n : ℕ) → n < 256 → tokens_of (32 ∷ 32 ∷ (byte_name ++ (32 ∷ decimal n))) ≡ token_of byte_name ∷ token_of (decimal n) ∷ []
byte_tokens n h =
    let run = decimal_run n (omega arith) in
    blank_first (32 ∷ (byte_name ++ (32 ∷ decimal n)))
    ∙ (blank_first (byte_name ++ (32 ∷ decimal n))
    ∙ (name_first byte_name (32 ∷ decimal n) refl refl
    ∙ ap (λ l. token_of byte_name ∷ l) (blank_first (decimal n)
    ∙ (ap (λ t. tokens_of t) (sym (append-nil (decimal n)))
    ∙ (digits_first (decimal n) [] run refl ∙ ap (λ l. token_of (decimal n) ∷ l) tokens_of-none)))))

values-end : values.values_from values.CommaNext width.Byte [] ≡ Some []
unfolding values_from
values-end = refl

values-one : (t : Token) → same_name (45 ∷ []) t.bytes ≡ false → values.listed_values width.Byte (t ∷ []) ≡ put_first (values.plain_value t.kind width.Byte t.bytes) (values.values_from values.CommaNext width.Byte [])
unfolding values_from
values-one t h = cond-false _ _ _ h

in_byte : (n : ℕ) → n < 256 → at_most 255 (Some n) ≡ Some n
in_byte n h = cond-true _ _ _ (let t : nat_le n 255 ≡ true = grind (arith, nat_tests) in t)

byte_value : (n : ℕ) → n < 256 → values.listed_values width.Byte (token_of (decimal n) ∷ []) ≡ Some (Known (Some n) ∷ [])
byte_value n h =
    let run = decimal_run n (omega arith) in
    values-one (token_of (decimal n)) (digits_no_minus (decimal n) run)
    ∙ (ap (λ o. put_first (values.plain_value (kind_of (decimal n)) width.Byte (decimal n)) o) values-end
    ∙ (ap (λ k. put_first (values.plain_value k width.Byte (decimal n)) (Some [])) (run_is_number (decimal n) run)
    ∙ ap (λ o. put_first (Some (Known o)) (Some [])) (ap (λ o. at_most 255 o) (number_back n (omega arith)) ∙ in_byte n h)))

byte_line : (symbols : List Symbol) (n : ℕ) → n < 256 → line_of (item_line symbols (item.Byte n)) ≡ line_item symbols (item.Byte n)
byte_line symbols n h =
    let t = token_of byte_name in
    let v = token_of (decimal n) in
    let no = digits_no_colon (decimal n) (decimal_run n (omega arith)) in
    by_tokens (item_line symbols (item.Byte n)) (t ∷ v ∷ []) (both_allowed (32 ∷ 32 ∷ (byte_name ++ (32 ∷ []))) (decimal n) refl (decimal_allowed n (omega arith))) (byte_tokens n h)
    ∙ (ap (λ l. record { bad_byte = false; labels = l; statement = statement (after_labels (t ∷ v ∷ [])) }) (labels-none t v [] no)
    ∙ (ap (λ l. record { bad_byte = false; labels = []; statement = statement l }) (after-none t v [] no)
    ∙ ap (λ o. record { bad_byte = false; labels = []; statement = record { home = InBytes; says = says.valued width.Byte o } }) (byte_value n h)))

-- an instruction's line

start_no_colon : (b : ℕ) → is_name_start b ≡ true → (58 == b) ≡ false
start_no_colon b h = grind (arith, nat_tests)

name_no_colon : (name : List ℕ) → is_name name ≡ true → same_name (58 ∷ []) name ≡ false
name_no_colon [] h = refl
name_no_colon (b ∷ name) h =
    let p = (and_parts (is_name_start b) (list_all is_name_byte name) h).0 in
    ap (λ t. t && same_name [] name) (start_no_colon b p)

known_of_row : (rows : List Row) (name : List ℕ) (shapes : List Shape) (r : Row) → first_row rows name shapes ≡ Some r → list_any (λ q. same_name (name_of q) name) rows ≡ true
known_of_row [] name shapes r h = absurd (cc)
known_of_row (q ∷ rows) name shapes r h =
    elim (cases_Bool (is_of_row q name shapes)) [
      | inl t ↦ or_left _ _ (and_parts (same_name (name_of q) name) (have_form (parts_of q) shapes) t).0
      | inr f ↦ or_right _ _ (known_of_row rows name shapes r (sym (cond-false _ _ _ f) ∙ h))
    ]

found_is_known : (name : List ℕ) (shapes : List Shape) (r : Row) → find name shapes ≡ Some r → known name ≡ true
unfolding find known
found_is_known name shapes r h = known_of_row ROWS name shapes r h

module _ (symbols : List Symbol) where
  no_colon_part : (p : Part) (values : List ℕ) (parts : List Part) → FirstFits symbols p values → begins_with_colon (p ∷ parts) ≡ false → same_name (58 ∷ []) (piece_bytes symbols (spelled_at p values)) ≡ false
  no_colon_part part.Common values parts h k = (is_register_name (at values 0) h).no_colon
  no_colon_part part.AnyRegister values parts h k = (is_register_name (at values 0) h).no_colon
  no_colon_part (part.Register n) values parts h k = (is_register_name n h).no_colon
  no_colon_part part.Small values parts h k = digits_no_colon (decimal (at values 0)) (decimal_run (at values 0) (omega arith))
  no_colon_part part.Width values parts h k = digits_no_colon (decimal (at values 0)) (decimal_run (at values 0) (omega arith))
  no_colon_part part.Short values parts h k = digits_no_colon (decimal (at values 0)) (decimal_run (at values 0) (omega arith))
  no_colon_part (part.Exactly n) values parts h k = digits_no_colon (decimal (at values 0)) (decimal_run (at values 0) (omega arith))
  no_colon_part part.Label values parts h k = name_no_colon (name_of_place symbols (at values 0)) (and_parts (is_name (name_of_place symbols (at values 0))) (not (is_reserved (name_of_place symbols (at values 0)))) h).0
  no_colon_part (part.Word n) values parts h k = (is_fixed_text n h).colon ∙ k

  abbrev operand_tokens : List Part → List ℕ → List Token
  operand_tokens parts values = map (piece_token symbols) (spelled parts values)

  no_labels : (t : Token) (parts : List Part) (values : List ℕ) → AllFit symbols parts values → begins_with_colon parts ≡ false → says_of (t ∷ operand_tokens parts values) ≡ record { bad_byte = false; labels = []; statement = statement (t ∷ operand_tokens parts values) }
  no_labels t [] values h k =
      ap (λ l. record { bad_byte = false; labels = l; statement = statement (after_labels (t ∷ [])) }) (labels-alone t)
      ∙ ap (λ l. record { bad_byte = false; labels = []; statement = statement l }) (after-alone t)
  no_labels t (p ∷ parts) values h k =
      let c = piece_token symbols (spelled_at p values) in
      let rest = operand_tokens parts (values_after p values) in
      let no = no_colon_part p values parts h.0 k in
      ap (λ l. record { bad_byte = false; labels = l; statement = statement (after_labels (t ∷ c ∷ rest)) }) (labels-none t c rest no)
      ∙ ap (λ l. record { bad_byte = false; labels = []; statement = statement l }) (after-none t c rest no)

  -- the bytes of the pieces are allowed

  part_allowed : (p : Part) (values : List ℕ) → FirstFits symbols p values → all_allowed (piece_bytes symbols (spelled_at p values)) ≡ true
  part_allowed part.Common values h = (is_register_name (at values 0) h).allowed
  part_allowed part.AnyRegister values h = (is_register_name (at values 0) h).allowed
  part_allowed (part.Register n) values h = (is_register_name n h).allowed
  part_allowed part.Small values h = decimal_allowed (at values 0) (omega arith)
  part_allowed part.Width values h = decimal_allowed (at values 0) (omega arith)
  part_allowed part.Short values h = decimal_allowed (at values 0) (omega arith)
  part_allowed (part.Exactly n) values h = decimal_allowed (at values 0) (omega arith)
  part_allowed part.Label values h = name_allowed (name_of_place symbols (at values 0)) (and_parts (is_name (name_of_place symbols (at values 0))) (not (is_reserved (name_of_place symbols (at values 0)))) h).0
  part_allowed (part.Word n) values h = (is_fixed_text n h).allowed

  text_allowed : (p : Spelled) → all_allowed (piece_bytes symbols p) ≡ true → all_allowed (piece_text symbols p) ≡ true
  text_allowed p h =
      let P : List ℕ → Type 0 = λ t. all_allowed t ≡ true in
      elim (text_is symbols p) [ inl e ↦ subst P (sym e) h | inr e ↦ subst P (sym e.1) refl ]

  pieces_allowed : (parts : List Part) (values : List ℕ) → AllFit symbols parts values → all_allowed (pieces_text symbols (spelled parts values)) ≡ true
  pieces_allowed [] values h = refl
  pieces_allowed (p ∷ parts) values h =
      both_allowed (piece_text symbols (spelled_at p values)) (pieces_text symbols (spelled parts (values_after p values)))
      (text_allowed (spelled_at p values) (part_allowed p values h.0)) (pieces_allowed parts (values_after p values) h.1)

  operands_allowed : (parts : List Part) (values : List ℕ) → AllFit symbols parts values → all_allowed (operands_text symbols (spelled parts values)) ≡ true
  operands_allowed [] values h = refl
  operands_allowed (p ∷ parts) values h = pieces_allowed (p ∷ parts) values h

  module _ (found : (ins : Instr) → InRange ins → find (name_of (row_of ins)) (shapes (parts_of (row_of ins)) (values_of ins)) ≡ Some (row_of ins)) where
    -- what the name and the operands say
    says_instruction : (ins : Instr) (operands : List Operand) → InRange ins → AreRead symbols (parts_of (row_of ins)) (values_of ins) operands → instruction (name_of (row_of ins)) operands ≡ says.Instruction (row_of ins) (amounts_at symbols (parts_of (row_of ins)) (values_of ins))
    says_instruction ins operands h r =
        let name = name_of (row_of ins) in
        let f : option_and_then (find name) (shapes_of operands) ≡ Some (row_of ins) = ap (λ o. option_and_then (find name) o) r.shapes ∙ found ins h in
        cond-true _ _ _ (found_is_known name _ (row_of ins) (found ins h))
        ∙ (ap (λ o. of_row operands o) f ∙ ap (λ a. says.Instruction (row_of ins) a) r.amounts)

    instruction_line : (ins : Instr) → IsReadable symbols ins → line_of (item_line symbols (item.Instruction ins)) ≡ line_item symbols (item.Instruction ins)
    instruction_line ins h =
        let r = row_of ins in
        let name = name_of r in
        let parts = parts_of r in
        let vs = values_of ins in
        let n = rows_have_names r in
        let fit = all_fit symbols parts vs (rows_name_what_is r) (in_range_parts ins h.in_range) h.named in
        let pieces = spelled parts vs in
        let plain : statement_text symbols (spelling ins) ≡ name ++ operands_text symbols pieces = ap (λ t. t ++ operands_text symbols pieces) (cond-false _ _ _ n.no_comma) in
        let stop = operands_stop symbols pieces in
        let toks : tokens_of (statement_text symbols (spelling ins)) ≡ token_of name ∷ operand_tokens parts vs =
        ap (λ t. tokens_of t) plain ∙ (name_first name (operands_text symbols pieces) n.named stop.0
        ∙ ap (λ l. token_of name ∷ l) (operands_tokens symbols pieces (parted symbols parts vs fit (rows_are_parted r)))) in
        let allowed : all_allowed (statement_text symbols (spelling ins)) ≡ true =
        ap (λ t. all_allowed t) plain ∙ both_allowed name (operands_text symbols pieces) n.allowed (operands_allowed parts vs fit) in
        let read = operands_read symbols parts vs [] [] true fit (rows_labels_clear r) (λ _. refl) in
        by_tokens (item_line symbols (item.Instruction ins)) (token_of name ∷ operand_tokens parts vs) allowed
        (blank_first (32 ∷ statement_text symbols (spelling ins)) ∙ (blank_first (statement_text symbols (spelling ins)) ∙ toks))
        ∙ (no_labels (token_of name) parts vs fit (rows_no_colon r)
        ∙ (ap (λ (s : Statement). record { bad_byte = false; labels = []; statement = s })
        (cond-false _ _ _ (ap not (ap is_name_kind (name_kind name n.named)))
        ∙ cond-false _ _ _ n.no_directive)
        ∙ ap (λ (s : Says). record { bad_byte = false; labels = []; statement = record { home = InText; says = s } }) (says_instruction ins (operands_of (operand_tokens parts vs)) h.in_range read)))

    -- each item's line says what the item is
    pub item_is_read : (it : Item) → IsPlain symbols it → line_of (item_line symbols it) ≡ line_item symbols it
    item_is_read (item.Label name) h = label_line symbols name h
    item_is_read (item.Instruction ins) h = instruction_line ins h
    item_is_read item.DataSection h = data_line symbols
    item_is_read item.ConstantSection h = constants_line symbols
    item_is_read (item.Byte value) h = byte_line symbols value h

  -- and has allowed bytes alone
  instruction_allowed : (ins : Instr) → IsReadable symbols ins → all_allowed (item_line symbols (item.Instruction ins)) ≡ true
  instruction_allowed ins h =
      let r = row_of ins in
      let n = rows_have_names r in
      let fit = all_fit symbols (parts_of r) (values_of ins) (rows_name_what_is r) (in_range_parts ins h.in_range) h.named in
      let pieces = spelled (parts_of r) (values_of ins) in
      let plain : statement_text symbols (spelling ins) ≡ name_of r ++ operands_text symbols pieces = ap (λ t. t ++ operands_text symbols pieces) (cond-false _ _ _ n.no_comma) in
      ap (λ t. all_allowed t) plain ∙ both_allowed (name_of r) (operands_text symbols pieces) n.allowed (operands_allowed (parts_of r) (values_of ins) fit)

  pub item_is_allowed : (it : Item) → IsPlain symbols it → all_allowed (item_line symbols it) ≡ true
  item_is_allowed (item.Label name) h = both_allowed name (58 ∷ []) (name_allowed name (and_parts (is_name name) (not (is_reserved name)) h).0) refl
  item_is_allowed (item.Instruction ins) h = instruction_allowed ins h
  item_is_allowed item.DataSection h = refl
  item_is_allowed item.ConstantSection h = refl
  item_is_allowed (item.Byte value) h = both_allowed (32 ∷ 32 ∷ (byte_name ++ (32 ∷ []))) (decimal value) refl (decimal_allowed value (omega arith))
