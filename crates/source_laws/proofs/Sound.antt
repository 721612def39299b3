-- What a line of a source says, whatever its bytes are: its labels are names, a statement that adds something has its home,
-- and where a row takes a label a code label's name stands.
use Rattle.std.proofs.Common.{◌≡◌, ℕ, zero, suc, Bool, true, false, cond, List, [], ◌∷◌, ◌++◌, Option, Some, None, option_map, option_and_then, refl, sym, ap, ◌∙◌, subst, map, take, ◌||◌}
use Rattle.std.specs.List.{AllByRecursion, filter}
use Rattle.std.proofs.lemmas.Bool.{and_parts, cond_both, false≢true}
use Rattle.xs_text.specs.Bytes.{is_blank}
use Rattle.xs_text.specs.Tokens.{begins_comment, tail_length, Token, is_name, is_number, is_mark, kind_of, token_of, token_at, skip_at, tokens_after, tokens_of}
use Rattle.xs_text.specs.declared.token_reader.TokKind.{TokKind}
use Rattle.xs_text.specs.declared.token_reader.TokKind.TheVariants.{Name, Number, Mark, Stray}
use Rattle.xs_instructions.specs.Image.{same_name, is_reserved}
use Rattle.xs_instructions.specs.Instr.{takes_value, value_parts}
use Rattle.xs_instructions.specs.Find.{find, known, shape_fits, have_form, is_of_row, first_row, values_among}
use Rattle.xs_instructions.specs.Rows.{name_of, parts_of}
use Rattle.xs_instructions.specs.Words.{fixed, register_number}
use Rattle.xs_instructions.specs.declared.rows.TheConstants.{ROWS}
use Rattle.xs_instructions.specs.declared.rows.Row.{Row}
use Rattle.xs_instructions.specs.declared.rows.Part.{Part}
use Rattle.xs_instructions.specs.declared.rows.Part.TheVariants as part
use Rattle.xs_instructions.specs.declared.shape.Shape.{Shape}
use Rattle.xs_instructions.specs.declared.shape.Shape.TheVariants as shape
use Rattle.source_model.specs.declared.layout.Section.{Section}
use Rattle.source_model.specs.declared.layout.Width.{Width}
use Rattle.source_model.specs.declared.layout.Width.TheVariants.{Byte, Short, Word}
use Rattle.source_model.specs.declared.layout.Home.{Home}
use Rattle.source_model.specs.declared.layout.Home.TheVariants.{Anywhere, InText, InBytes, BeginsData, BeginsConstants, Nowhere}
use Rattle.source_model.specs.Operands.{Amount, Target, Operand, operands_of, or_shape, label_shape, shape_by_kind, shape_of, shapes_of, name_amount, amount_by_kind, amount_of, amounts_of}
use Rattle.source_model.specs.Values.{listed_values}
use Rattle.source_laws.proofs.Each.{none_for_some, each_parts}
use Rattle.source_model.specs.Statement.{Says, NoEffect, Unknown, Misshapen, Instruction, Values, Zeros, Statement, Line, is_nothing, is_lone_name, lone_number, shaped, zeros, aligned, valued, directive, of_row, instruction, statement, begins_label, labels_first, after_labels, line_of, is_name_kind}

-- a code label's name
abbrev pub IsTarget : Amount → Type 0
IsTarget (Target name) = Unit {0}
IsTarget _ = ⊥

abbrev pub IsTargetAt : Part → Amount → Type 0
IsTargetAt part.Label amount = IsTarget amount
IsTargetAt _ amount = Unit {0}

-- where a row takes a label, a code label's name stands
abbrev pub HasTargets : List Part → List Amount → Type 0
HasTargets [] amounts = Unit {0}
HasTargets (p ∷ parts) [] = Unit {0}
HasTargets (p ∷ parts) (amount ∷ amounts) = IsTargetAt p amount × HasTargets parts amounts

-- what adds to a section has its home, and where an instruction's row takes a label a code label's name stands
abbrev pub IsSoundAt : Home → Says → Type 0
IsSoundAt home (Instruction row amounts) = (home ≡ InText) × HasTargets (value_parts row) amounts
IsSoundAt home (Values width amounts) = home ≡ InBytes
IsSoundAt home (Zeros count) = home ≡ InBytes
IsSoundAt home _ = Unit {0}

pub record IsSound (line : Line) : Type 0 where
  pub names : AllByRecursion (λ name. is_name name ≡ true) line.labels
  pub says : IsSoundAt line.statement.home line.statement.says

pub all_append : {A : Type 0} (P : A → Type 0) (xs ys : List A) → AllByRecursion P xs → AllByRecursion P ys → AllByRecursion P (xs ++ ys)
all_append P [] ys h k = k
all_append P (x ∷ xs) ys h k = (h.0, all_append P xs ys h.1 k)

-- tokens have the kind of their bytes

abbrev IsFormed : Token → Type 0
IsFormed t = t.kind ≡ kind_of t.bytes

formed_at : (b : ℕ) (rest : List ℕ) → AllByRecursion IsFormed (token_at b rest)
formed_at b rest = cond_both (is_blank b || begins_comment b rest) [] (token_of (b ∷ take (tail_length b rest) rest) ∷ []) (AllByRecursion IsFormed) (λ e. tt) (λ e. (refl, tt))

formed : (skip : ℕ) (bytes : List ℕ) → AllByRecursion IsFormed (tokens_after skip bytes)
unfolding tokens_after
formed skip [] = tt
formed zero (b ∷ rest) = all_append IsFormed (token_at b rest) _ (formed_at b rest) (formed (skip_at b rest) rest)
formed (suc skip) (b ∷ rest) = formed skip rest

name_first : (b : Bool) (c d : Bool) → is_name_kind (cond b Name (cond c Number (cond d Mark Stray))) ≡ true → b ≡ true
name_first true c d h = refl
name_first false true d h = absurd (false≢true h)
name_first false false true h = absurd (false≢true h)
name_first false false false h = absurd (false≢true h)

named_kind : (bytes : List ℕ) → is_name_kind (kind_of bytes) ≡ true → is_name bytes ≡ true
named_kind bytes h = name_first (is_name bytes) (is_number bytes) (is_mark bytes) h

-- labels are names

label_named : (t c : Token) → IsFormed t → begins_label t c ≡ true → is_name t.bytes ≡ true
label_named t c h e =
    let both = and_parts (is_name_kind t.kind) _ e in
    named_kind t.bytes (sym (ap is_name_kind h) ∙ both.0)

labels_named : (ts : List Token) → AllByRecursion IsFormed ts → AllByRecursion (λ name. is_name name ≡ true) (labels_first ts)
unfolding labels_first
labels_named [] h = tt
labels_named (t ∷ []) h = tt
labels_named (t ∷ c ∷ rest) h =
    cond_both (begins_label t c) (t.bytes ∷ labels_first rest) [] (AllByRecursion (λ name. is_name name ≡ true))
    (λ e. (label_named t c h.0 e, labels_named rest h.1.1))
    (λ e. tt)

-- a label's shape is that of a code label's name alone

name_target : (base : Option Section) (name : List ℕ) (register word : Option ℕ) (reserved : Bool)
    → or_shape (option_map shape.Reg register) (or_shape (option_map shape.Word word) (cond reserved None (Some (label_shape base)))) ≡ Some shape.Label → IsTarget (name_amount register base name)
name_target base name (Some r) word reserved h = cc
name_target base name None (Some w) reserved h = cc
name_target base name None None true h = cc
name_target None name None None false h = tt
name_target (Some section) name None None false h = cc

mark_target : (word : Option ℕ) → option_map shape.Word word ≡ Some shape.Label → ⊥
mark_target None h = cc
mark_target (Some w) h = cc

target : (kind : TokKind) (base : Option Section) (bytes : List ℕ) → shape_by_kind kind base bytes ≡ Some shape.Label → IsTarget (amount_by_kind kind base bytes)
target Name base bytes h = name_target base bytes (register_number bytes) (fixed bytes) (is_reserved bytes) h
target Number base bytes h = cc
target Mark base bytes h = absurd (mark_target (fixed bytes) h)
target Stray base bytes h = cc

label_alone : (s : Shape) → shape_fits part.Label s ≡ true → s ≡ shape.Label
label_alone shape.Label h = refl
label_alone (shape.Reg r) h = absurd (false≢true h)
label_alone shape.Num h = absurd (false≢true h)
label_alone (shape.Word w) h = absurd (false≢true h)

no_targets : (parts : List Part) → HasTargets parts []
no_targets [] = tt
no_targets (p ∷ parts) = tt

with_target : (p : Part) (operand : Operand) (s : Shape) (parts : List Part) (amounts : List Amount) → shape_of operand ≡ Some s → shape_fits p s ≡ true
    → HasTargets (filter takes_value parts) amounts
    → HasTargets (filter takes_value (p ∷ parts)) (cond (takes_value p) (amount_of operand ∷ amounts) amounts)
with_target part.Common operand s parts amounts e h k = (tt, k)
with_target part.AnyRegister operand s parts amounts e h k = (tt, k)
with_target (part.Register r) operand s parts amounts e h k = k
with_target part.Small operand s parts amounts e h k = (tt, k)
with_target part.Width operand s parts amounts e h k = (tt, k)
with_target part.Short operand s parts amounts e h k = (tt, k)
with_target (part.Exactly n) operand s parts amounts e h k = (tt, k)
with_target part.Label operand s parts amounts e h k =
    (target operand.token.kind operand.base operand.token.bytes (e ∙ ap Some (label_alone s h)), k)
with_target (part.Word w) operand s parts amounts e h k = k

targets : (parts : List Part) (operands : List Operand) (shapes : List Shape) → shapes_of operands ≡ Some shapes → have_form parts shapes ≡ true
    → HasTargets (filter takes_value parts) (values_among parts (map amount_of operands))
targets [] operands shapes e h = tt
targets (p ∷ parts) [] shapes e h = no_targets (filter takes_value (p ∷ parts))
targets (p ∷ parts) (operand ∷ rest) [] e h = absurd (none_for_some shape_of operand rest e)
targets (p ∷ parts) (operand ∷ rest) (s ∷ shapes) e h =
    let shaped = each_parts shape_of operand rest s shapes e in
    let both = and_parts (shape_fits p s) (have_form parts shapes) h in
    with_target p operand s parts _ shaped.0 both.0 (targets parts rest shapes shaped.1 both.1)

-- the row that is found has the form

form_first : (r found : Row) (rows : List Row) (name : List ℕ) (shapes : List Shape) (b : Bool) → is_of_row r name shapes ≡ b
    → (first_row rows name shapes ≡ Some found → have_form (parts_of found) shapes ≡ true)
    → cond b (Some r) (first_row rows name shapes) ≡ Some found → have_form (parts_of found) shapes ≡ true
form_first r found rows name shapes true e next h =
    let is : r ≡ found = cc in
    let both = and_parts (same_name (name_of r) name) (have_form (parts_of r) shapes) e in
    subst (λ r. have_form (parts_of r) shapes ≡ true) is both.1
form_first r found rows name shapes false e next h = next h

form_in : (found : Row) (rows : List Row) (name : List ℕ) (shapes : List Shape) → first_row rows name shapes ≡ Some found → have_form (parts_of found) shapes ≡ true
form_in found [] name shapes h = cc
form_in found (r ∷ rows) name shapes h =
    form_first r found rows name shapes (is_of_row r name shapes) refl (form_in found rows name shapes) h

form_found : (found : Row) (name : List ℕ) (shapes : List Shape) → find name shapes ≡ Some found → have_form (parts_of found) shapes ≡ true
unfolding find
form_found found name shapes h = form_in found ROWS name shapes h

-- the statement

row_sound : (operands : List Operand) (o : Option Row) → ((row : Row) → o ≡ Some row → HasTargets (value_parts row) (amounts_of row operands)) → IsSoundAt InText (of_row operands o)
row_sound operands None h = tt
row_sound operands (Some row) h = (refl, h row refl)

row_targets : (name : List ℕ) (operands : List Operand) (o : Option (List Shape)) → shapes_of operands ≡ o → (row : Row) → option_and_then (find name) o ≡ Some row → HasTargets (value_parts row) (amounts_of row operands)
row_targets name operands None e row h = cc
row_targets name operands (Some shapes) e row h = targets (parts_of row) operands shapes e (form_found row name shapes h)

instruction_sound : (name : List ℕ) (operands : List Operand) → IsSoundAt InText (instruction name operands)
instruction_sound name operands =
    cond_both (known name) (of_row operands (option_and_then (find name) (shapes_of operands))) Unknown (IsSoundAt InText)
    (λ e. row_sound operands _ (row_targets name operands (shapes_of operands) refl))
    (λ e. tt)

shaped_sound : (home : Home) (b : Bool) → IsSoundAt home (shaped b)
shaped_sound home true = tt
shaped_sound home false = tt

zeros_sound : (o : Option (List ℕ)) → IsSoundAt InBytes (zeros o)
zeros_sound None = tt
zeros_sound (Some digits) = refl

aligned_sound : (home : Home) (o : Option (List ℕ)) → IsSoundAt home (aligned o)
aligned_sound home None = tt
aligned_sound home (Some digits) = tt

valued_sound : (width : Width) (o : Option (List Amount)) → IsSoundAt InBytes (valued width o)
valued_sound width None = tt
valued_sound width (Some amounts) = refl

record IsSoundStatement (s : Statement) : Type 0 where
  is : IsSoundAt s.home s.says

either : (b : Bool) {x y : Statement} → IsSoundStatement x → IsSoundStatement y → IsSoundStatement (cond b x y)
either true h k = h
either false h k = k

stated : (home : Home) (says : Says) → IsSoundAt home says → IsSoundStatement (record { home = home; says = says })
stated home says h = record { is = h }

directive_sound : (name : List ℕ) (rest : List Token) → IsSoundStatement (directive name rest)
directive_sound name rest =
    either _ (stated InText _ (shaped_sound InText (is_nothing rest)))
    (either _ (stated InText _ (shaped_sound InText (is_lone_name rest)))
    (either _ (stated Anywhere _ (aligned_sound Anywhere (lone_number rest)))
    (either _ (stated BeginsData _ (shaped_sound BeginsData (is_nothing rest)))
    (either _ (stated BeginsConstants _ (shaped_sound BeginsConstants (is_nothing rest)))
    (either _ (stated InBytes _ (valued_sound Word (listed_values Word rest)))
    (either _ (stated InBytes _ (valued_sound Short (listed_values Short rest)))
    (either _ (stated InBytes _ (valued_sound Byte (listed_values Byte rest)))
    (either _ (stated InBytes _ (zeros_sound (lone_number rest))) (stated Nowhere NoEffect tt)))))))))

statement_sound : (ts : List Token) → IsSoundStatement (statement ts)
statement_sound [] = stated Anywhere NoEffect tt
statement_sound (t ∷ rest) =
    either _ (stated Anywhere Misshapen tt) (either _ (directive_sound t.bytes rest) (stated InText _ (instruction_sound t.bytes (operands_of rest))))

pub sound : (bytes : List ℕ) → IsSound (line_of bytes)
sound bytes = record {
  names = labels_named (tokens_of bytes) (formed 0 bytes);
  says = (statement_sound (after_labels (tokens_of bytes))).is;
}
