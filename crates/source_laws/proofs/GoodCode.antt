-- The code of a source without faults: each instruction is in range, and what it names by a label is there.
use Rattle.std.proofs.Common.{◌≡◌, ℕ, zero, suc, ◌+◌, ◌*◌, ◌≤◌, min, true, false, List, [], ◌∷◌, map, replicate, Option, Some, None, option_and_then, refl, sym, ◌∙◌, subst, arith, IsTrue}
use Rattle.std.specs.Prelude.{IfSome, is_none, option_to_list}
use Rattle.std.specs.List.{AllByRecursion, list_any}
use Rattle.std.proofs.lemmas.Bool.{false≢true, or_parts, cond_both}
use Rattle.xs_instructions.specs.Code.{code_start, place_address}
use Rattle.xs_instructions.specs.Image.{Symbol, has_symbol_at}
use Rattle.xs_instructions.specs.Instr.{InRange, label_of, value_parts}
use Rattle.xs_instructions.specs.Operands.{made}
use Rattle.xs_instructions.specs.Find.{are_in_range, build}
use Rattle.xs_instructions.specs.declared.instr.Instr.{Instr}
use Rattle.xs_instructions.specs.declared.instr.Instr.TheVariants.{Words}
use Rattle.xs_instructions.specs.declared.instr.WordIns.TheVariants.{Nop}
use Rattle.xs_instructions.specs.declared.rows.Row.{Row}
use Rattle.xs_instructions.specs.declared.rows.Part.{Part}
use Rattle.xs_instructions.specs.declared.rows.Part.TheVariants as part
use Rattle.xs_instructions.proofs.Made.{made-facts}
use Rattle.source_model.specs.declared.layout.Section.{Section}
use Rattle.source_model.specs.declared.layout.Section.TheVariants.{Text, Data, Constants}
use Rattle.source_model.specs.declared.layout.Home.{Home}
use Rattle.source_model.specs.declared.layout.Layout.{Layout}
use Rattle.source_model.specs.declared.layout.Place.{Place}
use Rattle.source_model.specs.Operands.{Amount, Known, Target, Address, Offset}
use Rattle.source_model.specs.Statement.{Says, NoEffect, Unknown, Misshapen, Instruction, Values, Zeros, Align, Line}
use Rattle.source_model.specs.Layout.{Label, place_of, Sofar, section_length, address_in, after_line}
use Rattle.source_model.specs.Source.{target_in, target_value, amount_value, values_in, is_missing, names_missing, code_of, same_section, code_of_line, code_of_lines, symbol_of}
use Rattle.source_laws.proofs.Each.{some_for_none, each_parts}
use Rattle.source_laws.proofs.Sound.{IsTarget, IsTargetAt, HasTargets, IsSoundAt, all_append}
use Rattle.source_laws.proofs.Fine.{IsFine, AreFine}
use Rattle.source_laws.proofs.Labels.{IsReached, reached_at, symbol_there}
use Rattle.source_laws.proofs.Targets.{labelled_at, labelled, label_labelled}

-- the symbols have the address of a place in the code
abbrev pub IsThere : List Symbol → ℕ → Type 0
IsThere symbols place = IsTrue (has_symbol_at symbols (place_address place))

-- what every image keeps of an instruction
pub record IsGood (symbols : List Symbol) (ins : Instr) : Type 0 where
  pub operands : InRange ins
  pub target : IfSome (label_of ins) (IsThere symbols)

-- what all lines say, where no fault is
pub record IsWhole (whole : Sofar) : Type 0 where
  pub code : whole.layout.instructions ≤ 16384
  pub reached : AllByRecursion (λ (label : Label). IsReached whole.layout label.1) whole.labels

abbrev symbols_of : Sofar → List Symbol
symbols_of whole = map (symbol_of whole.layout) whole.labels

-- the place of a code label that is defined

section_there : (symbols : List Symbol) (layout : Layout) (section : Section) (at n : ℕ) → layout.instructions ≤ 16384 → at ≤ section_length layout section
    → has_symbol_at symbols (address_in layout (record { section = section; offset = at })) ≡ true → target_in section at ≡ Some n → IsThere symbols n
section_there symbols layout Text at n code reached there h =
    let least : min at 16384 ≡ n = cc in
    let is : code_start + 4 * at ≡ place_address n = omega arith in
    subst (λ a. has_symbol_at symbols a ≡ true) is there
section_there symbols layout Data at n code reached there h = cc
section_there symbols layout Constants at n code reached there h = cc

place_there : (whole : Sofar) (name : List ℕ) (place : Place) (n : ℕ) → IsWhole whole → place_of whole.labels name ≡ Some place → target_value (Some place) ≡ Some n → IsThere (symbols_of whole) n
place_there whole name place n w e h =
    let there = symbol_there whole.layout whole.labels name place e in
    let reached = reached_at whole.layout whole.labels name place w.reached e in
    section_there (symbols_of whole) whole.layout place.section place.offset n w.code reached.offset there h

name_there : (whole : Sofar) (name : List ℕ) (o : Option Place) (n : ℕ) → IsWhole whole → place_of whole.labels name ≡ o → target_value o ≡ Some n → is_none o ≡ false → IsThere (symbols_of whole) n
name_there whole name None n w e h d = absurd (false≢true (sym d))
name_there whole name (Some place) n w e h d = place_there whole name place n w e h

target_there : (whole : Sofar) (amount : Amount) (n : ℕ) → IsWhole whole → IsTarget amount → amount_value whole amount ≡ Some n → is_missing whole amount ≡ false → IsThere (symbols_of whole) n
target_there whole (Known value) n w t h d = absurd t
target_there whole (Target name) n w t h d = name_there whole name (place_of whole.labels name) n w refl h d
target_there whole (Address name) n w t h d = absurd t
target_there whole (Offset base name) n w t h d = absurd t

label_there : (whole : Sofar) (p : Part) (amount : Amount) (n : ℕ) (after : Option ℕ) → IsWhole whole → IsTargetAt p amount → amount_value whole amount ≡ Some n → is_missing whole amount ≡ false
    → IfSome after (IsThere (symbols_of whole)) → IfSome (labelled_at p n after) (IsThere (symbols_of whole))
label_there whole part.Label amount n after w t h d k = target_there whole amount n w t h d
label_there whole part.Common amount n after w t h d k = k
label_there whole _ amount n after w t h d k = k

none_labelled : (whole : Sofar) (parts : List Part) → IfSome (labelled parts []) (IsThere (symbols_of whole))
none_labelled whole [] = tt
none_labelled whole (p ∷ parts) = tt

targets_there : (whole : Sofar) (parts : List Part) (amounts : List Amount) (values : List ℕ) → IsWhole whole → HasTargets parts amounts → values_in whole amounts ≡ Some values
    → list_any (is_missing whole) amounts ≡ false → IfSome (labelled parts values) (IsThere (symbols_of whole))
targets_there whole [] amounts values w t h d = tt
targets_there whole (p ∷ parts) amounts [] w t h d = tt
targets_there whole (p ∷ parts) [] (n ∷ values) w t h d = absurd (some_for_none (amount_value whole) n values h)
targets_there whole (p ∷ parts) (amount ∷ amounts) (n ∷ values) w t h d =
    let parts_of_values = each_parts (amount_value whole) amount amounts n values h in
    let defined = or_parts (is_missing whole amount) (list_any (is_missing whole) amounts) d in
    label_there whole p amount n (labelled parts values) w t.0 parts_of_values.0 defined.0 (targets_there whole parts amounts values w t.1 parts_of_values.1 defined.1)

-- an instruction that a line makes

made_good : (whole : Sofar) (row : Row) (amounts : List Amount) (values : List ℕ) → IsWhole whole → values_in whole amounts ≡ Some values → HasTargets (value_parts row) amounts
    → list_any (is_missing whole) amounts ≡ false → are_in_range (value_parts row) values ≡ true → IsGood (symbols_of whole) (made row values)
made_good whole row amounts values w h t d r =
    let facts = made-facts row values r in
    let there = targets_there whole (value_parts row) amounts values w t h d in
    let label : label_of (made row values) ≡ labelled (value_parts row) values = label_labelled (made row values) ∙ (rw (facts.1, facts.2) refl) in
    record {
      operands = facts.0;
      target = subst (λ o. IfSome o (IsThere (symbols_of whole))) (sym label) there;
    }

instruction_good : (whole : Sofar) (row : Row) (amounts : List Amount) (o : Option (List ℕ)) → IsWhole whole → values_in whole amounts ≡ o → HasTargets (value_parts row) amounts
    → list_any (is_missing whole) amounts ≡ false → AllByRecursion (IsGood (symbols_of whole)) (option_to_list (option_and_then (build row) o))
instruction_good whole row amounts None w h t d = tt
instruction_good whole row amounts (Some values) w h t d =
    cond_both (are_in_range (value_parts row) values) (Some (made row values)) None (λ o. AllByRecursion (IsGood (symbols_of whole)) (option_to_list o))
    (λ r. (made_good whole row amounts values w h t d r, tt)) (λ r. tt)

nop_good : (symbols : List Symbol) → IsGood symbols (Words Nop)
nop_good symbols = record { operands = tt; target = tt }

all_replicate : {A : Type 0} (P : A → Type 0) (n : ℕ) (x : A) → P x → AllByRecursion P (replicate n x)
all_replicate P zero x h = tt
all_replicate P (suc n) x h = (h, all_replicate P n x h)

says_good : (whole : Sofar) (long : ℕ) (home : Home) (says : Says) → IsWhole whole → IsSoundAt home says → names_missing whole says ≡ false → AllByRecursion (IsGood (symbols_of whole)) (code_of whole long says)
says_good whole long home NoEffect w s d = tt
says_good whole long home Unknown w s d = tt
says_good whole long home Misshapen w s d = tt
says_good whole long home (Instruction row amounts) w s d = instruction_good whole row amounts (values_in whole amounts) w refl s.1 d
says_good whole long home (Values width amounts) w s d = tt
says_good whole long home (Zeros count) w s d = tt
says_good whole long home (Align None) w s d = tt
says_good whole long home (Align (Some unit)) w s d = all_replicate (IsGood (symbols_of whole)) _ (Words Nop) (nop_good (symbols_of whole))

line_good : (whole before : Sofar) (line : Line) → IsWhole whole → IsFine whole before line → AllByRecursion (IsGood (symbols_of whole)) (code_of_line whole before line)
line_good whole before line w f =
    cond_both (same_section Text before.layout.section) (code_of whole before.layout.instructions line.statement.says) [] (AllByRecursion (IsGood (symbols_of whole)))
    (λ e. says_good whole before.layout.instructions line.statement.home line.statement.says w f.sound.says f.defined)
    (λ e. tt)

pub code_good : (whole before : Sofar) (lines : List Line) → IsWhole whole → AreFine whole before lines → AllByRecursion (IsGood (symbols_of whole)) (code_of_lines whole before lines)
unfolding code_of_lines
code_good whole before [] w f = tt
code_good whole before (line ∷ lines) w f =
    all_append (IsGood (symbols_of whole)) (code_of_line whole before line) (code_of_lines whole (after_line before line) lines) (line_good whole before line w f.0) (code_good whole (after_line before line) lines w f.1)

pub all_then : {A : Type 0} (P Q : A → Type 0) (xs : List A) → ((x : A) → P x → Q x) → AllByRecursion P xs → AllByRecursion Q xs
all_then P Q [] h k = tt
all_then P Q (x ∷ xs) h k = (h x k.0, all_then P Q xs h k.1)
