-- Steps of the loops over the amounts of a statement.
use Rattle.std.proofs.Common.{◌≡◌, ◌≢◌, ℕ, ◌+◌, ◌<◌, ◌≤◌, Bool, true, false, ◌||◌, List, [], ◌∷◌, ◌++◌, length, map, drop, get_or, Option, Some, None, option_map, refl, sym, ap, ◌∙◌, append_assoc}
use Rattle.std.specs.Prelude.{option_and_then, option_to_list, is_none, if◌then◌else◌, Result, Ok, Err, IfOk}
use Rattle.std.specs.List.{list_any}
use Rattle.std.proofs.lemmas.List.{append-nil, drop_more, drop_all}
use Rattle.std.proofs.lemmas.Bool.{cond-true, cond-false}
use Rattle.std.proofs.Math.Bool.{or-true, or-false, or_assoc}
use Rattle.xs_instructions.specs.Table.{values_among, build}
use Rattle.xs_instructions.specs.Instr.{takes_value}
use Rattle.xs_instructions.specs.declared.rows.Part.{Part}
use Rattle.xs_instructions.specs.declared.rows.Row.{Row}
use Rattle.xs_instructions.specs.declared.instr.Instr.{Instr}
use Rattle.source_model.specs.Each.{all_some, put_first}
use Rattle.source_model.specs.Operands.{Amount, Operand, amount_of}
use Rattle.source_model.specs.Layout.{Sofar}
use Rattle.source_model.specs.Source.{amount_value, instruction_in, is_missing, values_in}
use Rattle.xs_assembler.specs.declared.contents.Found.{Found}
use Rattle.xs_assembler.specs.Contents.{after_found, found_in, found_of}

-- what a step gives: nothing where the amount is out of range
abbrev Steps : Sofar → Found → Found → Bool → Amount → Type 0
Steps whole old new fits amount = (rest : List Amount) → after_found whole old (amount ∷ rest) ≡ (if fits then after_found whole new rest else None)

abbrev joined : Sofar → List ℕ → Bool → List Amount → Option (List ℕ) → Option (List ℕ × Bool)
joined whole values missing amounts o = option_map (λ more. (values ++ more, missing || list_any (is_missing whole) amounts)) o

joined_next : (whole : Sofar) (values new : List ℕ) (missing after : Bool) (amount : Amount) (value : ℕ) (rest : List Amount) (o : Option (List ℕ))
    → new ≡ values ++ value ∷ [] → after ≡ (missing || is_missing whole amount)
    → joined whole values missing (amount ∷ rest) (put_first (Some value) o) ≡ joined whole new after rest o
joined_next whole values new missing after amount value rest None grows joins = refl
joined_next whole values new missing after amount value rest (Some more) grows joins =
    let b = list_any (is_missing whole) rest in
    sym (ap (λ ys. Some (ys ++ more, after || b)) grows
    ∙ (ap (λ ys. Some (ys, after || b)) (append_assoc values (value ∷ []) more)
    ∙ (ap (λ a. Some (values ++ value ∷ more, a || b)) joins ∙ ap (λ a. Some (values ++ value ∷ more, a)) (or_assoc missing (is_missing whole amount) b))))

pub amount_fits : (whole : Sofar) (old new : Found) (amount : Amount) (value : ℕ) → Some value ≡ amount_value whole amount
    → new.values.items ≡ old.values.items ++ value ∷ [] → new.label_missing ≡ (old.label_missing || is_missing whole amount)
    → Steps whole old new true amount
unfolding all_some
amount_fits whole old new amount value is grows joins = λ rest.
    ap (λ v. joined whole old.values.items old.label_missing (amount ∷ rest) (put_first v (values_in whole rest))) (sym is)
    ∙ joined_next whole old.values.items new.values.items old.label_missing new.label_missing amount value rest (values_in whole rest) grows joins

pub amount_past : (whole : Sofar) (old new : Found) (amount : Amount) → None ≡ amount_value whole amount → Steps whole old new false amount
unfolding all_some
amount_past whole old new amount is = λ rest.
    ap (λ v. joined whole old.values.items old.label_missing (amount ∷ rest) (put_first v (values_in whole rest))) (sym is)

pub missing_now : (whole : Sofar) (before after found : Bool) (amount : Amount) → found ≡ is_missing whole amount → found ≡ true → after ≡ true → after ≡ (before || is_missing whole amount)
missing_now whole before after found amount e h is = is ∙ (sym (or-true before) ∙ ap (λ b. before || b) (sym h ∙ e))

pub not_missing : (whole : Sofar) (before after found : Bool) (amount : Amount) → found ≡ is_missing whole amount → found ≡ false → after ≡ before → after ≡ (before || is_missing whole amount)
not_missing whole before after found amount e h is = is ∙ (sym (or-false before) ∙ ap (λ b. before || b) (sym h ∙ e))

pub nothing_more : (whole : Sofar) (found : Found) → after_found whole found [] ≡ Some (found_of found)
unfolding all_some
nothing_more whole found = ap (λ ys. Some (ys, found.label_missing || false)) (append-nil found.values.items) ∙ ap (λ b. Some (found.values.items, b)) (or-false found.label_missing)

nothing_before : (whole : Sofar) (amounts : List Amount) (o : Option (List ℕ)) → joined whole [] false amounts o ≡ option_map (λ values. (values, list_any (is_missing whole) amounts)) o
nothing_before whole amounts None = refl
nothing_before whole amounts (Some values) = refl

pub from_nothing : (whole : Sofar) (found : Found) (amounts : List Amount) → found.values.items ≡ [] → found.label_missing ≡ false → after_found whole found amounts ≡ found_in whole amounts
from_nothing whole found amounts e h =
    ap (λ ys. joined whole ys found.label_missing amounts (values_in whole amounts)) e
    ∙ (ap (λ b. joined whole [] b amounts (values_in whole amounts)) h ∙ nothing_before whole amounts (values_in whole amounts))

-- the values of a list

pub list_first : (whole : Sofar) (found : Found) (o : Option (List Amount)) → found.values.items ≡ [] → found.label_missing ≡ false
    → option_and_then (after_found whole found) o ≡ option_and_then (found_in whole) o
list_first whole found None e h = refl
list_first whole found (Some amounts) e h = from_nothing whole found amounts e h

pub list_next : (whole : Sofar) (old new : Found) (fits : Bool) (amount : Amount) (before after : Option (List Amount)) (all : Option (List ℕ × Bool))
    → fits ≡ true → before ≡ put_first (Some amount) after → Steps whole old new fits amount
    → option_and_then (after_found whole old) before ≡ all → option_and_then (after_found whole new) after ≡ all
list_next whole old new false amount before after all e is step inv = cc
list_next whole old new true amount before None all e is step inv = ap (λ o. option_and_then (after_found whole old) o) (sym is) ∙ inv
list_next whole old new true amount before (Some rest) all e is step inv =
    sym (step rest) ∙ (ap (λ o. option_and_then (after_found whole old) o) (sym is) ∙ inv)

pub list_past : (whole : Sofar) (old new : Found) (fits : Bool) (amount : Amount) (before after : Option (List Amount)) (all : Option (List ℕ × Bool))
    → fits ≡ false → before ≡ put_first (Some amount) after → Steps whole old new fits amount
    → option_and_then (after_found whole old) before ≡ all → None ≡ all
list_past whole old new true amount before after all e is step inv = cc
list_past whole old new false amount before None all e is step inv = ap (λ o. option_and_then (after_found whole old) o) (sym is) ∙ inv
list_past whole old new false amount before (Some rest) all e is step inv =
    sym (step rest) ∙ (ap (λ o. option_and_then (after_found whole old) o) (sym is) ∙ inv)

pub list_cut : (whole : Sofar) (found : Found) (before : Option (List Amount)) (all : Option (List ℕ × Bool)) → before ≡ None
    → option_and_then (after_found whole found) before ≡ all → None ≡ all
list_cut whole found before all e inv = ap (λ o. option_and_then (after_found whole found) o) (sym e) ∙ inv

pub list_over : (whole : Sofar) (found : Found) (before : Option (List Amount)) (all : Option (List ℕ × Bool)) → before ≡ Some []
    → option_and_then (after_found whole found) before ≡ all → Some (found_of found) ≡ all
list_over whole found before all e inv = sym (nothing_more whole found) ∙ (ap (λ o. option_and_then (after_found whole found) o) (sym e) ∙ inv)

-- the values of a row

pub row_part : (whole : Sofar) (old new : Found) (fits : Bool) (part : Part) (before after : List Operand) (operand : Operand)
    → before ≡ operand ∷ after → takes_value part ≡ true → Steps whole old new fits (amount_of operand)
    → (parts : List Part) → after_found whole old (values_among (part ∷ parts) (map amount_of before)) ≡ (if fits then after_found whole new (values_among parts (map amount_of after)) else None)
row_part whole old new fits part before after operand is takes step parts =
    let rest = values_among parts (map amount_of after) in
    ap (λ l. after_found whole old (values_among (part ∷ parts) (map amount_of l))) is
    ∙ (ap (λ l. after_found whole old l) (cond-true (takes_value part) (amount_of operand ∷ rest) rest takes) ∙ step rest)

-- the same where memory may have been wanting
pub row_part_ok : {E : Type 0} (whole : Sofar) (old new : Found) (result : Result Bool E) (part : Part) (before after : List Operand) (operand : Operand) (amount : Amount)
    → before ≡ operand ∷ after → takes_value part ≡ true → amount ≡ amount_of operand → IfOk result (λ fits. Steps whole old new fits amount)
    → IfOk result (λ fits. (parts : List Part) → after_found whole old (values_among (part ∷ parts) (map amount_of before)) ≡ (if fits then after_found whole new (values_among parts (map amount_of after)) else None))
row_part_ok whole old new (Ok fits) part before after operand amount is takes e step =
    row_part whole old new fits part before after operand is takes (λ rest. ap (λ a. after_found whole old (a ∷ rest)) (sym e) ∙ step rest)
row_part_ok whole old new (Err error) part before after operand amount is takes e step = tt

pub part_left : (whole : Sofar) (found : Found) (part : Part) (before after : List Operand) (operand : Operand)
    → before ≡ operand ∷ after → takes_value part ≡ false
    → (parts : List Part) → after_found whole found (values_among (part ∷ parts) (map amount_of before)) ≡ after_found whole found (values_among parts (map amount_of after))
part_left whole found part before after operand is takes parts =
    let rest = values_among parts (map amount_of after) in
    ap (λ l. after_found whole found (values_among (part ∷ parts) (map amount_of l))) is
    ∙ ap (λ l. after_found whole found l) (cond-false (takes_value part) (amount_of operand ∷ rest) rest takes)

none_among : (parts : List Part) → values_among {A = Amount} parts [] ≡ []
none_among [] = refl
none_among (p ∷ parts) = refl

pub operands_over : (whole : Sofar) (found : Found) (part : Part) (before after : List Operand) → before ≡ [] → after ≡ before
    → (parts : List Part) → after_found whole found (values_among (part ∷ parts) (map amount_of before)) ≡ after_found whole found (values_among parts (map amount_of after))
operands_over whole found part before after e same parts =
    ap (λ l. after_found whole found (values_among (part ∷ parts) (map amount_of l))) e
    ∙ sym (ap (λ l. after_found whole found (values_among parts (map amount_of l))) (same ∙ e) ∙ ap (λ l. after_found whole found l) (none_among parts))

pub row_next : (whole : Sofar) (old new : Found) (fits : Bool) (parts : List Part) (i : ℕ) (d : Part) (before after : List Operand) (all : Option (List ℕ × Bool))
    → i < length parts → fits ≡ true
    → ((rest : List Part) → after_found whole old (values_among (get_or parts i d ∷ rest) (map amount_of before)) ≡ (if fits then after_found whole new (values_among rest (map amount_of after)) else None))
    → after_found whole old (values_among (drop i parts) (map amount_of before)) ≡ all
    → after_found whole new (values_among (drop (i + 1) parts) (map amount_of after)) ≡ all
row_next whole old new false parts i d before after all h e step inv = cc
row_next whole old new true parts i d before after all h e step inv =
    sym (step (drop (i + 1) parts)) ∙ (ap (λ l. after_found whole old (values_among l (map amount_of before))) (sym (drop_more parts i d h)) ∙ inv)

pub row_past : (whole : Sofar) (old new : Found) (fits : Bool) (parts : List Part) (i : ℕ) (d : Part) (before after : List Operand) (all : Option (List ℕ × Bool))
    → i < length parts → fits ≡ false
    → ((rest : List Part) → after_found whole old (values_among (get_or parts i d ∷ rest) (map amount_of before)) ≡ (if fits then after_found whole new (values_among rest (map amount_of after)) else None))
    → after_found whole old (values_among (drop i parts) (map amount_of before)) ≡ all
    → None ≡ all
row_past whole old new true parts i d before after all h e step inv = cc
row_past whole old new false parts i d before after all h e step inv =
    sym (step (drop (i + 1) parts)) ∙ (ap (λ l. after_found whole old (values_among l (map amount_of before))) (sym (drop_more parts i d h)) ∙ inv)

pub row_end : (whole : Sofar) (found : Found) (parts : List Part) (i : ℕ) (before : List Operand) (all : Option (List ℕ × Bool)) → length parts ≤ i
    → after_found whole found (values_among (drop i parts) (map amount_of before)) ≡ all → Some (found_of found) ≡ all
row_end whole found parts i before all h inv =
    sym (nothing_more whole found)
    ∙ (ap (λ l. after_found whole found (values_among l (map amount_of before))) (sym (drop_all i parts h)) ∙ inv)

-- Where memory may be wanting

abbrev values_of : Option (List ℕ × Bool) → List ℕ
values_of None = []
values_of (Some found) = found.0

nothing_kept : (whole : Sofar) (values : List ℕ) (missing : Bool) (amounts : List Amount) (o : Option ℕ) (more : Option (List ℕ)) → joined whole values missing amounts (put_first o more) ≡ Some ([], false) → ⊥
nothing_kept whole values missing amounts None more e = absurd cc
nothing_kept whole values missing amounts (Some v) None e = absurd cc
nothing_kept whole [] missing amounts (Some v) (Some more) e = let apart : v ∷ more ≡ [] = ap values_of e in absurd cc
nothing_kept whole (value ∷ values) missing amounts (Some v) (Some more) e =
    let apart : value ∷ (values ++ v ∷ more) ≡ [] = ap values_of e in absurd cc

amounts_some : (whole : Sofar) (found : Found) (left amounts : List Amount) → left ≢ [] → after_found whole found left ≡ found_in whole amounts → amounts ≢ []
unfolding all_some
amounts_some whole found [] amounts some inv = absurd (some refl)
amounts_some whole found (a ∷ left) (b ∷ amounts) some inv = λ none. absurd cc
amounts_some whole found (a ∷ left) [] some inv = λ _. nothing_kept whole found.values.items found.label_missing (a ∷ left) (amount_value whole a) (values_in whole left) inv

-- a row of which a value is put has values
pub row_some : (whole : Sofar) (found : Found) (parts : List Part) (i : ℕ) (d : Part) (before : List Operand) (amounts : List Amount)
    → i < length parts
    → ((rest : List Part) → values_among (get_or parts i d ∷ rest) (map amount_of before) ≢ [])
    → after_found whole found (values_among (drop i parts) (map amount_of before)) ≡ found_in whole amounts
    → amounts ≢ []
row_some whole found parts i d before amounts h some inv =
    amounts_some whole found (values_among (get_or parts i d ∷ drop (i + 1) parts) (map amount_of before)) amounts (some (drop (i + 1) parts))
    (ap (λ l. after_found whole found (values_among l (map amount_of before))) (sym (drop_more parts i d h)) ∙ inv)

-- the instruction of the values

found_values : (whole : Sofar) (amounts : List Amount) (found : Found) (o : Option (List ℕ)) → Some (found_of found) ≡ option_map (λ values. (values, list_any (is_missing whole) amounts)) o
    → (o ≡ Some found.values.items) × (found.label_missing ≡ list_any (is_missing whole) amounts)
found_values whole amounts found None e = cc
found_values whole amounts found (Some values) e =
    let pair : found_of found ≡ (values, list_any (is_missing whole) amounts) = cc in
    (ap (λ (p : List ℕ × Bool). Some p.0) (sym pair), ap (λ (p : List ℕ × Bool). p.1) pair)

-- an instruction adds no bytes
abbrev Nothing : Type 0
Nothing = ◌≡◌ {A = List ℕ} [] []

pub instruction_made : (whole : Sofar) (row : Row) (amounts : List Amount) (found : Found) (values : List ℕ) (instruction : Instr)
    → Some (found_of found) ≡ found_in whole amounts → values ≡ found.values.items → Some instruction ≡ build row values
    → (is_none (instruction_in whole row amounts) ≡ false) × (found.label_missing ≡ list_any (is_missing whole) amounts)
    × (ℕ → instruction ∷ [] ≡ option_to_list (instruction_in whole row amounts)) × (ℕ → Nothing)
instruction_made whole row amounts found values instruction e is builds =
    let h = found_values whole amounts found (values_in whole amounts) e in
    let made : Some instruction ≡ instruction_in whole row amounts = builds ∙ (ap (build row) is ∙ sym (ap (λ o. option_and_then (build row) o) h.0)) in
    (ap (λ o. is_none o) (sym made), h.1, λ long. ap (λ o. option_to_list o) made, λ long. refl)

pub instruction_past : (whole : Sofar) (row : Row) (amounts : List Amount) (found : Found) (values : List ℕ)
    → Some (found_of found) ≡ found_in whole amounts → values ≡ found.values.items → None ≡ build row values
    → is_none (instruction_in whole row amounts) ≡ true
instruction_past whole row amounts found values e is builds =
    let h = found_values whole amounts found (values_in whole amounts) e in
    let past : None ≡ instruction_in whole row amounts = builds ∙ (ap (build row) is ∙ sym (ap (λ o. option_and_then (build row) o) h.0)) in
    ap (λ o. is_none o) (sym past)
