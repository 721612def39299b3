-- A row and its values, and the instruction that they make.
use Rattle.std.proofs.Common.{◌≡◌, ℕ, Bool, true, false, if◌then◌else◌, Some, None, List, [], ◌∷◌, refl, ◌∙◌, arith}
use Rattle.std.specs.Prelude.{IfSome}
use Rattle.std.proofs.lemmas.Bool.{and_parts, false≢true, ltb-true}
use Rattle.std.proofs.lemmas.Bool.Decides.{nat_tests}
use Rattle.xs_instructions.specs.declared.instr.Instr.{Instr}
use Rattle.xs_instructions.specs.declared.instr.Instr.TheVariants.{Words, Memory, Flow, Kernel, Threads, Resources}
use Rattle.xs_instructions.specs.declared.instr.WordIns.{WordIns}
use Rattle.xs_instructions.specs.declared.instr.WordIns.TheVariants as words
use Rattle.xs_instructions.specs.declared.instr.MemIns.{MemIns}
use Rattle.xs_instructions.specs.declared.instr.MemIns.TheVariants as memory
use Rattle.xs_instructions.specs.declared.instr.FlowIns.{FlowIns}
use Rattle.xs_instructions.specs.declared.instr.FlowIns.TheVariants as flow
use Rattle.xs_instructions.specs.declared.instr.KernelIns.{KernelIns}
use Rattle.xs_instructions.specs.declared.instr.KernelIns.TheVariants as kernel
use Rattle.xs_instructions.specs.declared.instr.ThreadIns.{ThreadIns}
use Rattle.xs_instructions.specs.declared.instr.ThreadIns.TheVariants as threads
use Rattle.xs_instructions.specs.declared.instr.ResIns.{ResIns}
use Rattle.xs_instructions.specs.declared.instr.ResIns.TheVariants as resources
use Rattle.xs_instructions.specs.declared.rows.Part.{Part}
use Rattle.xs_instructions.specs.declared.rows.Part.TheVariants.{Common, AnyRegister, Register, Small, Width, Short, Exactly, Label, Word}
use Rattle.xs_instructions.specs.declared.rows.Row.{Row}
use Rattle.xs_instructions.specs.declared.rows.Row.TheVariants as row
use Rattle.xs_instructions.specs.Operands.{made, row_of, row_of_words, row_of_memory, row_of_flow, row_of_kernel, row_of_threads, row_of_resources, values_of, values_of_words, values_of_memory, values_of_flow, values_of_kernel, values_of_threads, values_of_resources}
use Rattle.xs_instructions.specs.Instr.{InRange, IsInRangeOf, AreInRange, value_parts}
use Rattle.xs_instructions.specs.Find.{is_in_range, are_in_range, build}
use Rattle.xs_instructions.specs.Kept.{each_value}
use Rattle.xs_instructions.proofs.Kept.{each_value-same}

-- the values of an instruction make it again

words_back : (ins : WordIns) → made (row_of_words ins) (values_of_words ins) ≡ Words ins
words_back words.Nop = refl
words_back _ = refl

memory_back : (ins : MemIns) → made (row_of_memory ins) (values_of_memory ins) ≡ Memory ins
memory_back (memory.Ldap l) = refl
memory_back _ = refl

flow_back : (ins : FlowIns) → made (row_of_flow ins) (values_of_flow ins) ≡ Flow ins
flow_back (flow.Bu l) = refl
flow_back _ = refl

kernel_back : (ins : KernelIns) → made (row_of_kernel ins) (values_of_kernel ins) ≡ Kernel ins
kernel_back kernel.Kret = refl
kernel_back _ = refl

threads_back : (ins : ThreadIns) → made (row_of_threads ins) (values_of_threads ins) ≡ Threads ins
threads_back threads.Freet = refl
threads_back _ = refl

resources_back : (ins : ResIns) → made (row_of_resources ins) (values_of_resources ins) ≡ Resources ins
resources_back resources.Clre = refl
resources_back _ = refl

made_back : (ins : Instr) → made (row_of ins) (values_of ins) ≡ ins
made_back (Words ins) = words_back ins
made_back (Memory ins) = memory_back ins
made_back (Flow ins) = flow_back ins
made_back (Kernel ins) = kernel_back ins
made_back (Threads ins) = threads_back ins
made_back (Resources ins) = resources_back ins

row_of_made : (r : Row) (values : List ℕ) → row_of (made r values) ≡ r
row_of_made row.Add values = refl
row_of_made _ values = refl

-- the values of an instruction are those that made it, a number of the row itself apart
abbrev taken_of : Part → ℕ → ℕ
taken_of (Exactly n) v = n
taken_of _ v = v

values_of_made : (r : Row) (values : List ℕ) → values_of (made r values) ≡ each_value taken_of 0 (value_parts r) values
values_of_made row.Add values = refl
values_of_made _ values = refl

taken_of-same : (p : Part) (v : ℕ) → is_in_range p v ≡ true → taken_of p v ≡ v
taken_of-same (Exactly n) v h = grind (arith, nat_tests)
taken_of-same _ v h = refl

values_made_back : (r : Row) (values : List ℕ) → are_in_range (value_parts r) values ≡ true → values_of (made r values) ≡ values
values_made_back r values h = values_of_made r values ∙ each_value-same taken_of taken_of-same (value_parts r) [] values h

-- the two ways to say that values are in range

in_range_if : (p : Part) (v : ℕ) → is_in_range p v ≡ true → IsInRangeOf p v
in_range_if Common v h = ltb-true _ _ h
in_range_if AnyRegister v h = ltb-true _ _ h
in_range_if (Register n) v h = false≢true h
in_range_if Small v h = ltb-true _ _ h
in_range_if Width v h = h
in_range_if Short v h = ltb-true _ _ h
in_range_if (Exactly n) v h = grind (arith, nat_tests)
in_range_if Label v h = ltb-true _ _ h
in_range_if (Word n) v h = false≢true h

in_range_then : (p : Part) (v : ℕ) → IsInRangeOf p v → is_in_range p v ≡ true
in_range_then Common v h = grind (arith, nat_tests)
in_range_then AnyRegister v h = grind (arith, nat_tests)
in_range_then (Register n) v h = absurd h
in_range_then Small v h = grind (arith, nat_tests)
in_range_then Width v h = grind (arith, nat_tests)
in_range_then Short v h = grind (arith, nat_tests)
in_range_then (Exactly n) v h = grind (arith, nat_tests)
in_range_then Label v h = grind (arith, nat_tests)
in_range_then (Word n) v h = absurd h

pub all_in_range_if : (parts : List Part) (values : List ℕ) → are_in_range parts values ≡ true → AreInRange parts values
all_in_range_if [] [] h = tt
all_in_range_if [] (v ∷ values) h = false≢true h
all_in_range_if (p ∷ parts) [] h = false≢true h
all_in_range_if (p ∷ parts) (v ∷ values) h =
    let both = and_parts (is_in_range p v) (are_in_range parts values) h in
    (in_range_if p v both.0, all_in_range_if parts values both.1)

pub all_in_range_then : (parts : List Part) (values : List ℕ) → AreInRange parts values → are_in_range parts values ≡ true
all_in_range_then [] [] h = refl
all_in_range_then [] (v ∷ values) h = absurd h
all_in_range_then (p ∷ parts) [] h = absurd h
all_in_range_then (p ∷ parts) (v ∷ values) h = rw (in_range_then p v h.0, all_in_range_then parts values h.1) refl

pub InRange-parts : (ins : Instr) → InRange ins → AreInRange (value_parts (row_of ins)) (values_of ins)
InRange-parts (Words ins) h = h
InRange-parts (Memory ins) h = h
InRange-parts (Flow ins) h = h
InRange-parts (Kernel ins) h = h
InRange-parts (Threads ins) h = h
InRange-parts (Resources ins) h = h

InRange-intro : (ins : Instr) → AreInRange (value_parts (row_of ins)) (values_of ins) → InRange ins
InRange-intro (Words ins) h = h
InRange-intro (Memory ins) h = h
InRange-intro (Flow ins) h = h
InRange-intro (Kernel ins) h = h
InRange-intro (Threads ins) h = h
InRange-intro (Resources ins) h = h

pub InRange-test : (ins : Instr) → InRange ins → are_in_range (value_parts (row_of ins)) (values_of ins) ≡ true
InRange-test ins h = all_in_range_then (value_parts (row_of ins)) (values_of ins) (InRange-parts ins h)

pub build_back : (ins : Instr) → InRange ins → build (row_of ins) (values_of ins) ≡ Some ins
build_back ins h = rw (InRange-test ins h, made_back ins) refl

-- what a row builds is in range, of this row, and of these values

pub made-facts : (r : Row) (values : List ℕ) → are_in_range (value_parts r) values ≡ true → InRange (made r values) × (row_of (made r values) ≡ r) × (values_of (made r values) ≡ values)
made-facts r values h =
    let of_row = row_of_made r values in
    let of_values = values_made_back r values h in
    let ranges : AreInRange (value_parts (row_of (made r values))) (values_of (made r values)) = rw (of_row, of_values) (all_in_range_if (value_parts r) values h) in
    (InRange-intro (made r values) ranges, of_row, of_values)

facts_if : (r : Row) (values : List ℕ) (b : Bool) → are_in_range (value_parts r) values ≡ b
    → IfSome (if b then Some (made r values) else None) (λ ins. InRange ins × (row_of ins ≡ r) × (values_of ins ≡ values))
facts_if r values true h = made-facts r values h
facts_if r values false h = tt

-- what a row builds of values is in range, of this row and of these values
pub built_facts : (r : Row) (values : List ℕ) → IfSome (build r values) (λ ins. InRange ins × (row_of ins ≡ r) × (values_of ins ≡ values))
built_facts r values = facts_if r values (are_in_range (value_parts r) values) refl
