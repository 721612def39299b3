-- The ranges of an instruction's operands, and its label.
use Rattle.std.specs.Prelude.{ℕ, ◌≡◌, ◌<◌, ◌^◌, Bool, true, false, ◌||◌, ◌&&◌, ◌==◌, nat_le, Option, Some, None, List, [], ◌∷◌, IsTrue}
use Rattle.std.specs.List.{filter}
use Rattle.xs_instructions.specs.declared.instr.Instr.{Instr}
use Rattle.xs_instructions.specs.declared.instr.Instr.TheVariants.{Words, Memory, Flow, Kernel, Threads, Resources}
use Rattle.xs_instructions.specs.declared.instr.WordIns.{WordIns}
use Rattle.xs_instructions.specs.declared.instr.MemIns.{MemIns}
use Rattle.xs_instructions.specs.declared.instr.MemIns.TheVariants as memory
use Rattle.xs_instructions.specs.declared.instr.FlowIns.{FlowIns}
use Rattle.xs_instructions.specs.declared.instr.FlowIns.TheVariants as flow
use Rattle.xs_instructions.specs.declared.instr.KernelIns.{KernelIns}
use Rattle.xs_instructions.specs.declared.instr.ThreadIns.{ThreadIns}
use Rattle.xs_instructions.specs.declared.instr.ResIns.{ResIns}
use Rattle.xs_instructions.specs.declared.rows.Part.{Part}
use Rattle.xs_instructions.specs.declared.rows.Part.TheVariants.{Common, AnyRegister, Register, Small, Width, Short, Exactly, Label, Word}
use Rattle.xs_instructions.specs.declared.rows.Row.{Row}
use Rattle.xs_instructions.specs.Rows.{parts_of}
use Rattle.xs_instructions.specs.Operands.{row_of_words, row_of_memory, row_of_flow, row_of_kernel, row_of_threads, row_of_resources, values_of_words, values_of_memory, values_of_flow, values_of_kernel, values_of_threads, values_of_resources}

-- r0 to r11
abbrev pub IsRegister : ℕ → Type 0
IsRegister x = x < 12

-- also cp, dp, sp and lr
abbrev pub IsAnyRegister : ℕ → Type 0
IsAnyRegister g = g < 16

-- a number from 0 to 11 that stands in the row itself
abbrev pub IsSmallConstant : ℕ → Type 0
IsSmallConstant i = i < 12

abbrev pub IsShort : ℕ → Type 0
IsShort u = u < 2 ^ 16

-- a number of bits: 1 to 8, 16, 24 or 32
abbrev pub is_width : ℕ → Bool
is_width b = (nat_le 1 b && nat_le b 8) || (b == 16) || (b == 24) || (b == 32)

-- whether a value is written at a part: an operand's, or the number that the row itself names
abbrev pub takes_value : Part → Bool
takes_value Common = true
takes_value AnyRegister = true
takes_value (Register n) = false
takes_value Small = true
takes_value Width = true
takes_value Short = true
takes_value (Exactly n) = true
takes_value Label = true
takes_value (Word n) = false

-- what the values of an instruction stand for, in order
abbrev pub value_parts : Row → List Part
value_parts r = filter takes_value (parts_of r)

-- the value is in the range of its part; where a label leads is said by the image
abbrev pub IsInRangeOf : Part → ℕ → Type 0
IsInRangeOf Common v = IsRegister v
IsInRangeOf AnyRegister v = IsAnyRegister v
IsInRangeOf (Register n) v = ⊥
IsInRangeOf Small v = IsSmallConstant v
IsInRangeOf Width v = IsTrue (is_width v)
IsInRangeOf Short v = IsShort v
IsInRangeOf (Exactly n) v = v ≡ n
IsInRangeOf Label v = IsShort v
IsInRangeOf (Word n) v = ⊥

-- one value for each part, in its range
abbrev pub AreInRange : List Part → List ℕ → Type 0
AreInRange [] [] = Unit {0}
AreInRange [] (v ∷ values) = ⊥
AreInRange (p ∷ parts) [] = ⊥
AreInRange (p ∷ parts) (v ∷ values) = IsInRangeOf p v × AreInRange parts values

abbrev pub WordsInRange : WordIns → Type 0
WordsInRange ins = AreInRange (value_parts (row_of_words ins)) (values_of_words ins)

abbrev pub MemoryInRange : MemIns → Type 0
MemoryInRange ins = AreInRange (value_parts (row_of_memory ins)) (values_of_memory ins)

abbrev pub FlowInRange : FlowIns → Type 0
FlowInRange ins = AreInRange (value_parts (row_of_flow ins)) (values_of_flow ins)

abbrev pub KernelInRange : KernelIns → Type 0
KernelInRange ins = AreInRange (value_parts (row_of_kernel ins)) (values_of_kernel ins)

abbrev pub ThreadsInRange : ThreadIns → Type 0
ThreadsInRange ins = AreInRange (value_parts (row_of_threads ins)) (values_of_threads ins)

abbrev pub ResourcesInRange : ResIns → Type 0
ResourcesInRange ins = AreInRange (value_parts (row_of_resources ins)) (values_of_resources ins)

-- each operand is in the range of its class
abbrev pub InRange : Instr → Type 0
InRange (Words ins) = WordsInRange ins
InRange (Memory ins) = MemoryInRange ins
InRange (Flow ins) = FlowInRange ins
InRange (Kernel ins) = KernelInRange ins
InRange (Threads ins) = ThreadsInRange ins
InRange (Resources ins) = ResourcesInRange ins

abbrev pub label_of_flow : FlowIns → Option ℕ
label_of_flow (flow.Bt s l) = Some l
label_of_flow (flow.Bf s l) = Some l
label_of_flow (flow.Bu l) = Some l
label_of_flow (flow.Bl l) = Some l
label_of_flow _ = None

abbrev pub label_of_memory : MemIns → Option ℕ
label_of_memory (memory.Ldap l) = Some l
label_of_memory _ = None

-- the place that an instruction names by a label
abbrev pub label_of : Instr → Option ℕ
label_of (Flow ins) = label_of_flow ins
label_of (Memory ins) = label_of_memory ins
label_of _ = None

-- the first of the values that stands at a label, if there is one
abbrev pub labelled_at : Part → ℕ → Option ℕ → Option ℕ
labelled_at Label v after = Some v
labelled_at _ v after = after

abbrev pub labelled : List Part → List ℕ → Option ℕ
labelled [] values = None
labelled (p ∷ parts) [] = None
labelled (p ∷ parts) (v ∷ values) = labelled_at p v (labelled parts values)
