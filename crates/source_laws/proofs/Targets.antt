-- The place that an instruction names is the value at its row's label.
use Rattle.std.proofs.Common.{◌≡◌, ℕ, List, [], ◌∷◌, Option, Some, None, refl}
use Rattle.xs_instructions.specs.declared.instr.Instr.{Instr}
use Rattle.xs_instructions.specs.declared.instr.Instr.TheVariants.{Words, Memory, Flow, Kernel, Threads, Resources}
use Rattle.xs_instructions.specs.declared.instr.WordIns.{WordIns}
use Rattle.xs_instructions.specs.declared.instr.WordIns.TheVariants as words
use Rattle.xs_instructions.specs.declared.instr.MemIns.{MemIns}
use Rattle.xs_instructions.specs.declared.instr.MemIns.TheVariants as memory
use Rattle.xs_instructions.specs.declared.instr.FlowIns.{FlowIns}
use Rattle.xs_instructions.specs.declared.instr.FlowIns.TheVariants as flow
use Rattle.xs_instructions.specs.declared.instr.KernelIns.{KernelIns}
use Rattle.xs_instructions.specs.declared.instr.KernelIns.TheVariants as kernel
use Rattle.xs_instructions.specs.declared.instr.ThreadIns.{ThreadIns}
use Rattle.xs_instructions.specs.declared.instr.ThreadIns.TheVariants as threads
use Rattle.xs_instructions.specs.declared.instr.ResIns.{ResIns}
use Rattle.xs_instructions.specs.declared.instr.ResIns.TheVariants as resources
use Rattle.xs_instructions.specs.declared.rows.Part.{Part}
use Rattle.xs_instructions.specs.declared.rows.Part.TheVariants as part
use Rattle.xs_instructions.specs.Operands.{row_of, row_of_words, row_of_memory, row_of_flow, row_of_kernel, row_of_threads, row_of_resources, values_of, values_of_words, values_of_memory, values_of_flow, values_of_kernel, values_of_threads, values_of_resources}
use Rattle.xs_instructions.specs.Instr.{label_of, label_of_flow, label_of_memory, value_parts}

-- the first value that stands at a label, if there is one
abbrev pub labelled_at : Part → ℕ → Option ℕ → Option ℕ
labelled_at part.Label v after = Some v
labelled_at _ v after = after

abbrev pub labelled : List Part → List ℕ → Option ℕ
labelled [] values = None
labelled (p ∷ parts) [] = None
labelled (p ∷ parts) (v ∷ values) = labelled_at p v (labelled parts values)

words_label : (ins : WordIns) → None ≡ labelled (value_parts (row_of_words ins)) (values_of_words ins)
words_label words.Nop = refl
words_label _ = refl

memory_label : (ins : MemIns) → label_of_memory ins ≡ labelled (value_parts (row_of_memory ins)) (values_of_memory ins)
memory_label (memory.Ldap l) = refl
memory_label _ = refl

flow_label : (ins : FlowIns) → label_of_flow ins ≡ labelled (value_parts (row_of_flow ins)) (values_of_flow ins)
flow_label (flow.Bu l) = refl
flow_label _ = refl

kernel_label : (ins : KernelIns) → None ≡ labelled (value_parts (row_of_kernel ins)) (values_of_kernel ins)
kernel_label kernel.Kret = refl
kernel_label _ = refl

threads_label : (ins : ThreadIns) → None ≡ labelled (value_parts (row_of_threads ins)) (values_of_threads ins)
threads_label threads.Freet = refl
threads_label _ = refl

resources_label : (ins : ResIns) → None ≡ labelled (value_parts (row_of_resources ins)) (values_of_resources ins)
resources_label resources.Clre = refl
resources_label _ = refl

pub label_labelled : (ins : Instr) → label_of ins ≡ labelled (value_parts (row_of ins)) (values_of ins)
label_labelled (Words ins) = words_label ins
label_labelled (Memory ins) = memory_label ins
label_labelled (Flow ins) = flow_label ins
label_labelled (Kernel ins) = kernel_label ins
label_labelled (Threads ins) = threads_label ins
label_labelled (Resources ins) = resources_label ins
