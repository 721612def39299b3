-- An instruction's label is what stands at its part for a label.
use Rattle.std.proofs.Common.{◌≡◌, refl}
use Rattle.std.specs.Prelude.{option_to_list}
use Rattle.std.specs.List.{filter}
use Rattle.xs_instructions.specs.declared.instr.Instr.{Instr}
use Rattle.xs_instructions.specs.declared.instr.Instr.TheVariants.{Words, Memory, Flow, Kernel, Threads, Resources}
use Rattle.xs_instructions.specs.declared.instr.WordIns.{WordIns}
use Rattle.xs_instructions.specs.declared.instr.WordIns.TheVariants as words
use Rattle.xs_instructions.specs.declared.instr.MemIns.{MemIns}
use Rattle.xs_instructions.specs.declared.instr.MemIns.TheVariants as memory
use Rattle.xs_instructions.specs.declared.instr.FlowIns.{FlowIns}
use Rattle.xs_instructions.specs.declared.instr.FlowIns.TheVariants as flow
use Rattle.xs_instructions.specs.declared.instr.KernelIns.{KernelIns}
use Rattle.xs_instructions.specs.declared.instr.KernelIns.TheVariants as kernel
use Rattle.xs_instructions.specs.declared.instr.ThreadIns.{ThreadIns}
use Rattle.xs_instructions.specs.declared.instr.ThreadIns.TheVariants as threads
use Rattle.xs_instructions.specs.declared.instr.ResIns.{ResIns}
use Rattle.xs_instructions.specs.declared.instr.ResIns.TheVariants as resources
use Rattle.xs_instructions.specs.Rows.{parts_of}
use Rattle.xs_instructions.specs.Operands.{row_of, values_of}
use Rattle.xs_instructions.specs.Instr.{InRange, AreInRange, label_of, takes_value}
use Rattle.source_laws.specs.LabelValues.{label_values}

abbrev pub HasLabels : Instr → Type 0
HasLabels ins = label_values (parts_of (row_of ins)) (values_of ins) ≡ option_to_list (label_of ins)

words_labels : (ins : WordIns) → HasLabels (Words ins)
words_labels words.Nop = refl
words_labels _ = refl

memory_labels : (ins : MemIns) → HasLabels (Memory ins)
memory_labels (memory.Ldap l) = refl
memory_labels _ = refl

flow_labels : (ins : FlowIns) → HasLabels (Flow ins)
flow_labels (flow.Bu l) = refl
flow_labels _ = refl

kernel_labels : (ins : KernelIns) → HasLabels (Kernel ins)
kernel_labels kernel.Kret = refl
kernel_labels _ = refl

threads_labels : (ins : ThreadIns) → HasLabels (Threads ins)
threads_labels threads.Freet = refl
threads_labels _ = refl

resources_labels : (ins : ResIns) → HasLabels (Resources ins)
resources_labels resources.Clre = refl
resources_labels _ = refl

-- an instruction's label is what stands at the label's place
pub has_labels : (ins : Instr) → HasLabels ins
has_labels (Words ins) = words_labels ins
has_labels (Memory ins) = memory_labels ins
has_labels (Flow ins) = flow_labels ins
has_labels (Kernel ins) = kernel_labels ins
has_labels (Threads ins) = threads_labels ins
has_labels (Resources ins) = resources_labels ins

pub in_range_parts : (ins : Instr) → InRange ins → AreInRange (filter takes_value (parts_of (row_of ins))) (values_of ins)
in_range_parts (Words ins) h = h
in_range_parts (Memory ins) h = h
in_range_parts (Flow ins) h = h
in_range_parts (Kernel ins) h = h
in_range_parts (Threads ins) h = h
in_range_parts (Resources ins) h = h
