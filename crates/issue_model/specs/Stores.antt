-- What an instruction stores where it is done, by the registers of its thread before it.
use Rattle.std.specs.Prelude.{◌%◌, ◌==◌, if◌then◌else◌, Option, Some, None}
use Rattle.xs_base.specs.Numbers.{Word}
use Rattle.xs_model.specs.declared.thread.Thread.{Thread}
use Rattle.xs_model.specs.Threads.{register}
use Rattle.xs_instructions.specs.declared.instr.Instr.{Instr}
use Rattle.xs_instructions.specs.declared.instr.Instr.TheVariants.{Memory, Flow, Kernel}
use Rattle.xs_instructions.specs.declared.instr.MemIns.{MemIns}
use Rattle.xs_instructions.specs.declared.instr.MemIns.TheVariants as memory
use Rattle.xs_instructions.specs.declared.instr.FlowIns.{FlowIns}
use Rattle.xs_instructions.specs.declared.instr.FlowIns.TheVariants as flow
use Rattle.xs_instructions.specs.declared.instr.KernelIns.{KernelIns}
use Rattle.xs_instructions.specs.declared.instr.KernelIns.TheVariants as kernel
use Rattle.step_model.specs.MemoryRows.{up}
use Rattle.issue_model.specs.declared.Store.{Store}
use Rattle.issue_model.specs.declared.Size.TheVariants as size

-- a word at an address, the low half of one, and its low byte
abbrev pub word_at : Word → Word → Option Store
word_at at value = Some (record { size = size.Word; at = at; value = value })

abbrev pub half_at : Word → Word → Option Store
half_at at value = Some (record { size = size.Half; at = at; value = value % 65536 })

abbrev pub byte_at : Word → Word → Option Store
byte_at at value = Some (record { size = size.Byte; at = at; value = value % 256 })

abbrev pub memory_stores : Thread → MemIns → Option Store
memory_stores th (memory.StwImm d x i) = word_at (up (register th x) 4 i) (register th d)
memory_stores th (memory.Stw d x y) = word_at (up (register th x) 4 (register th y)) (register th d)
memory_stores th (memory.StwDp g u) = word_at (up th.dp 4 u) (register th g)
memory_stores th (memory.StwSp g u) = word_at (up th.sp 4 u) (register th g)
memory_stores th (memory.St16 d x y) = half_at (up (register th x) 2 (register th y)) (register th d)
memory_stores th (memory.St8 d x y) = byte_at (up (register th x) 1 (register th y)) (register th d)
memory_stores th _ = None

abbrev pub flow_stores : Thread → FlowIns → Option Store
flow_stores th (flow.Entsp u) = if u == 0 then None else word_at th.sp th.lr
flow_stores th _ = None

abbrev pub kernel_stores : Thread → KernelIns → Option Store
kernel_stores th (kernel.Kentsp u) = word_at th.ksp th.sp
kernel_stores th kernel.StwSpc = word_at (up th.sp 4 1) th.spc
kernel_stores th kernel.StwSsr = word_at (up th.sp 4 2) th.ssr.bits
kernel_stores th kernel.StwSed = word_at (up th.sp 4 3) th.sed
kernel_stores th kernel.StwEt = word_at (up th.sp 4 4) th.et
kernel_stores th _ = None

abbrev pub stores : Thread → Instr → Option Store
stores th (Memory ins) = memory_stores th ins
stores th (Flow ins) = flow_stores th ins
stores th (Kernel ins) = kernel_stores th ins
stores th _ = None
