-- The thread that issues and the memory, which the rows here work on, and which rows those are.
use Rattle.std.specs.Prelude.{ℕ, Bool, true, false, List}
use Rattle.xs_model.specs.declared.thread.Thread.{Thread}
use Rattle.xs_base.specs.Numbers.{Word}
use Rattle.xs_model.specs.Status.{status_of}
use Rattle.xs_instructions.specs.declared.instr.Instr.{Instr}
use Rattle.xs_instructions.specs.declared.instr.Instr.TheVariants.{Memory, Flow, Kernel}
use Rattle.xs_instructions.specs.declared.instr.KernelIns.{KernelIns}
use Rattle.xs_instructions.specs.declared.instr.KernelIns.TheVariants as kernel
use Rattle.step_model.specs.Effect.{Own}
use Rattle.flow_unit.specs.declared.kernel.Saved.{Saved}
use Rattle.flow_unit.specs.declared.kernel.Saved.TheVariants as saved

abbrev pub own : Thread → List ℕ → Own
own thread memory = record { thread = thread; memory = memory }

-- whether a row on the kernel is another than the return
abbrev pub is_no_return : KernelIns → Bool
is_no_return kernel.Kret = false
is_no_return _ = true

-- whether a row is one of those on memory, on the flow of control or on the kernel, other than the return from the kernel
abbrev pub is_own : Instr → Bool
is_own (Memory ins) = true
is_own (Flow ins) = true
is_own (Kernel ins) = is_no_return ins
is_own _ = false

-- the thread with a word in a register of traps
abbrev pub with_saved : Thread → Saved → Word → Thread
with_saved th saved.Pc word = record th { spc = word }
with_saved th saved.Status word = record th { ssr = status_of word }
with_saved th saved.Data word = record th { sed = word }
with_saved th saved.Number word = record th { et = word }
