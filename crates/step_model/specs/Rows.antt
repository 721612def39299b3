-- What each instruction does to the core: one case for each row of the instruction table, by the parts of the table.
use Rattle.xs_base.specs.Numbers.{ThreadNumber}
use Rattle.xs_model.specs.Record.{CoreRec}
use Rattle.xs_instructions.specs.declared.instr.Instr.{Instr}
use Rattle.xs_instructions.specs.declared.instr.Instr.TheVariants.{Words, Memory, Flow, Kernel, Threads, Resources}
use Rattle.step_model.specs.Effect.{Setting, Effect, Leaving, Leaves, Own, own_of, on_own}
use Rattle.step_model.specs.DividerRows.{words_effect}
use Rattle.step_model.specs.MemoryRows.{memory_row}
use Rattle.step_model.specs.FlowRows.{flow_row}
use Rattle.step_model.specs.KernelRows.{kernel_row}
use Rattle.step_model.specs.ThreadRows.{threads_row}
use Rattle.step_model.specs.ResourceRows.{resources_row}

-- What a row on memory, on the flow of control or on the kernel leaves of its thread, which has the number k, and of the
-- memory. No other row is asked for.
abbrev pub own_row : ThreadNumber → Own → Instr → Leaving Own
own_row k l (Memory ins) = memory_row l ins
own_row k l (Flow ins) = flow_row l ins
own_row k l (Kernel ins) = kernel_row k l ins
own_row k l _ = Leaves l

-- what an instruction does where thread k issues it
abbrev pub effect : Setting → CoreRec → ThreadNumber → Instr → Effect
effect here core k (Words ins) = words_effect here core k ins
effect here core k (Memory ins) = on_own core k (own_row k (own_of core k) (Memory ins))
effect here core k (Flow ins) = on_own core k (own_row k (own_of core k) (Flow ins))
effect here core k (Kernel ins) = on_own core k (own_row k (own_of core k) (Kernel ins))
effect here core k (Threads ins) = threads_row here core k ins
effect here core k (Resources ins) = resources_row here core k ins
