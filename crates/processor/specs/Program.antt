-- What a core executes.
use Rattle.std.specs.Prelude.{ℕ, List}
use Rattle.std.specs.List.{AllByRecursion}
use Rattle.xs_base.specs.Numbers.{NodeId}
use Rattle.xs_instructions.specs.declared.instr.Instr.{Instr}
use Rattle.xs_instructions.specs.Instr.{InRange}

-- the id of the node, the edition of its system, and its code
pub record ProgramRec : Type 0 where
  pub id : NodeId
  pub edition : ℕ  -- 1 or 2
  pub code : List Instr

-- every instruction has its operands in range
abbrev pub IsCode : List Instr → Type 0
IsCode code = AllByRecursion InRange code
