-- What a node's step uses of its plan.
use Rattle.std.specs.Prelude.{ℕ, List}
use Rattle.xs_instructions.specs.declared.instr.Instr.{Instr}
use Rattle.net_model.specs.Switch.{Routes}

-- what a step uses of its node's plan, which nothing changes: the edition, the code, and what the switch knows
pub record Fixed : Type 0 where
  pub edition : ℕ  -- 1 or 2
  pub code : List Instr
  pub routes : Routes
