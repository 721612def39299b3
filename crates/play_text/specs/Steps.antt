-- The node of a step.
use Rattle.std.specs.Prelude.{ℕ, ◌<◌}
use Rattle.xs_base.specs.Numbers.{Position}
use Rattle.sys_plan.specs.declared.Step.{Step}
use Rattle.sys_plan.specs.declared.Step.TheVariants.{Take, Run, Send}
use Rattle.run_drive.specs.declared.played.PlayLine.{PlayLine}

-- the position of the node that takes a step
abbrev pub node_of : Step → Position
node_of (Take node end) = node
node_of (Run node count) = node
node_of (Send node end) = node

-- the step of a line is one of so many nodes
abbrev pub IsOfNodes : ℕ → PlayLine → Type 0
IsOfNodes nodes line = node_of line.step < nodes
