-- The plan of a node.
use Rattle.std.specs.Prelude.{ℕ, List, replicate}
use Rattle.xs_instructions.specs.Image.{ImageRec}
use Rattle.sys_plan.specs.declared.NodePlan.{NodePlan}

-- a node of edition 1, where every link is of network 0
abbrev pub plain_plan : ℕ → ℕ → ImageRec → List ℕ → NodePlan
plain_plan number id image ways =
    record { number = number; edition = 1; id = id; image = image; ways = ways; nets = replicate 8 0 }
