-- That every node of a system's run has them, before every slot.
use Rattle.std.specs.Prelude.{◌<◌, List, length}
use Rattle.std.specs.List.{AllByRecursion}
use Rattle.xs_base.specs.Numbers.{Slot, Position}
use Rattle.xs_instructions.specs.Instr.{InRange}
use Rattle.sys_plan.specs.declared.NodePlan.{NodePlan}
use Rattle.sys_plan.specs.Plan.{PlanRec, IsPlan, gaps_of}
use Rattle.serial_model.specs.Serial.{serial}
use Rattle.locality_laws.specs.Locality.{node_in}
use Rattle.state_laws.specs.Facts.{MayBeKept}

-- the operands of the code of each node are in their ranges, as those of every image are
abbrev pub RunInRange : List NodePlan → Type 0
RunInRange nodes = AllByRecursion (λ (node : NodePlan). AllByRecursion InRange node.image.code) nodes

-- the node at a position of a plan before a slot of the serial machine, with the gaps that its link ends have by the plan
abbrev pub KeptInEveryRun : Type 0
KeptInEveryRun = (plan : PlanRec) (slot : Slot) (n : Position) →
    IsPlan plan → RunInRange plan.nodes → n < length plan.nodes → MayBeKept (gaps_of plan n) slot (node_in (serial plan slot) n)
