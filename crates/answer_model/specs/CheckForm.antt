-- The form `check`: the sources are written as the images of the nodes give them.
use Rattle.std.specs.Prelude.{ℕ, List, ◌++◌, codes, decimal}
use Rattle.std.specs.List.{flat_map}
use Rattle.source_model.specs.Canonical.{canonical}
use Rattle.sys_plan.specs.declared.NodePlan.{NodePlan}
use Rattle.sys_plan.specs.Plan.{PlanRec}
use Rattle.answer_model.specs.declared.Answer.{Answer}
use Rattle.answer_model.specs.OnSystem.{on_system}

-- `source N`, the canonical text of the node's image, `end`
abbrev pub source_section : NodePlan → List ℕ
source_section node = codes "source " ++ (decimal node.number ++ (codes "\n" ++ (canonical node.image ++ codes "end\n")))

-- the section of each node, by number
abbrev pub check_text : PlanRec → List ℕ
check_text plan = flat_map source_section plan.nodes

abbrev pub check_answer : List ℕ → Answer
check_answer input = on_system check_text input
