-- Plans of nodes that do nothing, and how they are joined.
use Rattle.std.specs.Prelude.{◌+◌, ℕ, [], ◌∷◌, replicate}
use Rattle.xs_instructions.specs.Image.{ImageRec}
use Rattle.sys_plan.specs.declared.NodePlan.{NodePlan}
use Rattle.sys_plan.specs.declared.LinkPlan.{LinkPlan}
use Rattle.sys_plan.specs.NodePlans.{plain_plan}
use Rattle.sys_plan.specs.Plan.{PlanRec}

abbrev pub empty_image : ImageRec
empty_image = record { code = []; bytes = []; cp_at = 0x10000; symbols = [] }

-- node 0 with an image, and the same ways for each bit of an id
abbrev pub loaded_node : ℕ → ImageRec → ℕ → NodePlan
loaded_node id image way = plain_plan 0 id image (replicate 16 way)

-- a node with no code and no ways, whose id is its number
abbrev pub bare_node : ℕ → NodePlan
bare_node number = plain_plan number number empty_image (replicate 16 0)

-- link end 7 of a node is joined to link end 0 of the next one
abbrev pub link_on : ℕ → ℕ → LinkPlan
link_on first delay = record { a = first; a_end = 7; b = first + 1; b_end = 0; delay = delay; gap = 4; net = 0 }

-- two nodes with a link between them
abbrev pub pair : ℕ → PlanRec
pair delay = record { nodes = bare_node 0 ∷ bare_node 1 ∷ []; links = link_on 0 delay ∷ []; script = []; steps = []; wires = [] }

-- three nodes in a row, with a link from each to the next one
abbrev pub row_of_three : ℕ → PlanRec
row_of_three delay = record { nodes = bare_node 0 ∷ bare_node 1 ∷ bare_node 2 ∷ []; links = link_on 0 delay ∷ link_on 1 delay ∷ []; script = []; steps = []; wires = [] }
