-- A node in a slot of a run, and what its lines are written by.
use Rattle.std.specs.Prelude.{ℕ, ◌≡◌, ◌+◌, Some, List, [], map, slice_get, slice_index_or}
use Rattle.xs_base.specs.Numbers.{Slot, Position, ThreadNumber}
use Rattle.xs_instructions.specs.Image.{ImageRec}
use Rattle.sys_plan.specs.declared.NodePlan.{NodePlan}
use Rattle.sys_plan.specs.Plan.{PlanRec}
use Rattle.core_step.specs.declared.told.Told.{Told}
use Rattle.issue_model.specs.declared.Ending.{Ending}
use Rattle.issue_model.specs.Seen.{node_after}
use Rattle.issue_model.specs.Issues.{line_of, lines_by}
use Rattle.issue_text.specs.declared.node_slot.NodeSlot.{NodeSlot}
use Rattle.issue_text.specs.declared.sources.Sources.{Sources}

-- the line of an issue, and the lines of what was told
abbrev pub line_in : NodeSlot → ThreadNumber → Ending → List ℕ
line_in at k ending = line_of at.node.now at.lines.now at.slot at.before.now at.after.now k ending

abbrev pub lines_in : NodeSlot → Told → List (List ℕ)
lines_in at told = lines_by at.node.now at.lines.now at.slot at.before.now at.after.now told.traps told.issue

-- the lines that the instructions of each node are of
abbrev pub numbers_of : Sources → List (List ℕ)
numbers_of sources = map (λ numbers. numbers.items) sources.lines.now

-- what writes the instructions of each node of a plan
abbrev pub ArePrinters : PlanRec → List ImageRec → Type 0
ArePrinters plan printers = printers ≡ map (λ (node : NodePlan). node.image) plan.nodes

pub record AreSources (plan : PlanRec) (sources : Sources) : Type 0 where
  pub plan_is : sources.plan.now ≡ plan
  pub printers : ArePrinters plan sources.printers.now

-- the node of a plan at a position, in a slot of the serial machine, where the instructions of each node are of these lines
pub record IsNodeSlot (plan : PlanRec) (lines : List (List ℕ)) (slot : Slot) (n : Position) (at : NodeSlot) : Type 0 where
  pub node : slice_get plan.nodes n ≡ Some at.node.now
  pub printer : at.printer.now ≡ at.node.now.image
  pub numbers : at.lines.now ≡ slice_index_or lines n []
  pub slot_is : at.slot ≡ slot
  pub before : at.before.now ≡ (node_after plan slot n).core.threads
  pub after : at.after.now ≡ (node_after plan (slot + 1) n).core.threads
