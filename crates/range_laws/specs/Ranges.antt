-- That the numbers of every node of a run keep the ranges of the machine.
use Rattle.std.specs.Prelude.{ℕ, ◌≡◌, ◌<◌, ◌≤◌, ◌^◌, List}
use Rattle.std.specs.List.{AllByRecursion}
use Rattle.xs_base.specs.Numbers.{Slot}
use Rattle.xs_model.specs.Record.{NodeRec}
use Rattle.xs_instructions.specs.Image.{IsImage}
use Rattle.sys_plan.specs.declared.NodePlan.{NodePlan}
use Rattle.sys_plan.specs.Plan.{PlanRec, IsPlan}
use Rattle.serial_model.specs.Serial.{serial}
use Rattle.core_step.specs.States.{node_state}
use Rattle.state_bridge.specs.Fits.{NumbersFit}
use Rattle.snap_parts.specs.Snaps.{IsSnapSystem}
use Rattle.snap_model.specs.Saved.{saved_at}
use Rattle.snap_model.specs.Rest.{rest_text, trace_from}
use Rattle.saved_laws.specs.Bytes.{CarryBytes}
use Rattle.rest_laws.specs.Rest.{HasByteDests}

-- ---- What the plans of programs have

-- A node's image is one, and so are the numbers of its types: each byte of its data is one, and its id has 16 bits. So it is of each node that a
-- program holds: an accepted text gives images, and the rest is said by the types.
pub record IsRunnable (node : NodePlan) : Type 0 where
  pub image : IsImage node.image
  pub bytes : AllByRecursion (λ (b : ℕ). b < 256) node.image.bytes
  pub id : node.id < 2 ^ 16

abbrev pub AreRunnable : List NodePlan → Type 0
AreRunnable nodes = AllByRecursion IsRunnable nodes

-- ---- The laws, of every plan and before every slot of the serial machine

-- each number in each node is in the range of its type: registers and levels are words, the memory's bytes and tokens are bytes, times and
-- counters have 16 bits; and each part of a node has as many elements as it has
abbrev pub NumbersOfRunsFit : Type 0
NumbersOfRunsFit = (plan : PlanRec) (slot : Slot) → IsPlan plan → AreRunnable plan.nodes → AllByRecursion (λ (rec : NodeRec). NumbersFit (node_state rec)) (serial plan slot).nodes

-- the tokens that arcs carry are bytes
abbrev pub RunsCarryBytes : Type 0
RunsCarryBytes = (plan : PlanRec) (slot : Slot) → IsPlan plan → AreRunnable plan.nodes → AllByRecursion CarryBytes (serial plan slot).histories

-- and so are the numbers of channel ends to which inputs of switches lead
abbrev pub RunsHaveByteDests : Type 0
RunsHaveByteDests = (plan : PlanRec) (slot : Slot) → IsPlan plan → AreRunnable plan.nodes → AllByRecursion HasByteDests (serial plan slot).nodes

-- ---- So what is kept of such a run is whole

-- what a snapshot keeps of it is what a run may go on from
abbrev pub SavedRunsMayGoOn : Type 0
SavedRunsMayGoOn = (plan : PlanRec) (slot : Slot) → IsPlan plan → AreRunnable plan.nodes → IsSnapSystem plan (saved_at plan slot)

-- and what is written of a run that goes on from it is the trace of the whole run, but for the lines of the events before it
abbrev pub SavedRunsGoOn : Type 0
SavedRunsGoOn = (plan : PlanRec) (slot : Slot) (slots : ℕ) → IsPlan plan → AreRunnable plan.nodes → slot ≤ slots → rest_text plan (saved_at plan slot) slots ≡ trace_from plan slot slots
