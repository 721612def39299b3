-- What is written of a run that goes on from a snapshot.
use Rattle.std.specs.Prelude.{ℕ, ◌≡◌, ◌≤◌, ◌<◌, List, map}
use Rattle.std.specs.List.{AllByRecursion, AllZip}
use Rattle.xs_base.specs.Numbers.{Slot}
use Rattle.xs_model.specs.Record.{NodeRec, InputRec, Want, Out}
use Rattle.sys_plan.specs.Plan.{PlanRec, IsPlan}
use Rattle.serial_model.specs.Serial.{serial}
use Rattle.core_step.specs.States.{node_state, node_rec}
use Rattle.snap_model.specs.Saved.{saved_at}
use Rattle.snap_model.specs.Rest.{rest_text, trace_from}
use Rattle.link_laws.specs.Windows.{NodesAlike, IsNodeBefore}
use Rattle.state_laws.specs.Runs.{RunInRange}

-- ---- What a snapshot says of nodes

-- a node as a snapshot of it says
abbrev pub said : NodeRec → NodeRec
said rec = node_rec (node_state rec)

-- nodes that a snapshot says alike; and what it says keeps no slot that is not past
pub record AreSaid (slot : Slot) (recs : List NodeRec) : Type 0 where
  pub alike : AllZip NodesAlike (map said recs) recs
  pub before : AllByRecursion (IsNodeBefore slot) (map said recs)

-- The number of the channel end to which an input of a switch leads is a byte. So it is of each input that a program holds, by its type.
abbrev pub IsByteDest : InputRec → Type 0
IsByteDest (Want dest net) = dest.chan < 256
IsByteDest (Out end headers dest) = dest.chan < 256
IsByteDest _ = Unit {0}

abbrev pub HasByteDests : NodeRec → Type 0
HasByteDests rec = AllByRecursion IsByteDest rec.inputs

-- so it says those of every plan before every slot of the serial machine, where the operands of the code are in their ranges
abbrev pub NodesAreSaid : Type 0
NodesAreSaid = (plan : PlanRec) (slot : Slot) →
    IsPlan plan → RunInRange plan.nodes → AllByRecursion HasByteDests (serial plan slot).nodes → AreSaid slot (serial plan slot).nodes

-- ---- What is written

-- what is written of a run that goes on from what a snapshot keeps of the serial machine before a slot is the trace of the whole run of so
-- many slots, but for the lines of the events before that slot
abbrev pub RestIsTraceAt : PlanRec → Slot → ℕ → Type 0
RestIsTraceAt plan slot slots = rest_text plan (saved_at plan slot) slots ≡ trace_from plan slot slots

-- so it is where it says the nodes so
abbrev pub SaidRestIsTrace : Type 0
SaidRestIsTrace = (plan : PlanRec) (slot : Slot) (slots : ℕ) → AreSaid slot (serial plan slot).nodes → slot ≤ slots → RestIsTraceAt plan slot slots

-- and of every plan whose code has its operands in their ranges
abbrev pub RestIsTrace : Type 0
RestIsTrace = (plan : PlanRec) (slot : Slot) (slots : ℕ) →
    IsPlan plan → RunInRange plan.nodes → AllByRecursion HasByteDests (serial plan slot).nodes → slot ≤ slots → RestIsTraceAt plan slot slots
