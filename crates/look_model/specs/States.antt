-- What `states SLOTS` writes: what a run has come to before a slot, in words.
use Rattle.std.specs.Prelude.{ℕ, ◌-◌, ◌/◌, ◌%◌, nat_lt, if◌then◌else◌, Option, Some, None, List, [], ◌∷◌, ◌++◌, slice_get, slice_index_or, codes, decimal}
use Rattle.std.specs.List.{flat_map}
use Rattle.xs_base.specs.Numbers.{Slot, Position, NodeId}
use Rattle.xs_base.specs.declared.numbers.TheConstants.{THREADS}
use Rattle.core_step.specs.declared.node_state.NodeState.{NodeState}
use Rattle.snap_parts.specs.declared.node.SnapNode.{SnapNode}
use Rattle.snap_parts.specs.Parts.{BodyRec}
use Rattle.snap_model.specs.Saved.{saved_at}
use Rattle.sys_plan.specs.declared.NodePlan.{NodePlan}
use Rattle.sys_plan.specs.Plan.{PlanRec}
use Rattle.trace_model.specs.Trace.{by_position, end_line}
use Rattle.look_model.specs.Waits.{thread_name, threads_lines}
use Rattle.look_model.specs.Network.{end_lines, input_name, input_lines, chan_lines}
use Rattle.look_model.specs.WaitGraph.{waiters, wait_graph}
use Rattle.circle_search.specs.Circles.{circle_of}
use Rattle.system_model.specs.CodeLines.{code_lines_of_text}

-- ---- A node

-- its threads, its link ends, the inputs of its switch and its channel ends; its instructions are of these lines
abbrev pub node_lines : PlanRec → Slot → Position → NodePlan → List ℕ → NodeState → List ℕ
node_lines plan slot n node lines state =
    threads_lines node lines slot state ++ (end_lines plan n node state ++ (input_lines node state ++ chan_lines node state))

-- of the node at a position, as it was kept
abbrev pub kept_lines : PlanRec → Slot → Position → NodePlan → List ℕ → Option SnapNode → List ℕ
kept_lines plan slot n node lines None = []
kept_lines plan slot n node lines (Some snap) = node_lines plan slot n node lines snap.state

-- by the lines of all nodes' instructions, and all nodes as they were kept
abbrev pub lines_at : PlanRec → Slot → List (List ℕ) → List SnapNode → Position → NodePlan → List ℕ
lines_at plan slot lines snaps n node = kept_lines plan slot n node (slice_index_or lines n []) (slice_get snaps n)

-- of all nodes
abbrev pub nodes_lines : PlanRec → Slot → List (List ℕ) → List SnapNode → List ℕ
nodes_lines plan slot lines snaps = by_position (lines_at plan slot lines snaps) 0 plan.nodes

-- ---- A circle

-- `.tK`, ` link E` or ` channel end ID`
abbrev pub waiter_text : NodeId → ℕ → List ℕ
waiter_text id at = if nat_lt at THREADS then codes "." ++ thread_name at else codes " " ++ input_name id (at - THREADS)

-- of a node
abbrev pub name_in : NodePlan → ℕ → List ℕ
name_in node at = codes "n" ++ (decimal node.number ++ waiter_text node.id at)

abbrev pub name_of : Option NodePlan → ℕ → List ℕ
name_of None at = []
name_of (Some node) at = name_in node at

-- `nN.tT`, `nN link E` or `nN channel end ID`, by the number among the threads and inputs of all nodes
abbrev pub waiter_name : List NodePlan → ℕ → List ℕ
waiter_name nodes v = name_of (slice_get nodes (v / waiters)) (v % waiters)

abbrev pub link_text : List NodePlan → ℕ → List ℕ
link_text nodes v = codes " > " ++ waiter_name nodes v

-- `circle: A > B > A`
abbrev pub circle_line : List NodePlan → Option (List ℕ) → List ℕ
circle_line nodes None = []
circle_line nodes (Some []) = []
circle_line nodes (Some (v ∷ rest)) =
    codes "circle: " ++ (waiter_name nodes v ++ (flat_map (link_text nodes) rest ++ (link_text nodes v ++ codes "\n")))

-- ---- The whole

-- what a run by a plan has come to, and a circle of those who wait for each other, where there is one; the instructions of each node are of
-- these lines
abbrev pub states_of : PlanRec → List (List ℕ) → BodyRec → List ℕ
states_of plan lines snap =
    nodes_lines plan snap.slot lines snap.nodes ++ (circle_line plan.nodes (circle_of (wait_graph plan snap.nodes)) ++ end_line snap.slot)

-- the same of a run of so many slots of the system that a text stands for
abbrev pub states_text : List ℕ → ℕ → PlanRec → List ℕ
states_text text slots plan = states_of plan (code_lines_of_text text) (saved_at plan slots)
