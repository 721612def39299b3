-- Who waits for whom: threads and inputs of switches.
use Rattle.std.specs.Prelude.{ℕ, ◌+◌, ◌*◌, ◌/◌, ◌%◌, Bool, true, false, ◌&&◌, ◌==◌, nat_lt, if◌then◌else◌, Option, Some, None, option_to_list, List, [], ◌∷◌, ◌++◌, map, slice_get}
use Rattle.xs_base.specs.Numbers.{Position, ThreadNumber, EndNumber, InputNumber}
use Rattle.xs_base.specs.declared.numbers.TheConstants.{THREADS, LINK_ENDS, INPUTS, BUFFER_TOKENS}
use Rattle.xs_model.specs.declared.thread.Run.{Run}
use Rattle.xs_model.specs.declared.thread.Run.TheVariants.{Unstarted, AtSync, Paused}
use Rattle.xs_model.specs.declared.thread.Thread.{Thread}
use Rattle.xs_model.specs.declared.thread.Wait.{Wait}
use Rattle.xs_model.specs.declared.thread.Wait.TheVariants.{Room, Lock, Slaves}
use Rattle.net_model.specs.Ways.{Way, Here, Behind, way_to}
use Rattle.rank_model.specs.Next.{is_behind}
use Rattle.switch_routes.specs.declared.state.InputState.{InputState}
use Rattle.switch_routes.specs.declared.state.InputState.TheVariants as input
use Rattle.sync_locks.specs.declared.state.SyncState.{SyncState}
use Rattle.core_step.specs.declared.node_state.NodeState.{NodeState}
use Rattle.snap_parts.specs.declared.node.SnapNode.{SnapNode}
use Rattle.sys_plan.specs.declared.NodePlan.{NodePlan}
use Rattle.sys_plan.specs.Plan.{PlanRec}
use Rattle.look_model.specs.Waits.{missing, sync_of, owner}
use Rattle.look_model.specs.Network.{other_end, buffer_count}

-- ---- Numbers: of each node, by position, its 8 threads and then the 40 inputs of its switch

abbrev pub waiters : ℕ
waiters = THREADS + INPUTS

abbrev pub thread_at : Position → ThreadNumber → ℕ
thread_at n k = n * waiters + k

abbrev pub input_at : Position → InputNumber → ℕ
input_at n i = n * waiters + (THREADS + i)

-- ---- For whom a thread waits

-- the master of the synchroniser of which it is a slave
abbrev pub master_of : Position → Option (ℕ × SyncState) → List ℕ
master_of n None = []
master_of n (Some sync) = thread_at n sync.1.master ∷ []

-- A thread that would own a lock waits for its owner, a master for its slaves that are not in, and one that has no room at a channel end for
-- the input that takes what waits there.
abbrev pub waits_of_wait : Position → NodeState → Wait → List ℕ
waits_of_wait n state (Room chan count) = input_at n (LINK_ENDS + chan) ∷ []
waits_of_wait n state (Lock lock) = map (thread_at n) (option_to_list (owner state lock))
waits_of_wait n state (Slaves sync) = map (thread_at n) (missing state sync)
waits_of_wait n state _ = []

-- a slave waits for its master
abbrev pub waits_of_thread : Position → NodeState → ThreadNumber → Run → List ℕ
waits_of_thread n state k Unstarted = master_of n (sync_of state k)
waits_of_thread n state k AtSync = master_of n (sync_of state k)
waits_of_thread n state k (Paused wait) = waits_of_wait n state wait
waits_of_thread n state k _ = []

-- ---- For whom an input waits

-- those of these inputs, counted from i, that pass a test
abbrev pub inputs_where : (InputState → Bool) → Position → InputNumber → List InputState → List ℕ
inputs_where test n i [] = []
inputs_where test n i (now ∷ inputs) = (if test now then input_at n i ∷ [] else []) ++ inputs_where test n (i + 1) inputs

abbrev pub is_here : Way → Bool
is_here Here = true
is_here (Behind ends) = false

-- whether one holds what a packet to a destination wants, which has this way: the channel end, or a link end that leads on
abbrev pub holds_wanted : ℕ → Way → InputState → Bool
holds_wanted dest way (input.Local chan) = is_here way && (chan == dest / 256 % 256)
holds_wanted dest way (input.Out end count d) = nat_lt end LINK_ENDS && is_behind end way
holds_wanted dest way _ = false

-- whether no room is left in the buffer of a link end of a node
abbrev pub is_full : Option SnapNode → EndNumber → Bool
is_full None end = false
is_full (Some snap) end = buffer_count (slice_get snap.state.ends end) == BUFFER_TOKENS

-- the input of the link end at the other end of a link, where its buffer is full
abbrev pub next_input : List SnapNode → Option (Position × EndNumber) → List ℕ
next_input snaps None = []
next_input snaps (Some other) = if is_full (slice_get snaps other.0) other.1 then input_at other.0 other.1 ∷ [] else []

-- One whose packet wants a way waits for those that hold it, and one that holds a link end for the input at the other end of the link, where
-- the buffer there is full.
abbrev pub waits_of_input : PlanRec → List SnapNode → Position → NodePlan → NodeState → InputState → List ℕ
waits_of_input plan snaps n node state (input.Want dest net) =
    inputs_where (holds_wanted dest (way_to node.id node.ways node.nets net (dest / 65536))) n 0 state.inputs
waits_of_input plan snaps n node state (input.Out end count dest) = next_input snaps (other_end plan.links n end)
waits_of_input plan snaps n node state _ = []

-- ---- The graph

abbrev pub waits_of_threads : Position → NodeState → ThreadNumber → List Thread → List (List ℕ)
waits_of_threads n state k [] = []
waits_of_threads n state k (th ∷ threads) = waits_of_thread n state k th.run ∷ waits_of_threads n state (k + 1) threads

-- for whom the threads and the inputs of a node wait
abbrev pub waits_of_node : PlanRec → List SnapNode → Position → NodePlan → NodeState → List (List ℕ)
waits_of_node plan snaps n node state =
    waits_of_threads n state 0 state.threads ++ map (waits_of_input plan snaps n node state) state.inputs

-- of the node at a position, as it was kept
abbrev pub waits_of_kept : PlanRec → List SnapNode → Position → NodePlan → Option SnapNode → List (List ℕ)
waits_of_kept plan snaps n node None = []
waits_of_kept plan snaps n node (Some snap) = waits_of_node plan snaps n node snap.state

-- of these nodes, from position n on
abbrev pub waits_from : PlanRec → List SnapNode → Position → List NodePlan → List (List ℕ)
waits_from plan snaps n [] = []
waits_from plan snaps n (node ∷ nodes) = waits_of_kept plan snaps n node (slice_get snaps n) ++ waits_from plan snaps (n + 1) nodes

abbrev pub wait_graph : PlanRec → List SnapNode → List (List ℕ)
wait_graph plan snaps = waits_from plan snaps 0 plan.nodes
