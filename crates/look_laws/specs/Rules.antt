-- Who waits for whom, rule by rule.
use Rattle.std.specs.Prelude.{ℕ, ◌≡◌, ◌≢◌, ◌↔◌, ◌⊎◌, ◌<◌, ◌+◌, ◌/◌, ◌%◌, true, false, Some, None, List, [], ◌∷◌, slice_get}
use Rattle.xs_base.specs.Numbers.{Position, ThreadNumber, EndNumber, InputNumber, ChanNumber}
use Rattle.xs_base.specs.declared.numbers.TheConstants.{LINK_ENDS, BUFFER_TOKENS}
use Rattle.xs_model.specs.declared.thread.Run.{Run}
use Rattle.xs_model.specs.declared.thread.Run.TheVariants.{Free, Unstarted, AtSync, Going, Paused, Halted}
use Rattle.xs_model.specs.declared.thread.Thread.{Thread}
use Rattle.xs_model.specs.declared.thread.Wait.TheVariants.{Room, Tokens, PortFull, PortEmpty, PortIdle, Timer, Lock, Slaves, Choice, Divider}
use Rattle.xs_model.specs.Masks.{in_mask}
use Rattle.xs_model.specs.Waits.{is_in}
use Rattle.net_model.specs.Ways.{Way, Here, way_to}
use Rattle.rank_model.specs.Next.{is_behind}
use Rattle.switch_routes.specs.declared.state.InputState.{InputState}
use Rattle.switch_routes.specs.declared.state.InputState.TheVariants as input
use Rattle.sync_locks.specs.declared.state.SyncState.{SyncState}
use Rattle.core_step.specs.declared.node_state.NodeState.{NodeState}
use Rattle.snap_parts.specs.declared.node.SnapNode.{SnapNode}
use Rattle.sys_plan.specs.declared.NodePlan.{NodePlan}
use Rattle.sys_plan.specs.Plan.{PlanRec}
use Rattle.circle_search.specs.Circles.{awaited, IsEdge}
use Rattle.look_model.specs.Waits.{sync_of, owner, slaves_of}
use Rattle.look_model.specs.Network.{other_end, buffer_count}
use Rattle.look_model.specs.WaitGraph.{thread_at, input_at, wait_graph}
use Rattle.look_laws.specs.Kept.{AreKept, IsThread, IsInput}

-- ---- Threads

-- a thread that is so waits for these, in this order, and for no other
abbrev pub ThreadWaitsFor : PlanRec → List SnapNode → Position → SnapNode → ThreadNumber → Run → List ℕ → Type 0
ThreadWaitsFor plan snaps n snap k run others =
    (th : Thread) → AreKept plan snaps → IsThread snaps n snap k th → th.run ≡ run → awaited (wait_graph plan snaps) (thread_at n k) ≡ others

-- one that would own a lock waits for the thread that owns it
abbrev pub LocksAreWaitedFor : Type 0
LocksAreWaitedFor = (plan : PlanRec) (snaps : List SnapNode) (n : Position) (snap : SnapNode) (k : ThreadNumber) (lock : ℕ) (other : ThreadNumber) →
    owner snap.state lock ≡ Some other → ThreadWaitsFor plan snaps n snap k (Paused (Lock lock)) (thread_at n other ∷ [])

-- and for nobody where nobody does
abbrev pub FreeLocksAreNot : Type 0
FreeLocksAreNot = (plan : PlanRec) (snaps : List SnapNode) (n : Position) (snap : SnapNode) (k : ThreadNumber) (lock : ℕ) →
    owner snap.state lock ≡ None → ThreadWaitsFor plan snaps n snap k (Paused (Lock lock)) []

-- a slave that is so waits for its master
abbrev pub MastersAreWaitedFor : Run → Type 0
MastersAreWaitedFor run = (plan : PlanRec) (snaps : List SnapNode) (n : Position) (snap : SnapNode) (k : ThreadNumber) (number : ℕ) (sync : SyncState) →
    sync_of snap.state k ≡ Some (number, sync) → ThreadWaitsFor plan snaps n snap k run (thread_at n sync.master ∷ [])

-- and one that is no slave for nobody
abbrev pub OthersHaveNoMaster : Run → Type 0
OthersHaveNoMaster run = (plan : PlanRec) (snaps : List SnapNode) (n : Position) (snap : SnapNode) (k : ThreadNumber) →
    sync_of snap.state k ≡ None → ThreadWaitsFor plan snaps n snap k run []

-- a thread that a master waits for, by its number in the graph: a slave of the synchroniser that is not in
pub record IsMissingSlave (n : Position) (state : NodeState) (sync : ℕ) (v : ℕ) : Type 0 where
  pub number : ThreadNumber
  pub th : Thread
  pub there : slice_get state.threads number ≡ Some th
  pub is : v ≡ thread_at n number
  pub slave : in_mask (slaves_of (slice_get state.syncs sync)) number ≡ true
  pub out : is_in th.run ≡ false

-- a master waits for each of them, and for no other
abbrev pub SlavesAreWaitedFor : Type 0
SlavesAreWaitedFor = (plan : PlanRec) (snaps : List SnapNode) (n : Position) (snap : SnapNode) (k : ThreadNumber) (th : Thread) (sync v : ℕ) →
    AreKept plan snaps → IsThread snaps n snap k th → th.run ≡ Paused (Slaves sync) →
    IsEdge (wait_graph plan snaps) (thread_at n k) v ↔ IsMissingSlave n snap.state sync v

-- one that has no room at a channel end waits for the input that takes what waits there
abbrev pub RoomIsWaitedFor : Type 0
RoomIsWaitedFor = (plan : PlanRec) (snaps : List SnapNode) (n : Position) (snap : SnapNode) (k : ThreadNumber) (chan : ChanNumber) (count : ℕ) →
    ThreadWaitsFor plan snaps n snap k (Paused (Room chan count)) (input_at n (LINK_ENDS + chan) ∷ [])

-- one that is so waits for nobody
abbrev pub WaitsForNobody : Run → Type 0
WaitsForNobody run = (plan : PlanRec) (snaps : List SnapNode) (n : Position) (snap : SnapNode) (k : ThreadNumber) → ThreadWaitsFor plan snaps n snap k run []

-- each rule for threads
pub record ThreadsWaitByTheRules : Type 0 where
  pub locks : LocksAreWaitedFor
  pub free_locks : FreeLocksAreNot
  pub unstarted : MastersAreWaitedFor Unstarted
  pub unstarted_others : OthersHaveNoMaster Unstarted
  pub at_sync : MastersAreWaitedFor AtSync
  pub at_sync_others : OthersHaveNoMaster AtSync
  pub slaves : SlavesAreWaitedFor
  pub room : RoomIsWaitedFor
  pub free : WaitsForNobody Free
  pub going : WaitsForNobody Going
  pub halted : WaitsForNobody Halted
  pub tokens : (chan count : ℕ) → WaitsForNobody (Paused (Tokens chan count))
  pub port_full : (port : ℕ) → WaitsForNobody (Paused (PortFull port))
  pub port_empty : (port : ℕ) → WaitsForNobody (Paused (PortEmpty port))
  pub port_idle : (port : ℕ) → WaitsForNobody (Paused (PortIdle port))
  pub timer : (timer : ℕ) → WaitsForNobody (Paused (Timer timer))
  pub choice : WaitsForNobody (Paused Choice)
  pub divider : WaitsForNobody (Paused Divider)

-- ---- Inputs

-- an input that is so waits for these, and for no other
abbrev pub InputWaitsFor : PlanRec → List SnapNode → Position → NodePlan → SnapNode → InputNumber → InputState → List ℕ → Type 0
InputWaitsFor plan snaps n node snap i now others =
    AreKept plan snaps → IsInput plan snaps n node snap i now → awaited (wait_graph plan snaps) (input_at n i) ≡ others

-- the way of a packet to a destination by a network
abbrev pub way_of : NodePlan → ℕ → ℕ → Way
way_of node dest net = way_to node.id node.ways node.nets net (dest / 65536)

-- an input holds the channel end that a packet is for, which is one of this node
pub record HoldsItsChannelEnd (node : NodePlan) (dest net : ℕ) (now : InputState) : Type 0 where
  pub chan : ChanNumber
  pub holds : now ≡ input.Local chan
  pub here : way_of node dest net ≡ Here
  pub wanted : chan ≡ dest / 256 % 256

-- or a link end that leads on
pub record HoldsItsLinkEnd (node : NodePlan) (dest net : ℕ) (now : InputState) : Type 0 where
  pub end : EndNumber
  pub count : ℕ
  pub other_dest : ℕ
  pub holds : now ≡ input.Out end count other_dest
  pub low : end < LINK_ENDS
  pub leads : is_behind end (way_of node dest net) ≡ true

-- an input, by its number in the graph, that holds what a packet to a destination needs
pub record IsHolder (n : Position) (node : NodePlan) (state : NodeState) (dest net : ℕ) (v : ℕ) : Type 0 where
  pub number : InputNumber
  pub now : InputState
  pub there : slice_get state.inputs number ≡ Some now
  pub is : v ≡ input_at n number
  pub holds : HoldsItsChannelEnd node dest net now ⊎ HoldsItsLinkEnd node dest net now

-- one whose packet waits for a way waits for each of them, and for no other
abbrev pub WaysAreWaitedFor : Type 0
WaysAreWaitedFor = (plan : PlanRec) (snaps : List SnapNode) (n : Position) (node : NodePlan) (snap : SnapNode) (i : InputNumber) (dest net v : ℕ) →
    AreKept plan snaps → IsInput plan snaps n node snap i (input.Want dest net) →
    IsEdge (wait_graph plan snaps) (input_at n i) v ↔ IsHolder n node snap.state dest net v

-- one that holds a link end waits for the input at the other end of the link, where the buffer there is full
abbrev pub FullBuffersAreWaitedFor : Type 0
FullBuffersAreWaitedFor = (plan : PlanRec) (snaps : List SnapNode) (n : Position) (node : NodePlan) (snap : SnapNode) (i : InputNumber) (end : EndNumber) (count dest : ℕ)
    (other : Position) (far : SnapNode) (far_end : EndNumber) →
    other_end plan.links n end ≡ Some (other, far_end) → slice_get snaps other ≡ Some far → buffer_count (slice_get far.state.ends far_end) ≡ BUFFER_TOKENS →
    InputWaitsFor plan snaps n node snap i (input.Out end count dest) (input_at other far_end ∷ [])

-- and for nobody where it is not
abbrev pub OtherBuffersAreNot : Type 0
OtherBuffersAreNot = (plan : PlanRec) (snaps : List SnapNode) (n : Position) (node : NodePlan) (snap : SnapNode) (i : InputNumber) (end : EndNumber) (count dest : ℕ)
    (other : Position) (far : SnapNode) (far_end : EndNumber) →
    other_end plan.links n end ≡ Some (other, far_end) → slice_get snaps other ≡ Some far → buffer_count (slice_get far.state.ends far_end) ≢ BUFFER_TOKENS →
    InputWaitsFor plan snaps n node snap i (input.Out end count dest) []

-- nor where the link end is in no link
abbrev pub EndsInNoLinkAreNot : Type 0
EndsInNoLinkAreNot = (plan : PlanRec) (snaps : List SnapNode) (n : Position) (node : NodePlan) (snap : SnapNode) (i : InputNumber) (end : EndNumber) (count dest : ℕ) →
    other_end plan.links n end ≡ None → InputWaitsFor plan snaps n node snap i (input.Out end count dest) []

-- one that is so waits for nobody
abbrev pub InputWaitsForNobody : InputState → Type 0
InputWaitsForNobody now = (plan : PlanRec) (snaps : List SnapNode) (n : Position) (node : NodePlan) (snap : SnapNode) (i : InputNumber) →
    InputWaitsFor plan snaps n node snap i now []

-- each rule for inputs
pub record InputsWaitByTheRules : Type 0 where
  pub ways : WaysAreWaitedFor
  pub full : FullBuffersAreWaitedFor
  pub not_full : OtherBuffersAreNot
  pub no_link : EndsInNoLinkAreNot
  pub idle : InputWaitsForNobody input.Idle
  pub head1 : (first : ℕ) → InputWaitsForNobody (input.Head1 first)
  pub head2 : (first second : ℕ) → InputWaitsForNobody (input.Head2 first second)
  pub into_channel_end : (chan : ℕ) → InputWaitsForNobody (input.Local chan)
  pub lost : InputWaitsForNobody input.Lost
