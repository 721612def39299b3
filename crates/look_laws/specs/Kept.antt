-- The threads and the inputs of a run that was kept, and where they stand in the graph of who waits for whom.
use Rattle.std.specs.Prelude.{◌≡◌, ◌*◌, Some, List, length, slice_get, All}
use Rattle.xs_base.specs.Numbers.{Position, ThreadNumber, InputNumber}
use Rattle.xs_base.specs.declared.numbers.TheConstants.{THREADS, INPUTS}
use Rattle.xs_model.specs.declared.thread.Thread.{Thread}
use Rattle.switch_routes.specs.declared.state.InputState.{InputState}
use Rattle.snap_parts.specs.declared.node.SnapNode.{SnapNode}
use Rattle.sys_plan.specs.declared.NodePlan.{NodePlan}
use Rattle.sys_plan.specs.Plan.{PlanRec}
use Rattle.circle_search.specs.Circles.{awaited}
use Rattle.look_model.specs.WaitGraph.{waiters, thread_at, input_at, waits_of_thread, waits_of_input, wait_graph}

-- all nodes of a plan were kept, each with all its threads and all the inputs of its switch
pub record AreKept (plan : PlanRec) (snaps : List SnapNode) : Type 0 where
  pub nodes : length snaps ≡ length plan.nodes
  pub threads : All (λ (snap : SnapNode). length snap.state.threads ≡ THREADS) snaps
  pub inputs : All (λ (snap : SnapNode). length snap.state.inputs ≡ INPUTS) snaps

-- thread k of the node at position n
pub record IsThread (snaps : List SnapNode) (n : Position) (snap : SnapNode) (k : ThreadNumber) (th : Thread) : Type 0 where
  pub node : slice_get snaps n ≡ Some snap
  pub thread : slice_get snap.state.threads k ≡ Some th

-- input i of the node at position n
pub record IsInput (plan : PlanRec) (snaps : List SnapNode) (n : Position) (node : NodePlan) (snap : SnapNode) (i : InputNumber) (now : InputState) : Type 0 where
  pub planned : slice_get plan.nodes n ≡ Some node
  pub kept : slice_get snaps n ≡ Some snap
  pub input : slice_get snap.state.inputs i ≡ Some now

-- each thread and each input has a number, and no other vertex is there
abbrev pub GraphsAreOfThreadsAndInputs : Type 0
GraphsAreOfThreadsAndInputs = (plan : PlanRec) (snaps : List SnapNode) → AreKept plan snaps → length (wait_graph plan snaps) ≡ length plan.nodes * waiters

-- each thread waits for those for whom it waits by itself, and each input
abbrev pub ThreadsStandInTheGraph : Type 0
ThreadsStandInTheGraph = (plan : PlanRec) (snaps : List SnapNode) (n : Position) (snap : SnapNode) (k : ThreadNumber) (th : Thread) →
    AreKept plan snaps → IsThread snaps n snap k th → awaited (wait_graph plan snaps) (thread_at n k) ≡ waits_of_thread n snap.state k th.run

abbrev pub InputsStandInTheGraph : Type 0
InputsStandInTheGraph = (plan : PlanRec) (snaps : List SnapNode) (n : Position) (node : NodePlan) (snap : SnapNode) (i : InputNumber) (now : InputState) →
    AreKept plan snaps → IsInput plan snaps n node snap i now → awaited (wait_graph plan snaps) (input_at n i) ≡ waits_of_input plan snaps n node snap.state now
