-- The circles of those who wait for one another in a run that was kept.
use Rattle.std.specs.Prelude.{ℕ, ◌≡◌, ◌<◌, ◌≤◌, ◌*◌, Some, List, ◌∷◌, length, All, IsSome}
use Rattle.snap_parts.specs.declared.node.SnapNode.{SnapNode}
use Rattle.sys_plan.specs.Plan.{PlanRec}
use Rattle.circle_search.specs.Circles.{IsCircle, circle_of}
use Rattle.look_model.specs.WaitGraph.{waiters, wait_graph}
use Rattle.look_laws.specs.Kept.{AreKept}

-- what is told of a run is a circle of those who wait for one another
abbrev pub ToldAreCircles : Type 0
ToldAreCircles = (plan : PlanRec) (snaps : List SnapNode) (circle : List ℕ) → circle_of (wait_graph plan snaps) ≡ Some circle → IsCircle (wait_graph plan snaps) circle

-- and one is told wherever some wait for one another
abbrev pub CirclesAreTold : Type 0
CirclesAreTold = (plan : PlanRec) (snaps : List SnapNode) (circle : List ℕ) → IsCircle (wait_graph plan snaps) circle → IsSome (circle_of (wait_graph plan snaps))

-- what is told begins with its least member
abbrev pub ToldBeginWithTheirLeast : Type 0
ToldBeginWithTheirLeast = (plan : PlanRec) (snaps : List SnapNode) (a : ℕ) (rest : List ℕ) → circle_of (wait_graph plan snaps) ≡ Some (a ∷ rest) → All (λ b. a ≤ b) rest

-- each of a circle is a thread or an input of a node
abbrev pub CirclesAreOfThreadsAndInputs : Type 0
CirclesAreOfThreadsAndInputs = (plan : PlanRec) (snaps : List SnapNode) (circle : List ℕ) → AreKept plan snaps → IsCircle (wait_graph plan snaps) circle →
    All (λ v. v < length plan.nodes * waiters) circle
