-- The workers of all nodes: what they begin with, where they are run, and what is left of them.
use Rattle.std.specs.Prelude.{◌≡◌, ◌<◌, suc, Bool, true, false, ◌||◌, Option, Some, None, List, [], ◌∷◌, All, length}
use Rattle.xs_base.specs.Numbers.{Slot, Position}
use Rattle.plan_cells.specs.Ends.{CellsRec, AreNewEnds}
use Rattle.node_runners.specs.Runner.{new_runner}
use Rattle.core_workers.specs.declared.ended.Ended.{Ended}
use Rattle.core_workers.specs.declared.ended.Ended.TheVariants.{Finished}
use Rattle.core_workers.specs.Worker.{WorkerRec, IsOpen}
use Rattle.core_workers.specs.Run.{EndsWith}
use Rattle.worker_threads.specs.declared.fresh.Fresh.{Fresh}
use Rattle.worker_threads.specs.declared.node.Left.{Left}
use Rattle.worker_threads.specs.declared.node.Returned.{Returned}
use Rattle.worker_threads.specs.declared.node.Returned.TheVariants.{Ran, Unstarted}
use Rattle.worker_threads.specs.declared.here.Here.{Here}
use Rattle.worker_threads.specs.declared.place.Place.{Place}
use Rattle.worker_threads.specs.declared.place.Place.TheVariants.{There, Here as At, Over}

-- ---- One node

-- a node before its first slot, with the ends that these cells have for it
pub record IsFresh (cells : CellsRec) (node : Fresh) : Type 0 where
  pub there : node.runner.node < length cells.plan.nodes
  pub runner : node.runner ≡ new_runner cells.plan node.runner.horizon.limit node.runner.node
  pub new_ends : AreNewEnds cells node.runner.node node.ends

-- the one at a position, in a run of so many slots
pub record IsFreshAt (cells : CellsRec) (limit : Slot) (n : Position) (node : Fresh) : Type 0 where
  pub fresh : IsFresh cells node
  pub limit_is : node.runner.horizon.limit ≡ limit
  pub node_is : node.runner.node ≡ n

-- a worker of the node at a position, in these cells, of a run of so many slots
pub record IsWorkerOf (cells : CellsRec) (limit : Slot) (n : Position) (w : WorkerRec) : Type 0 where
  pub cells_are : w.cells ≡ cells
  pub node : w.runner.node ≡ n
  pub limit_is : w.runner.horizon.limit ≡ limit

-- such a worker, whose run has ended so: where it did not come to the limit, the logs of the arcs that leave the node are closed
pub record HasEnded (cells : CellsRec) (limit : Slot) (n : Position) (w : WorkerRec) (ended : Ended) : Type 0 where
  pub worker_of : IsWorkerOf cells limit n w
  pub ends : EndsWith ended w

abbrev pub IsLeft : CellsRec → Slot → Position → Left → Type 0
IsLeft cells limit n left = HasEnded cells limit n left.part left.ended

-- what is given back of a node: what is left of its worker, or the node as it was
abbrev pub IsReturned : CellsRec → Slot → Position → Returned → Type 0
IsReturned cells limit n (Ran left) = IsLeft cells limit n left
IsReturned cells limit n (Unstarted node) = IsFreshAt cells limit n node

-- such a worker, whose run goes on
pub record GoesOn (cells : CellsRec) (limit : Slot) (n : Position) (w : WorkerRec) : Type 0 where
  pub worker_of : IsWorkerOf cells limit n w
  pub still_open : All IsOpen w.ends.outgoing.items

abbrev pub IsAt : CellsRec → Slot → Position → WorkerRec → Option Ended → Type 0
IsAt cells limit n w None = GoesOn cells limit n w
IsAt cells limit n w (Some ended) = HasEnded cells limit n w ended

abbrev pub IsHere : CellsRec → Slot → Position → Here → Type 0
IsHere cells limit n here = IsAt cells limit n here.worker here.ended

-- a worker whose turns may be taken: its run is over, or the logs of the arcs that leave its node are open
abbrev pub MayGoOn : WorkerRec → Option Ended → Type 0
MayGoOn w None = All IsOpen w.ends.outgoing.items
MayGoOn w (Some ended) = Unit {0}

-- whether a run that has ended so, or not yet, goes on
abbrev pub is_going : Option Ended → Bool
is_going None = true
is_going (Some ended) = false

-- where the node at a position is run
abbrev pub IsPlace : CellsRec → Slot → Position → Place → Type 0
IsPlace cells limit n (There handle) = (handle.promise.lanes.value ≡ cells) × (handle.promise.limit ≡ limit) × (handle.promise.node ≡ n)
IsPlace cells limit n (At here) = IsHere cells limit n here
IsPlace cells limit n (Over left) = IsLeft cells limit n left

abbrev pub IsReady : Place → Type 0
IsReady (There handle) = Unit {0}
IsReady (At here) = MayGoOn here.worker here.ended
IsReady (Over left) = Unit {0}

-- whether turns of a node are left for the caller to take: none of a node in a thread, and none where the run is over
abbrev pub has_turns : Place → Bool
has_turns (There handle) = false
has_turns (At here) = is_going here.ended
has_turns (Over left) = false

abbrev pub HasNoTurns : Place → Type 0
HasNoTurns place = has_turns place ≡ false

-- ---- All nodes

-- whether turns are left of one of these
abbrev pub some_have_turns : List Place → Bool
some_have_turns [] = false
some_have_turns (place ∷ places) = has_turns place || some_have_turns places

-- what holds of each of a list, by its position, where the first has the position n
abbrev pub AllFrom : {X : Type 0} → Position → (Position → X → Type 0) → List X → Type 0
AllFrom n Is [] = Unit {0}
AllFrom n Is (x ∷ xs) = Is n x × AllFrom (suc n) Is xs

-- one for each node of the plan, by position
pub record AreAll {X : Type 0} (cells : CellsRec) (Is : Position → X → Type 0) (xs : List X) : Type 0 where
  pub count : length xs ≡ length cells.plan.nodes
  pub each : AllFrom 0 Is xs

abbrev pub AreFresh : CellsRec → Slot → List Fresh → Type 0
AreFresh cells limit nodes = AreAll cells (IsFreshAt cells limit) nodes

abbrev pub ArePlaces : CellsRec → Slot → List Place → Type 0
ArePlaces cells limit places = AreAll cells (IsPlace cells limit) places

abbrev pub AreLeft : CellsRec → Slot → List Left → Type 0
AreLeft cells limit all = AreAll cells (IsLeft cells limit) all

-- a worker of the node at a position that has come to the limit
abbrev pub HasFinished : CellsRec → Slot → Position → WorkerRec → Type 0
HasFinished cells limit n w = HasEnded cells limit n w Finished

abbrev pub AreParts : CellsRec → Slot → List WorkerRec → Type 0
AreParts cells limit parts = AreAll cells (HasFinished cells limit) parts
