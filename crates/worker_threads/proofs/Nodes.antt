-- One node: its worker, and what is left of it.
use Rattle.std.proofs.Common.{◌≡◌, ◌<◌, List, [], ◌∷◌, length, sym, ap, ◌∙◌, subst}
use Rattle.std.specs.List.{All, AllByRecursion, AllZip}
use Rattle.std.proofs.lemmas.List.Elements.{All-from_recursion}
use Rattle.xs_base.specs.Numbers.{Slot, Position, LinkNumber}
use Rattle.sys_plan.specs.Plan.{PlanRec}
use Rattle.link_logs.specs.declared.answers.Cause.TheVariants as cause
use Rattle.link_logs.specs.Logs.{WriteRec}
use Rattle.plan_cells.specs.declared.ends.Outgoing.{Outgoing}
use Rattle.plan_cells.specs.declared.ends.Ends.{Ends}
use Rattle.plan_cells.specs.Ends.{CellsRec, AreNewEnds, IsNewOutgoing}
use Rattle.core_workers.specs.declared.ended.Ended.{Ended}
use Rattle.core_workers.specs.declared.ended.Ended.TheVariants.{Finished, Stopped, Memory}
use Rattle.core_workers.specs.declared.turn.Turn.TheVariants as turn
use Rattle.core_workers.specs.Worker.{WorkerRec, IsOpen, Stays, Answers, Closes, KeepsAllElse}
use Rattle.core_workers.specs.Run.{IsToldTo, IsLeftAt, Keeps, EndsWith}
use Rattle.core_workers.proofs.Running.{stopped_by, all_closed}
use Rattle.node_runners.specs.Runner.{RunnerRec, new_runner}
use Rattle.worker_threads.specs.declared.fresh.Fresh.{Fresh}
use Rattle.worker_threads.specs.Team.{IsFreshAt, IsWorkerOf, HasEnded, HasFinished, GoesOn}

-- new ends write to open logs
new_open : (plan : PlanRec) (os : List Outgoing) → AllByRecursion (IsNewOutgoing plan) os → AllByRecursion IsOpen os
new_open plan [] all = tt
new_open plan (o ∷ os) all = (ap (λ (w : WriteRec PlanRec). w.cause) all.0, new_open plan os all.1)

pub opens : (cells : CellsRec) (n : Position) (ends : Ends) → AreNewEnds cells n ends → All IsOpen ends.outgoing.items
opens cells n ends new = All-from_recursion IsOpen ends.outgoing.items (new_open cells.plan ends.outgoing.items new.outgoing_new)

-- what keeps its node, its cells and its limit is a worker of the same node
same_worker : (cells : CellsRec) (limit : Slot) (n : Position) (before after : WorkerRec)
    → after.cells ≡ before.cells → after.runner.node ≡ before.runner.node → after.runner.horizon.limit ≡ before.runner.horizon.limit
    → IsWorkerOf cells limit n before → IsWorkerOf cells limit n after
same_worker cells limit n before after c m l was = record { cells_are = c ∙ was.cells_are; node = m ∙ was.node; limit_is = l ∙ was.limit_is }

-- a worker before its first turn
pub new_worker : (cells : CellsRec) (w : WorkerRec) (runner : RunnerRec) (ends : Ends)
    → w ≡ record { cells = cells; runner = runner; ends = ends } → IsWorkerOf cells runner.horizon.limit runner.node w
new_worker cells w runner ends made = record {
  cells_are = ap (λ (w : WorkerRec). w.cells) made;
  node = ap (λ (w : WorkerRec). w.runner.node) made;
  limit_is = ap (λ (w : WorkerRec). w.runner.horizon.limit) made;
}

-- a worker of a node whose run has ended
pub run_over : (cells : CellsRec) (limit : Slot) (n : Position) (before after : WorkerRec) (ended : Ended)
    → IsWorkerOf cells limit n before → Keeps before after → EndsWith ended after → HasEnded cells limit n after ended
run_over cells limit n before after ended was keeps over = record { worker_of = same_worker cells limit n before after keeps.cells keeps.node keeps.limit was; ends = over }

module _ (cells : CellsRec) (limit : Slot) (n : Position) (before after : WorkerRec) (was : GoesOn cells limit n before) (stays : Stays before after) (are : All IsOpen after.ends.outgoing.items) where
  still_of : IsWorkerOf cells limit n after
  still_of = same_worker cells limit n before after stays.cells stays.node stays.limit was.worker_of

  -- a turn after which the run goes on, and one after which it is over
  pub turn_goes_on : GoesOn cells limit n after
  turn_goes_on = record { worker_of = still_of; still_open = are }

  pub turn_over : Answers before turn.Finished after → HasEnded cells limit n after Finished
  turn_over answers = record { worker_of = still_of; ends = record { clock = answers.0; told = answers.1; still_open = are } }

  -- a turn after which the logs were closed: for the neighbour that stopped the node, or for want of memory
  module _ (shut : WorkerRec) (rest : KeepsAllElse after shut) where
    shut_of : IsWorkerOf cells limit n shut
    shut_of =
        same_worker cells limit n after shut rest.cells (ap (λ (r : RunnerRec). r.node) rest.runner) (ap (λ (r : RunnerRec). r.horizon.limit) rest.runner) still_of

    pub turn_stopped : (link : LinkNumber) → Answers before (turn.Stopped link) after
        → AllZip (Closes (cause.Neighbour link)) after.ends.outgoing.items shut.ends.outgoing.items → HasEnded cells limit n shut Stopped
    turn_stopped link answers closed = record { worker_of = shut_of; ends = stopped_by after shut link answers.1 answers.2 are closed rest }

    pub turn_in_want : AllZip (Closes cause.Memory) after.ends.outgoing.items shut.ends.outgoing.items → HasEnded cells limit n shut Memory
    turn_in_want closed = record { worker_of = shut_of; ends = all_closed cause.Memory after.ends.outgoing.items shut.ends.outgoing.items closed are }

-- a worker that has come to the limit is left there
pub left_at : (cells : CellsRec) (limit : Slot) (n : Position) (w : WorkerRec) → HasFinished cells limit n w → IsLeftAt cells limit n w
left_at cells limit n w is =
    let limit_is = is.worker_of.limit_is in
    record {
      cells_are = is.worker_of.cells_are;
      node = is.worker_of.node;
      clock = is.ends.clock ∙ limit_is;
      told = subst (λ slot. All (IsToldTo slot) w.ends.outgoing.items) limit_is is.ends.told;
    }

-- a new runner of the node at a position, with the ends that are new there
pub new_at : (cells : CellsRec) (plan : PlanRec) (limit : Slot) (at n : Position) (node : Fresh)
    → cells.plan ≡ plan → at ≡ n → node.runner ≡ new_runner plan limit at → AreNewEnds cells n node.ends → n < length cells.plan.nodes → IsFreshAt cells limit n node
new_at cells plan limit at n node of_plan same runner new_ends there =
    let node_is : node.runner.node ≡ n = ap (λ (r : RunnerRec). r.node) runner ∙ same in
    let limit_is : node.runner.horizon.limit ≡ limit = ap (λ (r : RunnerRec). r.horizon.limit) runner in
    let by_itself : new_runner plan limit at ≡ new_runner cells.plan node.runner.horizon.limit node.runner.node
    = λ i. new_runner (sym of_plan i) (sym limit_is i) ((same ∙ sym node_is) i) in
    record {
      fresh = record {
        there = subst (λ m. m < length cells.plan.nodes) (sym node_is) there;
        runner = runner ∙ by_itself;
        new_ends = subst (λ m. AreNewEnds cells m node.ends) (sym node_is) new_ends;
      };
      limit_is = limit_is;
      node_is = node_is;
    }
