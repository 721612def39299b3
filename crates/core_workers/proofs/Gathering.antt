-- What is left of all workers is at the limit: each node, and the log of each arc.
use Rattle.std.proofs.Common.{◌≡◌, ◌<◌, Some, List, [], ◌∷◌, length, map, slice_get, sym, ap, ◌∙◌, subst, arith}
use Rattle.std.specs.List.{AllByRecursion}
use Rattle.std.proofs.lemmas.Option.{slice_get_within}
use Rattle.std.proofs.lemmas.List.{length-map}
use Rattle.std.proofs.lemmas.List.Elements.{recursion_from_All}
use Rattle.xs_base.specs.Numbers.{Slot, LinkNumber, Position}
use Rattle.sys_plan.specs.Plan.{PlanRec, IsPlan, arc_count}
use Rattle.serial_model.specs.Serial.{history}
use Rattle.xs_base.specs.declared.entry.Entry.{Entry}
use Rattle.trace_model.specs.Trace.{tokens_sent, credits_sent}
use Rattle.link_logs.specs.Logs.{LogRec}
use Rattle.plan_cells.specs.declared.ends.Ends.{Ends}
use Rattle.plan_cells.specs.Ends.{CellsRec, leaving, coming, IsOutgoing, IsIncoming, AreEnds, IsLogOf, HasLeft}
use Rattle.plan_cells.proofs.Lists.{all_at, from_map}
use Rattle.plan_cells.proofs.AtEnds.{left_by}
use Rattle.node_runners.specs.Runner.{RunnerRec}
use Rattle.core_workers.specs.Worker.{WorkerRec, IsWorker, HasSteppedBusy}
use Rattle.core_workers.specs.Run.{IsLeftAt, IsToldTo}
use Rattle.finished_runs.specs.Limit.{Totals, HasRun, HasSent}
use Rattle.core_workers.specs.Gathered.{IsFull, sent_in}

abbrev pub runner_of : WorkerRec → RunnerRec
runner_of part = part.runner

abbrev pub ends_of : WorkerRec → Ends
ends_of part = part.ends

-- each has stepped the busy slots
pub all_busy : (parts : List WorkerRec) → AllByRecursion IsWorker parts → AllByRecursion HasSteppedBusy (map runner_of parts)
all_busy [] workers = tt
all_busy (part ∷ parts) workers = (workers.0.busy, all_busy parts workers.1)

module _ (cells : CellsRec) (limit : Slot) (parts : List WorkerRec)
    (nodes : length parts ≡ length cells.plan.nodes)
    (workers : AllByRecursion IsWorker parts)
    (left : (n : Position) (part : WorkerRec) → slice_get parts n ≡ Some part → IsLeftAt cells limit n part) where
  pub each_node : (n : Position) (runner : RunnerRec) → slice_get (map runner_of parts) n ≡ Some runner → HasRun cells.plan limit n runner
  each_node n runner here =
      let part = from_map runner_of parts n runner here in
      let w = all_at IsWorker parts n part.0 workers part.1 in
      let l = left n part.0 part.1 in
      record {
        plan_is = ap (λ (r : RunnerRec). r.plan) (sym part.2) ∙ w.of_plan ∙ ap (λ (c : CellsRec). c.plan) l.cells_are;
        node = ap (λ (r : RunnerRec). r.node) (sym part.2) ∙ l.node;
        clock = ap (λ (r : RunnerRec). r.clock) (sym part.2) ∙ l.clock;
      }

  own_ends : (n : Position) (part : WorkerRec) → slice_get parts n ≡ Some part → AreEnds cells n part.ends
  own_ends n part here =
      let w = all_at IsWorker parts n part workers here in
      let l = left n part here in
      record {
        outgoing_at = w.tells.places ∙ (λ i. leaving (l.cells_are i).plan (l.node i));
        incoming_at = w.listens.places ∙ (λ i. coming (l.cells_are i).plan (l.node i));
        outgoing_fit = subst (λ (c : CellsRec). AllByRecursion (IsOutgoing c) part.ends.outgoing.items) l.cells_are w.tells.fit;
        incoming_fit = subst (λ (c : CellsRec). AllByRecursion (IsIncoming c) part.ends.incoming.items) l.cells_are w.listens.fit;
      }

  pub are_ends : (n : Position) (ends : Ends) → slice_get (map ends_of parts) n ≡ Some ends → AreEnds cells n ends
  are_ends n ends here =
      let part = from_map ends_of parts n ends here in
      subst (AreEnds cells n) part.2 (own_ends n part.0 part.1)

  pub all_nodes : length (map runner_of parts) ≡ length cells.plan.nodes
  all_nodes = length-map parts runner_of ∙ nodes

  pub all_ends : length (map ends_of parts) ≡ length cells.plan.nodes
  all_ends = length-map parts ends_of ∙ nodes

  -- so is the log of each arc, since it is as the end has left it by which the arc leaves its node
  module _ (is : IsPlan cells.plan) (logs : List (LogRec PlanRec))
      (links : length logs ≡ arc_count cells.plan)
      (own : (link : LinkNumber) (log : LogRec PlanRec) → slice_get logs link ≡ Some log → IsLogOf cells.plan link log)
      (has_left : (n : Position) (ends : Ends) → slice_get (map ends_of parts) n ≡ Some ends → AllByRecursion (HasLeft logs) ends.outgoing.items) where
    told_by : (n : Position) (ends : Ends) → slice_get (map ends_of parts) n ≡ Some ends → AllByRecursion (IsToldTo limit) ends.outgoing.items
    told_by n ends here =
        let part = from_map ends_of parts n ends here in
        subst (λ (e : Ends). AllByRecursion (IsToldTo limit) e.outgoing.items) part.2
        (recursion_from_All (IsToldTo limit) part.0.ends.outgoing.items (left n part.0 part.1).told)

    each_link : (link : LinkNumber) (log : LogRec PlanRec) → slice_get logs link ≡ Some log → IsFull cells.plan limit link log
    each_link link log here =
        let below : link < arc_count cells.plan = omega (arith, slice_get_within logs link log here, links) in
        let by = left_by cells is (map ends_of parts) all_ends are_ends logs has_left link below log here in
        let told = told_by by.writer.node by.writer.ends by.writer.ends_at in
        record {
          log_of = own link log here;
          published = by.published ∙ all_at (IsToldTo limit) by.writer.ends.outgoing.items by.writer.place by.writer.end told by.writer.end_at;
        }

    -- so the totals of all logs are those of all arcs
    pub each_total : (link : LinkNumber) (sent : Totals) → slice_get (map sent_in logs) link ≡ Some sent → HasSent cells.plan limit link sent
    each_total link sent here =
        let log = from_map sent_in logs link sent here in
        let full = each_link link log.0 log.1 in
        let carried : history log.0.run log.0.number 0 log.0.published ≡ history cells.plan link 0 limit = λ i. history (full.log_of.run i) (full.log_of.number i) 0 (full.published i) in
        record {
          tokens = ap (λ (t : Totals). t.0) (sym log.2) ∙ ap (λ (es : List Entry). tokens_sent es) carried;
          credits = ap (λ (t : Totals). t.1) (sym log.2) ∙ ap (λ (es : List Entry). credits_sent es) carried;
        }
