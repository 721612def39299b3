-- A system has a record and a list of events of each node, and a history of each arc, from slot to slot.
use Rattle.std.proofs.Common.{◌≡◌, ℕ, zero, suc, ◌+◌, List, [], ◌∷◌, length, map, refl, sym, ap, ◌∙◌, subst, arith}
use Rattle.std.proofs.lemmas.List.{length-map}
use Rattle.xs_base.specs.Numbers.{Slot, Word}
use Rattle.xs_base.specs.declared.entry.Entry.{Entry}
use Rattle.xs_model.specs.declared.event.Event.{Event}
use Rattle.xs_model.specs.Record.{NodeRec}
use Rattle.sys_plan.specs.declared.NodePlan.{NodePlan}
use Rattle.sys_plan.specs.Plan.{PlanRec, Arc, arcs, arc_count}
use Rattle.step_model.specs.Step.{Stepped}
use Rattle.serial_model.specs.Serial.{SystemRec, Begun, nodes_at_start, steps_from_on, steps_on, longer_events, longer_histories, step_on, begun_at_start, since, serial}
use Rattle.begun_laws.proofs.Begun.{start_is_serial}
use Rattle.run_plan.proofs.Begins.{snaps-length, logs-length}
use Rattle.core_step.specs.States.{node_rec}
use Rattle.snap_parts.specs.declared.node.SnapNode.{SnapNode}
use Rattle.snap_parts.specs.Parts.{LogRec, BodyRec}
use Rattle.snap_parts.specs.Snaps.{begun_of, IsSnapSystem}

pub record HasAll (plan : PlanRec) (system : SystemRec) : Type 0 where
  pub nodes : length system.nodes ≡ length plan.nodes
  pub events : length system.events ≡ length plan.nodes
  pub histories : length system.histories ≡ arc_count plan

-- ---- One slot

module _ (shown : List Word) (plan : PlanRec) (histories : List (List Entry)) (slot : Slot) where
  steps_count : (n : ℕ) (nodes : List NodePlan) (recs : List NodeRec) → length recs ≡ length nodes → length (steps_from_on shown plan histories slot n nodes recs) ≡ length nodes
  steps_count n [] recs same = refl
  steps_count n (node ∷ nodes) [] same = absurd (omega (arith, same))
  steps_count n (node ∷ nodes) (rec ∷ recs) same = ap suc (steps_count (n + 1) nodes recs (omega (arith, same)))

events_count : (steps : List Stepped) (all : List (List Event)) → length all ≡ length steps → length (longer_events steps all) ≡ length steps
events_count [] all same = refl
events_count (s ∷ steps) [] same = absurd (omega (arith, same))
events_count (s ∷ steps) (events ∷ all) same = ap suc (events_count steps all (omega (arith, same)))

histories_count : (slot : Slot) (nodes : List NodeRec) (steps : List Stepped) (ds : List Arc) (histories : List (List Entry)) → length histories ≡ length ds
    → length (longer_histories slot nodes steps ds histories) ≡ length ds
histories_count slot nodes steps [] histories same = refl
histories_count slot nodes steps (d ∷ ds) [] same = absurd (omega (arith, same))
histories_count slot nodes steps (d ∷ ds) (h ∷ histories) same = ap suc (histories_count slot nodes steps ds histories (omega (arith, same)))

has_next : (shown : List Word) (plan : PlanRec) (slot : Slot) (system : SystemRec) → HasAll plan system → HasAll plan (step_on shown plan slot system)
has_next shown plan slot system has =
    let steps = steps_on shown plan slot system in
    let count = steps_count shown plan system.histories slot 0 plan.nodes system.nodes has.nodes in
    record {
      nodes = length-map steps (λ (s : Stepped). s.rec) ∙ count;
      events = events_count steps system.events (has.events ∙ sym count) ∙ count;
      histories = histories_count slot system.nodes steps (arcs plan) system.histories has.histories;
    }

-- ---- All slots

pub all_since : (plan : PlanRec) (begun : Begun) → HasAll plan begun.system → (n : ℕ) → HasAll plan (since plan begun n)
unfolding since
all_since plan begun has zero = has
all_since plan begun has (suc n) = has_next begun.shown plan (begun.slot + n) (since plan begun n) (all_since plan begun has n)

start_count : (plan : PlanRec) (n : ℕ) (nodes : List NodePlan) → length (nodes_at_start plan n nodes) ≡ length nodes
start_count plan n [] = refl
start_count plan n (node ∷ nodes) = ap suc (start_count plan (n + 1) nodes)

all_at_start : (plan : PlanRec) → HasAll plan (begun_at_start plan).system
all_at_start plan = record {
  nodes = start_count plan 0 plan.nodes;
  events = length-map plan.nodes (λ (node : NodePlan). []);
  histories = length-map (arcs plan) (λ (d : Arc). []);
}

-- the serial machine has them, and so has each system that goes on from a snapshot
pub all_serial : (plan : PlanRec) (slot : Slot) → HasAll plan (serial plan slot)
all_serial plan slot = subst (HasAll plan) (start_is_serial plan slot) (all_since plan (begun_at_start plan) (all_at_start plan) slot)

pub all_begun : (plan : PlanRec) (body : BodyRec) → IsSnapSystem plan body → HasAll plan (begun_of body).system
all_begun plan body is =
    let nodes = snaps-length plan body.slot 0 plan.nodes body.nodes is.nodes in
    record {
      nodes = length-map body.nodes (λ (node : SnapNode). node_rec node.state) ∙ nodes;
      events = length-map body.nodes (λ (node : SnapNode). []) ∙ nodes;
      histories = length-map body.logs (λ (log : LogRec). log.entries) ∙ logs-length body.slot (arcs plan) body.logs is.logs;
    }
