-- The nodes that a snapshot keeps of a run: each says what may be so of a node.
use Rattle.std.proofs.Common.{◌≡◌, ℕ, suc, ◌+◌, ◌<◌, get_or, List, [], ◌∷◌, length, subst, arith}
use Rattle.xs_base.specs.Numbers.{Slot, Position}
use Rattle.xs_model.specs.declared.event.Event.{Event}
use Rattle.xs_model.specs.Record.{NodeRec, first_node}
use Rattle.sys_plan.specs.declared.NodePlan.{NodePlan}
use Rattle.sys_plan.specs.Plan.{PlanRec, gaps_of}
use Rattle.serial_model.specs.Serial.{serial}
use Rattle.snap_parts.specs.Snaps.{IsSnapNode, AreSnapNodes}
use Rattle.snap_model.specs.Saved.{saved_node, saved_nodes}
use Rattle.state_laws.specs.Facts.{MayBeKept}
use Rattle.state_laws.specs.Laws.{KeptMayBeRead}
use Rattle.state_laws.specs.Runs.{KeptInEveryRun}
use Rattle.saved_laws.specs.Laws.{NodesMayBeKept, SystemsMayGoOn}
use Rattle.saved_laws.proofs.Events.{nodes_count, events_count}
use Rattle.saved_laws.proofs.Kept.{logs_are_on_arcs}

module _ (read : KeptMayBeRead) (plan : PlanRec) (slot : Slot) where
  one_node : (n m : Position) (rec : NodeRec) (events : List Event) → m ≡ n → MayBeKept (gaps_of plan m) slot rec → IsSnapNode plan slot n (saved_node rec events)
  one_node n m rec events e may =
      let says = read (gaps_of plan n) slot rec (subst (λ (p : Position). MayBeKept (gaps_of plan p) slot rec) e may) in
      record { state = says.state; before = says.before }

  snap_nodes : (n : Position) (nodes : List NodePlan) (recs : List NodeRec) (all : List (List Event)) → length recs ≡ length nodes → length all ≡ length nodes
      → ((k : ℕ) → k < length nodes → MayBeKept (gaps_of plan (n + k)) slot (get_or recs k (first_node 0 0 []))) → AreSnapNodes plan slot n nodes (saved_nodes recs all)
  snap_nodes n [] [] all e f each = tt
  snap_nodes n [] (rec ∷ recs) all e f each = absurd (omega (arith, e))
  snap_nodes n (node ∷ nodes) [] all e f each = absurd (omega (arith, e))
  snap_nodes n (node ∷ nodes) (rec ∷ recs) [] e f each = absurd (omega (arith, f))
  snap_nodes n (node ∷ nodes) (rec ∷ recs) (events ∷ all) e f each = (
    one_node n (n + 0) rec events (omega arith) (each 0 (omega arith)),
    snap_nodes (n + 1) nodes recs all (omega (arith, e)) (omega (arith, f)) (λ k h.
        let same : n + suc k ≡ n + 1 + k = omega arith in
        subst (λ (p : Position). MayBeKept (gaps_of plan p) slot (get_or recs k (first_node 0 0 []))) same (each (suc k) (omega (arith, h)))),
  )

pub nodes_may_be_kept : KeptMayBeRead → KeptInEveryRun → NodesMayBeKept
nodes_may_be_kept read run plan slot is code =
    snap_nodes read plan slot 0 plan.nodes (serial plan slot).nodes (serial plan slot).events (nodes_count plan slot) (events_count plan slot) (λ k h.
    let same : k ≡ 0 + k = omega arith in
    subst (λ (p : Position). MayBeKept (gaps_of plan p) slot (get_or (serial plan slot).nodes k (first_node 0 0 []))) same (run plan slot k is code h))

pub systems_may_go_on : NodesMayBeKept → SystemsMayGoOn
systems_may_go_on nodes plan slot is code bytes = record { nodes = nodes plan slot is code; logs = logs_are_on_arcs plan slot is bytes }
