-- A machine whose nodes and arcs are lent to a pass over a slot.
use Rattle.std.proofs.Common.{◌≡◌, ℕ, zero, suc, ◌+◌, ◌-◌, List, [], ◌∷◌, Some, subst, arith}
use Rattle.std.specs.Prelude.{slice_get}
use Rattle.xs_base.specs.Numbers.{Word}
use Rattle.xs_base.specs.declared.entry.Entry.{Entry}
use Rattle.xs_model.specs.Record.{NodeRec}
use Rattle.sys_plan.specs.declared.NodePlan.{NodePlan}
use Rattle.sys_plan.specs.Plan.{PlanRec}
use Rattle.core_step.specs.declared.told.Told.{Told}
use Rattle.run_plan.specs.Told.{IsToldAt, AreToldFrom, AreToldNext, EachIsToldNext}
use Rattle.serial_model.specs.Serial.{SystemRec, node_by}
use Rattle.run_plan.specs.declared.track.Track.{Track}
use Rattle.run_plan.specs.declared.wire.Wire.{Wire}
use Rattle.run_plan.specs.declared.station.Station.{Station}
use Rattle.run_plan.specs.declared.machine.SerialMachine.TheInside.{Inside}
use Rattle.serial_model.specs.Serial.{step_on, since}
use Rattle.run_plan.specs.Machine.{MachineRec, system_of}
use Rattle.run_plan.specs.Inside.{begun_with, seen_of, IsMachine}
use Rattle.run_plan.specs.Run.{AreReady}
use Rattle.run_plan.proofs.Steps.{since_next}
use Rattle.run_plan.proofs.Systems.{ready-alike}

module _ (m : Inside) (is : IsMachine m) where
  -- before a slot these nodes and arcs stand for its system
  abbrev pub StandsNow : List Station → List Track → List Wire → Type 0
  StandsNow stations tracks wires = AreReady m.plan.value (begun_with m).shown m.clock (system_of (seen_of m)) stations tracks wires

  -- and after it for the system one slot later
  abbrev pub StandsNext : List Station → List Track → List Wire → Type 0
  StandsNext stations tracks wires = AreReady m.plan.value (begun_with m).shown (m.clock + 1) (since m.plan.value (begun_with m) (m.clock + 1 - (begun_with m).slot)) stations tracks wires

  -- so do its own, lent
  pub lent : {stations : List Station} {tracks : List Track} {wires : List Wire} → stations ≡ m.stations.items → tracks ≡ m.tracks.items → wires ≡ m.wires.items → StandsNow stations tracks wires
  lent s t w = ready-alike m.plan.value (begun_with m).shown m.clock (system_of (seen_of m)) s t w is.ready

  -- those that stand for the system's step stand for the next slot
  pub stepped : (stations : List Station) (tracks : List Track) (wires : List Wire)
      → AreReady m.plan.value (begun_with m).shown (m.clock + 1) (step_on (begun_with m).shown m.plan.value m.clock (system_of (seen_of m))) stations tracks wires → StandsNext stations tracks wires
  stepped stations tracks wires =
      subst (λ (after : SystemRec). AreReady m.plan.value (begun_with m).shown (m.clock + 1) after stations tracks wires) (since_next m.plan.value (begun_with m) m.clock is.on)

-- what is told of nodes, the first of which stands at a position, is told of each of them
told-at : (shown : List Word) (plan : PlanRec) (histories : List (List Entry)) (slot first : ℕ) (nodes : List NodePlan) (recs : List NodeRec) (all : List Told) (k n : ℕ) (node : NodePlan) (told : Told)
    → AreToldFrom shown plan histories slot first nodes recs all → slice_get nodes k ≡ Some node → slice_get all k ≡ Some told → first + k ≡ n
    → IsToldAt shown plan histories slot n node (node_by recs k) told
told-at shown plan histories slot first [] recs all k n node told are here its at = cc
told-at shown plan histories slot first (x ∷ nodes) [] all k n node told are here its at = absurd are
told-at shown plan histories slot first (x ∷ nodes) (rec ∷ recs) [] k n node told are here its at = absurd are
told-at shown plan histories slot first (x ∷ nodes) (rec ∷ recs) (t ∷ all) zero n node told are here its at =
    let same_place : first ≡ n = omega (arith, at) in
    let same_node : x ≡ node = cc in
    let same : t ≡ told = cc in
    subst (λ (m : ℕ). IsToldAt shown plan histories slot m node rec told) same_place
    (subst (λ (d : NodePlan). IsToldAt shown plan histories slot first d rec told) same_node
    (subst (IsToldAt shown plan histories slot first x rec) same are.0))
told-at shown plan histories slot first (x ∷ nodes) (rec ∷ recs) (t ∷ all) (suc k) n node told are here its at =
    told-at shown plan histories slot (first + 1) nodes recs all k n node told are.1 here its (omega (arith, at))

pub each-is-told : (m : MachineRec) (all : List Told) → AreToldNext m all → EachIsToldNext m all
each-is-told m all are = λ n node told here its. told-at m.begun.shown m.plan (system_of m).histories m.now 0 m.plan.nodes (system_of m).nodes all n n node told are here its (omega arith)
