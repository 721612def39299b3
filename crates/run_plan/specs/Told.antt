-- What is told of the threads of each node in a slot.
use Rattle.std.specs.Prelude.{◌≡◌, ◌+◌, Some, List, [], ◌∷◌, slice_get}
use Rattle.xs_base.specs.Numbers.{Slot, Word, Position}
use Rattle.xs_base.specs.declared.entry.Entry.{Entry}
use Rattle.xs_model.specs.Record.{NodeRec}
use Rattle.sys_plan.specs.declared.NodePlan.{NodePlan}
use Rattle.sys_plan.specs.Plan.{PlanRec, gaps_of}
use Rattle.step_model.specs.Start.{fixed_of}
use Rattle.serial_model.specs.Serial.{SystemRec, coming_on, node_by}
use Rattle.core_step.specs.declared.told.Told.{Told}
use Rattle.core_step.specs.Told.{IsTold}
use Rattle.node_seats.specs.Shown.{shown_by}
use Rattle.node_seats.specs.Told.{IsToldOf}
use Rattle.run_plan.specs.declared.track.Track.{Track}
use Rattle.run_plan.specs.declared.station.Station.{Station}
use Rattle.run_plan.specs.Stations.{taken_by}
use Rattle.run_plan.specs.Machine.{MachineRec, system_of}

-- of a node at work, to which comes what arrives by its arcs, and what its pins show
abbrev pub IsStationTold : Slot → List Track → Station → Told → Type 0
IsStationTold slot tracks station told = IsToldOf slot (taken_by tracks station) (shown_by station.pins slot) station.seat told

-- of the node of a plan at a position, when the arcs have these histories and showed this before
abbrev pub IsToldAt : List Word → PlanRec → List (List Entry) → Slot → Position → NodePlan → NodeRec → Told → Type 0
IsToldAt shown plan histories slot n node rec told =
    let coming = coming_on shown plan histories slot n in
    IsTold (fixed_of node (gaps_of plan n)) rec slot coming.arrivals coming.pins told

-- of each node, the first of which stands at position n
abbrev pub AreToldFrom : List Word → PlanRec → List (List Entry) → Slot → Position → List NodePlan → List NodeRec → List Told → Type 0
AreToldFrom shown plan histories slot n [] [] [] = Unit {0}
AreToldFrom shown plan histories slot n (node ∷ nodes) (rec ∷ recs) (told ∷ all) =
    IsToldAt shown plan histories slot n node rec told × AreToldFrom shown plan histories slot (n + 1) nodes recs all
AreToldFrom shown plan histories slot n _ _ _ = ⊥

-- of the nodes of a system, by position
abbrev pub AreTold : List Word → PlanRec → Slot → SystemRec → List Told → Type 0
AreTold shown plan slot system told = AreToldFrom shown plan system.histories slot 0 plan.nodes system.nodes told

-- of the nodes of a machine, in the slot that comes next
abbrev pub AreToldNext : MachineRec → List Told → Type 0
AreToldNext m told = AreTold m.begun.shown m.plan m.now (system_of m) told

-- of the node of a machine at each position by itself
abbrev pub EachIsToldNext : MachineRec → List Told → Type 0
EachIsToldNext m all =
    (n : Position) (node : NodePlan) (told : Told) → slice_get m.plan.nodes n ≡ Some node → slice_get all n ≡ Some told →
    IsToldAt m.begun.shown m.plan (system_of m).histories m.now n node (node_by (system_of m).nodes n) told
