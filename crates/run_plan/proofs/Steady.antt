-- Slots in which nothing happens anywhere leave the levels of all pins, where these show the same from outside.
use Rattle.std.proofs.Common.{◌≡◌, ℕ, zero, suc, ◌+◌, ◌-◌, ◌<◌, ◌≤◌, List, [], ◌∷◌, length, inl, inr, refl, sym, ap, ◌∙◌, arith}
use mathlib.Core.Logic.{◌⊎◌}
use Rattle.std.specs.List.{AllByRecursion}
use Rattle.std.proofs.lemmas.Bool.{cases_lt}
use Rattle.xs_base.specs.Numbers.{Slot, Word, Position}
use Rattle.xs_base.specs.declared.entry.Entry.{Entry}
use Rattle.xs_model.specs.declared.event.Event.{Event}
use Rattle.xs_model.specs.declared.outside.PinView.{PinView}
use Rattle.xs_model.specs.Ports.{levels_of}
use Rattle.xs_model.specs.Record.{CoreRec, NodeRec}
use Rattle.sys_plan.specs.declared.NodePlan.{NodePlan}
use Rattle.sys_plan.specs.Plan.{PlanRec, gaps_of}
use Rattle.step_model.specs.Start.{fixed_of}
use Rattle.step_laws.specs.Pins.{SlotTellsDriven}
use Rattle.step_laws.specs.Shape.{HasShape, SlotKeepsShape}
use Rattle.serial_model.specs.Serial.{SystemRec, Begun, since, pins_on, node_by}
use Rattle.quiet_laws.specs.Undisturbed.{IsWhole}
use Rattle.quiet_laws.specs.Quiet.{QuietSlotOnlyCounts, QuietSlotsOnlyCount, StillNodeStirsFirst, IsQuietUntil}
use Rattle.crossings.proofs.Arriving.{all-map}
use Rattle.core_step.specs.PinLevels.{levels_kept}
use Rattle.node_seats.proofs.Wired.{shows-on}
use Rattle.node_seats.specs.Seats.{HasNoted}
use Rattle.node_seats.specs.Shown.{HaveComeOn}
use Rattle.run_plan.specs.declared.track.Track.{Track}
use Rattle.run_plan.specs.declared.wire.Wire.{Wire}
use Rattle.run_plan.specs.declared.station.Station.{Station}
use Rattle.run_plan.specs.Stations.{IsStation}
use Rattle.run_plan.specs.Tracks.{IsTrack}
use Rattle.run_plan.specs.Passes.{IsShownAt, levels_of as came_of}
use Rattle.run_plan.specs.Wires.{IsWire}
use Rattle.run_plan.specs.Quiet.{ComesAfter, IsQuietSystem}
use Rattle.run_plan.specs.Run.{Serves, AllServe, AreReady}
use Rattle.run_plan.specs.Steady.{IsSteadyTo, LevelsStayTo}
use Rattle.run_plan.proofs.Through.{all-both}
use Rattle.run_plan.proofs.Rested.{rested, all_rested, whole_by, AllQuietUntil}
use Rattle.run_plan.proofs.Come.{AllCame}
use Rattle.run_plan.proofs.Wires.{comes_sooner}
use Rattle.run_plan.proofs.Steps.{since_none}
use Rattle.run_plan.proofs.Skipped.{rest_sooner, tracks_sooner, tracks_here, wires_in, still, since_is, came_last}

-- where nothing happens anywhere before a slot, nothing does before an earlier one
quiet_sooner : (from slot to : Slot) → from < slot → slot ≤ to → (stations : List Station) (tracks : List Track) (wires : List Wire)
    → AllByRecursion (IsTrack from) tracks → AllByRecursion (IsWire from) wires → IsQuietSystem from to stations tracks wires → IsQuietSystem from slot stations tracks wires
quiet_sooner from slot to some within stations tracks wires here ways quiet = record {
  nodes = rest_sooner from slot to within stations quiet.nodes;
  arcs = tracks_sooner from slot to some within tracks here quiet.arcs;
  wires = all-both (IsWire from) (ComesAfter to) (ComesAfter slot) (λ w is after. comes_sooner from slot to w (omega (arith, some)) within is after) wires ways quiet.wires;
}

-- what holds of the pins up to a slot holds up to an earlier one
pub steady_sooner : (slot to : Slot) → slot ≤ to → (stations : List Station) → AllByRecursion (IsSteadyTo to) stations → AllByRecursion (IsSteadyTo slot) stations
steady_sooner slot to within stations = all-map (IsSteadyTo to) (IsSteadyTo slot) (λ s next. omega (arith, within, next)) stations

-- before a slot, in front of which no change of the pins was missed
pub stations_shown : (slot : Slot) (count : ℕ) (stations : List Station) → AllByRecursion (IsStation slot count) stations → AllByRecursion (IsShownAt slot) stations
stations_shown slot count stations = all-map (IsStation slot count) (IsShownAt slot) (λ s is. is.shown) stations

-- ---- The nodes

module _ (slots : QuietSlotsOnlyCount) (shown : List Word) (plan : PlanRec) (from slot : Slot) (some : from < slot) (histories : List (List Entry)) where
  -- what the pins show from outside in the last of the slots is what the node has noted before them
  stays_one : (n : Position) (node : NodePlan) (station : Station) (rec : NodeRec) (events : List Event) → Serves plan from n node station rec events → HasNoted from station.pins station.seat
      → IsSteadyTo slot station → HaveComeOn shown plan histories n (slot - 1) station.pins.levels → IsWhole rec.core
      → IsQuietUntil (fixed_of node (gaps_of plan n)) rec from (pins_on shown plan histories n) slot → (rested shown plan from histories slot n node rec).levels ≡ rec.levels
  stays_one n node station rec events is noted next came whole quiet =
      let counted = slots (fixed_of node (gaps_of plan n)) rec from (pins_on shown plan histories n) slot whole (λ t. refl) some quiet in
      let last = shows-on shown plan histories n from (slot - 1) station.pins is.pins came in
      let same = is.pins.shown.steady.until_change (slot - 1) (omega (arith, some)) (omega (arith, some, next)) in
      let kept = noted (omega (arith, some, next)) in
      let stands = is.plays.stands.stands in
      ap (λ (r : NodeRec). r.levels) counted
      ∙ ap (λ (pins : PinView). levels_of rec.core.ports pins.level) (sym last ∙ same)
      ∙ ap (λ (core : CoreRec). levels_of core.ports station.pins.view.level) (sym stands.core)
      ∙ ap (levels_kept station.seat.core.core.ports) (sym kept)
      ∙ stands.levels

  stays_all : (count : ℕ) (n : Position) (nodes : List NodePlan) (stations : List Station) (recs : List NodeRec) (events : List (List Event)) → AllServe plan from n nodes stations recs events
      → AllByRecursion (IsStation from count) stations → AllByRecursion (IsSteadyTo slot) stations → AllCame shown plan histories (slot - 1) n stations → AllByRecursion HasShape recs
      → AllQuietUntil shown plan from histories slot n nodes recs events → (k : ℕ) → (node_by (all_rested shown plan from histories slot n nodes recs) k).levels ≡ (node_by recs k).levels
  stays_all count n [] [] [] [] serve are next came has quiet k = refl
  stays_all count n (node ∷ nodes) (station ∷ stations) (rec ∷ recs) (es ∷ events) serve are next came has quiet zero =
      stays_one n node station rec es serve.0 are.0.noted next.0 came.0 (whole_by has.0) quiet.0
  stays_all count n (node ∷ nodes) (station ∷ stations) (rec ∷ recs) (es ∷ events) serve are next came has quiet (suc k) =
      stays_all count (n + 1) nodes stations recs events serve.1 are.1 next.1 came.1 has.1 quiet.1 k
  stays_all count n _ _ _ _ serve are next came has quiet k = absurd serve

-- ---- The system

-- no slot later
pub stay_here : (plan : PlanRec) (begun : Begun) (slot : Slot) → begun.slot ≤ slot → slot ≤ begun.slot → (n : Position)
    → (node_by (since plan begun (slot - begun.slot)).nodes n).levels ≡ (node_by begun.system.nodes n).levels
stay_here plan begun slot on within n =
    ap (λ (system : SystemRec). (node_by system.nodes n).levels) (sym (since_none plan begun (slot - begun.slot) (omega (arith, within))))

module _ (first : StillNodeStirsFirst) (counts : QuietSlotOnlyCounts) (slots : QuietSlotsOnlyCount) (tells : SlotTellsDriven) (keeps : SlotKeepsShape)
    (plan : PlanRec) (shown : List Word) (from to : Slot) (system : SystemRec) (stations : List Station) (tracks : List Track) (wires : List Wire)
    (ready : AreReady plan shown from system stations tracks wires) (quiet : IsQuietSystem from to stations tracks wires) (steady : AllByRecursion (IsSteadyTo to) stations) where
  abbrev begun : Begun
  begun = record { slot = from; system = system; shown = shown }

  stay_later : (slot : Slot) (n : Position) → from < slot → slot ≤ to → (node_by (since plan begun (slot - from)).nodes n).levels ≡ (node_by system.nodes n).levels
  stay_later slot n some within =
      let here = tracks_here from (length stations) tracks ready.tracks in
      let ways = wires_in from (came_of stations) wires ready.wires in
      let calm = quiet_sooner from slot to some within stations tracks wires here ways quiet in
      let came = came_last first counts tells keeps plan shown from slot some system stations tracks wires ready calm in
      let rests = still first counts tells keeps plan shown from slot some system stations tracks wires ready calm in
      let now = since_is first counts tells keeps plan shown from slot some system stations tracks wires ready calm in
      ap (λ (s : SystemRec). (node_by s.nodes n).levels) now
      ∙ stays_all slots shown plan from slot some system.histories (length tracks) 0 plan.nodes stations system.nodes system.events ready.system.serve ready.stations
      (steady_sooner slot to within stations steady) came ready.shapes rests n

  by_slot : (slot : Slot) (n : Position) → (from < slot) ⊎ (slot ≤ from) → from ≤ slot → slot ≤ to → (node_by (since plan begun (slot - from)).nodes n).levels ≡ (node_by system.nodes n).levels
  by_slot slot n (inl some) on within = stay_later slot n some within
  by_slot slot n (inr none) on within = stay_here plan begun slot on none n

  pub stay_to : LevelsStayTo to plan begun
  stay_to slot n on within = by_slot slot n (cases_lt from slot) on within
