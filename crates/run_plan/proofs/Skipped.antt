-- The nodes, directed links and wires at work over slots in which nothing happens anywhere.
use Rattle.std.proofs.Common.{◌≡◌, ℕ, ◌+◌, ◌-◌, ◌<◌, ◌≤◌, List, [], ◌∷◌, ◌++◌, length, refl, sym, ap, ◌∙◌, subst, arith}
use Rattle.std.specs.List.{AllByRecursion, AllZip}
use Rattle.xs_base.specs.Numbers.{Slot, Word, Position}
use Rattle.xs_base.specs.declared.entry.Entry.{Entry}
use Rattle.xs_model.specs.declared.event.Event.{Event}
use Rattle.xs_model.specs.Record.{NodeRec}
use Rattle.sys_plan.specs.declared.NodePlan.{NodePlan}
use Rattle.sys_plan.specs.Plan.{PlanRec, Arc, arcs, link_arcs, wire_arcs, gaps_of}
use Rattle.step_model.specs.Fixed.{Fixed}
use Rattle.step_model.specs.Start.{fixed_of}
use Rattle.step_laws.specs.Pins.{SlotTellsDriven}
use Rattle.step_laws.specs.Shape.{HasShape, SlotKeepsShape}
use Rattle.serial_model.specs.Serial.{SystemRec, since, pins_on, arrivals_at}
use Rattle.quiet_laws.specs.Undisturbed.{no_arrivals, IsWhole}
use Rattle.quiet_laws.specs.Quiet.{QuietSlotOnlyCounts, StillNodeStirsFirst, IsQuietUntil}
use Rattle.crossings.proofs.Arriving.{all-map}
use Rattle.core_step.proofs.Quiet.{quiet_until, sooner}
use Rattle.node_seats.proofs.Seats.{plays-later}
use Rattle.node_seats.proofs.Wired.{shows-on}
use Rattle.node_seats.specs.Shown.{AreWired, HaveComeOn, shown_by}
use Rattle.run_plan.specs.declared.track.Track.{Track}
use Rattle.run_plan.specs.declared.wire.Wire.{Wire}
use Rattle.run_plan.specs.declared.station.Station.{Station}
use Rattle.run_plan.specs.Inbound.{IsBelow}
use Rattle.run_plan.specs.Stations.{IsStation}
use Rattle.run_plan.specs.Tracks.{IsTrack}
use Rattle.run_plan.specs.Passes.{IsReadyTrack, IsHeeded, levels_of}
use Rattle.run_plan.specs.Wires.{IsWire, IsReadyWire, AreReadyWires}
use Rattle.run_plan.specs.Quiet.{RestsTo, ArrivesAfter, ComesAfter, IsQuietSystem, MaySkip, StationSkips}
use Rattle.run_plan.specs.Run.{Serves, AllServe, AllTell, IsSystem, AreReady}
use Rattle.run_plan.proofs.Through.{all-zip, zip-length, all-both}
use Rattle.run_plan.proofs.Rested.{rested, all_rested, whole_by, AllQuietUntil, DriveTheSame, all_after, drive_after, shapes_after}
use Rattle.run_plan.proofs.Wires.{wire-later, shows-still}
use Rattle.run_plan.proofs.Come.{ShowsIn, AllCame, all-came}
use Rattle.run_plan.proofs.Systems.{histories-length}
use Rattle.run_plan.proofs.Waiting.{after_sooner, none_arrived, track_later, nothing_anywhere}

-- ---- The nodes

-- a node that is quiet before a slot is so before an earlier one
pub rest_sooner : (from to until : ℕ) → to ≤ until → (stations : List Station) → AllByRecursion (RestsTo from until) stations → AllByRecursion (RestsTo from to) stations
rest_sooner from to until within stations = all-map (RestsTo from until) (RestsTo from to) (λ s rests. sooner s.seat.core from to until within rests) stations

-- what arrives after a slot arrives after an earlier one
pub tracks_sooner : (from to until : ℕ) → from < to → to ≤ until → (tracks : List Track) → AllByRecursion (IsTrack from) tracks → AllByRecursion (ArrivesAfter until) tracks → AllByRecursion (ArrivesAfter to) tracks
tracks_sooner from to until some within tracks = all-both (IsTrack from) (ArrivesAfter until) (ArrivesAfter to) (λ t is after. after_sooner from to until t (omega (arith, some)) within is after) tracks

-- a node that is quiet may go over the slots
pub may_skip : (from to count : ℕ) (stations : List Station) → AllByRecursion (IsStation from count) stations → AllByRecursion (RestsTo from to) stations → AllByRecursion (MaySkip from to) stations
may_skip from to count stations =
    all-both (IsStation from count) (RestsTo from to) (MaySkip from to) (λ s is rests. record { here = is.here; shown = is.shown; quiet = rests }) stations

-- a node that went over them is as it is before the later slot
stations_later : (from to count : ℕ) (stations after : List Station) → AllZip (StationSkips from to) stations after → AllByRecursion (IsStation from count) stations → AllByRecursion (IsStation to count) after
stations_later from to count stations after = all-zip (StationSkips from to) (IsStation from count) (IsStation to count) (λ x y s h. record {
  here = s.skips.next;
  shown = s.shown;
  noted = s.noted;
  incoming = subst (AllByRecursion (IsBelow count)) (sym s.incoming) h.incoming;
}) stations after

module _ (shown : List Word) (plan : PlanRec) (from to : Slot) (histories : List (List Entry)) where
  serves_later : (n : Position) (node : NodePlan) (before after : Station) (rec : NodeRec) (events : List Event) → Serves plan from n node before rec events → HaveComeOn shown plan histories n (to - 1) before.pins.levels
      → StationSkips from to before after → Serves plan to n node after (rested shown plan from histories to n node rec) events
  serves_later n node before after rec events is came s =
      let last = sym (shows-on shown plan histories n from (to - 1) before.pins is.pins came) in
      record {
        plays = plays-later plan from to n node before.seat after.seat rec events (pins_on shown plan histories n) (shown_by before.pins (to - 1)) is.plays (λ slot. refl) last s.skips;
        pins = record { script = s.script ∙ is.pins.script; number = s.number ∙ is.pins.number; wired = subst (AreWired plan n) (sym s.wired) is.pins.wired; shown = s.shown };
        incoming = s.incoming ∙ is.incoming;
      }

  all_serve : (n : Position) (nodes : List NodePlan) (stations : List Station) (recs : List NodeRec) (events : List (List Event)) (after : List Station)
      → AllServe plan from n nodes stations recs events → AllCame shown plan histories (to - 1) n stations → AllZip (StationSkips from to) stations after
      → AllServe plan to n nodes after (all_rested shown plan from histories to n nodes recs) events
  all_serve n [] [] [] [] [] serve came zip = tt
  all_serve n [] [] [] [] (a ∷ afters) serve came zip = absurd zip
  all_serve n (node ∷ nodes) (station ∷ stations) (rec ∷ recs) (es ∷ events) [] serve came zip = absurd zip
  all_serve n (node ∷ nodes) (station ∷ stations) (rec ∷ recs) (es ∷ events) (a ∷ afters) serve came zip =
      (serves_later n node station a rec es serve.0 came.0 zip.0, all_serve (n + 1) nodes stations recs events afters serve.1 came.1 zip.1)
  all_serve n _ _ _ _ _ serve came zip = absurd serve

  -- none of them stirs
  module _ (first : StillNodeStirsFirst) where
    quiet_one : (n : Position) (node : NodePlan) (station : Station) (rec : NodeRec) (events : List Event) → Serves plan from n node station rec events → RestsTo from to station → IsWhole rec.core
        → IsQuietUntil (fixed_of node (gaps_of plan n)) rec from (pins_on shown plan histories n) to
    quiet_one n node station rec events is rests whole =
        let stands = is.plays.stands.stands in
        subst (λ (f : Fixed). IsQuietUntil f rec from (pins_on shown plan histories n) to) is.plays.fixed
        (quiet_until first station.seat.core rec from to (pins_on shown plan histories n) (subst IsWhole (sym stands.core) whole) stands (λ slot. refl) rests)

    all_quiet : (n : Position) (nodes : List NodePlan) (stations : List Station) (recs : List NodeRec) (events : List (List Event)) → AllServe plan from n nodes stations recs events
        → AllByRecursion (RestsTo from to) stations → AllByRecursion HasShape recs → AllQuietUntil shown plan from histories to n nodes recs events
    all_quiet n [] [] [] [] serve rests has = tt
    all_quiet n (node ∷ nodes) (station ∷ stations) (rec ∷ recs) (es ∷ events) serve rests has =
        (quiet_one n node station rec es serve.0 rests.0 (whole_by has.0), all_quiet (n + 1) nodes stations recs events serve.1 rests.1 has.1)
    all_quiet n _ _ _ _ serve rests has = absurd serve

-- ---- The wires

wires_here : (slot count : ℕ) (wires : List Wire) → AllByRecursion (IsReadyWire slot count) wires → AllByRecursion (IsWire slot) wires
wires_here slot count wires all = all-map (IsReadyWire slot count) (IsWire slot) (λ w r. r.here) wires all

pub wires_in : (slot : ℕ) (levels : List (List Word)) (wires : List Wire) → AreReadyWires slot levels wires → AllByRecursion (IsWire slot) wires
wires_in slot levels wires ready = wires_here slot (length levels) wires ready.each

-- a wire by which nothing comes is ready for the later slot, and shows the same until then
module _ (from to : Slot) (some : from < to) (wires : List Wire) (quiet : AllByRecursion (ComesAfter to) wires) where
  wires_later : (levels : List (List Word)) → AreReadyWires from levels wires → AreReadyWires to levels wires
  wires_later levels ready = record {
    each =
        all-both (IsReadyWire from (length levels)) (ComesAfter to) (IsReadyWire to (length levels))
        (λ w is late. record { from = is.from; to = is.to; here = wire-later from to (omega (arith, some)) w is.here late }) wires ready.each quiet;
    apart = ready.apart;
    come = ready.come;
  }

  show_last : AllByRecursion (IsWire from) wires → AllByRecursion (ShowsIn (to - 1)) wires
  show_last here =
      all-both (IsWire from) (ComesAfter to) (ShowsIn (to - 1)) (λ w is late. shows-still from (to - 1) to (omega (arith, some)) (omega arith) w is late) wires here quiet

-- what was told last is what the first port still drives
tell_later : (shown : List Word) (nodes later : List NodeRec) → DriveTheSame nodes later → (k : ℕ) (ds : List Arc) (wires : List Wire) (histories : List (List Entry)) → AllTell shown nodes k ds wires histories
    → AllTell shown later k ds wires histories
tell_later shown nodes later drive k [] [] [] tell = tt
tell_later shown nodes later drive k (d ∷ ds) (w ∷ ws) (h ∷ hs) tell =
    let t = tell.0 in (
      record { from = t.from; to = t.to; delay = t.delay; joins = t.joins; entries = t.entries; sent = t.sent ∙ sym (drive w.from w.from_port); shown = t.shown },
      tell_later shown nodes later drive (k + 1) ds ws hs tell.1,
    )
tell_later shown nodes later drive k _ _ _ tell = absurd tell

levels_skipped : (from to : Slot) (stations after : List Station) → AllZip (StationSkips from to) stations after → levels_of after ≡ levels_of stations
levels_skipped from to [] [] zip = refl
levels_skipped from to [] (a ∷ afters) zip = absurd zip
levels_skipped from to (s ∷ stations) [] zip = absurd zip
levels_skipped from to (s ∷ stations) (a ∷ afters) zip = λ i. zip.0.levels i ∷ levels_skipped from to stations afters zip.1 i

-- ---- The system

both-length : {X : Type 0} (xs ys : List X) → length (xs ++ ys) ≡ length xs + length ys
both-length [] ys = omega arith
both-length (x ∷ xs) ys = omega (arith, both-length xs ys)

tells-length : (shown : List Word) (nodes : List NodeRec) (k : ℕ) (ds : List Arc) (wires : List Wire) (histories : List (List Entry)) → AllTell shown nodes k ds wires histories → length histories ≡ length ds
tells-length shown nodes k [] [] [] tell = refl
tells-length shown nodes k (d ∷ ds) (w ∷ ws) (h ∷ hs) tell = omega (arith, tells-length shown nodes (k + 1) ds ws hs tell.1)
tells-length shown nodes k _ _ _ tell = absurd tell

pub tracks_here : (slot count : ℕ) (tracks : List Track) → AllByRecursion (IsReadyTrack slot count) tracks → AllByRecursion (IsTrack slot) tracks
tracks_here slot count [] all = tt
tracks_here slot count (t ∷ tracks) all = (all.0.here, tracks_here slot count tracks all.1)

module _ (first : StillNodeStirsFirst) (counts : QuietSlotOnlyCounts) (tells : SlotTellsDriven) (keeps : SlotKeepsShape) (plan : PlanRec) (shown : List Word) (from to : Slot) (some : from < to) (system : SystemRec)
    (stations : List Station) (tracks : List Track) (wires : List Wire) (ready : AreReady plan shown from system stations tracks wires)
    (quiet : IsQuietSystem from to stations tracks wires) where
  abbrev is : IsSystem plan shown from stations tracks wires system
  is = ready.system

  here : AllByRecursion (IsTrack from) tracks
  here = tracks_here from (length stations) tracks ready.tracks

  long : length is.link_histories ≡ length (link_arcs plan.links)
  long = histories-length (link_arcs plan.links) tracks is.link_histories is.carry

  wires_long : length is.wire_histories ≡ length (wire_arcs [] plan.wires)
  wires_long = tells-length shown system.nodes (length (link_arcs plan.links)) (wire_arcs [] plan.wires) wires is.wire_histories is.tell

  all_long : length system.histories ≡ length (arcs plan)
  all_long =
      ap (λ (hs : List (List Entry)). length hs) is.histories
      ∙ omega (arith, both-length is.link_histories is.wire_histories, both-length (link_arcs plan.links) (wire_arcs [] plan.wires), long, wires_long)

  nothing : (slot : Slot) → from ≤ slot → slot < to → (n : Position) → arrivals_at plan system.histories slot n ≡ no_arrivals
  nothing slot on before n =
      nothing_anywhere from to (omega (arith, some)) plan tracks is.link_histories is.wire_histories system.histories is.histories long is.carry here quiet.arcs slot on (omega (arith, before)) n

  pub still : AllQuietUntil shown plan from system.histories to 0 plan.nodes system.nodes system.events
  still = all_quiet shown plan from to system.histories first 0 plan.nodes stations system.nodes system.events is.serve quiet.nodes ready.shapes

  on : from ≤ to
  on = omega (arith, some)

  -- what the system has become
  abbrev pub now : List NodeRec
  now = all_rested shown plan from system.histories to 0 plan.nodes system.nodes

  pub since_is : since plan (record { slot = from; system = system; shown = shown }) (to - from) ≡ record system { nodes = now }
  since_is = all_after shown plan from system counts tells keeps ready.shapes to all_long nothing still on

  pub came_last : AllCame shown plan system.histories (to - 1) 0 stations
  came_last =
      all-came shown plan system.nodes (to - 1) (levels_of stations) wires is.link_histories is.wire_histories system.histories is.histories long is.tell
      (show_last from to some wires quiet.wires (wires_in from (levels_of stations) wires ready.wires)) ready.wires.come stations refl

  -- the nodes that went over the slots
  module _ (after : List Station) (skips : AllZip (StationSkips from to) stations after) where
    tracks_later : AllByRecursion (IsReadyTrack to (length after)) tracks
    tracks_later =
        let same = zip-length (StationSkips from to) stations after skips in
        all-both (IsReadyTrack from (length stations)) (ArrivesAfter to) (IsReadyTrack to (length after))
        (λ t is late. record { from = omega (arith, same, is.from); to = omega (arith, same, is.to); here = track_later from to (omega (arith, some)) t is.here late }) tracks ready.tracks quiet.arcs

    heeded_later : AllByRecursion (IsHeeded after) tracks
    heeded_later =
        all-both (IsTrack from) (ArrivesAfter to) (IsHeeded after) (λ t is late _. none_arrived from to (omega (arith, some)) t is late) tracks here quiet.arcs

    pub ready_later : AreReady plan shown to (since plan (record { slot = from; system = system; shown = shown }) (to - from)) after tracks wires
    ready_later =
        subst (λ (whole : SystemRec). AreReady plan shown to whole after tracks wires) (sym since_is)
        (record {
          system = record {
            serve = all_serve shown plan from to system.histories 0 plan.nodes stations system.nodes system.events after is.serve came_last skips;
            link_histories = is.link_histories;
            wire_histories = is.wire_histories;
            histories = is.histories;
            carry = is.carry;
            tell =
                tell_later shown system.nodes now (drive_after shown plan from system counts tells keeps ready.shapes to all_long nothing still on)
                (length (link_arcs plan.links)) (wire_arcs [] plan.wires) wires is.wire_histories is.tell;
          };
          shapes = shapes_after shown plan from system counts tells keeps ready.shapes to all_long nothing still on;
          stations = stations_later from to (length tracks) stations after skips ready.stations;
          tracks = tracks_later;
          heeded = heeded_later;
          wires =
              subst (λ (levels : List (List Word)). AreReadyWires to levels wires) (sym (levels_skipped from to stations after skips))
              (wires_later from to some wires quiet.wires (levels_of stations) ready.wires);
        })
