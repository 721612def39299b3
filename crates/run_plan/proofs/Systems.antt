-- The nodes, directed links and wires at work, from slot to slot, are those of the system that its step moves.
use Rattle.std.proofs.Common.{◌≡◌, ℕ, zero, suc, ◌+◌, ◌<◌, false, Option, Some, None, List, [], ◌∷◌, ◌++◌, length, map, get_or, refl, sym, ap, ◌∙◌, subst, arith}
use Rattle.std.specs.List.{AllByRecursion, AllZip}
use Rattle.std.proofs.Math.ListN.{get_or-map}
use Rattle.std.proofs.lemmas.List.{length-map}
use Rattle.xs_base.specs.Batch.{BatchRec}
use Rattle.xs_base.specs.Numbers.{Word}
use Rattle.xs_base.specs.declared.entry.Entry.{Entry}
use Rattle.xs_model.specs.declared.event.Event.{Event}
use Rattle.xs_model.specs.declared.outside.Arrivals.{Arrivals}
use Rattle.xs_model.specs.declared.outside.PinView.{PinView}
use Rattle.xs_model.specs.Record.{CoreRec, NodeRec, first_node, port_of}
use Rattle.xs_model.specs.Outside.{emitted_events}
use Rattle.pin_wires.specs.Wires.{driven_or_low}
use Rattle.sys_plan.specs.declared.NodePlan.{NodePlan}
use Rattle.sys_plan.specs.Plan.{PlanRec, Arc, AreDistinct, arcs, link_arcs, wire_arcs, incoming, gaps_of}
use Rattle.step_model.specs.Fixed.{Fixed}
use Rattle.step_model.specs.Start.{fixed_of}
use Rattle.step_model.specs.Step.{Stepped}
use Rattle.step_laws.specs.Shape.{HasShape, SlotKeepsShape}
use Rattle.trace_lines.specs.Kept.{Keeps}
use Rattle.core_step.specs.Core.{StandsAt}
use Rattle.core_step.specs.Told.{IsTold}
use Rattle.core_step.specs.declared.told.Told.{Told}
use Rattle.serial_model.specs.Serial.{arriving, arriving_by, token_among, credit_among, arrivals_at, coming_on, step_by, steps_from_on, steps_on, longer_histories, longer_events, SystemRec, step_on}
use Rattle.serial_model.specs.Serial.{carried, carried_by, level_entries, driven_level, node_by, emitted_by, shown_of}
use Rattle.crossings.specs.declared.crossing.Crossing.{Crossing}
use Rattle.crossings.proofs.Arriving.{all-map}
use Rattle.run_plan.specs.declared.track.Track.{Track}
use Rattle.run_plan.specs.declared.wire.Wire.{Wire}
use Rattle.run_plan.specs.declared.station.Station.{Station}
use Rattle.crossings.specs.Crossings.{crossing_of, no_crossing}
use Rattle.run_plan.specs.Inbound.{InboundRec, IsBelow, incoming_of, arrived_of, arrived_by, arrivals_by}
use Rattle.node_seats.specs.declared.pins.Pins.{Pins}
use Rattle.node_seats.specs.declared.seat.Seat.{Seat}
use Rattle.node_seats.specs.Seats.{IsSeat, HasNoted, Plays}
use Rattle.node_seats.proofs.Seats.{own_step, given-is, plays-next, plays-same, noted-same, ready-same as seat-ready-same}
use Rattle.node_seats.proofs.Shown.{pins-next}
use Rattle.node_seats.proofs.Wired.{shows-on}
use Rattle.node_seats.specs.Shown.{IsShown, ArePins, AreWired, HaveComeOn, shown_by}
use Rattle.run_plan.specs.Stations.{IsStation, StationSteps, taken_by}
use Rattle.run_plan.specs.Wires.{IsReadyWire, AreReadyWires, HasCome, target, targets}
use Rattle.run_plan.specs.Passes.{IsReadyTrack, IsHeeded, Advances, SameNode, SameStation, SameTrack, SameWire, SameButDue, SameButCome, WireAdvances, cores_of, driven_by, levels_of}
use Rattle.run_plan.specs.Run.{Serves, AllServe, Carries, AllCarry, Tells, AllTell, IsSystem, AreReady}
use Rattle.run_plan.specs.Told.{IsStationTold, IsToldAt, AreToldFrom, AreTold}
use Rattle.run_plan.proofs.Through.{all-at, all-zip, zip-first, zip-second, zip-length}
use Rattle.run_plan.proofs.Due.{IsQuiet, AllQuiet, taken-is, all-quiet, heeded-same}
use Rattle.run_plan.proofs.Ends.{arriving_of, by-link, map-ends}
use Rattle.run_plan.proofs.Come.{ShowsIn, AllCame, all-came}

pub histories-length : (ds : List Arc) (tracks : List Track) (histories : List (List Entry)) → AllCarry ds tracks histories → length histories ≡ length ds
histories-length [] [] [] carry = refl
histories-length (d ∷ ds) (t ∷ ts) (h ∷ hs) carry = omega (arith, histories-length ds ts hs carry.1)
histories-length _ _ _ carry = absurd carry

-- what a port drives, of the cores of these nodes
pub driven-is : (recs : List NodeRec) (cores : List CoreRec) (n port : ℕ) → cores ≡ map (λ (r : NodeRec). r.core) recs → driven_by cores n port ≡ driven_level (node_by recs n) port
driven-is recs cores n port are =
    ap (λ (cs : List CoreRec). driven_by cs n port) are
    ∙ ap (λ (core : CoreRec). driven_or_low (port_of core port).driven) (get_or-map (λ (r : NodeRec). r.core) recs n (first_node 0 0 []))

module _ (shown : List Word) (plan : PlanRec) (slot nodes_count : ℕ) where
  -- what arrives by the directed link with a number
  arrived-at : (ds : List Arc) (tracks : List Track) (histories : List (List Entry)) (k : ℕ) → AllCarry ds tracks histories → AllByRecursion (IsReadyTrack slot nodes_count) tracks
      → get_or (arrived_of tracks) k no_crossing ≡ crossing_of (arriving slot (get_or (map (λ (d : Arc). d.delay) ds) k 0) (get_or histories k []))
  arrived-at [] [] [] k carry all = refl
  arrived-at (d ∷ ds) (t ∷ ts) (h ∷ hs) zero carry all =
      all.0.here.arrived ∙ (λ i. crossing_of (arriving slot (carry.0.delay i) (carry.0.entries i)))
  arrived-at (d ∷ ds) (t ∷ ts) (h ∷ hs) (suc k) carry all = arrived-at ds ts hs k carry.1 all.1
  arrived-at _ _ _ k carry all = absurd carry

  module _ (tracks : List Track) (link_histories wire_histories histories : List (List Entry)) (split : histories ≡ link_histories ++ wire_histories)
      (carry : AllCarry (link_arcs plan.links) tracks link_histories) (all : AllByRecursion (IsReadyTrack slot nodes_count) tracks) where
    arrived-by : (link : Option ℕ) → arrived_by tracks link ≡ crossing_of (arriving_of (link_arcs plan.links) link_histories slot link)
    arrived-by None = refl
    arrived-by (Some k) = arrived-at (link_arcs plan.links) tracks link_histories k carry all

    arrived-end : (n end : ℕ) → end < 8 → arrived_by tracks (incoming plan n end) ≡ crossing_of (arriving_by plan histories slot (incoming plan n end))
    arrived-end n end below =
        arrived-by (incoming plan n end)
        ∙ ap crossing_of (sym (by-link plan n end below link_histories wire_histories histories split (histories-length (link_arcs plan.links) tracks link_histories carry) slot))

    arrivals-same : (n : ℕ) → arrivals_by tracks (incoming_of plan n) ≡ arrivals_at plan histories slot n
    arrivals-same n =
        let tokens = map-ends (λ end. (arrived_by tracks (incoming plan n end)).token) (λ end. token_among (arriving_by plan histories slot (incoming plan n end)))
        (λ end below. ap (λ (c : Crossing). c.token) (arrived-end n end below)) in
        let credits = map-ends (λ end. (arrived_by tracks (incoming plan n end)).credit) (λ end. credit_among (arriving_by plan histories slot (incoming plan n end)))
        (λ end below. ap (λ (c : Crossing). c.credit) (arrived-end n end below)) in
        λ i. record { tokens = tokens i; credits = credits i }

    -- the step of a node that plays its part is the serial machine's
    abbrev serial_step : ℕ → NodePlan → NodeRec → Stepped
    serial_step n node rec = step_by plan n node slot (coming_on shown plan histories slot n) rec

    step-same : (n : ℕ) (node : NodePlan) (station : Station) (rec : NodeRec) (events : List Event) → (is : Serves plan slot n node station rec events) → (station.due ≡ false → IsQuiet plan tracks n) → HaveComeOn shown plan histories n slot station.pins.levels
        → own_step plan slot n node station.seat rec events is.plays (taken_by tracks station) (shown_by station.pins slot) ≡ serial_step n node rec
    step-same n node station rec events is quiet came =
        let arrivals = taken-is plan tracks n station is.incoming quiet ∙ arrivals-same n in
        let pins = shows-on shown plan histories n slot slot station.pins is.pins came in
        λ i. step_by plan n node slot (record { arrivals = arrivals i; pins = pins i }) rec

    -- and what is told of it is that of the serial machine's node
    told-same : (n : ℕ) (node : NodePlan) (station : Station) (rec : NodeRec) (events : List Event) (told : Told) → (is : Serves plan slot n node station rec events) → (station.due ≡ false → IsQuiet plan tracks n) → HaveComeOn shown plan histories n slot station.pins.levels
        → IsStationTold slot tracks station told → IsToldAt shown plan histories slot n node rec told
    told-same n node station rec events told is quiet came its =
        let arrivals = taken-is plan tracks n station is.incoming quiet ∙ arrivals-same n in
        let pins = shows-on shown plan histories n slot slot station.pins is.pins came in
        let coming = coming_on shown plan histories slot n in
        subst (λ (v : PinView). IsTold (fixed_of node (gaps_of plan n)) rec slot coming.arrivals v told) pins
        (subst (λ (a : Arrivals). IsTold (fixed_of node (gaps_of plan n)) rec slot a (shown_by station.pins slot) told) arrivals
        (subst (λ (f : Fixed). IsTold f rec slot (taken_by tracks station) (shown_by station.pins slot) told) is.plays.fixed (its rec is.plays.stands)))

    serves-next : (n : ℕ) (node : NodePlan) (before after : Station) (rec : NodeRec) (events : List Event) → Serves plan slot n node before rec events → (before.due ≡ false → IsQuiet plan tracks n)
        → HaveComeOn shown plan histories n slot before.pins.levels → StationSteps slot tracks before after
        → Serves plan (slot + 1) n node after (serial_step n node rec).rec (events ++ (serial_step n node rec).emitted.events)
    serves-next n node before after rec events is quiet came s = record {
      plays =
          subst (λ (st : Stepped). Plays plan (slot + 1) n node after.seat st.rec (events ++ st.emitted.events)) (step-same n node before rec events is quiet came)
          (plays-next plan slot n node before.seat rec events is.plays (taken_by tracks before) (shown_by before.pins slot) after.seat s.steps);
      pins = pins-next plan n slot before.pins after.pins is.pins s.script s.number s.wired s.shown;
      incoming = s.incoming ∙ is.incoming;
    }

    gave : (n : ℕ) (node : NodePlan) (before after : Station) (rec : NodeRec) (events : List Event) → Serves plan slot n node before rec events → (before.due ≡ false → IsQuiet plan tracks n)
        → HaveComeOn shown plan histories n slot before.pins.levels → StationSteps slot tracks before after
        → after.seat.given ≡ (serial_step n node rec).emitted
    gave n node before after rec events is quiet came s =
        given-is plan slot n node before.seat rec events is.plays (taken_by tracks before) (shown_by before.pins slot) after.seat s.steps
        ∙ ap (λ (st : Stepped). st.emitted) (step-same n node before rec events is quiet came)

    all-play : (n : ℕ) (nodes : List NodePlan) (stations : List Station) (recs : List NodeRec) (events : List (List Event)) (after : List Station) → AllServe plan slot n nodes stations recs events → AllQuiet plan tracks n stations → AllCame shown plan histories slot n stations → AllZip (StationSteps slot tracks) stations after
        → AllServe plan (slot + 1) n nodes after (map (λ (s : Stepped). s.rec) (steps_from_on shown plan histories slot n nodes recs)) (longer_events (steps_from_on shown plan histories slot n nodes recs) events)
    all-play n [] [] [] [] [] play quiet came zip = tt
    all-play n [] [] [] [] (a ∷ afters) play quiet came zip = absurd zip
    all-play n (node ∷ nodes) (station ∷ stations) (rec ∷ recs) (es ∷ all_events) [] play quiet came zip = absurd zip
    all-play n (node ∷ nodes) (station ∷ stations) (rec ∷ recs) (es ∷ all_events) (a ∷ afters) play quiet came zip = (
      serves-next n node station a rec es play.0 quiet.0 came.0 zip.0,
      all-play (n + 1) nodes stations recs all_events afters play.1 quiet.1 came.1 zip.1,
    )
    all-play n _ _ _ _ _ play quiet came zip = absurd play

    all-given : (n : ℕ) (nodes : List NodePlan) (stations : List Station) (recs : List NodeRec) (events : List (List Event)) (after : List Station) → AllServe plan slot n nodes stations recs events → AllQuiet plan tracks n stations → AllCame shown plan histories slot n stations → AllZip (StationSteps slot tracks) stations after
        → map (λ (s : Station). s.seat.given) after ≡ map (λ (s : Stepped). s.emitted) (steps_from_on shown plan histories slot n nodes recs)
    all-given n [] [] [] [] [] play quiet came zip = refl
    all-given n [] [] [] [] (a ∷ afters) play quiet came zip = absurd zip
    all-given n (node ∷ nodes) (station ∷ stations) (rec ∷ recs) (es ∷ all_events) [] play quiet came zip = absurd zip
    all-given n (node ∷ nodes) (station ∷ stations) (rec ∷ recs) (es ∷ all_events) (a ∷ afters) play quiet came zip =
        let here = gave n node station a rec es play.0 quiet.0 came.0 zip.0 in
        let rest = all-given (n + 1) nodes stations recs all_events afters play.1 quiet.1 came.1 zip.1 in
        λ i. here i ∷ rest i
    all-given n _ _ _ _ _ play quiet came zip = absurd play

    all-told : (n : ℕ) (nodes : List NodePlan) (stations : List Station) (recs : List NodeRec) (events : List (List Event)) (told : List Told) → AllServe plan slot n nodes stations recs events → AllQuiet plan tracks n stations → AllCame shown plan histories slot n stations → AllZip (IsStationTold slot tracks) stations told
        → AreToldFrom shown plan histories slot n nodes recs told
    all-told n [] [] [] [] [] play quiet came zip = tt
    all-told n [] [] [] [] (a ∷ all) play quiet came zip = absurd zip
    all-told n (node ∷ nodes) (station ∷ stations) (rec ∷ recs) (es ∷ all_events) [] play quiet came zip = absurd zip
    all-told n (node ∷ nodes) (station ∷ stations) (rec ∷ recs) (es ∷ all_events) (a ∷ all) play quiet came zip =
        (told-same n node station rec es a play.0 quiet.0 came.0 zip.0, all-told (n + 1) nodes stations recs all_events all play.1 quiet.1 came.1 zip.1)
    all-told n _ _ _ _ _ play quiet came zip = absurd play

  all-carry : (nodes : List NodeRec) (steps : List Stepped) (stations stations_after : List Station) → map (λ (s : Station). s.seat.given) stations ≡ map (λ (s : Stepped). s.emitted) steps
      → (ds : List Arc) (tracks : List Track) (histories : List (List Entry)) (after : List Track) → AllCarry ds tracks histories → AllZip (Advances slot stations stations_after) tracks after
      → AllCarry ds after (longer_histories slot nodes steps ds histories)
  all-carry nodes steps stations stations_after given [] [] [] [] carry zip = tt
  all-carry nodes steps stations stations_after given [] [] [] (a ∷ afters) carry zip = absurd zip
  all-carry nodes steps stations stations_after given (d ∷ ds) (t ∷ ts) (h ∷ hs) [] carry zip = absurd zip
  all-carry nodes steps stations stations_after given (d ∷ ds) (t ∷ ts) (h ∷ hs) (a ∷ afters) carry zip =
      let c = carry.0 in
      let z = zip.0.on in
      let before = node_by nodes d.from in
      let rec = node_by (map (λ (s : Stepped). s.rec) steps) d.from in (
        record {
          from = z.from ∙ c.from;
          from_end = z.from_end ∙ c.from_end;
          to = z.to ∙ c.to;
          delay = z.delay ∙ c.delay;
          joins = c.joins;
          entries = z.entries ∙ (λ i. c.entries i ++ carried_by slot before rec (get_or (given i) (c.from i) (emitted_events [])) (c.from_end i) (sym c.joins i));
        },
        all-carry nodes steps stations stations_after given ds ts hs afters carry.1 zip.1,
      )
  all-carry nodes steps stations stations_after given _ _ _ _ carry zip = absurd carry

  -- what the wires are told
  all-tell : (nodes : List NodeRec) (steps : List Stepped) (cores : List CoreRec) (levels : List (List Word)) → cores ≡ map (λ (r : NodeRec). r.core) (map (λ (s : Stepped). s.rec) steps)
      → (k : ℕ) (ds : List Arc) (wires : List Wire) (histories : List (List Entry)) (after : List Wire) → AllTell shown nodes k ds wires histories → AllZip (WireAdvances slot cores levels) wires after
      → AllTell shown (map (λ (s : Stepped). s.rec) steps) k ds after (longer_histories slot nodes steps ds histories)
  all-tell nodes steps cores levels are k [] [] [] [] tell zip = tt
  all-tell nodes steps cores levels are k [] [] [] (a ∷ afters) tell zip = absurd zip
  all-tell nodes steps cores levels are k (d ∷ ds) (w ∷ ws) (h ∷ hs) [] tell zip = absurd zip
  all-tell nodes steps cores levels are k (d ∷ ds) (w ∷ ws) (h ∷ hs) (a ∷ afters) tell zip =
      let t = tell.0 in
      let z = zip.0.on in
      let recs = map (λ (s : Stepped). s.rec) steps in
      let drives : driven_by cores w.from w.from_port ≡ driven_level (node_by recs w.from) w.from_port = driven-is recs cores w.from w.from_port are in
      let emitted = emitted_by steps d.from in (
        record {
          from = z.from ∙ t.from;
          to = z.to ∙ t.to;
          delay = z.delay ∙ t.delay;
          joins = t.joins ∙ (λ i. Some (record { from_port = sym z.from_port i; to_port = sym z.to_port i }));
          entries =
              z.entries
              ∙ (λ i. t.entries i ++ level_entries slot (t.sent i) (drives i))
              ∙ (λ i. h ++ level_entries slot (driven_level (node_by nodes (t.from i)) w.from_port) (driven_level (node_by recs (t.from i)) w.from_port))
              ∙ (λ i. h ++ carried_by slot (node_by nodes d.from) (node_by recs d.from) emitted d.from_end (sym t.joins i));
          sent = z.sent ∙ drives ∙ (λ i. driven_level (node_by recs (sym z.from i)) (sym z.from_port i));
          shown = z.shown ∙ t.shown;
        },
        all-tell nodes steps cores levels are (k + 1) ds ws hs afters tell.1 zip.1,
      )
  all-tell nodes steps cores levels are k _ _ _ _ tell zip = absurd tell

-- histories go on of two lists of arcs together
longer-both : (slot : ℕ) (nodes : List NodeRec) (steps : List Stepped) (ds es : List Arc) (histories rest : List (List Entry)) → length histories ≡ length ds
    → longer_histories slot nodes steps (ds ++ es) (histories ++ rest) ≡ longer_histories slot nodes steps ds histories ++ longer_histories slot nodes steps es rest
longer-both slot nodes steps [] es [] rest long = refl
longer-both slot nodes steps [] es (h ∷ hs) rest long = absurd (omega (arith, long))
longer-both slot nodes steps (d ∷ ds) es [] rest long = absurd (omega (arith, long))
longer-both slot nodes steps (d ∷ ds) es (h ∷ hs) rest long = ap (λ all. (h ++ carried slot nodes steps d) ∷ all) (longer-both slot nodes steps ds es hs rest (omega (arith, long)))

-- ---- What stays, where room is made and where a node becomes due

play-same : (plan : PlanRec) (slot n : ℕ) (nodes : List NodePlan) (stations : List Station) (recs : List NodeRec) (events : List (List Event)) (after : List Station) → AllServe plan slot n nodes stations recs events → AllZip SameNode stations after → AllServe plan slot n nodes after recs events
play-same plan slot n [] [] [] [] [] play zip = tt
play-same plan slot n [] [] [] [] (a ∷ afters) play zip = absurd zip
play-same plan slot n (node ∷ nodes) (station ∷ stations) (rec ∷ recs) (es ∷ all_events) [] play zip = absurd zip
play-same plan slot n (node ∷ nodes) (station ∷ stations) (rec ∷ recs) (es ∷ all_events) (a ∷ afters) play zip = (
  record { plays = plays-same plan slot n node station.seat a.seat rec es play.0.plays zip.0.seat; pins = subst (ArePins plan n slot) (sym zip.0.pins) play.0.pins; incoming = ap (λ (i : InboundRec). i.links) zip.0.incoming ∙ play.0.incoming },
  play-same plan slot (n + 1) nodes stations recs all_events afters play.1 zip.1,
)
play-same plan slot n _ _ _ _ _ play zip = absurd play

stations-stay : (slot count : ℕ) (stations after : List Station) → AllZip SameNode stations after → AllByRecursion (IsStation slot count) stations → AllByRecursion (IsStation slot count) after
stations-stay slot count stations after =
    all-zip SameNode (IsStation slot count) (IsStation slot count)
    (λ x y s h. record {
      here = seat-ready-same slot x.seat y.seat h.here s.seat;
      shown = subst (IsShown slot) (sym s.pins) h.shown;
      noted = subst (λ (p : Pins). HasNoted slot p y.seat) (sym s.pins) (noted-same slot x.pins x.seat y.seat h.noted s.seat);
      incoming = subst (λ (i : InboundRec). AllByRecursion (IsBelow count) i.links) (sym s.incoming) h.incoming;
    }) stations after

same-node : (before after : Station) → SameButDue before after → SameNode before after
same-node before after s = record { seat = λ i. record (s.seat i) { events = record (s.seat i).events { spare = before.seat.events.spare } }; pins = s.pins; incoming = s.incoming }

same-nodes : (stations after : List Station) → AllZip SameButDue stations after → AllZip SameNode stations after
same-nodes stations after = zip-first SameButDue SameNode same-node stations after

-- where pins are told what comes by wires
pub play-told : (plan : PlanRec) (slot n : ℕ) (nodes : List NodePlan) (stations : List Station) (recs : List NodeRec) (events : List (List Event)) (after : List Station) → AllServe plan slot n nodes stations recs events
    → AllZip (SameButCome slot) stations after → AllServe plan slot n nodes after recs events
play-told plan slot n [] [] [] [] [] play zip = tt
play-told plan slot n [] [] [] [] (a ∷ afters) play zip = absurd zip
play-told plan slot n (node ∷ nodes) (station ∷ stations) (rec ∷ recs) (es ∷ all_events) [] play zip = absurd zip
play-told plan slot n (node ∷ nodes) (station ∷ stations) (rec ∷ recs) (es ∷ all_events) (a ∷ afters) play zip =
    let p = play.0 in
    let s = zip.0 in (
      record {
        plays = subst (λ (seat : Seat). Plays plan slot n node seat rec es) (sym s.seat) p.plays;
        pins = record { script = s.script ∙ p.pins.script; number = s.number ∙ p.pins.number; wired = subst (AreWired plan n) (sym s.wired) p.pins.wired; shown = s.shown p.pins.shown };
        incoming = ap (λ (i : InboundRec). i.links) s.incoming ∙ p.incoming;
      },
      play-told plan slot (n + 1) nodes stations recs all_events afters play.1 zip.1,
    )
play-told plan slot n _ _ _ _ _ play zip = absurd play

pub stations-told : (slot count : ℕ) (stations after : List Station) → AllZip (SameButCome slot) stations after → AllByRecursion (IsStation slot count) stations → AllByRecursion (IsStation slot count) after
stations-told slot count stations after = all-zip (SameButCome slot) (IsStation slot count) (IsStation slot count) (λ x y s h. record {
  here = subst (IsSeat slot) (sym s.seat) h.here;
  shown = s.shown h.shown;
  noted = s.noted h.noted;
  incoming = subst (λ (i : InboundRec). AllByRecursion (IsBelow count) i.links) (sym s.incoming) h.incoming;
}) stations after

pub dues-told : (slot : ℕ) (stations after : List Station) → AllZip (SameButCome slot) stations after → map (λ (s : Station). s.due) after ≡ map (λ (s : Station). s.due) stations
dues-told slot [] [] zip = refl
dues-told slot [] (a ∷ afters) zip = absurd zip
dues-told slot (s ∷ stations) [] zip = absurd zip
dues-told slot (s ∷ stations) (a ∷ afters) zip = λ i. zip.0.due i ∷ dues-told slot stations afters zip.1 i

-- the cores of the nodes are those of the system
pub cores-serve : (plan : PlanRec) (slot n : ℕ) (nodes : List NodePlan) (stations : List Station) (recs : List NodeRec) (events : List (List Event)) → AllServe plan slot n nodes stations recs events
    → cores_of stations ≡ map (λ (r : NodeRec). r.core) recs
cores-serve plan slot n [] [] [] [] play = refl
cores-serve plan slot n (node ∷ nodes) (station ∷ stations) (rec ∷ recs) (es ∷ events) play =
    let here = play.0.plays.stands.stands.core in
    let rest = cores-serve plan slot (n + 1) nodes stations recs events play.1 in
    λ i. here i ∷ rest i
cores-serve plan slot n _ _ _ _ play = absurd play

-- ---- The levels that came to pins stay

levels-same : (R : Station → Station → Type 0) → ((x y : Station) → R x y → y.pins.levels ≡ x.pins.levels) → (stations after : List Station) → AllZip R stations after → levels_of after ≡ levels_of stations
levels-same R f [] [] zip = refl
levels-same R f [] (a ∷ afters) zip = absurd zip
levels-same R f (s ∷ stations) [] zip = absurd zip
levels-same R f (s ∷ stations) (a ∷ afters) zip =
    let here = f s a zip.0 in
    let rest = levels-same R f stations afters zip.1 in
    λ i. here i ∷ rest i

pub levels-roomy : (stations after : List Station) → AllZip SameStation stations after → levels_of after ≡ levels_of stations
levels-roomy = levels-same SameStation (λ x y s. ap (λ (p : Pins). p.levels) s.node.pins)

pub levels-stepped : (slot : ℕ) (tracks : List Track) (stations after : List Station) → AllZip (StationSteps slot tracks) stations after → levels_of after ≡ levels_of stations
levels-stepped slot tracks = levels-same (StationSteps slot tracks) (λ x y s. s.levels)

pub levels-due : (stations after : List Station) → AllZip SameButDue stations after → levels_of after ≡ levels_of stations
levels-due = levels-same SameButDue (λ x y s. ap (λ (p : Pins). p.levels) s.pins)

-- ---- The next slot

-- the nodes and arcs after a slot are the system's after it
pub system-next : (plan : PlanRec) (shown : List Word) (slot count : ℕ) (system : SystemRec) (stations stepped marked after : List Station) (tracks tracks_after : List Track) (wires wires_after : List Wire)
    → IsSystem plan shown slot stations tracks wires system → AllByRecursion (IsReadyTrack slot count) tracks → AllByRecursion (IsHeeded stations) tracks → AreReadyWires slot (levels_of stations) wires
    → AllZip (StationSteps slot tracks) stations stepped → AllZip SameButDue stepped marked → AllZip (SameButCome (slot + 1)) marked after → AllZip (Advances slot stepped marked) tracks tracks_after
    → AllZip (WireAdvances slot (cores_of marked) (levels_of after)) wires wires_after → IsSystem plan shown (slot + 1) after tracks_after wires_after (step_on shown plan slot system)
system-next plan shown slot count system stations stepped marked after tracks tracks_after wires wires_after is ready heeded wired steps same told advances goes =
    let long = histories-length (link_arcs plan.links) tracks is.link_histories is.carry in
    let quiet = all-quiet plan tracks stations is.link_histories is.carry heeded in
    let came =
    all-came shown plan system.nodes slot (levels_of stations) wires is.link_histories is.wire_histories system.histories is.histories long is.tell
    (all-map (IsReadyWire slot (length (levels_of stations))) (ShowsIn slot) (λ w r. r.here.level) wires wired.each) wired.come stations refl in
    let given =
    all-given shown plan slot count tracks is.link_histories is.wire_histories system.histories is.histories is.carry ready 0 plan.nodes stations system.nodes system.events stepped is.serve quiet came steps in
    let next = step_on shown plan slot system in
    let play =
    play-same plan (slot + 1) 0 plan.nodes stepped next.nodes next.events marked
    (all-play shown plan slot count tracks is.link_histories is.wire_histories system.histories is.histories is.carry ready 0 plan.nodes stations system.nodes system.events stepped is.serve quiet came steps)
    (same-nodes stepped marked same) in
    let moved = steps_on shown plan slot system in
    record {
      serve = play-told plan (slot + 1) 0 plan.nodes marked next.nodes next.events after play told;
      link_histories = longer_histories slot system.nodes moved (link_arcs plan.links) is.link_histories;
      wire_histories = longer_histories slot system.nodes moved (wire_arcs [] plan.wires) is.wire_histories;
      histories =
          ap (longer_histories slot system.nodes moved (arcs plan)) is.histories
          ∙ longer-both slot system.nodes moved (link_arcs plan.links) (wire_arcs [] plan.wires) is.link_histories is.wire_histories long;
      carry = all-carry shown plan slot count system.nodes moved stepped marked given (link_arcs plan.links) tracks is.link_histories tracks_after is.carry advances;
      tell =
          all-tell shown plan slot count system.nodes moved (cores_of marked) (levels_of after) (cores-serve plan (slot + 1) 0 plan.nodes marked next.nodes next.events play)
          (length (link_arcs plan.links)) (wire_arcs [] plan.wires) wires is.wire_histories wires_after is.tell goes;
    }

-- what is told of the nodes at work is that of the system's
pub system-told : (plan : PlanRec) (shown : List Word) (slot : ℕ) (whole : SystemRec) (stations : List Station) (tracks : List Track) (wires : List Wire) (told : List Told)
    → AreReady plan shown slot whole stations tracks wires → AllZip (IsStationTold slot tracks) stations told → AreTold shown plan slot whole told
system-told plan shown slot whole stations tracks wires told ready zip =
    let is = ready.system in
    let came =
    all-came shown plan whole.nodes slot (levels_of stations) wires is.link_histories is.wire_histories whole.histories is.histories (histories-length (link_arcs plan.links) tracks is.link_histories is.carry) is.tell
    (all-map (IsReadyWire slot (length (levels_of stations))) (ShowsIn slot) (λ w r. r.here.level) wires ready.wires.each) ready.wires.come stations refl in
    all-told shown plan slot (length stations) tracks is.link_histories is.wire_histories whole.histories is.histories is.carry ready.tracks 0 plan.nodes stations whole.nodes whole.events told is.serve
    (all-quiet plan tracks stations is.link_histories is.carry ready.heeded) came zip

-- each node and each arc is ready for the next slot
stations-next : (slot count : ℕ) (tracks : List Track) (stations after : List Station) → AllZip (StationSteps slot tracks) stations after → AllByRecursion (IsStation slot count) stations → AllByRecursion (IsStation (slot + 1) count) after
stations-next slot count tracks stations after = all-zip (StationSteps slot tracks) (IsStation slot count) (IsStation (slot + 1) count) (λ x y s h. record {
  here = s.steps.next;
  shown = s.shown;
  noted = s.noted;
  incoming = subst (AllByRecursion (IsBelow count)) (sym s.incoming) h.incoming;
}) stations after

tracks-next : (slot count : ℕ) (stations stations_after : List Station) (tracks after : List Track) → AllZip (Advances slot stations stations_after) tracks after → AllByRecursion (IsReadyTrack slot count) tracks → AllByRecursion (IsReadyTrack (slot + 1) count) after
tracks-next slot count stations stations_after tracks after = all-zip (Advances slot stations stations_after) (IsReadyTrack slot count) (IsReadyTrack (slot + 1) count) (λ x y a h. record {
  from = omega (arith, a.on.from, h.from);
  to = omega (arith, a.on.to, h.to);
  here = a.on.next;
}) tracks after

-- so is each wire
targets-next : (slot : ℕ) (cores : List CoreRec) (levels : List (List Word)) (wires after : List Wire) → AllZip (WireAdvances slot cores levels) wires after → targets after ≡ targets wires
targets-next slot cores levels [] [] zip = refl
targets-next slot cores levels [] (a ∷ afters) zip = absurd zip
targets-next slot cores levels (w ∷ wires) [] zip = absurd zip
targets-next slot cores levels (w ∷ wires) (a ∷ afters) zip =
    let on = zip.0.on in
    let rest = targets-next slot cores levels wires afters zip.1 in
    λ i. (on.to i, on.to_port i) ∷ rest i

wires-next : (slot : ℕ) (cores : List CoreRec) (levels levels_after : List (List Word)) (wires after : List Wire) → length levels_after ≡ length levels → AllZip (WireAdvances slot cores levels_after) wires after
    → AreReadyWires slot levels wires → AreReadyWires (slot + 1) levels_after after
wires-next slot cores levels levels_after wires after same zip ready = record {
  each = all-zip (WireAdvances slot cores levels_after) (IsReadyWire slot (length levels)) (IsReadyWire (slot + 1) (length levels_after)) (λ x y a h. record {
    from = omega (arith, a.on.from, h.from, same);
    to = omega (arith, a.on.to, h.to, same);
    here = a.on.next;
  }) wires after zip ready.each;
  apart = subst AreDistinct (sym (targets-next slot cores levels_after wires after zip)) ready.apart;
  come = zip-second (WireAdvances slot cores levels_after) (HasCome levels_after) (λ x y a. a.come) wires after zip;
}

-- ---- Where room is made

pub same-itself : (station : Station) → SameStation station station
same-itself station = record { node = record { seat = refl; pins = refl; incoming = refl }; due = refl }

pub same-track : (track : Track) (history : BatchRec) → history.entries ≡ track.history.entries → SameTrack track (record track { history = history })
same-track track history e = λ i. record track { history = record { entries = e i; spare = track.history.spare } }

carry-same : (ds : List Arc) (tracks : List Track) (histories : List (List Entry)) (after : List Track) → AllCarry ds tracks histories → AllZip SameTrack tracks after → AllCarry ds after histories
carry-same [] [] [] [] carry zip = tt
carry-same [] [] [] (a ∷ afters) carry zip = absurd zip
carry-same (d ∷ ds) (t ∷ ts) (h ∷ hs) [] carry zip = absurd zip
carry-same (d ∷ ds) (t ∷ ts) (h ∷ hs) (a ∷ afters) carry zip =
    let c = subst (λ (t : Track). Carries d t h) (sym zip.0) carry.0 in
    (record { from = c.from; from_end = c.from_end; to = c.to; delay = c.delay; joins = c.joins; entries = c.entries }, carry-same ds ts hs afters carry.1 zip.1)
carry-same _ _ _ _ carry zip = absurd carry

pub same-wire : (wire : Wire) (history : BatchRec) → history.entries ≡ wire.history.entries → SameWire wire (record wire { history = history })
same-wire wire history e = λ i. record wire { history = record { entries = e i; spare = wire.history.spare } }

tell-same : (shown : List Word) (nodes : List NodeRec) (k : ℕ) (ds : List Arc) (wires : List Wire) (histories : List (List Entry)) (after : List Wire) → AllTell shown nodes k ds wires histories
    → AllZip SameWire wires after → AllTell shown nodes k ds after histories
tell-same shown nodes k [] [] [] [] tell zip = tt
tell-same shown nodes k [] [] [] (a ∷ afters) tell zip = absurd zip
tell-same shown nodes k (d ∷ ds) (w ∷ ws) (h ∷ hs) [] tell zip = absurd zip
tell-same shown nodes k (d ∷ ds) (w ∷ ws) (h ∷ hs) (a ∷ afters) tell zip =
    let t = subst (λ (w : Wire). Tells nodes (shown_of shown k) d w h) (sym zip.0) tell.0 in
    (record { from = t.from; to = t.to; delay = t.delay; joins = t.joins; entries = t.entries; sent = t.sent; shown = t.shown }, tell-same shown nodes (k + 1) ds ws hs afters tell.1 zip.1)
tell-same shown nodes k _ _ _ _ tell zip = absurd tell

targets-same : (wires after : List Wire) → AllZip SameWire wires after → targets after ≡ targets wires
targets-same [] [] zip = refl
targets-same [] (a ∷ afters) zip = absurd zip
targets-same (w ∷ wires) [] zip = absurd zip
targets-same (w ∷ wires) (a ∷ afters) zip =
    let here = ap (λ (w : Wire). target w) zip.0 in
    let rest = targets-same wires afters zip.1 in
    λ i. here i ∷ rest i

pub wires-same : (slot : ℕ) (levels levels_after : List (List Word)) (wires after : List Wire) → levels_after ≡ levels → AllZip SameWire wires after → AreReadyWires slot levels wires → AreReadyWires slot levels_after after
wires-same slot levels levels_after wires after same zip ready =
    subst (λ (ls : List (List Word)). AreReadyWires slot ls after) (sym same)
    (record {
      each = all-zip SameWire (IsReadyWire slot (length levels)) (IsReadyWire slot (length levels)) (λ x y s h.
          let k = subst (IsReadyWire slot (length levels)) (sym s) h in
          let t = k.here in
          record {
            from = k.from;
            to = k.to;
            here = record {
              from_port = t.from_port;
              to_port = t.to_port;
              widths = t.widths;
              delayed = t.delayed;
              in_order = t.in_order;
              levels = t.levels;
              before = t.before;
              few = t.few;
              due = t.due;
              level = t.level;
              narrow = t.narrow;
            };
          }) wires after zip ready.each;
      apart = subst AreDistinct (sym (targets-same wires after zip)) ready.apart;
      come = all-zip SameWire (HasCome levels) (HasCome levels) (λ x y s h. subst (HasCome levels) (sym s) h) wires after zip ready.come;
    })

pub stations-same : (slot count : ℕ) (stations after : List Station) → AllZip SameStation stations after → AllByRecursion (IsStation slot count) stations → AllByRecursion (IsStation slot count) after
stations-same slot count stations after zip = stations-stay slot count stations after (zip-first SameStation SameNode (λ x y s. s.node) stations after zip)

pub tracks-same : (slot count : ℕ) (tracks after : List Track) → AllZip SameTrack tracks after → AllByRecursion (IsReadyTrack slot count) tracks → AllByRecursion (IsReadyTrack slot count) after
tracks-same slot count tracks after =
    all-zip SameTrack (IsReadyTrack slot count) (IsReadyTrack slot count)
    (λ x y s h.
    let k = subst (IsReadyTrack slot count) (sym s) h in
    let t = k.here in
    record { from = k.from; to = k.to; here = record { from_end = t.from_end; delayed = t.delayed; in_order = t.in_order; no_level = t.no_level; before = t.before; few = t.few; due = t.due; arrived = t.arrived } })
    tracks after

-- the node and the arc at a place
pub play-at : (plan : PlanRec) (slot n : ℕ) (nodes : List NodePlan) (stations : List Station) (recs : List NodeRec) (events : List (List Event)) (k : ℕ) (s : Station) (r : NodeRec) → AllServe plan slot n nodes stations recs events → k < length nodes
    → StandsAt (get_or stations k s).seat.core (get_or recs k r) slot × Keeps (get_or stations k s).seat.events (get_or events k [])
play-at plan slot n [] [] [] [] k s r play h = absurd (omega arith)
play-at plan slot n (node ∷ nodes) (station ∷ stations) (rec ∷ recs) (es ∷ events) zero s r play h = (play.0.plays.stands, play.0.plays.keeps)
play-at plan slot n (node ∷ nodes) (station ∷ stations) (rec ∷ recs) (es ∷ events) (suc k) s r play h = play-at plan slot (n + 1) nodes stations recs events k s r play.1 (omega arith)
play-at plan slot n _ _ _ _ k s r play h = absurd play

-- what is kept of the events of each node
pub play-keeps : (plan : PlanRec) (slot n : ℕ) (nodes : List NodePlan) (stations : List Station) (recs : List NodeRec) (events : List (List Event)) → AllServe plan slot n nodes stations recs events → AllZip Keeps (map (λ (s : Station). s.seat.events) stations) events
play-keeps plan slot n [] [] [] [] play = tt
play-keeps plan slot n (node ∷ nodes) (station ∷ stations) (rec ∷ recs) (es ∷ events) play = (play.0.plays.keeps, play-keeps plan slot (n + 1) nodes stations recs events play.1)
play-keeps plan slot n _ _ _ _ play = absurd play

pub play-length : (plan : PlanRec) (slot n : ℕ) (nodes : List NodePlan) (stations : List Station) (recs : List NodeRec) (events : List (List Event)) → AllServe plan slot n nodes stations recs events → length stations ≡ length nodes
play-length plan slot n [] [] [] [] play = refl
play-length plan slot n (node ∷ nodes) (station ∷ stations) (rec ∷ recs) (es ∷ events) play = omega (arith, play-length plan slot (n + 1) nodes stations recs events play.1)
play-length plan slot n _ _ _ _ play = absurd play

pub carry-at : (ds : List Arc) (tracks : List Track) (histories : List (List Entry)) (k : ℕ) (t : Track) → AllCarry ds tracks histories → k < length ds → (get_or tracks k t).history.entries ≡ get_or histories k []
carry-at [] [] [] k t carry h = absurd (omega arith)
carry-at (d ∷ ds) (x ∷ xs) (hist ∷ hists) zero t carry h = carry.0.entries
carry-at (d ∷ ds) (x ∷ xs) (hist ∷ hists) (suc k) t carry h = carry-at ds xs hists k t carry.1 (omega arith)
carry-at _ _ _ k t carry h = absurd carry

pub carry-length : (ds : List Arc) (tracks : List Track) (histories : List (List Entry)) → AllCarry ds tracks histories → length tracks ≡ length ds
carry-length [] [] [] carry = refl
carry-length (d ∷ ds) (x ∷ xs) (h ∷ hs) carry = omega (arith, carry-length ds xs hs carry.1)
carry-length _ _ _ carry = absurd carry

pub tell-at : (shown : List Word) (nodes : List NodeRec) (m : ℕ) (ds : List Arc) (wires : List Wire) (histories : List (List Entry)) (k : ℕ) (w : Wire) → AllTell shown nodes m ds wires histories → k < length ds
    → (get_or wires k w).history.entries ≡ get_or histories k []
tell-at shown nodes m [] [] [] k w tell h = absurd (omega arith)
tell-at shown nodes m (d ∷ ds) (x ∷ xs) (hist ∷ hists) zero w tell h = tell.0.entries
tell-at shown nodes m (d ∷ ds) (x ∷ xs) (hist ∷ hists) (suc k) w tell h = tell-at shown nodes (m + 1) ds xs hists k w tell.1 (omega arith)
tell-at shown nodes m _ _ _ k w tell h = absurd tell

pub tell-length : (shown : List Word) (nodes : List NodeRec) (m : ℕ) (ds : List Arc) (wires : List Wire) (histories : List (List Entry)) → AllTell shown nodes m ds wires histories → length wires ≡ length ds
tell-length shown nodes m [] [] [] tell = refl
tell-length shown nodes m (d ∷ ds) (x ∷ xs) (h ∷ hs) tell = omega (arith, tell-length shown nodes (m + 1) ds xs hs tell.1)
tell-length shown nodes m _ _ _ tell = absurd tell

-- the arc at a place is ready
pub ready-at : (slot count : ℕ) (tracks : List Track) (i : ℕ) (d t : Track) → AllByRecursion (IsReadyTrack slot count) tracks → i < length tracks → get_or tracks i d ≡ t → IsReadyTrack slot count t
ready-at slot count tracks i d t all inside is = subst (IsReadyTrack slot count) is (all-at (IsReadyTrack slot count) tracks i d all inside)

-- the same lists are ready
pub ready-alike : (plan : PlanRec) (shown : List Word) (slot : ℕ) (whole : SystemRec) {stations others : List Station} {tracks ways : List Track} {wires lines : List Wire} → others ≡ stations → ways ≡ tracks → lines ≡ wires
    → AreReady plan shown slot whole stations tracks wires → AreReady plan shown slot whole others ways lines
ready-alike plan shown slot whole {stations} {others} {tracks} {ways} {wires} {lines} s t w ready =
    subst (λ (ss : List Station). AreReady plan shown slot whole ss ways lines) (sym s)
    (subst (λ (ts : List Track). AreReady plan shown slot whole stations ts lines) (sym t)
    (subst (λ (ws : List Wire). AreReady plan shown slot whole stations tracks ws) (sym w) ready))

-- nodes and arcs stay ready where room is made, and are ready for the next slot after one
pub ready-same : (plan : PlanRec) (shown : List Word) (slot : ℕ) (whole : SystemRec) (stations after : List Station) (tracks tracks_after : List Track) (wires wires_after : List Wire)
    → AreReady plan shown slot whole stations tracks wires → AllZip SameStation stations after → AllZip SameTrack tracks tracks_after → AllZip SameWire wires wires_after
    → AreReady plan shown slot whole after tracks_after wires_after
ready-same plan shown slot whole stations after tracks tracks_after wires wires_after ready s t w = record {
  system = record {
    serve = play-same plan slot 0 plan.nodes stations whole.nodes whole.events after ready.system.serve (zip-first SameStation SameNode (λ x y s. s.node) stations after s);
    link_histories = ready.system.link_histories;
    wire_histories = ready.system.wire_histories;
    histories = ready.system.histories;
    carry = carry-same (link_arcs plan.links) tracks ready.system.link_histories tracks_after ready.system.carry t;
    tell = tell-same shown whole.nodes (length (link_arcs plan.links)) (wire_arcs [] plan.wires) wires ready.system.wire_histories wires_after ready.system.tell w;
  };
  shapes = ready.shapes;
  stations = subst (λ (n : ℕ). AllByRecursion (IsStation slot n) after) (sym (zip-length SameTrack tracks tracks_after t)) (stations-same slot (length tracks) stations after s ready.stations);
  tracks = subst (λ (n : ℕ). AllByRecursion (IsReadyTrack slot n) tracks_after) (sym (zip-length SameStation stations after s)) (tracks-same slot (length stations) tracks tracks_after t ready.tracks);
  heeded = heeded-same stations after tracks tracks_after s t ready.heeded;
  wires = wires-same slot (levels_of stations) (levels_of after) wires wires_after (levels-roomy stations after s) w ready.wires;
}

-- each node keeps its shape
shapes-next : SlotKeepsShape → (shown : List Word) (plan : PlanRec) (histories : List (List Entry)) (slot n : ℕ) (nodes : List NodePlan) (recs : List NodeRec) → AllByRecursion HasShape recs
    → AllByRecursion HasShape (map (λ (s : Stepped). s.rec) (steps_from_on shown plan histories slot n nodes recs))
shapes-next keeps shown plan histories slot n [] recs have = tt
shapes-next keeps shown plan histories slot n (node ∷ nodes) [] have = tt
shapes-next keeps shown plan histories slot n (node ∷ nodes) (rec ∷ recs) have = (keeps _ rec slot _ _ have.0, shapes-next keeps shown plan histories slot (n + 1) nodes recs have.1)

pub ready-next : SlotKeepsShape → (plan : PlanRec) (shown : List Word) (slot : ℕ) (whole : SystemRec) (stations stepped marked after : List Station) (tracks tracks_after : List Track) (wires wires_after : List Wire)
    → AreReady plan shown slot whole stations tracks wires → AllZip (StationSteps slot tracks) stations stepped → AllZip SameButDue stepped marked → AllZip (SameButCome (slot + 1)) marked after
    → AllZip (Advances slot stepped marked) tracks tracks_after → AllZip (WireAdvances slot (cores_of marked) (levels_of after)) wires wires_after
    → AreReady plan shown (slot + 1) (step_on shown plan slot whole) after tracks_after wires_after
ready-next keeps plan shown slot whole stations stepped marked after tracks tracks_after wires wires_after ready s b c t w =
    let links = zip-length (Advances slot stepped marked) tracks tracks_after t in
    let nodes = zip-length (SameButCome (slot + 1)) marked after c ∙ zip-length SameButDue stepped marked b ∙ zip-length (StationSteps slot tracks) stations stepped s in
    let steady = stations-stay (slot + 1) (length tracks) stepped marked (same-nodes stepped marked b) (stations-next slot (length tracks) tracks stations stepped s ready.stations) in
    let told = stations-told (slot + 1) (length tracks) marked after c steady in
    let count : length (levels_of after) ≡ length (levels_of stations) = length-map after (λ (s : Station). s.pins.levels) ∙ nodes ∙ sym (length-map stations (λ (s : Station). s.pins.levels)) in
    record {
      system = system-next plan shown slot (length stations) whole stations stepped marked after tracks tracks_after wires wires_after ready.system ready.tracks ready.heeded ready.wires s b c t w;
      shapes = shapes-next keeps shown plan whole.histories slot 0 plan.nodes whole.nodes ready.shapes;
      stations = subst (λ (n : ℕ). AllByRecursion (IsStation (slot + 1) n) after) (sym links) told;
      tracks = subst (λ (n : ℕ). AllByRecursion (IsReadyTrack (slot + 1) n) tracks_after) (sym nodes) (tracks-next slot (length stations) stepped marked tracks tracks_after t ready.tracks);
      heeded =
          zip-second (Advances slot stepped marked) (IsHeeded after)
          (λ x y a not. a.heeded (ap (λ dues. get_or dues y.to false) (sym (dues-told (slot + 1) marked after c)) ∙ not)) tracks tracks_after t;
      wires = wires-next slot (cores_of marked) (levels_of stations) (levels_of after) wires wires_after count w ready.wires;
    }
