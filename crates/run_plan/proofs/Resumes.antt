-- A run as a snapshot begins it.
use Rattle.std.proofs.Common.{◌≡◌, ◌≢◌, ℕ, zero, suc, ◌+◌, ◌<◌, true, false, Some, List, [], ◌∷◌, length, map, take, get_or, refl, sym, ap, ◌∙◌, subst, arith}
use Rattle.std.specs.Prelude.{drop}
use Rattle.std.specs.List.{AllByRecursion, AllZip}
use Rattle.std.proofs.lemmas.List.{length-map}
use Rattle.xs_base.specs.Numbers.{Word}
use Rattle.xs_base.specs.declared.entry.Entry.{Entry}
use Rattle.xs_model.specs.declared.event.Event.{Event}
use Rattle.xs_model.specs.Record.{CoreRec, NodeRec}
use Rattle.sys_plan.specs.declared.NodePlan.{NodePlan}
use Rattle.sys_plan.specs.declared.LinkPlan.{LinkPlan}
use Rattle.sys_plan.specs.declared.WirePlan.{WirePlan}
use Rattle.sys_plan.specs.Plan.{PlanRec, Arc, IsPlan, IsLink, IsWire as IsWirePlan, AreDistinct, link_arcs, wire_arcs, targets_of}
use Rattle.step_laws.specs.Shape.{HasShape, HoldsWhatIsThere}
use Rattle.serial_model.specs.Serial.{driven_level, node_by}
use Rattle.switch_routes.specs.States.{IsInputState, input_of}
use Rattle.switch_routes.specs.declared.state.InputState.{InputState}
use Rattle.switch_routes.specs.declared.state.InputState.TheVariants as kept
use Rattle.core_step.specs.States.{node_rec}
use Rattle.snap_parts.specs.declared.node.SnapNode.{SnapNode}
use Rattle.snap_parts.specs.Parts.{LogRec, BodyRec}
use Rattle.snap_parts.specs.Snaps.{begun_of}
use Rattle.run_plan.specs.declared.track.Track.{Track}
use Rattle.run_plan.specs.declared.wire.Wire.{Wire}
use Rattle.run_plan.specs.declared.station.Station.{Station}
use Rattle.run_plan.specs.Stations.{IsStation}
use Rattle.run_plan.specs.Wires.{IsReadyWire, HasCome, target, targets}
use Rattle.run_plan.specs.Passes.{IsReadyTrack, IsHeeded, IsShownAt, SameButCome, cores_of, levels_of, due_at}
use Rattle.run_plan.specs.Run.{AllServe, AllCarry, AllTell, AreReady}
use Rattle.run_plan.specs.Begins.{AllBegin, StationBegins, LinkBegins, WireBeginsBy}
use Rattle.run_plan.proofs.Through.{zip-length}
use Rattle.run_plan.proofs.Told.{apart-at}
use Rattle.run_plan.proofs.Systems.{driven-is, cores-serve, play-told, stations-told, dues-told}
use Rattle.run_plan.proofs.Begins.{begin-length, split-at, drop-at, map-drop, map-both}

-- ---- Pins that are told what wires show

-- no other wire before it leads to the pin of the one at a place
pub earlier-apart : (wires : List Wire) (i : ℕ) (d : Wire) → AreDistinct (targets wires) → i < length wires → AllByRecursion (λ y. target (get_or wires i d) ≢ y) (targets (take i wires))
earlier-apart [] i d apart h = absurd (omega (arith, h))
earlier-apart (w ∷ wires) zero d apart h = tt
earlier-apart (w ∷ wires) (suc i) d apart h = (λ same. apart-at (target w) wires i d apart.0 (omega (arith, h)) (sym same), earlier-apart wires i d apart.1 (omega (arith, h)))

-- ---- A node

holds-input : (s : InputState) → IsInputState s → HoldsWhatIsThere (input_of s)
holds-input kept.Idle h = tt
holds-input (kept.Head1 first) h = tt
holds-input (kept.Head2 first second) h = tt
holds-input (kept.Want dest net) h = tt
holds-input (kept.Local chan) h = h
holds-input (kept.Out end count dest) h = tt
holds-input kept.Lost h = tt

pub hold-inputs : (states : List InputState) → AllByRecursion IsInputState states → AllByRecursion HoldsWhatIsThere (map input_of states)
hold-inputs [] all = tt
hold-inputs (s ∷ states) all = (holds-input s all.0, hold-inputs states all.1)

-- ---- The system

abbrev rec_of : SnapNode → NodeRec
rec_of snap = node_rec snap.state

abbrev entries_of : LogRec → List Entry
entries_of log = log.entries

abbrev level_of_log : LogRec → Word
level_of_log log = log.level

abbrev no_events : SnapNode → List Event
no_events snap = []

serve-begin : (plan : PlanRec) (slot n : ℕ) (nodes : List NodePlan) (snaps : List SnapNode) (stations : List Station) → AllBegin (StationBegins plan slot) n nodes snaps stations
    → AllServe plan slot n nodes stations (map rec_of snaps) (map no_events snaps)
serve-begin plan slot n [] [] [] all = tt
serve-begin plan slot n (node ∷ nodes) (snap ∷ snaps) (station ∷ stations) all = (all.0.serves, serve-begin plan slot (n + 1) nodes snaps stations all.1)
serve-begin plan slot n _ _ _ all = absurd all

shapes-begin : (plan : PlanRec) (slot n : ℕ) (nodes : List NodePlan) (snaps : List SnapNode) (stations : List Station) → AllBegin (StationBegins plan slot) n nodes snaps stations → AllByRecursion HasShape (map rec_of snaps)
shapes-begin plan slot n [] [] [] all = tt
shapes-begin plan slot n (node ∷ nodes) (snap ∷ snaps) (station ∷ stations) all = (all.0.shape, shapes-begin plan slot (n + 1) nodes snaps stations all.1)
shapes-begin plan slot n _ _ _ all = absurd all

pub stations-begin : (plan : PlanRec) (slot n links : ℕ) (nodes : List NodePlan) (snaps : List SnapNode) (stations : List Station) → length (link_arcs plan.links) ≡ links
    → AllBegin (StationBegins plan slot) n nodes snaps stations → AllByRecursion (IsStation slot links) stations
stations-begin plan slot n links [] [] [] e all = tt
stations-begin plan slot n links (node ∷ nodes) (snap ∷ snaps) (station ∷ stations) e all =
    (subst (λ (m : ℕ). IsStation slot m station) e all.0.ready, stations-begin plan slot (n + 1) links nodes snaps stations e all.1)
stations-begin plan slot n links _ _ _ e all = absurd all

pub shown-begin : (plan : PlanRec) (slot n : ℕ) (nodes : List NodePlan) (snaps : List SnapNode) (stations : List Station) → AllBegin (StationBegins plan slot) n nodes snaps stations → AllByRecursion (IsShownAt slot) stations
shown-begin plan slot n [] [] [] all = tt
shown-begin plan slot n (node ∷ nodes) (snap ∷ snaps) (station ∷ stations) all = (all.0.ready.shown, shown-begin plan slot (n + 1) nodes snaps stations all.1)
shown-begin plan slot n _ _ _ all = absurd all

due-begin : (plan : PlanRec) (slot n : ℕ) (nodes : List NodePlan) (snaps : List SnapNode) (stations : List Station) → AllBegin (StationBegins plan slot) n nodes snaps stations → (k : ℕ) → k < length stations → due_at stations k ≡ true
due-begin plan slot n [] [] [] all k h = absurd (omega (arith, h))
due-begin plan slot n (node ∷ nodes) (snap ∷ snaps) (station ∷ stations) all zero h = all.0.due
due-begin plan slot n (node ∷ nodes) (snap ∷ snaps) (station ∷ stations) all (suc k) h = due-begin plan slot (n + 1) nodes snaps stations all.1 k (omega (arith, h))
due-begin plan slot n _ _ _ all k h = absurd all

carry-begin : (slot k : ℕ) (ds : List Arc) (logs : List LogRec) (tracks : List Track) → AllBegin (LinkBegins slot) k ds logs tracks → AllCarry ds tracks (map entries_of logs)
carry-begin slot k [] [] [] all = tt
carry-begin slot k (d ∷ ds) (log ∷ logs) (track ∷ tracks) all =
    let b = all.0.begins in
    (record { from = b.from; from_end = b.from_end; to = b.to; delay = b.delay; joins = all.0.joins; entries = b.entries }, carry-begin slot (k + 1) ds logs tracks all.1)
carry-begin slot k _ _ _ all = absurd all

-- the nodes that an arc joins
abbrev IsAmong : ℕ → Arc → Type 0
IsAmong count d = (d.from < count) × (d.to < count)

arcs-among : (count : ℕ) (links : List LinkPlan) → AllByRecursion (IsLink count) links → AllByRecursion (IsAmong count) (link_arcs links)
arcs-among count [] all = tt
arcs-among count (l ∷ links) all = ((all.0.a, all.0.b), ((all.0.b, all.0.a), arcs-among count links all.1))

tracks-begin : (slot count k : ℕ) (ds : List Arc) (logs : List LogRec) (tracks : List Track) → AllBegin (LinkBegins slot) k ds logs tracks → AllByRecursion (IsAmong count) ds → AllByRecursion (IsReadyTrack slot count) tracks
tracks-begin slot count k [] [] [] all among = tt
tracks-begin slot count k (d ∷ ds) (log ∷ logs) (track ∷ tracks) all among =
    let b = all.0.begins in
    (record { from = omega (arith, b.from, among.0.0); to = omega (arith, b.to, among.0.1); here = b.here }, tracks-begin slot count (k + 1) ds logs tracks all.1 among.1)
tracks-begin slot count k _ _ _ all among = absurd all

pub links-ready : (plan : PlanRec) (slot : ℕ) (logs : List LogRec) (tracks : List Track) → IsPlan plan → AllBegin (LinkBegins slot) 0 (link_arcs plan.links) logs tracks → AllByRecursion (IsReadyTrack slot (length plan.nodes)) tracks
links-ready plan slot logs tracks is all = tracks-begin slot (length plan.nodes) 0 (link_arcs plan.links) logs tracks all (arcs-among (length plan.nodes) plan.links is.links)

-- where all nodes are due, what arrives is heeded
heeded-begin : (slot count : ℕ) (stations : List Station) → ((k : ℕ) → k < count → due_at stations k ≡ true) → (tracks : List Track) → AllByRecursion (IsReadyTrack slot count) tracks → AllByRecursion (IsHeeded stations) tracks
heeded-begin slot count stations due [] ready = tt
heeded-begin slot count stations due (t ∷ tracks) ready = (λ not. absurd (apart (sym (due t.to ready.0.to) ∙ not)), heeded-begin slot count stations due tracks ready.1)
  where
    apart : true ≡ false → ⊥
    apart e = cc

tell-begin : (slot : ℕ) (shown : List Word) (nodes : List NodeRec) (cores : List CoreRec) → cores ≡ map (λ (r : NodeRec). r.core) nodes → (j k : ℕ) (earlier ws : List WirePlan) (logs : List LogRec) (wires : List Wire)
    → AllBegin (WireBeginsBy slot cores) j ws logs wires → ((i : ℕ) → get_or shown (k + i) 0 ≡ get_or (map level_of_log logs) i 0) → AllTell shown nodes k (wire_arcs earlier ws) wires (map entries_of logs)
tell-begin slot shown nodes cores are j k earlier [] [] [] all levels = tt
tell-begin slot shown nodes cores are j k earlier (w ∷ ws) (log ∷ logs) (wire ∷ wires) all levels =
    let b = all.0 in
    let here : k + 0 ≡ k = omega arith in
    let shows : get_or shown k 0 ≡ log.level = ap (λ m. get_or shown m 0) (sym here) ∙ levels 0 in (
      record {
        from = b.from;
        to = b.to;
        delay = b.delay;
        joins = λ i. Some (record { from_port = sym b.from_port i; to_port = sym b.to_port i });
        entries = b.entries;
        sent = b.sent ∙ driven-is nodes cores w.a w.a_port are ∙ (λ i. driven_level (node_by nodes (sym b.from i)) (sym b.from_port i));
        shown = b.shown ∙ sym shows;
      },
      tell-begin slot shown nodes cores are (j + 1) (k + 1) (w ∷ earlier) ws logs wires all.1 (λ i. let next : k + 1 + i ≡ k + suc i = omega arith in ap (λ m. get_or shown m 0) next ∙ levels (suc i)),
    )
tell-begin slot shown nodes cores are j k earlier _ _ _ all levels = absurd all

wires-begin : (slot count : ℕ) (cores : List CoreRec) (j : ℕ) (ws : List WirePlan) (logs : List LogRec) (wires : List Wire) → AllBegin (WireBeginsBy slot cores) j ws logs wires → AllByRecursion (IsWirePlan count) ws
    → AllByRecursion (IsReadyWire slot count) wires
wires-begin slot count cores j [] [] [] all plans = tt
wires-begin slot count cores j (w ∷ ws) (log ∷ logs) (wire ∷ wires) all plans =
    (record { from = omega (arith, all.0.from, plans.0.a); to = omega (arith, all.0.to, plans.0.b); here = all.0.here }, wires-begin slot count cores (j + 1) ws logs wires all.1 plans.1)
wires-begin slot count cores j _ _ _ all plans = absurd all

targets-begin : (slot : ℕ) (cores : List CoreRec) (j : ℕ) (ws : List WirePlan) (logs : List LogRec) (wires : List Wire) → AllBegin (WireBeginsBy slot cores) j ws logs wires → targets wires ≡ targets_of ws
targets-begin slot cores j [] [] [] all = refl
targets-begin slot cores j (w ∷ ws) (log ∷ logs) (wire ∷ wires) all =
    let rest = targets-begin slot cores (j + 1) ws logs wires all.1 in
    λ i. (all.0.to i, all.0.to_port i) ∷ rest i
targets-begin slot cores j _ _ _ all = absurd all

pub wires-ready : (plan : PlanRec) (slot : ℕ) (cores : List CoreRec) (logs : List LogRec) (wires : List Wire) → IsPlan plan → AllBegin (WireBeginsBy slot cores) 0 plan.wires logs wires
    → AllByRecursion (IsReadyWire slot (length plan.nodes)) wires
wires-ready plan slot cores logs wires is all = wires-begin slot (length plan.nodes) cores 0 plan.wires logs wires all is.wires

pub targets-apart : (plan : PlanRec) (slot : ℕ) (cores : List CoreRec) (logs : List LogRec) (wires : List Wire) → IsPlan plan → AllBegin (WireBeginsBy slot cores) 0 plan.wires logs wires → AreDistinct (targets wires)
targets-apart plan slot cores logs wires is all = subst AreDistinct (sym (targets-begin slot cores 0 plan.wires logs wires all)) is.targets

module _ (plan : PlanRec) (body : BodyRec) (stations told : List Station) (tracks : List Track) (wires : List Wire)
    (begin : AllBegin (StationBegins plan body.slot) 0 plan.nodes body.nodes stations)
    (links : AllBegin (LinkBegins body.slot) 0 (link_arcs plan.links) (take (length (link_arcs plan.links)) body.logs) tracks)
    (ways : AllBegin (WireBeginsBy body.slot (cores_of stations)) 0 plan.wires (drop (length (link_arcs plan.links)) body.logs) wires)
    (ready_tracks : AllByRecursion (IsReadyTrack body.slot (length plan.nodes)) tracks) (ready_wires : AllByRecursion (IsReadyWire body.slot (length plan.nodes)) wires) (apart : AreDistinct (targets wires))
    (come : AllByRecursion (HasCome (levels_of told)) wires) (same : AllZip (SameButCome body.slot) stations told) where
  abbrev slot : ℕ
  slot = body.slot

  abbrev count : ℕ
  count = length (link_arcs plan.links)

  abbrev logs : List LogRec
  logs = body.logs

  abbrev nodes : List NodeRec
  nodes = map rec_of body.nodes

  serve : AllServe plan slot 0 plan.nodes stations nodes (map no_events body.nodes)
  serve = serve-begin plan slot 0 plan.nodes body.nodes stations begin

  many : length told ≡ length plan.nodes
  many = zip-length (SameButCome slot) stations told same ∙ begin-length (StationBegins plan slot) 0 plan.nodes body.nodes stations begin

  linked : length tracks ≡ count
  linked = begin-length (LinkBegins slot) 0 (link_arcs plan.links) (take count logs) tracks links

  levels : length (levels_of told) ≡ length plan.nodes
  levels = length-map told (λ (s : Station). s.pins.levels) ∙ many

  ready-here : AllByRecursion (IsReadyTrack slot (length told)) tracks
  ready-here = subst (λ n. AllByRecursion (IsReadyTrack slot n) tracks) (sym many) ready_tracks

  all-due : (k : ℕ) → k < length told → due_at told k ≡ true
  all-due k inside =
      ap (λ dues. get_or dues k false) (dues-told slot stations told same)
      ∙ due-begin plan slot 0 plan.nodes body.nodes stations begin k (omega (arith, inside, zip-length (SameButCome slot) stations told same))

  pub ready-begun : AreReady plan (begun_of body).shown slot (begun_of body).system told tracks wires
  ready-begun = record {
    system = record {
      serve = play-told plan slot 0 plan.nodes stations nodes (map no_events body.nodes) told serve same;
      link_histories = map entries_of (take count logs);
      wire_histories = map entries_of (drop count logs);
      histories = ap (map entries_of) (split-at count logs) ∙ map-both entries_of (take count logs) (drop count logs);
      carry = carry-begin slot 0 (link_arcs plan.links) (take count logs) tracks links;
      tell =
          tell-begin slot (map level_of_log logs) nodes (cores_of stations) (cores-serve plan slot 0 plan.nodes stations nodes (map no_events body.nodes) serve) 0 count [] plan.wires (drop count logs) wires ways
          (λ i. drop-at count i (map level_of_log logs) 0 ∙ ap (λ xs. get_or xs i 0) (sym (map-drop level_of_log count logs)));
    };
    shapes = shapes-begin plan slot 0 plan.nodes body.nodes stations begin;
    stations = stations-told slot (length tracks) stations told same (stations-begin plan slot 0 (length tracks) plan.nodes body.nodes stations (sym linked) begin);
    tracks = ready-here;
    heeded = heeded-begin slot (length told) told all-due tracks ready-here;
    wires = record {
      each = subst (λ n. AllByRecursion (IsReadyWire slot n) wires) (sym levels) ready_wires;
      apart = apart;
      come = come;
    };
  }
