-- A run as it starts.
use Rattle.std.proofs.Common.{◌≡◌, ℕ, zero, suc, ◌+◌, ◌<◌, Some, List, [], ◌∷◌, ◌++◌, length, map, replicate, take, get_or, refl, sym, ap, ◌∙◌, subst, arith}
use Rattle.std.specs.Prelude.{slice_get}
use Rattle.std.specs.List.{AllByRecursion}
use Rattle.std.proofs.lemmas.List.{take_more, length-map}
use Rattle.std.proofs.lemmas.Nat.{pow_pos}
use Rattle.xs_base.specs.Ids.{port_width}
use Rattle.xs_base.specs.Numbers.{Word}
use Rattle.xs_model.specs.Record.{NodeRec, PortRec, off_port}
use Rattle.xs_model.specs.Ports.{level_of}
use Rattle.sys_plan.specs.declared.NodePlan.{NodePlan}
use Rattle.sys_plan.specs.declared.LinkPlan.{LinkPlan}
use Rattle.sys_plan.specs.declared.WirePlan.{WirePlan}
use Rattle.sys_plan.specs.Plan.{PlanRec, Arc, IsPlan, IsLink, IsWire as IsWirePlan, AreDistinct, link_arcs, wire_arcs, targets_of}
use Rattle.step_laws.specs.Shape.{HasShape, FirstHasShape}
use Rattle.serial_model.specs.Serial.{system_at_start, nodes_at_start, node_by, driven_level}
use Rattle.run_plan.specs.declared.track.Track.{Track}
use Rattle.run_plan.specs.declared.wire.Wire.{Wire}
use Rattle.run_plan.specs.declared.station.Station.{Station}
use Rattle.run_plan.specs.Stations.{IsStation}
use Rattle.run_plan.specs.Passes.{IsReadyTrack, IsHeeded, levels_of}
use Rattle.run_plan.specs.Wires.{IsReadyWire, HasCome, targets}
use Rattle.run_plan.specs.Run.{AllServe, AllCarry, AllTell, AreReady}
use Rattle.run_plan.specs.Starts.{StartsHere, AllStart, track_at_start, tracks_at_start, wire_at_start, wires_at_start}
use Rattle.run_plan.proofs.Systems.{play-length, carry-length}

-- the first nodes and the next one
pub record Next (nodes : List NodePlan) (n : ℕ) : Type 0 where
  pub node : NodePlan
  pub here : slice_get nodes n ≡ Some node
  pub more : take (n + 1) nodes ≡ take n nodes ++ node ∷ []

pub next-node : (nodes : List NodePlan) (n : ℕ) → n < length nodes → Next nodes n
next-node [] n h = absurd (omega arith)
next-node (node ∷ nodes) zero h = record { node = node; here = refl; more = refl }
next-node (node ∷ nodes) (suc n) h =
    let rest = next-node nodes n (omega arith) in
    let p : suc n + 1 ≡ suc (n + 1) = omega arith in
    record { node = rest.node; here = rest.here; more = rw p (λ i. node ∷ rest.more i) }

-- one more node
pub start-more : (plan : PlanRec) (n : ℕ) (nodes : List NodePlan) (stations : List Station) (m : ℕ) (node : NodePlan) (station : Station) → AllStart plan n nodes stations → m ≡ n + length nodes → StartsHere plan m node station → AllStart plan n (nodes ++ node ∷ []) (stations ++ station ∷ [])
start-more plan n [] [] m node station all e s = let same : m ≡ n = omega arith in (subst (λ (j : ℕ). StartsHere plan j node station) same s, tt)
start-more plan n [] (x ∷ xs) m node station all e s = absurd all
start-more plan n (y ∷ ys) [] m node station all e s = absurd all
start-more plan n (y ∷ ys) (x ∷ xs) m node station all e s = (all.0, start-more plan (n + 1) ys xs m node station all.1 (omega arith) s)

-- one more link
tracks-append : (links : List LinkPlan) (link : LinkPlan) → tracks_at_start (link_arcs (links ++ link ∷ [])) ≡ (tracks_at_start (link_arcs links) ++ track_at_start link.a link.a_end link.b link.delay ∷ []) ++ track_at_start link.b link.b_end link.a link.delay ∷ []
tracks-append [] link = refl
tracks-append (l ∷ links) link = λ i. track_at_start l.a l.a_end l.b l.delay ∷ (track_at_start l.b l.b_end l.a l.delay ∷ tracks-append links link i)

pub tracks-more : (links : List LinkPlan) (i : ℕ) (d link : LinkPlan) → i < length links → get_or links i d ≡ link → tracks_at_start (link_arcs (take (i + 1) links)) ≡ (tracks_at_start (link_arcs (take i links)) ++ track_at_start link.a link.a_end link.b link.delay ∷ []) ++ track_at_start link.b link.b_end link.a link.delay ∷ []
tracks-more links i d link h e =
    ap (λ (ls : List LinkPlan). tracks_at_start (link_arcs ls)) (take_more links i d h ∙ ap (λ (l : LinkPlan). take i links ++ l ∷ []) e)
    ∙ tracks-append (take i links) link

start-play : (plan : PlanRec) (n : ℕ) (nodes : List NodePlan) (stations : List Station) → AllStart plan n nodes stations → AllServe plan 0 n nodes stations (nodes_at_start plan n nodes) (map (λ (node : NodePlan). []) nodes)
start-play plan n [] [] all = tt
start-play plan n [] (x ∷ xs) all = absurd all
start-play plan n (y ∷ ys) [] all = absurd all
start-play plan n (y ∷ ys) (x ∷ xs) all = (all.0.serves, start-play plan (n + 1) ys xs all.1)

start-carry : (links : List LinkPlan) → AllCarry (link_arcs links) (tracks_at_start (link_arcs links)) (map (λ (d : Arc). []) (link_arcs links))
start-carry [] = tt
start-carry (link ∷ links) = (
  record { from = refl; from_end = refl; to = refl; delay = refl; joins = refl; entries = refl },
  (record { from = refl; from_end = refl; to = refl; delay = refl; joins = refl; entries = refl }, start-carry links),
)

-- nothing is driven
all-same : {X : Type 0} (count k : ℕ) (x : X) → get_or (replicate count x) k x ≡ x
all-same zero k x = refl
all-same (suc count) zero x = refl
all-same (suc count) (suc k) x = all-same count k x

start-low : (plan : PlanRec) (n : ℕ) (nodes : List NodePlan) (k p : ℕ) → driven_level (node_by (nodes_at_start plan n nodes) k) p ≡ 0
start-low plan n [] k p = ap (λ (port : PortRec). level_of port.driven 0) (all-same 29 p off_port)
start-low plan n (node ∷ nodes) zero p = ap (λ (port : PortRec). level_of port.driven 0) (all-same 29 p off_port)
start-low plan n (node ∷ nodes) (suc k) p = start-low plan (n + 1) nodes k p

start-tell : (nodes : List NodeRec) → ((k p : ℕ) → driven_level (node_by nodes k) p ≡ 0) → (k : ℕ) (earlier wires : List WirePlan)
    → AllTell [] nodes k (wire_arcs earlier wires) (wires_at_start wires) (map (λ (d : Arc). []) (wire_arcs earlier wires))
start-tell nodes low k earlier [] = tt
start-tell nodes low k earlier (w ∷ wires) =
    (record { from = refl; to = refl; delay = refl; joins = refl; entries = refl; sent = sym (low w.a w.a_port); shown = refl }, start-tell nodes low (k + 1) (w ∷ earlier) wires)

start-shapes : FirstHasShape → (plan : PlanRec) (n : ℕ) (nodes : List NodePlan) → AllByRecursion HasShape (nodes_at_start plan n nodes)
start-shapes first plan n [] = tt
start-shapes first plan n (node ∷ nodes) =
    let some = first 0 0 [] [] in
    (record { ports = some.ports; threads = some.threads; held = some.held }, start-shapes first plan (n + 1) nodes)

map-both : {X Y : Type 0} (f : X → Y) (xs ys : List X) → map f (xs ++ ys) ≡ map f xs ++ map f ys
map-both f [] ys = refl
map-both f (x ∷ xs) ys = ap (λ all. f x ∷ all) (map-both f xs ys)

start-stations : (plan : PlanRec) (n links : ℕ) (nodes : List NodePlan) (stations : List Station) → length (link_arcs plan.links) ≡ links → AllStart plan n nodes stations → AllByRecursion (IsStation 0 links) stations
start-stations plan n links [] [] e all = tt
start-stations plan n links [] (x ∷ xs) e all = absurd all
start-stations plan n links (y ∷ ys) [] e all = absurd all
start-stations plan n links (y ∷ ys) (x ∷ xs) e all = (subst (λ (m : ℕ). IsStation 0 m x) e all.0.ready, start-stations plan (n + 1) links ys xs e all.1)

start-tracks : (count : ℕ) (links : List LinkPlan) → AllByRecursion (IsLink count) links → AllByRecursion (IsReadyTrack 0 count) (tracks_at_start (link_arcs links))
start-tracks count [] all = tt
start-tracks count (l ∷ links) all = (
  record { from = all.0.a; to = all.0.b; here = record { from_end = all.0.a_end; delayed = all.0.least_delay; in_order = tt; no_level = tt; before = tt; few = omega arith; due = tt; arrived = refl } },
  (
    record { from = all.0.b; to = all.0.a; here = record { from_end = all.0.b_end; delayed = all.0.least_delay; in_order = tt; no_level = tt; before = tt; few = omega arith; due = tt; arrived = refl } },
    start-tracks count links all.1,
  ),
)

-- nothing arrives in the first slot
start-heeded : (stations : List Station) (ds : List Arc) → AllByRecursion (IsHeeded stations) (tracks_at_start ds)
start-heeded stations [] = tt
start-heeded stations (d ∷ ds) = (λ _. refl, start-heeded stations ds)

-- the levels that came to pins are 0
start-levels : (plan : PlanRec) (n : ℕ) (nodes : List NodePlan) (stations : List Station) → AllStart plan n nodes stations → (k p : ℕ) → get_or (get_or (levels_of stations) k []) p 0 ≡ 0
start-levels plan n [] [] all k p = refl
start-levels plan n [] (x ∷ xs) all k p = absurd all
start-levels plan n (y ∷ ys) [] all k p = absurd all
start-levels plan n (y ∷ ys) (x ∷ xs) all zero p = ap (λ (levels : List Word). get_or levels p 0) all.0.low ∙ all-same 29 p 0
start-levels plan n (y ∷ ys) (x ∷ xs) all (suc k) p = start-levels plan (n + 1) ys xs all.1 k p

start-wires : (count : ℕ) (wires : List WirePlan) → AllByRecursion (IsWirePlan count) wires → AllByRecursion (IsReadyWire 0 count) (wires_at_start wires)
start-wires count [] all = tt
start-wires count (w ∷ wires) all = (
  record {
    from = all.0.a;
    to = all.0.b;
    here = record {
      from_port = all.0.a_port;
      to_port = all.0.b_port;
      widths = all.0.widths;
      delayed = all.0.least_delay;
      in_order = tt;
      levels = tt;
      before = tt;
      few = omega arith;
      due = tt;
      level = refl;
      narrow = pow_pos (port_width w.b_port);
    };
  },
  start-wires count wires all.1,
)

start-targets : (wires : List WirePlan) → targets (wires_at_start wires) ≡ targets_of wires
start-targets [] = refl
start-targets (w ∷ wires) = ap (λ all. (w.b, w.b_port) ∷ all) (start-targets wires)

start-come : (levels : List (List Word)) → ((k p : ℕ) → get_or (get_or levels k []) p 0 ≡ 0) → (wires : List WirePlan) → AllByRecursion (HasCome levels) (wires_at_start wires)
start-come levels low [] = tt
start-come levels low (w ∷ wires) = (low w.b w.b_port, start-come levels low wires)

pub run-start : FirstHasShape → (plan : PlanRec) (stations : List Station) (tracks : List Track) (wires : List Wire) → IsPlan plan → AllStart plan 0 plan.nodes stations
    → tracks ≡ tracks_at_start (link_arcs plan.links) → wires ≡ wires_at_start plan.wires → AreReady plan [] 0 (system_at_start plan) stations tracks wires
run-start first plan stations tracks wires is all e f =
    let ds = link_arcs plan.links in
    let ws = wire_arcs [] plan.wires in
    let nodes = nodes_at_start plan 0 plan.nodes in
    let play = start-play plan 0 plan.nodes stations all in
    let count = play-length plan 0 0 plan.nodes stations nodes (map (λ (node : NodePlan). []) plan.nodes) play in
    let links = carry-length ds (tracks_at_start ds) (map (λ (d : Arc). []) ds) (start-carry plan.links) in
    let levels : length (levels_of stations) ≡ length plan.nodes = length-map stations (λ (s : Station). s.pins.levels) ∙ count in
    subst (λ (ts : List Track). AreReady plan [] 0 (system_at_start plan) stations ts wires) (sym e)
    (subst (AreReady plan [] 0 (system_at_start plan) stations (tracks_at_start ds)) (sym f) (record {
      system = record {
        serve = play;
        link_histories = map (λ (d : Arc). []) ds;
        wire_histories = map (λ (d : Arc). []) ws;
        histories = map-both (λ (d : Arc). []) ds ws;
        carry = start-carry plan.links;
        tell = start-tell nodes (start-low plan 0 plan.nodes) (length ds) [] plan.wires;
      };
      shapes = start-shapes first plan 0 plan.nodes;
      stations = start-stations plan 0 (length (tracks_at_start ds)) plan.nodes stations (sym links) all;
      tracks = subst (λ (m : ℕ). AllByRecursion (IsReadyTrack 0 m) (tracks_at_start ds)) (sym count) (start-tracks (length plan.nodes) plan.links is.links);
      heeded = start-heeded stations ds;
      wires = record {
        each = subst (λ (m : ℕ). AllByRecursion (IsReadyWire 0 m) (wires_at_start plan.wires)) (sym levels) (start-wires (length plan.nodes) plan.wires is.wires);
        apart = subst AreDistinct (sym (start-targets plan.wires)) is.targets;
        come = start-come (levels_of stations) (start-levels plan 0 plan.nodes stations all) plan.wires;
      };
    }))

-- one more wire
pub wires-more : (wires : List WirePlan) (i : ℕ) (d wire : WirePlan) → i < length wires → get_or wires i d ≡ wire
    → wires_at_start (take (i + 1) wires) ≡ wires_at_start (take i wires) ++ wire_at_start wire.a wire.a_port wire.b wire.b_port wire.delay ∷ []
wires-more wires i d wire h e =
    ap wires_at_start (take_more wires i d h ∙ ap (λ (w : WirePlan). take i wires ++ w ∷ []) e)
    ∙ map-both (λ (w : WirePlan). wire_at_start w.a w.a_port w.b w.b_port w.delay) (take i wires) (wire ∷ [])
