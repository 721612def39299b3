-- What a snapshot says of each part of a plan, and lists that are made of that part by part.
use Rattle.std.proofs.Common.{◌≡◌, ℕ, zero, suc, ◌+◌, ◌<◌, ◌≤◌, Option, List, [], ◌∷◌, ◌++◌, length, map, take, get_or, refl, sym, ap, ◌∙◌, subst, arith}
use Rattle.std.specs.Prelude.{drop}
use Rattle.std.proofs.Math.ListN.{get_or-map as get_or-map-default}
use Rattle.std.proofs.lemmas.List.{take_more, take_all, get_or-map, length-take}
use Rattle.xs_base.specs.Ids.{port_width}
use Rattle.xs_base.specs.Numbers.{Slot}
use Rattle.xs_base.specs.declared.entry.Entry.{Entry}
use Rattle.xs_model.specs.Record.{CoreRec, port_of, first_node}
use Rattle.pin_wires.specs.Wires.{driven_or_low}
use Rattle.sys_plan.specs.declared.NodePlan.{NodePlan}
use Rattle.sys_plan.specs.declared.LinkPlan.{LinkPlan}
use Rattle.sys_plan.specs.declared.WirePlan.{WirePlan}
use Rattle.sys_plan.specs.Plan.{PlanRec, Arc, forth, back, arcs, link_arcs, wire_arcs}
use Rattle.sys_plan.proofs.Wires.{wires_length}
use Rattle.snap_parts.specs.declared.node.SnapNode.{SnapNode}
use Rattle.snap_parts.specs.declared.log.SnapLog.{SnapLog}
use Rattle.snap_parts.specs.InFlight.{AreLinkEntries}
use Rattle.snap_parts.specs.Parts.{LogRec, BodyRec, seen}
use Rattle.snap_parts.specs.Snaps.{IsOnWire, IsOnArc, AreOnArcs, IsSnapNode, AreSnapNodes, IsSnapSystem}
use Rattle.run_plan.specs.declared.track.Track.{Track}
use Rattle.run_plan.specs.declared.wire.Wire.{Wire}
use Rattle.run_plan.specs.declared.station.Station.{Station}
use Rattle.run_plan.specs.Passes.{cores_of, driven_by}
use Rattle.run_plan.specs.Begins.{AllBegin, StationBegins, TrackBegins, LinkBegins, WireBeginsBy}
use Rattle.run_plan.proofs.Ends.{front-at}

-- ---- Lists

module _ {A B C : Type 0} (R : ℕ → A → B → C → Type 0) where
  pub begin-length : (n : ℕ) (xs : List A) (ys : List B) (zs : List C) → AllBegin R n xs ys zs → length zs ≡ length xs
  begin-length n [] [] [] all = refl
  begin-length n (x ∷ xs) (y ∷ ys) (z ∷ zs) all = omega (arith, begin-length (n + 1) xs ys zs all.1)
  begin-length n _ _ _ all = absurd all

  -- one more
  pub begin-more : (n m : ℕ) (xs : List A) (ys : List B) (zs : List C) (a : A) (b : B) (c : C) → AllBegin R n xs ys zs → m ≡ n + length xs → R m a b c
      → AllBegin R n (xs ++ a ∷ []) (ys ++ b ∷ []) (zs ++ c ∷ [])
  begin-more n m [] [] [] a b c all e r = let same : m ≡ n = omega (arith, e) in (subst (λ j. R j a b c) same r, tt)
  begin-more n m (x ∷ xs) (y ∷ ys) (z ∷ zs) a b c all e r = (all.0, begin-more (n + 1) m xs ys zs a b c all.1 (omega (arith, e)) r)
  begin-more n m _ _ _ a b c all e r = absurd all

length-more : {X : Type 0} (xs : List X) (x : X) → length (xs ++ x ∷ []) ≡ length xs + 1
length-more [] x = refl
length-more (y ∷ xs) x = omega (arith, length-more xs x)

-- the first items and the rest
pub split-at : {X : Type 0} (n : ℕ) (xs : List X) → xs ≡ take n xs ++ drop n xs
split-at zero xs = refl
split-at (suc n) [] = refl
split-at (suc n) (x ∷ xs) = ap (λ rest. x ∷ rest) (split-at n xs)

pub drop-at : {X : Type 0} (n i : ℕ) (xs : List X) (d : X) → get_or xs (n + i) d ≡ get_or (drop n xs) i d
drop-at zero i xs d = let same : 0 + i ≡ i = omega arith in ap (λ k. get_or xs k d) same
drop-at (suc n) i [] d = refl
drop-at (suc n) i (x ∷ xs) d =
    let next : suc n + i ≡ suc (n + i) = omega arith in
    ap (λ k. get_or (x ∷ xs) k d) next ∙ drop-at n i xs d

drop-length : {X : Type 0} (n : ℕ) (xs : List X) → n ≤ length xs → length (drop n xs) + n ≡ length xs
drop-length zero xs h = omega arith
drop-length (suc n) [] h = absurd (omega (arith, h))
drop-length (suc n) (x ∷ xs) h = omega (arith, drop-length n xs (omega (arith, h)))

pub map-drop : {X Y : Type 0} (f : X → Y) (n : ℕ) (xs : List X) → map f (drop n xs) ≡ drop n (map f xs)
map-drop f zero xs = refl
map-drop f (suc n) [] = refl
map-drop f (suc n) (x ∷ xs) = map-drop f n xs

pub map-both : {X Y : Type 0} (f : X → Y) (xs ys : List X) → map f (xs ++ ys) ≡ map f xs ++ map f ys
map-both f [] ys = refl
map-both f (x ∷ xs) ys = ap (λ all. f x ∷ all) (map-both f xs ys)

-- one more of the first items
take-more : {X : Type 0} (xs : List X) (i : ℕ) (d x : X) → i < length xs → get_or xs i d ≡ x → take (i + 1) xs ≡ take i xs ++ x ∷ []
take-more xs i d x h e = take_more xs i d h ∙ ap (λ y. take i xs ++ y ∷ []) e

-- ---- Arcs of links

arcs-append : (links : List LinkPlan) (link : LinkPlan) → link_arcs (links ++ link ∷ []) ≡ (link_arcs links ++ forth link ∷ []) ++ back link ∷ []
arcs-append [] link = refl
arcs-append (l ∷ links) link = λ i. forth l ∷ (back l ∷ arcs-append links link i)

pub arcs-length : (links : List LinkPlan) → length (link_arcs links) ≡ length links + length links
arcs-length [] = refl
arcs-length (l ∷ links) = omega (arith, arcs-length links)

forth-at : (links : List LinkPlan) (i k : ℕ) (d : Arc) (l : LinkPlan) → k ≡ i + i → i < length links → get_or (link_arcs links) k d ≡ forth (get_or links i l)
forth-at [] i k d l e h = absurd (omega (arith, h))
forth-at (x ∷ links) zero zero d l e h = refl
forth-at (x ∷ links) zero (suc k) d l e h = absurd (omega (arith, e))
forth-at (x ∷ links) (suc i) zero d l e h = absurd (omega (arith, e))
forth-at (x ∷ links) (suc i) (suc zero) d l e h = absurd (omega (arith, e))
forth-at (x ∷ links) (suc i) (suc (suc k)) d l e h = forth-at links i k d l (omega (arith, e)) (omega (arith, h))

back-of : (links : List LinkPlan) (i k : ℕ) (d : Arc) (l : LinkPlan) → k ≡ i + i + 1 → i < length links → get_or (link_arcs links) k d ≡ back (get_or links i l)
back-of [] i k d l e h = absurd (omega (arith, h))
back-of (x ∷ links) zero zero d l e h = absurd (omega (arith, e))
back-of (x ∷ links) zero (suc zero) d l e h = refl
back-of (x ∷ links) zero (suc (suc k)) d l e h = absurd (omega (arith, e))
back-of (x ∷ links) (suc i) zero d l e h = absurd (omega (arith, e))
back-of (x ∷ links) (suc i) (suc zero) d l e h = absurd (omega (arith, e))
back-of (x ∷ links) (suc i) (suc (suc k)) d l e h = back-of links i k d l (omega (arith, e)) (omega (arith, h))

-- ---- What a snapshot says of one arc, and of one node

pub logs-length : (slot : Slot) (ds : List Arc) (logs : List LogRec) → AreOnArcs slot ds logs → length logs ≡ length ds
logs-length slot [] [] all = refl
logs-length slot (d ∷ ds) (log ∷ logs) all = omega (arith, logs-length slot ds logs all.1)
logs-length slot _ _ all = absurd all

log-at : (slot : Slot) (ds : List Arc) (logs : List LogRec) (k : ℕ) (d : Arc) (log : LogRec) → AreOnArcs slot ds logs → k < length ds
    → IsOnArc slot (get_or ds k d).delay (get_or ds k d).joins (get_or logs k log)
log-at slot [] [] k d log all h = absurd (omega (arith, h))
log-at slot (x ∷ ds) (y ∷ logs) zero d log all h = all.0
log-at slot (x ∷ ds) (y ∷ logs) (suc k) d log all h = log-at slot ds logs k d log all.1 (omega (arith, h))
log-at slot _ _ k d log all h = absurd all

-- of the rest of the arcs
logs-rest : (slot : Slot) (ds es : List Arc) (logs : List LogRec) → AreOnArcs slot (ds ++ es) logs → AreOnArcs slot es (drop (length ds) logs)
logs-rest slot [] es logs all = all
logs-rest slot (d ∷ ds) es [] all = absurd all
logs-rest slot (d ∷ ds) es (log ∷ logs) all = logs-rest slot ds es logs all.1

wire-log : (slot : Slot) (earlier ws : List WirePlan) (logs : List LogRec) (j : ℕ) (w : WirePlan) (log : LogRec) → AreOnArcs slot (wire_arcs earlier ws) logs → j < length ws
    → IsOnWire slot (get_or ws j w).delay (port_width (get_or ws j w).b_port) (get_or logs j log)
wire-log slot earlier [] [] j w log all h = absurd (omega (arith, h))
wire-log slot earlier (x ∷ ws) (y ∷ logs) zero w log all h = all.0
wire-log slot earlier (x ∷ ws) (y ∷ logs) (suc j) w log all h = wire-log slot (x ∷ earlier) ws logs j w log all.1 (omega (arith, h))
wire-log slot earlier _ _ j w log all h = absurd all

pub snap-at : (plan : PlanRec) (slot m : ℕ) (nodes : List NodePlan) (snaps : List SnapNode) (k n : ℕ) (d : SnapNode) → AreSnapNodes plan slot m nodes snaps → k < length nodes → n ≡ m + k → IsSnapNode plan slot n (get_or snaps k d)
snap-at plan slot m [] [] k n d all h e = absurd (omega (arith, h))
snap-at plan slot m (node ∷ nodes) (snap ∷ snaps) zero n d all h e = let same : m ≡ n = omega (arith, e) in subst (λ j. IsSnapNode plan slot j snap) same all.0
snap-at plan slot m (node ∷ nodes) (snap ∷ snaps) (suc k) n d all h e = snap-at plan slot (m + 1) nodes snaps k n d all.1 (omega (arith, h)) (omega (arith, e))
snap-at plan slot m _ _ k n d all h e = absurd all

pub snaps-length : (plan : PlanRec) (slot m : ℕ) (nodes : List NodePlan) (snaps : List SnapNode) → AreSnapNodes plan slot m nodes snaps → length snaps ≡ length nodes
snaps-length plan slot m [] [] all = refl
snaps-length plan slot m (node ∷ nodes) (snap ∷ snaps) all = omega (arith, snaps-length plan slot (m + 1) nodes snaps all.1)
snaps-length plan slot m _ _ all = absurd all

module _ (plan : PlanRec) (body : BodyRec) (is : IsSnapSystem plan body) where
  abbrev L : ℕ
  L = length (link_arcs plan.links)

  pub all-logs : length body.logs ≡ L + length (wire_arcs [] plan.wires)
  all-logs = logs-length body.slot (arcs plan) body.logs is.logs ∙ both (link_arcs plan.links) (wire_arcs [] plan.wires)
    where
      both : (xs ys : List Arc) → length (xs ++ ys) ≡ length xs + length ys
      both [] ys = omega arith
      both (x ∷ xs) ys = omega (arith, both xs ys)

  -- of the arc of a link
  arc-log : (k : ℕ) (d e : Arc) (log : LogRec) → k < L → get_or (link_arcs plan.links) k d ≡ e → IsOnArc body.slot e.delay e.joins (get_or body.logs k log)
  arc-log k d e log inside here =
      let all : k < length (arcs plan) = omega (arith, inside, all-logs, logs-length body.slot (arcs plan) body.logs is.logs) in
      let arc = front-at (link_arcs plan.links) (wire_arcs [] plan.wires) k d inside ∙ here in
      subst (λ (a : Arc). IsOnArc body.slot a.delay a.joins (get_or body.logs k log)) arc (log-at body.slot (arcs plan) body.logs k d log is.logs all)

  -- there and back
  pub there-log : (i k : ℕ) (link d : LinkPlan) (log : LogRec) → k ≡ i + i → i < length plan.links → get_or plan.links i d ≡ link → AreLinkEntries body.slot link.delay (get_or body.logs k log).entries
  there-log i k link d log e h here =
      arc-log k (forth link) (forth link) log (omega (arith, e, h, arcs-length plan.links)) (forth-at plan.links i k (forth link) d e h ∙ ap forth here)

  pub back-log : (i k : ℕ) (link d : LinkPlan) (log : LogRec) → k ≡ i + i + 1 → i < length plan.links → get_or plan.links i d ≡ link → AreLinkEntries body.slot link.delay (get_or body.logs k log).entries
  back-log i k link d log e h here =
      arc-log k (back link) (back link) log (omega (arith, e, h, arcs-length plan.links)) (back-of plan.links i k (back link) d e h ∙ ap back here)

  -- of a wire
  pub wire-log-at : (j k : ℕ) (wire d : WirePlan) (log : LogRec) → k ≡ L + j → j < length plan.wires → get_or plan.wires j d ≡ wire → IsOnWire body.slot wire.delay (port_width wire.b_port) (get_or body.logs k log)
  wire-log-at j k wire d log e h here =
      let rest = logs-rest body.slot (link_arcs plan.links) (wire_arcs [] plan.wires) body.logs is.logs in
      let same : get_or (drop L body.logs) j log ≡ get_or body.logs k log = sym (drop-at L j body.logs log) ∙ ap (λ m. get_or body.logs m log) (sym e) in
      subst (IsOnWire body.slot wire.delay (port_width wire.b_port)) same
      (subst (λ (w : WirePlan). IsOnWire body.slot w.delay (port_width w.b_port) (get_or (drop L body.logs) j log)) here (wire-log body.slot [] plan.wires (drop L body.logs) j d log rest h))

  pub wire-within : (j : ℕ) → j < length plan.wires → L + j < length body.logs
  wire-within j h = omega (arith, h, all-logs, wires_length [] plan.wires)

  pub wires-rest : length (drop L body.logs) ≡ length plan.wires
  wires-rest = omega (arith, drop-length L body.logs (omega (arith, all-logs)), all-logs, wires_length [] plan.wires)

  -- the links of which this many directed links were made
  pub links-so-far : (i : ℕ) (tracks : List Track) → AllBegin (LinkBegins body.slot) 0 (link_arcs (take i plan.links)) (take (length tracks) body.logs) tracks → i < length plan.links
      → (length tracks ≡ i + i) × (length tracks + 1 < length body.logs)
  links-so-far i tracks begin h =
      let count = begin-length (LinkBegins body.slot) 0 (link_arcs (take i plan.links)) (take (length tracks) body.logs) tracks begin in
      let twice : length tracks ≡ i + i = omega (arith, count, arcs-length (take i plan.links), length-take i plan.links, h) in
      (twice, omega (arith, twice, arcs-length plan.links, h, all-logs))

-- what contracts see of the log at a place
pub seen-here : (logs : List SnapLog) (k : ℕ) (log : SnapLog) → log ≡ get_or logs k log → get_or (map seen logs) k (seen log) ≡ seen log
seen-here logs k log here = get_or-map-default seen logs k log ∙ ap seen (sym here)

-- and what a port of the node at one drives
pub driven-here : (stations : List Station) (n port : ℕ) (station d : Station) (driven : Option ℕ) → n < length stations → station ≡ get_or stations n d → driven ≡ (port_of station.seat.core.core port).driven
    → driven_or_low driven ≡ driven_by (cores_of stations) n port
driven-here stations n port station d driven inside here is =
    let core : get_or (cores_of stations) n (first_node 0 0 []).core ≡ station.seat.core.core =
    get_or-map (λ (s : Station). s.seat.core.core) stations n d (first_node 0 0 []).core inside ∙ ap (λ (s : Station). s.seat.core.core) (sym here) in
    ap driven_or_low (is ∙ ap (λ (k : CoreRec). (port_of k port).driven) (sym core))

-- ---- Lists that grow

pub stations-grow : (plan : PlanRec) (slot n : ℕ) (snaps : List SnapNode) (stations : List Station) (node : NodePlan) (snap d : SnapNode) (station : Station)
    → AllBegin (StationBegins plan slot) 0 (take n plan.nodes) (take n snaps) stations → n < length plan.nodes → n < length snaps → take (n + 1) plan.nodes ≡ take n plan.nodes ++ node ∷ [] → get_or snaps n d ≡ snap
    → StationBegins plan slot n node snap station → AllBegin (StationBegins plan slot) 0 (take (n + 1) plan.nodes) (take (n + 1) snaps) (stations ++ station ∷ [])
stations-grow plan slot n snaps stations node snap d station all inside within more here begins =
    let R = StationBegins plan slot in
    let place : n ≡ 0 + length (take n plan.nodes) = omega (arith, inside, length-take n plan.nodes) in
    subst (λ (xs : List NodePlan). AllBegin R 0 xs (take (n + 1) snaps) (stations ++ station ∷ [])) (sym more)
    (subst (λ (xs : List SnapNode). AllBegin R 0 (take n plan.nodes ++ node ∷ []) xs (stations ++ station ∷ [])) (sym (take-more snaps n d snap within here))
    (begin-more R 0 n (take n plan.nodes) (take n snaps) stations node snap station all place begins))

pub tracks-grow : (slot i : ℕ) (links : List LinkPlan) (logs : List LogRec) (tracks : List Track) (link d : LinkPlan) (there again : LogRec) (to fro : Track)
    → AllBegin (LinkBegins slot) 0 (link_arcs (take i links)) (take (length tracks) logs) tracks → i < length links → length tracks + 1 < length logs
    → get_or links i d ≡ link → get_or logs (length tracks) there ≡ there → get_or logs (length tracks + 1) again ≡ again
    → TrackBegins slot link.a link.a_end link.b link.delay there.entries to → TrackBegins slot link.b link.b_end link.a link.delay again.entries fro
    → AllBegin (LinkBegins slot) 0 (link_arcs (take (i + 1) links)) (take (length ((tracks ++ to ∷ []) ++ fro ∷ [])) logs) ((tracks ++ to ∷ []) ++ fro ∷ [])
tracks-grow slot i links logs tracks link d there again to fro all inside within here first second t f =
    let R = LinkBegins slot in
    let n = length tracks in
    let ds = link_arcs (take i links) in
    let count : n ≡ length ds = begin-length R 0 ds (take n logs) tracks all in
    let longer : length ((tracks ++ to ∷ []) ++ fro ∷ []) ≡ n + 1 + 1 = omega (arith, length-more (tracks ++ to ∷ []) fro, length-more tracks to) in
    let arcs_more = ap link_arcs (take-more links i d link inside here) ∙ arcs-append (take i links) link in
    let one =
    subst (λ (xs : List LogRec). AllBegin R 0 (ds ++ forth link ∷ []) xs (tracks ++ to ∷ [])) (sym (take-more logs n there there (omega (arith, within)) first))
    (begin-more R 0 n ds (take n logs) tracks (forth link) there to all (omega (arith, count)) (record { begins = t; joins = refl })) in
    let two =
    subst (λ (xs : List LogRec). AllBegin R 0 ((ds ++ forth link ∷ []) ++ back link ∷ []) xs ((tracks ++ to ∷ []) ++ fro ∷ [])) (sym (take-more logs (n + 1) again again within second))
    (begin-more R 0 (n + 1) (ds ++ forth link ∷ []) (take (n + 1) logs) (tracks ++ to ∷ []) (back link) again fro one (omega (arith, count, length-more ds (forth link))) (record { begins = f; joins = refl })) in
    subst (λ (m : ℕ). AllBegin R 0 (link_arcs (take (i + 1) links)) (take m logs) ((tracks ++ to ∷ []) ++ fro ∷ [])) (sym longer)
    (subst (λ (xs : List Arc). AllBegin R 0 xs (take (n + 1 + 1) logs) ((tracks ++ to ∷ []) ++ fro ∷ [])) (sym arcs_more) two)

pub wires-grow : (slot j : ℕ) (cores : List CoreRec) (plans : List WirePlan) (logs : List LogRec) (wires : List Wire) (plan d : WirePlan) (log e : LogRec) (wire : Wire)
    → AllBegin (WireBeginsBy slot cores) 0 (take j plans) (take j logs) wires → j < length plans → j < length logs → get_or plans j d ≡ plan → get_or logs j e ≡ log → WireBeginsBy slot cores j plan log wire
    → AllBegin (WireBeginsBy slot cores) 0 (take (j + 1) plans) (take (j + 1) logs) (wires ++ wire ∷ [])
wires-grow slot j cores plans logs wires plan d log e wire all inside within here there begins =
    let R = WireBeginsBy slot cores in
    let place : j ≡ 0 + length (take j plans) = omega (arith, inside, length-take j plans) in
    subst (λ (xs : List WirePlan). AllBegin R 0 xs (take (j + 1) logs) (wires ++ wire ∷ [])) (sym (take-more plans j d plan inside here))
    (subst (λ (xs : List LogRec). AllBegin R 0 (take j plans ++ plan ∷ []) xs (wires ++ wire ∷ [])) (sym (take-more logs j e log within there))
    (begin-more R 0 j (take j plans) (take j logs) wires plan log wire all place begins))

-- and have all items
pub stations-whole : (plan : PlanRec) (slot n : ℕ) (snaps : List SnapNode) (stations : List Station) → length plan.nodes ≤ n → length snaps ≡ length plan.nodes
    → AllBegin (StationBegins plan slot) 0 (take n plan.nodes) (take n snaps) stations → AllBegin (StationBegins plan slot) 0 plan.nodes snaps stations
stations-whole plan slot n snaps stations all many begin =
    subst (λ (xs : List NodePlan). AllBegin (StationBegins plan slot) 0 xs snaps stations) (take_all n plan.nodes all)
    (subst (λ (xs : List SnapNode). AllBegin (StationBegins plan slot) 0 (take n plan.nodes) xs stations) (take_all n snaps (omega (arith, all, many))) begin)

pub links-whole : (slot i : ℕ) (links : List LinkPlan) (logs : List LogRec) (tracks : List Track) → length links ≤ i → AllBegin (LinkBegins slot) 0 (link_arcs (take i links)) (take (length tracks) logs) tracks
    → AllBegin (LinkBegins slot) 0 (link_arcs links) (take (length (link_arcs links)) logs) tracks
links-whole slot i links logs tracks all begin =
    let whole =
    subst (λ (ls : List LinkPlan). AllBegin (LinkBegins slot) 0 (link_arcs ls) (take (length tracks) logs) tracks) (take_all i links all) begin in
    subst (λ (m : ℕ). AllBegin (LinkBegins slot) 0 (link_arcs links) (take m logs) tracks) (begin-length (LinkBegins slot) 0 (link_arcs links) (take (length tracks) logs) tracks whole) whole

pub wires-whole : (slot j : ℕ) (cores : List CoreRec) (plans : List WirePlan) (logs : List LogRec) (wires : List Wire) → length plans ≤ j → length logs ≡ length plans
    → AllBegin (WireBeginsBy slot cores) 0 (take j plans) (take j logs) wires → AllBegin (WireBeginsBy slot cores) 0 plans logs wires
wires-whole slot j cores plans logs wires all many begin =
    subst (λ (xs : List WirePlan). AllBegin (WireBeginsBy slot cores) 0 xs logs wires) (take_all j plans all)
    (subst (λ (xs : List LogRec). AllBegin (WireBeginsBy slot cores) 0 (take j plans) xs wires) (take_all j logs (omega (arith, all, many))) begin)

-- so have copies of entries
pub copied-more : (es got : List Entry) (i : ℕ) (d : Entry) (all : List Entry) → i < length es → all ≡ got ++ get_or es i d ∷ [] → got ≡ take i es → all ≡ take (i + 1) es
copied-more es got i d all inside more so_far = more ∙ ap (λ xs. xs ++ get_or es i d ∷ []) so_far ∙ sym (take_more es i d inside)
