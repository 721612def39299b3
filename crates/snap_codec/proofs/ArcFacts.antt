-- The directed links and wires of a snapshot are what a run asks for that goes on from it.
use Rattle.std.proofs.Common.{◌≡◌, ◌<◌, ◌^◌, ℕ, zero, suc, List, [], ◌∷◌, ◌++◌, length, map, drop, get_or, refl, sym, ap, subst, ◌∙◌, arith}
use Rattle.std.specs.Prelude.{Some, None}
use Rattle.std.specs.List.{AllByRecursion}
use Rattle.std.proofs.lemmas.List.{length_push}
use Rattle.xs_base.specs.Ids.{port_width}
use Rattle.xs_base.specs.Numbers.{Slot}
use Rattle.sys_plan.specs.declared.LinkPlan.{LinkPlan}
use Rattle.sys_plan.specs.declared.WirePlan.{WirePlan}
use Rattle.sys_plan.specs.Plan.{PlanRec, Arc, link_arcs, wire_arcs, arcs}
use Rattle.snap_parts.specs.declared.node.SnapNode.{SnapNode}
use Rattle.snap_parts.specs.InFlight.{AreLinkEntries}
use Rattle.snap_parts.specs.declared.log.SnapLog.{SnapLog}
use Rattle.snap_parts.specs.Parts.{LogRec, BodyRec, seen}
use Rattle.snap_parts.specs.Snaps.{AreOnArcs, IsSnapSystem}
use Rattle.byte_forms.specs.Forms.{HoldInChain}
use Rattle.log_forms.specs.InFlight.{IsWireLog}
use Rattle.log_forms.proofs.LinkFacts.{link_facts}
use Rattle.log_forms.proofs.WireFacts.{wire_facts}
use Rattle.snap_codec.specs.Body.{ends_of, link_pair, link_at, wire_at, pair_after, wire_after, by_number, in_pairs, links, body}
use Rattle.snap_codec.proofs.Bodies.{parts_of}
use Rattle.snap_codec.proofs.NodeFacts.{nodes_are}

-- ---- Elements at the front of what is left

pub front_at : {X : Type 0} (xs : List X) (i : ℕ) (x : X) (rest : List X) (d : X) → drop i xs ≡ x ∷ rest → get_or xs i d ≡ x
front_at [] zero x rest d e = absurd cc
front_at [] (suc i) x rest d e = absurd cc
front_at (y ∷ xs) zero x rest d e = cc
front_at (y ∷ xs) (suc i) x rest d e = front_at xs i x rest d e

pub rest_at : {X : Type 0} (xs : List X) (i : ℕ) (x : X) (rest : List X) → drop i xs ≡ x ∷ rest → drop (suc i) xs ≡ rest
rest_at [] zero x rest e = absurd cc
rest_at [] (suc i) x rest e = absurd cc
rest_at (y ∷ xs) zero x rest e = cc
rest_at (y ∷ xs) (suc i) x rest e = rest_at xs i x rest e

-- ---- Links

record IsPair (slot : Slot) (link : LinkPlan) (p : LogRec × LogRec) : Type 0 where
  forth : AreLinkEntries slot link.delay p.0.entries
  back : AreLinkEntries slot link.delay p.1.entries
  forth_few : length p.0.entries < 2 ^ 32
  back_few : length p.1.entries < 2 ^ 32

pair_is : (slot : Slot) (all : List SnapNode) (link : LinkPlan) (p : LogRec × LogRec) → (link_pair slot all link).Holds p → IsPair slot link p
unfolding link_pair
pair_is slot all link p h =
    let f = link_facts slot link.delay None p.0 h.0 in
    let b = link_facts slot link.delay (Some (ends_of all link p.0)) p.1 h.1 in
    record { forth = f.entries; back = b.entries; forth_few = f.count; back_few = b.count }

abbrev pub AreFew : List LogRec → Type 0
AreFew logs = AllByRecursion (λ (log : LogRec). length log.entries < 2 ^ 32) logs

module _ (plan : PlanRec) (slot : Slot) (all : List SnapNode) where
  pairs_on : (given : List LinkPlan) (before ps : List (LogRec × LogRec)) → drop (length before) plan.links ≡ given → length ps ≡ length given
      → HoldInChain (pair_after plan slot all) before ps → AreOnArcs slot (link_arcs given) (by_number ps)
  unfolding HoldInChain
  pairs_on [] before [] at len h = tt
  pairs_on [] before (p ∷ ps) at len h = absurd (omega (arith, len))
  pairs_on (link ∷ given) before [] at len h = absurd (omega (arith, len))
  pairs_on (link ∷ given) before (p ∷ ps) at len h =
      let here : link_at plan.links (length before) ≡ link = front_at plan.links (length before) link given _ at in
      let is = subst (λ (l : LinkPlan). IsPair slot l p) here (pair_is slot all (link_at plan.links (length before)) p h.0) in
      let next : length (before ++ p ∷ []) ≡ suc (length before) = omega (arith, length_push before p) in
      let at' = ap (λ (n : ℕ). drop n plan.links) next ∙ rest_at plan.links (length before) link given at in
      (is.forth, (is.back, pairs_on given (before ++ p ∷ []) ps at' (omega (arith, len)) h.1))

  pairs_few : (before ps : List (LogRec × LogRec)) → HoldInChain (pair_after plan slot all) before ps → AreFew (by_number ps)
  unfolding HoldInChain
  pairs_few before [] h = tt
  pairs_few before (p ∷ ps) h =
      let is = pair_is slot all (link_at plan.links (length before)) p h.0 in
      (is.forth_few, (is.back_few, pairs_few (before ++ p ∷ []) ps h.1))

  links_on : (logs : List LogRec) → (links plan slot all).Holds logs → AreOnArcs slot (link_arcs plan.links) logs
  links_on logs h = subst (λ (ls : List LogRec). AreOnArcs slot (link_arcs plan.links) ls) h.1 (pairs_on plan.links [] (in_pairs logs) refl h.0.0 h.0.1)

  links_few : (logs : List LogRec) → (links plan slot all).Holds logs → AreFew logs
  links_few logs h = subst AreFew h.1 (pairs_few [] (in_pairs logs) h.0.1)

-- ---- Wires

module _ (plan : PlanRec) (slot : Slot) where
  wires_on : (earlier given : List WirePlan) (before ws : List LogRec) → drop (length before) plan.wires ≡ given → length ws ≡ length given
      → HoldInChain (wire_after plan slot) before ws → AreOnArcs slot (wire_arcs earlier given) ws
  unfolding HoldInChain
  wires_on earlier [] before [] at len h = tt
  wires_on earlier [] before (w ∷ ws) at len h = absurd (omega (arith, len))
  wires_on earlier (wire ∷ given) before [] at len h = absurd (omega (arith, len))
  wires_on earlier (wire ∷ given) before (w ∷ ws) at len h =
      let named = wire_at plan.wires (length before) in
      let here : wire_at plan.wires (length before) ≡ wire = front_at plan.wires (length before) wire given _ at in
      let is = subst (λ (p : WirePlan). IsWireLog slot p.delay (port_width p.b_port) w) here (wire_facts slot named.delay (port_width named.b_port) w h.0) in
      let next : length (before ++ w ∷ []) ≡ suc (length before) = omega (arith, length_push before w) in
      let at' = ap (λ (n : ℕ). drop n plan.wires) next ∙ rest_at plan.wires (length before) wire given at in
      (record { entries = is.entries; level = is.level }, wires_on (wire ∷ earlier) given (before ++ w ∷ []) ws at' (omega (arith, len)) h.1)

  wires_few : (before ws : List LogRec) → HoldInChain (wire_after plan slot) before ws → AreFew ws
  unfolding HoldInChain
  wires_few before [] h = tt
  wires_few before (w ∷ ws) h =
      let wire = wire_at plan.wires (length before) in
      ((wire_facts slot wire.delay (port_width wire.b_port) w h.0).count, wires_few (before ++ w ∷ []) ws h.1)

-- ---- Both

on_both : (slot : Slot) (ds es : List Arc) (ls ws : List LogRec) → AreOnArcs slot ds ls → AreOnArcs slot es ws → AreOnArcs slot (ds ++ es) (ls ++ ws)
on_both slot [] es [] ws h k = k
on_both slot [] es (l ∷ ls) ws h k = absurd h
on_both slot (d ∷ ds) es [] ws h k = absurd h
on_both slot (d ∷ ds) es (l ∷ ls) ws h k = (h.0, on_both slot ds es ls ws h.1 k)

few_both : (ls ws : List LogRec) → AreFew ls → AreFew ws → AreFew (ls ++ ws)
few_both [] ws h k = k
few_both (l ∷ ls) ws h k = (h.0, few_both ls ws h.1 k)

pub system_is : (plan : PlanRec) (b : BodyRec) → (body plan).Holds b → IsSnapSystem plan b
system_is plan b h =
    let p = parts_of plan b h in
    let on = on_both b.slot (link_arcs plan.links) (wire_arcs [] plan.wires) p.directed p.rest (links_on plan b.slot b.nodes p.directed p.links)
    (wires_on plan b.slot [] plan.wires [] p.rest refl p.wires.0 p.wires.1)
    in
    record {
      nodes = nodes_are plan b.slot b.nodes p.nodes;
      logs = subst (λ (ls : List LogRec). AreOnArcs b.slot (arcs plan) ls) (sym p.logs) on;
    }

-- no directed link and no wire has more entries than their count may say
pub logs_few : (plan : PlanRec) (b : BodyRec) → (body plan).Holds b → AreFew b.logs
logs_few plan b h =
    let p = parts_of plan b h in
    subst AreFew (sym p.logs) (few_both p.directed p.rest (links_few plan b.slot b.nodes p.directed p.links) (wires_few plan b.slot [] p.rest p.wires.1))

pub few_seen : (logs : List SnapLog) → AreFew (map seen logs) → AllByRecursion (λ log. length log.entries.entries < 2 ^ 32) logs
few_seen [] h = tt
few_seen (log ∷ logs) h = (h.0, few_seen logs h.1)
