-- Where the arc with a number leads.
use Rattle.std.proofs.Common.{◌≡◌, ◌≢◌, ℕ, zero, suc, ◌+◌, ◌*◌, ◌/◌, ◌%◌, ◌<◌, true, false, Some, List, [], ◌∷◌, ◌++◌, length, take, get_or, slice_get, refl, sym, ap, ◌∙◌, arith, inl, inr}
use Rattle.std.specs.Prelude.{◌==◌}
use mathlib.Core.Logic.{◌⊎◌}
use Rattle.std.proofs.lemmas.Bool.{cases_Bool}
use Rattle.xs_base.specs.Numbers.{LinkNumber}
use Rattle.sys_plan.specs.declared.LinkPlan.{LinkPlan}
use Rattle.sys_plan.specs.declared.WirePlan.{WirePlan}
use Rattle.sys_plan.specs.Plan.{PlanRec, Arc, IsPlan, forth, back, arcs, link_arcs, wire_arcs, count_from, count_to}
use Rattle.sys_plan.proofs.Arcs.{arcs_length}
use Rattle.sys_plan.proofs.Wires.{count_at, counts-here, counts-elsewhere}
use Rattle.sys_plan.proofs.Routes.{link-arc, within, outgoing-is, incoming-is}
use Rattle.plan_routes.specs.Routes.{IsRouteOf}

-- an even number leads from the first end of a link to the second, and an odd one back
forth_at : (links : List LinkPlan) (k : LinkNumber) (d : LinkPlan) → k < 2 * length links → k % 2 ≡ 0 → slice_get (link_arcs links) k ≡ Some (forth (get_or links (k / 2) d))
forth_at [] k d below even = absurd (omega arith)
forth_at (link ∷ links) zero d below even = refl
forth_at (link ∷ links) (suc zero) d below even = absurd (omega arith)
forth_at (link ∷ links) (suc (suc k)) d below even =
    let half : suc (suc k) / 2 ≡ suc (k / 2) = omega arith in
    forth_at links k d (omega arith) (omega arith) ∙ ap (λ i. Some (forth (get_or (link ∷ links) i d))) (sym half)

back_at : (links : List LinkPlan) (k : LinkNumber) (d : LinkPlan) → k < 2 * length links → k % 2 ≢ 0 → slice_get (link_arcs links) k ≡ Some (back (get_or links (k / 2) d))
back_at [] k d below odd = absurd (omega arith)
back_at (link ∷ links) zero d below odd = absurd (omega arith)
back_at (link ∷ links) (suc zero) d below odd = refl
back_at (link ∷ links) (suc (suc k)) d below odd =
    let half : suc (suc k) / 2 ≡ suc (k / 2) = omega arith in
    back_at links k d (omega arith) (omega arith) ∙ ap (λ i. Some (back (get_or (link ∷ links) i d))) (sym half)

by_arc : (plan : PlanRec) (is : IsPlan plan) (link : LinkNumber) (arc : Arc) → slice_get (arcs plan) link ≡ Some arc
    → IsRouteOf plan link (record { from = arc.from; from_end = arc.from_end; to = arc.to; to_end = arc.to_end })
by_arc plan is link arc here =
    let ranges = within plan is link arc here in
    record {
      arc = arc;
      here = here;
      from = refl;
      from_end = refl;
      to = refl;
      to_end = refl;
      leaves = outgoing-is plan is link arc here;
      comes = incoming-is plan is link arc here;
      from_there = ranges.from;
      to_there = ranges.to;
      from_inside = ranges.from_end;
      to_inside = ranges.to_end;
    }

-- ---- Of a link

-- links are those of the plan
module _ (plan : PlanRec) (is : IsPlan plan) (links : List LinkPlan) (are : links ≡ plan.links) (k : LinkNumber) (d : LinkPlan) (below : k < length (link_arcs plan.links)) where
  abbrev link : LinkPlan
  link = get_or links (k / 2) d

  few : k < 2 * length links
  few = omega (arith, arcs_length plan.links, ap (length {A = LinkPlan}) are)

  of_a_link : (arc : Arc) → slice_get (link_arcs links) k ≡ Some arc → IsRouteOf plan k (record { from = arc.from; from_end = arc.from_end; to = arc.to; to_end = arc.to_end })
  of_a_link arc found =
      let here : slice_get (link_arcs plan.links) k ≡ Some arc = ap (λ (ls : List LinkPlan). slice_get (link_arcs ls) k) (sym are) ∙ found in
      by_arc plan is k arc (link-arc plan is k arc here)

  pub leads_forth : k % 2 ≡ 0 → IsRouteOf plan k (record { from = link.a; from_end = link.a_end; to = link.b; to_end = link.b_end })
  leads_forth even = of_a_link (forth link) (forth_at links k d few even)

  pub leads_back : k % 2 ≢ 0 → IsRouteOf plan k (record { from = link.b; from_end = link.b_end; to = link.a; to_end = link.a_end })
  leads_back odd = of_a_link (back link) (back_at links k d few odd)

-- ---- Of a wire

-- a wire that was counted with those before it is counted with those after it
moved : (of : WirePlan → ℕ) (node : ℕ) (wire : WirePlan) (earlier wires : List WirePlan) → count_at of node (wire ∷ earlier) + count_at of node wires ≡ count_at of node earlier + count_at of node (wire ∷ wires)
moved of node wire earlier wires = by (cases_Bool (of wire == node))
  where
    by : ((of wire == node) ≡ true) ⊎ ((of wire == node) ≡ false) → count_at of node (wire ∷ earlier) + count_at of node wires ≡ count_at of node earlier + count_at of node (wire ∷ wires)
    by (inl is) = omega (arith, counts-here of node wire earlier is, counts-here of node wire wires is)
    by (inr is) = omega (arith, counts-elsewhere of node wire earlier is, counts-elsewhere of node wire wires is)

-- the arc of a wire before which so many leave its first node, and so many come to its second
abbrev arc_of : WirePlan → ℕ → ℕ → Arc
arc_of wire leave come = record {
  from = wire.a;
  from_end = 8 + leave;
  to = wire.b;
  to_end = 8 + come;
  delay = wire.delay;
  gap = 0;
  joins = Some (record { from_port = wire.a_port; to_port = wire.b_port });
}

wire_at : (earlier wires : List WirePlan) (k : ℕ) (d : WirePlan) → k < length wires →
    let wire = get_or wires k d in
    slice_get (wire_arcs earlier wires) k ≡ Some (arc_of wire (count_from wire.a earlier + count_from wire.a (take k wires)) (count_to wire.b earlier + count_to wire.b (take k wires)))
wire_at earlier [] k d below = absurd (omega arith)
wire_at earlier (wire ∷ wires) zero d below =
    let leave : count_from wire.a earlier ≡ count_from wire.a earlier + 0 = omega arith in
    let come : count_to wire.b earlier ≡ count_to wire.b earlier + 0 = omega arith in
    λ i. Some (arc_of wire (leave i) (come i))
wire_at earlier (wire ∷ wires) (suc k) d below =
    let this = get_or wires k d in
    let leave = moved (λ (w : WirePlan). w.a) this.a wire earlier (take k wires) in
    let come = moved (λ (w : WirePlan). w.b) this.b wire earlier (take k wires) in
    wire_at (wire ∷ earlier) wires k d (omega arith) ∙ (λ i. Some (arc_of this (leave i) (come i)))

after_links : (ds ws : List Arc) (k : ℕ) → slice_get (ds ++ ws) (length ds + k) ≡ slice_get ws k
after_links [] ws k = let none : 0 + k ≡ k = omega arith in ap (slice_get ws) none
after_links (d ∷ ds) ws k =
    let more : length (d ∷ ds) + k ≡ suc (length ds + k) = omega arith in
    ap (slice_get (d ∷ (ds ++ ws))) more ∙ after_links ds ws k

-- wires are those of the plan
module _ (plan : PlanRec) (is : IsPlan plan) (wires : List WirePlan) (are : wires ≡ plan.wires) (k : ℕ) (d : WirePlan) (below : k < length plan.wires) where
  abbrev wire : WirePlan
  wire = get_or wires k d

  pub leads_along : (leave come : ℕ) → leave ≡ count_from wire.a (take k wires) → come ≡ count_to wire.b (take k wires)
      → IsRouteOf plan (length (link_arcs plan.links) + k) (record { from = wire.a; from_end = 8 + leave; to = wire.b; to_end = 8 + come })
  leads_along leave come leave_is come_is =
      let number = length (link_arcs plan.links) + k in
      let leave_all : count_from wire.a [] + count_from wire.a (take k wires) ≡ leave = omega (arith, leave_is) in
      let come_all : count_to wire.b [] + count_to wire.b (take k wires) ≡ come = omega (arith, come_is) in
      let found : slice_get (wire_arcs [] wires) k ≡ Some (arc_of wire leave come)
      = wire_at [] wires k d (omega (arith, below, ap (length {A = WirePlan}) are)) ∙ (λ i. Some (arc_of wire (leave_all i) (come_all i))) in
      let here : slice_get (arcs plan) number ≡ Some (arc_of wire leave come)
      = after_links (link_arcs plan.links) (wire_arcs [] plan.wires) k ∙ ap (λ (ws : List WirePlan). slice_get (wire_arcs [] ws) k) (sym are) ∙ found in
      by_arc plan is number (arc_of wire leave come) here
