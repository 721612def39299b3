-- Where a directed link leads, and what a plan says of a node.
use Rattle.std.proofs.Common.{ℕ, zero, suc, ◌≡◌, ◌<◌, Some, List, [], ◌∷◌, ◌++◌, length, map, get_or, slice_get, sym, ap, ◌∙◌, arith}
use Rattle.std.specs.List.{AllByRecursion}
use Rattle.sys_plan.specs.declared.LinkPlan.{LinkPlan}
use Rattle.sys_plan.specs.declared.NodePlan.{NodePlan}
use Rattle.sys_plan.specs.Plan.{PlanRec, Arc, IsPlan, IsLink, link_arcs, wire_arcs}
use Rattle.sys_plan.proofs.Arcs.{arcs_length}
use Rattle.plan_routes.specs.declared.route.Route.{Route}
use Rattle.plan_routes.specs.Routes.{IsRouteOf}
use Rattle.rank_model.specs.Next.{link_count, no_arc, arc_at, id_at, ways_at, nets_at}
use Rattle.rank_model.specs.Verdicts.{number_at}
use Rattle.route_ranks.specs.Links.{IsLinkRoute}

-- ---- Directed links

-- directed links come first among the arcs
among_first : (ds ws : List Arc) (k : ℕ) (d arc : Arc) → k < length ds → slice_get (ds ++ ws) k ≡ Some arc → get_or ds k d ≡ arc
among_first [] ws k d arc below here = absurd (omega arith)
among_first (x ∷ ds) ws zero d arc below here = cc
among_first (x ∷ ds) ws (suc k) d arc below here = among_first ds ws k d arc (omega arith) here

-- they leave by link ends
few_ends : (n : ℕ) (links : List LinkPlan) (k : ℕ) → AllByRecursion (IsLink n) links → (get_or (link_arcs links) k no_arc).from_end < 8
few_ends n [] k all = omega arith
few_ends n (link ∷ links) zero all = all.0.a_end
few_ends n (link ∷ links) (suc zero) all = all.0.b_end
few_ends n (link ∷ links) (suc (suc k)) all = few_ends n links k all.1

pub is_link_route : (plan : PlanRec) (is : IsPlan plan) (link : ℕ) (r : Route) → link < link_count plan → IsRouteOf plan link r → IsLinkRoute plan link r
is_link_route plan is link r within route =
    let here : arc_at plan link ≡ route.arc = among_first (link_arcs plan.links) (wire_arcs [] plan.wires) link no_arc route.arc (omega (arith, within, arcs_length plan.links)) route.here in
    let end : r.from_end ≡ (arc_at plan link).from_end = route.from_end ∙ ap (λ (a : Arc). a.from_end) (sym here) in
    record {
      from = route.from ∙ ap (λ (a : Arc). a.from) (sym here);
      from_end = end;
      to = route.to ∙ ap (λ (a : Arc). a.to) (sym here);
      from_there = route.from_there;
      to_there = route.to_there;
      within = omega (arith, end, few_ends (length plan.nodes) plan.links link is.links);
    }

-- ---- Nodes

at_place : {Y : Type 0} (f : NodePlan → Y) (nodes : List NodePlan) (v : ℕ) (node : NodePlan) (d : Y) → v < length nodes → node ≡ get_or nodes v node → get_or (map f nodes) v d ≡ f node
at_place f [] v node d there is = absurd (omega arith)
at_place f (n ∷ nodes) zero node d there is = ap f (sym is)
at_place f (n ∷ nodes) (suc v) node d there is = at_place f nodes v node d (omega arith) is

-- what a plan says of the node at a position, which is read among these nodes
module _ (plan : PlanRec) (nodes : List NodePlan) (are : nodes ≡ plan.nodes) (v : ℕ) (node : NodePlan) (there : v < length plan.nodes) (is : node ≡ get_or nodes v node) where
  read : node ≡ get_or plan.nodes v node
  read = is ∙ ap (λ (ns : List NodePlan). get_or ns v node) are

  pub id_is : id_at plan v ≡ node.id
  id_is = at_place (λ (n : NodePlan). n.id) plan.nodes v node 0 there read

  pub id_there : (w : ℕ) → v ≡ w → (get_or nodes v node).id ≡ id_at plan w
  id_there w same = ap (λ (n : NodePlan). n.id) (sym is) ∙ sym id_is ∙ ap (id_at plan) same

  pub ways_are : ways_at plan v ≡ node.ways
  ways_are = at_place (λ (n : NodePlan). n.ways) plan.nodes v node [] there read

  pub nets_are : nets_at plan v ≡ node.nets
  nets_are = at_place (λ (n : NodePlan). n.nets) plan.nodes v node [] there read

  pub number_is : number_at plan v ≡ node.number
  number_is = at_place (λ (n : NodePlan). n.number) plan.nodes v node 0 there read
