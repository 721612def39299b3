-- The link end that a directed link leaves, by where the arc with its number leads.
use Rattle.std.proofs.Common.{◌≡◌, ℕ, ◌<◌, Some, List, ◌++◌, length, get_or, slice_get, Result, Ok, Err, OnOk, sym, ap, ◌∙◌, append_assoc, arith}
use Rattle.std.specs.Prelude.{codes, decimal}
use Rattle.std.proofs.lemmas.List.{get_or-map}
use Rattle.std.proofs.lemmas.Option.{same_Some, slice_get-get_or}
use Rattle.xs_base.specs.Numbers.{LinkNumber, Position}
use Rattle.sys_plan.specs.declared.NodePlan.{NodePlan}
use Rattle.sys_plan.specs.Plan.{PlanRec, Arc, IsPlan, arc_count, link_arcs}
use Rattle.sys_plan.proofs.Arcs.{arcs_length}
use Rattle.sys_plan.proofs.Routes.{link-arc}
use Rattle.sys_plan.proofs.Told.{arcs-count}
use Rattle.plan_routes.specs.declared.route.Route.{Route}
use Rattle.plan_routes.specs.Routes.{IsRouteOf}
use Rattle.rank_model.specs.Next.{link_count, no_arc, arc_at}
use Rattle.rank_model.specs.Verdicts.{number_at}
use Rattle.answer_model.specs.RoutesForm.{link_end_text}

pub is_arc : (plan : PlanRec) (l : LinkNumber) → l < link_count plan → l < arc_count plan
is_arc plan l there = omega (arith, there, arcs-count plan, arcs_length plan.links)

arc_is : (plan : PlanRec) → IsPlan plan → (l : LinkNumber) (r : Route) → l < link_count plan → (route : IsRouteOf plan l r) → route.arc ≡ arc_at plan l
arc_is plan is l r there route =
    let here : slice_get (link_arcs plan.links) l ≡ Some (arc_at plan l) = slice_get-get_or (link_arcs plan.links) l no_arc (omega (arith, there, arcs_length plan.links)) in
    same_Some _ _ (sym route.here ∙ link-arc plan is l (arc_at plan l) here)

number_is : (plan : PlanRec) (v : Position) (node : NodePlan) → v < length plan.nodes → node ≡ get_or plan.nodes v node → number_at plan v ≡ node.number
number_is plan v node there item = get_or-map (λ (n : NodePlan). n.number) plan.nodes v node 0 there ∙ ap (λ (n : NodePlan). n.number) (sym item)

-- what the link end is by the route and the node that it leaves
pub link_end_is : (plan : PlanRec) → IsPlan plan → (l : LinkNumber) (r : Route) (node : NodePlan) → l < link_count plan → IsRouteOf plan l r
    → node ≡ get_or plan.nodes r.from node → codes " " ++ (decimal node.number ++ (codes ":" ++ decimal r.from_end)) ≡ link_end_text plan l
link_end_is plan is l r node there route item =
    let arc = arc_is plan is l r there route in
    let from : r.from ≡ (arc_at plan l).from = route.from ∙ ap (λ (a : Arc). a.from) arc in
    let end : r.from_end ≡ (arc_at plan l).from_end = route.from_end ∙ ap (λ (a : Arc). a.from_end) arc in
    let number : node.number ≡ number_at plan (arc_at plan l).from = sym (number_is plan r.from node route.from_there item) ∙ ap (number_at plan) from in
    ap (λ n. codes " " ++ (decimal n ++ (codes ":" ++ decimal r.from_end))) number
    ∙ ap (λ e. codes " " ++ (decimal (number_at plan (arc_at plan l).from) ++ (codes ":" ++ decimal e))) end

-- a text with a piece at its end, and another after it
pub appended : {T E : Type 0} (r : Result T E) (old mid new piece rest text : List ℕ) → mid ≡ old ++ piece → OnOk r (new ≡ mid ++ rest) → piece ++ rest ≡ text
    → OnOk r (new ≡ old ++ text)
appended (Ok done) old mid new piece rest text first second is = second ∙ (ap (λ t. t ++ rest) first ∙ (append_assoc old piece rest ∙ ap (λ t. old ++ t) is))
appended (Err e) old mid new piece rest text first second is = tt
