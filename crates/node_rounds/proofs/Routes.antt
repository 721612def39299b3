-- The node that an arc leaves.
use Rattle.std.proofs.Common.{◌≡◌, ℕ, map, option_map, sym, ap, ◌∙◌}
use Rattle.std.proofs.lemmas.Option.{slice_get-map, get_or_from_slice_get}
use Rattle.sys_plan.specs.Plan.{PlanRec, Arc, arcs}
use Rattle.plan_routes.specs.declared.route.Route.{Route}
use Rattle.plan_routes.specs.Routes.{IsRouteOf}
use Rattle.node_rounds.specs.Rounds.{sender_of}

pub sender : (plan : PlanRec) (link : ℕ) (route : Route) → IsRouteOf plan link route → sender_of plan link ≡ route.from
sender plan link route is =
    let from_of : Arc → ℕ = λ d. d.from in
    get_or_from_slice_get (map from_of (arcs plan)) link is.arc.from 0 (slice_get-map from_of (arcs plan) link ∙ ap (option_map from_of) is.here)
    ∙ sym is.from
