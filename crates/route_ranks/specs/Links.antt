-- Where a directed link leads.
use Rattle.std.specs.Prelude.{◌≡◌, ◌<◌, length}
use Rattle.xs_base.specs.Numbers.{LinkNumber}
use Rattle.sys_plan.specs.Plan.{PlanRec}
use Rattle.plan_routes.specs.declared.route.Route.{Route}
use Rattle.rank_model.specs.Next.{arc_at}

-- the directed link with a number leads from a link end of a node to another node
pub record IsLinkRoute (plan : PlanRec) (link : LinkNumber) (r : Route) : Type 0 where
  pub from : r.from ≡ (arc_at plan link).from
  pub from_end : r.from_end ≡ (arc_at plan link).from_end
  pub to : r.to ≡ (arc_at plan link).to
  pub from_there : r.from < length plan.nodes
  pub to_there : r.to < length plan.nodes
  pub within : r.from_end < 8
