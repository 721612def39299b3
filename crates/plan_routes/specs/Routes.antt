-- From where to where an arc leads.
use Rattle.std.specs.Prelude.{◌≡◌, ◌<◌, Some, length, slice_get}
use Rattle.xs_base.specs.Numbers.{LinkNumber}
use Rattle.sys_plan.specs.declared.system_plan.TheConstants.{ENDS}
use Rattle.sys_plan.specs.Plan.{PlanRec, Arc, arcs, outgoing, incoming}
use Rattle.plan_routes.specs.declared.route.Route.{Route}

-- the arc with a number leads from an end of a node to an end of another
pub record IsRouteOf (plan : PlanRec) (link : LinkNumber) (r : Route) : Type 0 where
  pub arc : Arc
  pub here : slice_get (arcs plan) link ≡ Some arc
  pub from : r.from ≡ arc.from
  pub from_end : r.from_end ≡ arc.from_end
  pub to : r.to ≡ arc.to
  pub to_end : r.to_end ≡ arc.to_end
  -- it is the one that leaves by the one end, and comes to the other
  pub leaves : outgoing plan r.from r.from_end ≡ Some link
  pub comes : incoming plan r.to r.to_end ≡ Some link
  pub from_there : r.from < length plan.nodes
  pub to_there : r.to < length plan.nodes
  pub from_inside : r.from_end < ENDS
  pub to_inside : r.to_end < ENDS
