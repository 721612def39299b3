use Rattle.std.proofs.Common.{◌≡◌, ◌+◌, ◌-◌, ◌*◌, length, ap, subst, arith}
use Rattle.xs_base.specs.Numbers.{LinkNumber}
use Rattle.sys_plan.specs.declared.LinkPlan.{LinkPlan}
use Rattle.sys_plan.specs.Plan.{link_arcs}
use Rattle.sys_plan.proofs.Arcs.{arcs_length}
use Rattle.sys_plan.proofs.Told.{arcs-count}
use Rattle.plan_routes.specs.Routes.{IsRouteOf}
use Rattle.plan_routes.proofs.route.route_of.Goals as goal

pub route_of_link-requires : goal.route_of_link-requires
route_of_link-requires c = record {
  link = omega (arith, c.if-number-directed.true, arcs_length c.args.plan.now.links, ap (length {A = LinkPlan}) c.links.ensures.value);
}

pub route_of_wire-requires : goal.route_of_wire-requires
route_of_wire-requires c =
    let plan = c.args.plan.now in
    record {
      wire = omega (arith, c.if-number-directed.false, c.requires.link, arcs-count plan, arcs_length plan.links, ap (length {A = LinkPlan}) c.links.ensures.value);
    }

pub returns-else-number-directed : goal.returns-else-number-directed
returns-else-number-directed c =
    let plan = c.args.plan.now in
    let number : length (link_arcs plan.links) + (c.args.link - 2 * length c.links.result.now) ≡ c.args.link
    = omega (arith, c.if-number-directed.false, arcs_length plan.links, ap (length {A = LinkPlan}) c.links.ensures.value) in
    record { route = subst (λ (k : LinkNumber). IsRouteOf plan k c.route_of_wire.result) number c.route_of_wire.ensures.route }
