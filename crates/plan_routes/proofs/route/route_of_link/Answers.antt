use Rattle.std.proofs.Common.{length, ap, arith}
use Rattle.sys_plan.specs.declared.LinkPlan.{LinkPlan}
use Rattle.sys_plan.proofs.Arcs.{arcs_length}
use Rattle.plan_routes.proofs.Ways.{leads_forth, leads_back}
use Rattle.plan_routes.proofs.route.route_of_link.Goals as goal

pub offset_bounds-links-link : goal.offset_bounds-links-link
offset_bounds-links-link c = omega (arith, c.requires.link, arcs_length c.args.plan.now.links, ap (length {A = LinkPlan}) c.links.ensures.value, c.links.type_inv)

pub bounds-links-link : goal.bounds-links-link
bounds-links-link c = omega (arith, c.requires.link, arcs_length c.args.plan.now.links, ap (length {A = LinkPlan}) c.links.ensures.value)

pub returns-then-link-eq0 : goal.returns-then-link-eq0
returns-then-link-eq0 c = record {
  route = leads_forth c.args.plan.now c.links.ensures.plan c.links.result.now c.links.ensures.value c.args.link (record { a = 0; a_end = 0; b = 0; b_end = 0; delay = 0; gap = 0; net = 0 }) c.requires.link c.if-link-eq0.true;
}

pub returns-else-link-eq0 : goal.returns-else-link-eq0
returns-else-link-eq0 c = record {
  route = leads_back c.args.plan.now c.links.ensures.plan c.links.result.now c.links.ensures.value c.args.link (record { a = 0; a_end = 0; b = 0; b_end = 0; delay = 0; gap = 0; net = 0 }) c.requires.link c.if-link-eq0.false;
}
