use Rattle.std.proofs.Common.{◌≡◌, List, get_or, ap, ◌∙◌}
use Rattle.sys_plan.specs.declared.NodePlan.{NodePlan}
use Rattle.xs1_top.proofs.Links.{is_arc, link_end_is, appended}
use Rattle.xs1_top.proofs.routes.append_link.Goals as goal

pub route_of-route-requires : goal.route_of-route-requires
route_of-route-requires c = record { link = is_arc c.args.plan.now c.args.link c.requires }

pub returns : goal.returns
returns c =
    let plan = c.args.plan.now in
    let route = c.route_of-route.result in
    let node = c.index-nodes-route.result in
    let item : node ≡ get_or plan.nodes route.from node = c.index-nodes-route.is ∙ ap (λ (xs : List NodePlan). get_or xs route.from node) c.nodes.ensures.value in
    appended c.append_link_end.result _ _ _ _ _ _ c.in_ok-append.ensures.ok c.append_link_end.ensures
    (link_end_is plan c.nodes.ensures.plan c.args.link route node c.requires c.route_of-route.ensures.route item)
