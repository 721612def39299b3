use Rattle.std.proofs.Common.{arith}
use Rattle.sys_plan.proofs.Arcs.{arcs_length}
use Rattle.sys_plan.proofs.Told.{arcs-count}
use Rattle.route_ranks.proofs.Links.{is_link_route}
use Rattle.route_ranks.proofs.ways.link_route.Goals as goal

pub route_of-requires : goal.route_of-requires
route_of-requires c = record { link = omega (arith, c.requires.within, arcs-count c.args.plan.now, arcs_length c.args.plan.now.links) }

pub returns : goal.returns
returns c = record { route = is_link_route c.args.plan.now c.keeps.ensures.plan c.args.link c.route_of.result c.requires.within c.route_of.ensures.route }
