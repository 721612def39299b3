use Rattle.std.proofs.Common.{arith}
use Rattle.sys_plan.proofs.Arcs.{arcs_length}
use Rattle.sys_plan.proofs.Told.{arcs-count}
use Rattle.node_rounds.proofs.Handing.{all_handed}
use Rattle.node_rounds.proofs.table.Table.hand_all_on.Goals as goal

pub overflow_cast-link : goal.overflow_cast-link
overflow_cast-link c =
    let plan = c.args.plan.now in
    let is = c.requires.between.plan_is in
    omega (arith, c.loop-link-test.true, c.len-link-end.ensures, c.requires.between.are_at.link_count, arcs-count plan, arcs_length plan.links, is.few_links, is.few_wires)

pub returns : goal.returns
returns c =
    let table = c.args.self.now in
    let now = c.loop-link.self in
    let handed = c.loop-link.invariant.handed in
    record {
      all = (
        c.loop-link.invariant.limit,
        all_handed c.args.plan.now table.limit table.seats.items table.lanes.items c.loop-link.link now.seats.items now.lanes.items handed
            (omega (arith, c.loop-link-test.false, c.loop-link.auto.link-end, c.len-link-end.ensures, c.requires.between.are_at.link_count, handed.between.are_at.link_count)),
      );
    }
