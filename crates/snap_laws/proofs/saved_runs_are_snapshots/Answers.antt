use Rattle.std.proofs.Common.{List, subst}
use Rattle.sys_plan.specs.declared.NodePlan.{NodePlan}
use Rattle.range_laws.specs.Ranges.{AreRunnable}
use Rattle.snap_laws.proofs.Whole.{saved_is_read}
use Rattle.snap_laws.proofs.saved_runs_are_snapshots.Goals as goal

pub returns : goal.returns
returns c =
    let plan = c.args.plan.now in
    let is = c.keeps.ensures.plan in
    let runs : AreRunnable plan.nodes = subst (λ (nodes : List NodePlan). AreRunnable nodes) c.nodes.ensures.value c.nodes_are_runnable.ensures.all in
    record {
      read =
          saved_is_read c.numbers_of_runs_fit.ensures.numbers c.numbers_of_runs_fit.ensures.tokens c.saved_parts_are_those_of_the_run.ensures.whole
          c.saved_counts_are_small.ensures.events c.saved_nodes_may_be_kept.ensures.nodes c.saved_links_may_be_kept.ensures.links
          c.saved_wires_may_be_kept.ensures.wires c.nodes_have_the_form.ensures.fits c.snaps_are_short.ensures.most c.snaps_are_lawful.ensures.read
          plan is runs;
      goes_on = λ slot slots later. c.saved_runs_are_whole.ensures.rest plan slot slots is runs later;
    }
