use Rattle.std.proofs.Common.{◌<◌, ◌^◌, List, subst, arith}
use Rattle.std.specs.List.{AllByRecursion}
use Rattle.snap_parts.specs.declared.node.SnapNode.{SnapNode}
use Rattle.snap_parts.specs.Parts.{LogRec}
use Rattle.state_bridge.specs.Fits.{NumbersFit}
use Rattle.saved_laws.specs.Bytes.{CarryBytes}
use Rattle.snap_run.proofs.Snapshots.{body_holds, text_holds}
use Rattle.snap_run.proofs.savable.saved_is_a_snapshot.Goals as goal

pub returns : goal.returns
returns c =
    let plan = c.args.plan.now in
    let slot = c.args.slot in
    let small : slot < 2 ^ 32 = omega arith in
    let bytes = subst (λ (logs : List LogRec). AllByRecursion (λ (log : LogRec). CarryBytes log.entries) logs) c.requires.logs c.logs_carry_bytes.ensures.bytes in
    let fits = subst (λ (nodes : List SnapNode). AllByRecursion (λ (node : SnapNode). NumbersFit node.state) nodes) c.requires.nodes c.nodes_fit.ensures.fit in
    record {
      snap = record {
        system = c.requires.text;
        text = text_holds c.args.text.now plan c.requires.text c.bytes_are.ensures.bytes;
        body =
            body_holds plan slot c.keeps.ensures.plan small c.saved_parts_are_those_of_the_run.ensures.whole c.saved_links_may_be_kept.ensures.links
            c.saved_wires_may_be_kept.ensures.wires bytes c.nodes_have_the_form.ensures.fits c.saved_counts_are_small.ensures.events c.saved_nodes_may_be_kept.ensures.nodes
            c.code_is_in_range.ensures.range fits;
      };
    }
