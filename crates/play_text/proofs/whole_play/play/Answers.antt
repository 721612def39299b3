use Rattle.std.proofs.Common.{◌≡◌, ◌++◌, List, ℕ, length, map, ap, sym, subst, ◌∙◌}
use Rattle.std.specs.Prelude.{codes}
use Rattle.std.specs.List.{AllByRecursion, flat_map}
use Rattle.sys_plan.specs.declared.NodePlan.{NodePlan}
use Rattle.sys_plan.specs.Plan.{PlanRec}
use Rattle.play_model.specs.Play.{played}
use Rattle.play_model.specs.PlayText.{play_text, played_lines}
use Rattle.run_drive.specs.Played.{line_of}
use Rattle.play_text.specs.Steps.{IsOfNodes}
use Rattle.play_text.proofs.StepsOfLines.{lines_of_nodes}
use Rattle.play_text.proofs.whole_play.play.Goals as goal

pub append_steps-requires : goal.append_steps-requires
append_steps-requires c =
    let plan = c.args.plan.now in
    let limit = c.args.played.now.limit in
    let lines = c.lines.result.now in
    let told : map line_of lines ≡ played plan limit = c.lines.ensures.value ∙ ap (λ (p : PlanRec). played p limit) c.requires.plan in
    record {
      nodes = subst (λ (nodes : List NodePlan). AllByRecursion (IsOfNodes (length nodes)) lines) (sym c.nodes-nodes.ensures.value)
          (lines_of_nodes plan limit lines c.nodes-nodes.ensures.plan.steps told);
    }

pub returns : goal.returns
unfolding play_text
returns c =
    let plan = c.args.plan.now in
    let limit = c.args.played.now.limit in
    let lines = c.lines.result.now in
    let told : map line_of lines ≡ played plan limit = c.lines.ensures.value ∙ ap (λ (p : PlanRec). played p limit) c.requires.plan in
    let shown : c.append_steps.new.out ≡ flat_map (played_lines plan.nodes) (played plan limit) =
    c.in_ok-append_steps.ensures ∙ (ap (λ (t : List ℕ). t ++ flat_map (played_lines c.nodes-nodes.result.now) (map line_of lines)) c.new-out.ensures.empty
    ∙ (ap (λ (nodes : List NodePlan). flat_map (played_lines nodes) (map line_of lines)) c.nodes-nodes.ensures.value
    ∙ ap (flat_map (played_lines plan.nodes)) told)) in
    record { text = c.in_ok-append.ensures.ok ∙ ap (λ (t : List ℕ). t ++ codes "end play\n") shown }
