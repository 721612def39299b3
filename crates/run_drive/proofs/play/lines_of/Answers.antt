use Rattle.std.proofs.Common.{◌≡◌, ◌+◌, ◌<◌, ◌≤◌, List, ◌++◌, length, get_or, drop, map, ap, ◌∙◌, subst}
use Rattle.sys_plan.specs.declared.Step.{Step}
use Rattle.sys_plan.specs.declared.Step.TheVariants.{Take}
use Rattle.sys_plan.specs.Plan.{PlanRec}
use Rattle.play_model.specs.Play.{played, played_from}
use Rattle.run_drive.specs.declared.played.PlayLine.{PlayLine}
use Rattle.run_drive.specs.Played.{line_of}
use Rattle.run_drive.specs.Stages.{schedule_of, Plays}
use Rattle.run_drive.proofs.Lines.{told_all, told_more}
use Rattle.run_drive.proofs.play.lines_of.Goals as goal

pub loop-step-preserved : goal.loop-step-preserved
loop-step-preserved c =
    let plan = c.args.plan.now.value in
    let limit = c.args.limit in
    let i = c.loop-step.step-index in
    let before = c.loop-step.stage in
    let after = c.step.new.self in
    let line = c.in_ok-line.line in
    let lines = c.loop-step.lines.items in
    let own = c.loop-step.invariant in
    let steps_are : c.steps-step-items.result.now ≡ plan.steps = c.steps-step-items.ensures.value ∙ ap (λ (p : PlanRec). p.steps) c.deref.ensures in
    let of_plan = subst (λ (p : PlanRec). Plays p (get_or c.steps-step-items.result.now i (Take 0 0)) before after line) c.deref-in-loop-step.ensures c.in_ok-line.ensures.plays in
    let plays = subst (λ (steps : List Step). Plays plan (get_or steps i (Take 0 0)) before after line) steps_are of_plan in
    let inside = subst (λ (steps : List Step). i < length steps) steps_are c.loop-step-test.true in
    record {
      same_limit = plays.same_limit ∙ own.same_limit;
      is_at = plays.is_at;
      tells =
          ap (λ (ls : List PlayLine). map line_of ls ++ played_from plan limit (schedule_of after) (drop (i + 1) plan.steps)) c.in_ok-push.ensures.items
          ∙ told_more plan limit plan.steps i (Take 0 0) before after lines line (played plan limit) inside plays own.same_limit own.tells;
    }

pub returns : goal.returns
returns c =
    let plan = c.args.plan.now.value in
    let steps_are : c.steps-step-items.result.now ≡ plan.steps = c.steps-step-items.ensures.value ∙ ap (λ (p : PlanRec). p.steps) c.deref.ensures in
    let past = subst (λ (steps : List Step). length steps ≤ c.loop-step.step-index) steps_are c.loop-step-test.false in
    record { told = told_all plan c.args.limit plan.steps c.loop-step.step-index (schedule_of c.loop-step.stage) c.loop-step.lines.items (played plan c.args.limit) past c.loop-step.invariant.tells }
