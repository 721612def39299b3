use Rattle.std.proofs.Common.{◌≡◌, List, [], ◌∷◌, ◌++◌, length, sym, ap, subst, ◌∙◌}
use Rattle.std.specs.List.{AllZip}
use Rattle.std.proofs.lemmas.Iterator.Adapters.{YieldsList-from_vec}
use Rattle.std.proofs.lemmas.Iterator.Consumers.{YieldsList-end}
use Rattle.trace_lines.specs.Kept.{KeptEvents, Keeps}
use Rattle.serial_model.specs.Serial.{serial}
use Rattle.node_runners.specs.Runner.{RunnerRec}
use Rattle.finished_runs.specs.Limit.{AtLimitRec}
use Rattle.finished_runs.proofs.AtLimit.{KeepsOf, zip_push, map-itself, kept_count, all_kept}
use Rattle.finished_runs.proofs.runners.Runners.into_events.Goals as goal

pub loop-runner-preserved : goal.loop-runner-preserved
loop-runner-preserved c =
    let before = c.loop-runner.all.items in
    let pushed : c.push.new.self.items ≡ before ++ c.into_events.result ∷ [] = c.in_ok-push.ensures.items in
    subst (λ (kept : List KeptEvents). AllZip KeepsOf (c.loop-runner.yielded ++ c.in-Some.runner ∷ []) kept) (sym pushed)
    (zip_push KeepsOf c.loop-runner.yielded before c.in-Some.runner c.into_events.result c.loop-runner.invariant c.into_events.ensures.keeps)

pub returns : goal.returns
returns c =
    let g = c.self.inside in
    let plan = g.plan.value in
    let gives = c.into_iter-runner-iterator.ensures.into_iter_gives in
    let road = YieldsList-from_vec {s = c.into_iter-runner-iterator.result} g.runners.items gives.0 (gives.1 ∙ g.runners.ok.0) in
    let end = YieldsList-end road c.loop-runner.yielded c.loop-runner.runner-iterator c.loop-runner.yielded_by c.next.result c.next.new.self c.in-None.is c.next.ensures.steps in
    let all : AllZip KeepsOf g.runners.items c.loop-runner.all.items =
    subst (λ (rs : List RunnerRec). AllZip KeepsOf rs c.loop-runner.all.items) (sym (map-itself c.loop-runner.yielded) ∙ end.0) c.loop-runner.invariant in
    record {
      keeps =
          subst (λ (v : AtLimitRec). AllZip Keeps c.loop-runner.all.items (serial v.plan v.limit).events) c.self.view_is
          (all_kept plan g.limit g.runners.items g.totals.items c.self.invariant.at_limit c.loop-runner.all.items all);
      nodes =
          kept_count plan g.limit g.runners.items g.totals.items c.self.invariant.at_limit c.loop-runner.all.items all
          ∙ ap (λ (v : AtLimitRec). length v.plan.nodes) c.self.view_is;
    }
