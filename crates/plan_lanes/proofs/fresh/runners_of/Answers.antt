use Rattle.std.proofs.Common.{◌≡◌, ℕ, ◌+◌, [], ◌∷◌, ◌++◌, length, sym, ap, ◌∙◌, subst, arith}
use Rattle.std.proofs.lemmas.List.{length_push}
use Rattle.node_runners.specs.Runner.{RunnerRec, new_runner}
use Rattle.plan_lanes.specs.Lanes.{AllAt}
use Rattle.plan_lanes.proofs.Places.{all_at_push}
use Rattle.plan_lanes.proofs.fresh.runners_of.Goals as goal

pub loop-n-preserved : goal.loop-n-preserved
loop-n-preserved c =
    let IsNew : ℕ → RunnerRec → Type 0 = λ n r. r ≡ new_runner c.args.plan.now c.args.limit n in
    let before = c.loop-n.runners.items in
    let pushed : c.push.new.self.items ≡ before ++ c.in_ok-runner.runner ∷ [] = c.in_ok-push.ensures.items in
    let here : c.in_ok-runner.runner ≡ new_runner c.args.plan.now c.args.limit (length before) =
    c.in_ok-runner.ensures.new ∙ ap (new_runner c.args.plan.now c.args.limit) (sym c.loop-n.invariant.count) in
    record {
      count = omega (arith, ap (length {A = RunnerRec}) pushed, length_push before c.in_ok-runner.runner, c.loop-n.invariant.count);
      start = subst (AllAt IsNew) (sym pushed) (all_at_push IsNew before c.in_ok-runner.runner c.loop-n.invariant.start here);
    }
