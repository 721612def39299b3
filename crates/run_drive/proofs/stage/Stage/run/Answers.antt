use Rattle.std.proofs.Common.{[], set, sym, ap, ◌∙◌, subst, refl}
use Rattle.node_runners.specs.Runner.{RunnerRec}
use Rattle.sys_plan.specs.declared.Step.TheVariants.{Run}
use Rattle.plan_lanes.proofs.Steps.{Goes, run_goes}
use Rattle.run_drive.proofs.stage.Stage.run.Goals as goal

pub returns : goal.returns
returns c =
    let plan = c.args.plan.now in
    let stage = c.args.self.now in
    let runners = stage.runners.items in
    let lanes = stage.lanes.items in
    let node = c.args.node in
    let runner = c.index_mut-runner.result.now in
    let ran = c.in_ok-run_slots.ensures.clock in
    let number = c.clock.ensures.value ∙ ap (λ (r : RunnerRec). r.clock) ran in
    let goes = run_goes plan stage.limit.value runners lanes c.requires.at node runner c.index_mut-runner.ensures.value c.requires.there c.args.count c.run_slots.new.runner.stepped c.clock.result number in
    let whole = subst (λ (r : RunnerRec). Goes plan stage.limit.value (Run node c.args.count) runners lanes (set runners node r) lanes (record { step = Run node c.args.count; number = c.clock.result; entries = [] })) (sym ran) goes in
    record { plays = record { same_limit = refl; is_at = whole.is_at; goes_on = whole.goes_on; tells = c.quiet_line.ensures.line ∙ whole.tells } }
