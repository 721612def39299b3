use Rattle.std.proofs.Common.{◌≡◌, ℕ, suc, ◌<◌, List, [], set, sym, ◌∙◌, subst, refl, arith}
use Rattle.play_model.specs.Play.{PlayedStep}
use Rattle.std.proofs.lemmas.Option.{same_Some}
use Rattle.xs_base.specs.declared.entry.Entry.{Entry}
use Rattle.sys_plan.specs.declared.Step.TheVariants.{Take}
use Rattle.sys_plan.specs.Plan.{PlanRec, incoming}
use Rattle.serial_model.specs.Serial.{history}
use Rattle.link_logs.specs.declared.answers.Got.{Got}
use Rattle.link_logs.specs.Logs.{Finds, emptied, looked}
use Rattle.link_logs.specs.Entries.{between}
use Rattle.ahead_limits.specs.Horizon.{seen_at}
use Rattle.node_runners.specs.Runner.{RunnerRec}
use Rattle.plan_lanes.specs.declared.lane.Lane.{Lane}
use Rattle.plan_stories.proofs.Stories.{between_is_history}
use Rattle.plan_lanes.proofs.Steps.{Goes, own_runner, own_lane, read_is_seen, take_nothing, take_entries}
use Rattle.run_drive.proofs.Ends.{below_ends}
use Rattle.run_drive.proofs.stage.Stage.take.Goals as goal

-- what was found is what the arc carried between what was seen and what is published
heard_is : (entries : List Entry) (run plan : PlanRec) (number link got seen published to : ℕ) → run ≡ plan → number ≡ link → got ≡ seen → to ≡ published → got < published
    → entries ≡ between (λ slot. history run number slot (suc slot)) got published → entries ≡ history plan link seen to
heard_is entries run plan number link got seen published to p l s t less is =
    is ∙ between_is_history run number got published (omega (arith, less)) ∙ (λ i. history (p i) (l i) (s i) (sym t i))

pub hear-requires-clause-on : goal.hear-requires-clause-on
hear-requires-clause-on c =
    let plan = c.args.plan.now in
    let stage = c.args.self.now in
    let lane = c.index_mut-lane.result.now in
    let runner = c.index_mut-runner.result.now in
    let inside = below_ends c.args.end c.in-Some.link c.in-Some.ensures.none_past in
    let found = subst (λ (g : Got). Finds (λ slot. history lane.log.run lane.log.number slot (suc slot)) lane.log lane.r.got g) c.in-Entries.is c.take.ensures.found in
    let got_is = read_is_seen plan stage.limit.value stage.runners.items stage.lanes.items c.requires.at c.in-Some.link lane c.index_mut-lane.ensures.value c.in-Some.ensures.bound
    c.args.node c.args.end runner c.index_mut-runner.ensures.value c.requires.there.0 (sym c.in-Some.ensures.value) inside in
    omega (arith, got_is, found.0, found.2)

pub hear-requires-clause-own : goal.hear-requires-clause-own
hear-requires-clause-own c = λ link is.
    let plan = c.args.plan.now in
    let stage = c.args.self.now in
    let runners = stage.runners.items in
    let lanes = stage.lanes.items in
    let lane = c.index_mut-lane.result.now in
    let runner = c.index_mut-runner.result.now in
    let here = sym c.in-Some.ensures.value in
    let inside = below_ends c.args.end c.in-Some.link c.in-Some.ensures.none_past in
    let own = own_runner plan stage.limit.value runners lanes c.requires.at c.args.node runner c.index_mut-runner.ensures.value c.requires.there.0 in
    let its = own_lane plan stage.limit.value runners lanes c.requires.at c.in-Some.link lane c.index_mut-lane.ensures.value c.in-Some.ensures.bound in
    let found = subst (λ (g : Got). Finds (λ slot. history lane.log.run lane.log.number slot (suc slot)) lane.log lane.r.got g) c.in-Entries.is c.take.ensures.found in
    let same_link : c.in-Some.link ≡ link = same_Some c.in-Some.link link (sym here ∙ (λ i. incoming (sym own.of_plan i) (sym own.node_is i) c.args.end) ∙ is) in
    let got_is = read_is_seen plan stage.limit.value runners lanes c.requires.at c.in-Some.link lane c.index_mut-lane.ensures.value c.in-Some.ensures.bound
    c.args.node c.args.end runner c.index_mut-runner.ensures.value c.requires.there.0 here inside in
    heard_is c.in-Entries.batch.entries lane.log.run runner.plan lane.log.number link lane.r.got (seen_at runner.horizon c.args.end) lane.log.published c.in-Entries.to
    (its.of_plan ∙ sym own.of_plan) (its.number_is ∙ same_link) got_is found.2 found.0 found.3

pub returns-in_ok-hear-in-Entries : goal.returns-in_ok-hear-in-Entries
returns-in_ok-hear-in-Entries c =
    let plan = c.args.plan.now in
    let stage = c.args.self.now in
    let limit = stage.limit.value in
    let runners = stage.runners.items in
    let lanes = stage.lanes.items in
    let lane = c.index_mut-lane.result.now in
    let runner = c.index_mut-runner.result.now in
    let step = Take c.args.node c.args.end in
    let line : PlayedStep = record { step = step; number = c.in-Entries.to; entries = [] } in
    let found = subst (λ (g : Got). Finds (λ slot. history lane.log.run lane.log.number slot (suc slot)) lane.log lane.r.got g) c.in-Entries.is c.take.ensures.found in
    let goes = take_entries plan limit runners lanes c.requires.at c.in-Some.link lane c.index_mut-lane.ensures.value c.in-Some.ensures.bound
    c.args.node c.args.end (sym c.in-Some.ensures.value) (below_ends c.args.end c.in-Some.link c.in-Some.ensures.none_past) c.take.result c.in-Entries.to found.2
    runner c.index_mut-runner.ensures.value c.requires.there.0 c.in-Entries.to found.2 in
    let taken : Lane = record lane { log = emptied lane.log; r = looked lane.log c.take.result lane.r } in
    let after : Lane = record { log = c.take.new.self; w = lane.w; r = c.take.new.r } in
    let lane_is : taken ≡ after = λ i. record { log = sym c.take.ensures.log i; w = lane.w; r = sym c.take.ensures.end i } in
    let heard = subst (λ (r : RunnerRec). Goes plan limit step runners lanes (set runners c.args.node r) (set lanes c.in-Some.link taken) line) (sym c.in_ok-hear-in-Entries.ensures.taken) goes in
    let whole = subst (λ (l : Lane). Goes plan limit step runners lanes (set runners c.args.node c.hear.new.runner) (set lanes c.in-Some.link l) line) lane_is heard in
    record { plays = record { same_limit = refl; is_at = whole.is_at; goes_on = whole.goes_on; tells = c.quiet_line.ensures.line ∙ whole.tells } }

pub returns-in-Nothing : goal.returns-in-Nothing
returns-in-Nothing c =
    let plan = c.args.plan.now in
    let stage = c.args.self.now in
    let limit = stage.limit.value in
    let runners = stage.runners.items in
    let lanes = stage.lanes.items in
    let lane = c.index_mut-lane.result.now in
    let step = Take c.args.node c.args.end in
    let line : PlayedStep = record { step = step; number = c.in-Nothing.published; entries = [] } in
    let found = subst (λ (g : Got). Finds (λ slot. history lane.log.run lane.log.number slot (suc slot)) lane.log lane.r.got g) c.in-Nothing.is c.take.ensures.found in
    let goes = take_nothing plan limit runners lanes c.requires.at c.in-Some.link lane c.index_mut-lane.ensures.value c.in-Some.ensures.bound
    c.args.node c.args.end (sym c.in-Some.ensures.value) (below_ends c.args.end c.in-Some.link c.in-Some.ensures.none_past) c.take.result c.in-Nothing.published (found.2 ∙ sym found.0)
    found.0 in
    let taken : Lane = record lane { log = emptied lane.log; r = looked lane.log c.take.result lane.r } in
    let after : Lane = record { log = c.take.new.self; w = lane.w; r = c.take.new.r } in
    let lane_is : taken ≡ after = λ i. record { log = sym c.take.ensures.log i; w = lane.w; r = sym c.take.ensures.end i } in
    let whole = subst (λ (l : Lane). Goes plan limit step runners lanes runners (set lanes c.in-Some.link l) line) lane_is goes in
    record { plays = record { same_limit = refl; is_at = whole.is_at; goes_on = whole.goes_on; tells = c.quiet_line-in-Nothing.ensures.line ∙ whole.tells } }
