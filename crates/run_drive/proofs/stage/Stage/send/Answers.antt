use Rattle.std.proofs.Common.{◌≡◌, ℕ, ◌≤◌, List, ◌++◌, get_or, set, sym, ap, ◌∙◌, subst, refl, arith}
use Rattle.xs_base.specs.declared.entry.Entry.{Entry}
use Rattle.sys_plan.specs.declared.Step.TheVariants.{Send}
use Rattle.sys_plan.specs.Plan.{PlanRec, outgoing}
use Rattle.serial_model.specs.Serial.{history}
use Rattle.play_model.specs.Play.{PlayedStep}
use Rattle.node_runners.specs.Runner.{RunnerRec}
use Rattle.plan_lanes.specs.declared.lane.Lane.{Lane}
use Rattle.plan_stories.proofs.Stories.{between_is_history}
use Rattle.plan_lanes.proofs.Steps.{Goes, own_runner, own_lane, sent_then, send_goes}
use Rattle.run_drive.proofs.Ends.{below_ends}
use Rattle.run_drive.proofs.stage.Stage.send.Goals as goal

-- what a node sent is what the arc carried
sent_is : (entries : List Entry) (at_runner plan : PlanRec) (link number from since clock upto : ℕ) → at_runner ≡ plan → link ≡ number → from ≡ since → clock ≡ upto
    → entries ≡ history at_runner link from clock → entries ≡ history plan number since upto
sent_is entries at_runner plan link number from since clock upto p l f t is = is ∙ (λ i. history (p i) (l i) (f i) (t i))

pub append-requires-clause-on : goal.append-requires-clause-on
append-requires-clause-on c =
    let stage = c.args.self.now in
    let lane = c.index_mut-lane.result.now in
    let runner = c.index_mut-runner.result.now in
    let then_is = sent_then c.args.plan.now stage.limit.value stage.runners.items stage.lanes.items c.requires.at c.in-Some.link lane c.index_mut-lane.ensures.value c.in-Some.ensures.bound
    c.args.node c.args.end (sym c.in-Some.ensures.value) (below_ends c.args.end c.in-Some.link c.in-Some.ensures.none_past) runner c.index_mut-runner.ensures.value c.requires.there.0 in
    omega (arith, then_is, c.clock-clock.ensures.behind c.args.end, c.clock-clock.ensures.value)

pub append-requires-clause-own : goal.append-requires-clause-own
append-requires-clause-own c =
    let plan = c.args.plan.now in
    let stage = c.args.self.now in
    let limit = stage.limit.value in
    let runners = stage.runners.items in
    let lanes = stage.lanes.items in
    let lane = c.index_mut-lane.result.now in
    let runner = c.index_mut-runner.result.now in
    let end = c.args.end in
    let link = c.in-Some.link in
    let upto = c.clock-clock.result in
    let here = sym c.in-Some.ensures.value in
    let own = own_runner plan limit runners lanes c.requires.at c.args.node runner c.index_mut-runner.ensures.value c.requires.there.0 in
    let its = own_lane plan limit runners lanes c.requires.at link lane c.index_mut-lane.ensures.value c.in-Some.ensures.bound in
    let then_is = sent_then plan limit runners lanes c.requires.at link lane c.index_mut-lane.ensures.value c.in-Some.ensures.bound
    c.args.node end here (below_ends end link c.in-Some.ensures.none_past) runner c.index_mut-runner.ensures.value c.requires.there.0 in
    let sent = c.send-sent.ensures.own link ((λ i. outgoing (own.of_plan i) (own.node_is i) end) ∙ here) in
    let on : lane.log.published ≤ upto = omega (arith, then_is, c.clock-clock.ensures.behind end, c.clock-clock.ensures.value) in
    sent_is c.send-sent.result.entries runner.plan lane.log.run link lane.log.number (get_or runner.published end 0) lane.log.published runner.clock upto
    (own.of_plan ∙ sym its.of_plan) (sym its.number_is) then_is (sym c.clock-clock.ensures.value) sent
    ∙ sym (between_is_history lane.log.run lane.log.number lane.log.published upto on)

pub returns : goal.returns
returns c =
    let plan = c.args.plan.now in
    let stage = c.args.self.now in
    let limit = stage.limit.value in
    let runners = stage.runners.items in
    let lanes = stage.lanes.items in
    let lane = c.index_mut-lane.result.now in
    let runner = c.index_mut-runner.result.now in
    let node = c.args.node in
    let end = c.args.end in
    let link = c.in-Some.link in
    let step = Send node end in
    let here = sym c.in-Some.ensures.value in
    let inside = below_ends end link c.in-Some.ensures.none_past in
    let own = own_runner plan limit runners lanes c.requires.at node runner c.index_mut-runner.ensures.value c.requires.there.0 in
    let then_is = sent_then plan limit runners lanes c.requires.at link lane c.index_mut-lane.ensures.value c.in-Some.ensures.bound
    node end here inside runner c.index_mut-runner.ensures.value c.requires.there.0 in
    let on : lane.log.published ≤ runner.clock = omega (arith, then_is, c.clock-clock.ensures.behind end) in
    let told : List Entry = c.in_ok-batch.batch.entries in
    let line : PlayedStep = record { step = step; number = runner.clock; entries = told } in
    let told_is : told ≡ history plan link lane.log.published runner.clock =
    c.in_ok-batch.ensures.entries ∙ c.entries.ensures.value
    ∙ sent_is c.send-sent.result.entries runner.plan plan link link (get_or runner.published end 0) lane.log.published runner.clock runner.clock
    own.of_plan refl then_is refl (c.send-sent.ensures.own link ((λ i. outgoing (own.of_plan i) (own.node_is i) end) ∙ here)) in
    let all : List Entry = lane.log.entries ++ c.send-sent.result.entries in
    let goes = send_goes plan limit runners lanes c.requires.at link lane c.index_mut-lane.ensures.value c.in-Some.ensures.bound node end here inside
    runner c.index_mut-runner.ensures.value c.requires.there.0 on all told told_is in
    let published : Lane = record { log = record lane.log { published = runner.clock; entries = all }; w = record lane.w { published = runner.clock }; r = lane.r } in
    let at_clock : ℕ → Lane = λ t. record { log = record lane.log { published = t; entries = all }; w = record lane.w { published = t }; r = lane.r } in
    let after : Lane = record { log = c.append.new.self; w = c.append.new.w; r = lane.r } in
    let appended : at_clock c.clock-clock.result ≡ after = λ i. record { log = sym c.in_ok-append.ensures.log i; w = sym c.in_ok-append.ensures.end i; r = lane.r } in
    let lane_is : published ≡ after = ap at_clock (sym c.clock-clock.ensures.value) ∙ appended in
    let sent = subst (λ (r : RunnerRec). Goes plan limit step runners lanes (set runners node r) (set lanes link published) line) (sym c.send-sent.ensures.rest) goes in
    let whole = subst (λ (l : Lane). Goes plan limit step runners lanes (set runners node c.send-sent.new.self) (set lanes link l) line) lane_is sent in
    let at_number : ℕ → PlayedStep = λ t. record { step = step; number = t; entries = told } in
    record { plays = record { same_limit = refl; is_at = whole.is_at; goes_on = whole.goes_on; tells = ap at_number c.clock-clock.ensures.value ∙ whole.tells } }
