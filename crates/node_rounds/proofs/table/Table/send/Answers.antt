use Rattle.std.proofs.Common.{◌≡◌, ℕ, ◌≤◌, Some, IsSome, List, ◌++◌, get_or, set, sym, ap, ◌∙◌, subst, refl, arith}
use Rattle.xs_base.specs.declared.entry.Entry.{Entry}
use Rattle.sys_plan.specs.Plan.{PlanRec, outgoing}
use Rattle.serial_model.specs.Serial.{history}
use Rattle.node_runners.specs.Runner.{RunnerRec}
use Rattle.plan_lanes.specs.declared.lane.Lane.{Lane}
use Rattle.plan_stories.proofs.Stories.{between_is_history}
use Rattle.node_rounds.specs.Sends.{Sends}
use Rattle.node_rounds.proofs.Steps.{own, own_log, published_before, sends}
use Rattle.node_rounds.proofs.table.Table.send.Goals as goal
use Rattle.node_rounds.proofs.table.Table.send.Goals.{After-index_mut-lane}

-- what a node sent is what the link carried
sent_is : (entries : List Entry) (at_runner plan : PlanRec) (link number from since clock upto : ℕ) → at_runner ≡ plan → link ≡ number → from ≡ since → clock ≡ upto
    → entries ≡ history at_runner link from clock → entries ≡ history plan number since upto
sent_is entries at_runner plan link number from since clock upto p l f t is = is ∙ (λ i. history (p i) (l i) (f i) (t i))

leaves : (plan : PlanRec) (n m end link : ℕ) (at : PlanRec) → at ≡ plan → m ≡ n → outgoing plan n end ≡ Some link → outgoing at m end ≡ Some link
leaves plan n m end link at p s here = (λ i. outgoing (p i) (s i) end) ∙ here

pub send-batch-requires : goal.send-batch-requires
send-batch-requires c =
    let table = c.args.self.now in
    let seat = c.index_mut-seat.result.now in
    let its = own c.args.plan.now table.limit table.seats.items table.lanes.items c.requires.between c.args.node seat c.index_mut-seat.ensures.value c.requires.there in
    record { there = subst IsSome (sym (leaves c.args.plan.now c.args.node seat.runner.node c.args.end c.args.link seat.runner.plan its.of_plan its.node_is c.requires.route)) refl }

-- the lane was published up to where the node had published the link, which is not past its clock
on : (c : After-index_mut-lane) → c.index_mut-lane.result.now.log.published ≤ c.index_mut-seat.result.now.runner.clock
on c =
    let table = c.args.self.now in
    let lane = c.index_mut-lane.result.now in
    let seat = c.index_mut-seat.result.now in
    let before = published_before c.args.plan.now table.limit table.seats.items table.lanes.items c.requires.between c.args.node seat c.index_mut-seat.ensures.value c.requires.there
    c.args.link lane c.index_mut-lane.ensures.value c.requires.link c.args.end c.requires.inside c.requires.route in
    omega (arith, before, c.clock-clock.ensures.behind c.args.end, c.clock-clock.ensures.value)

pub append-requires-clause-on : goal.append-requires-clause-on
append-requires-clause-on c = omega (arith, on (goal.at.append-requires-clause-on c).After-index_mut-lane, c.clock-clock.ensures.value)

pub append-requires-clause-own : goal.append-requires-clause-own
append-requires-clause-own c =
    let plan = c.args.plan.now in
    let table = c.args.self.now in
    let lane = c.index_mut-lane.result.now in
    let seat = c.index_mut-seat.result.now in
    let upto = c.clock-clock.result in
    let its = own plan table.limit table.seats.items table.lanes.items c.requires.between c.args.node seat c.index_mut-seat.ensures.value c.requires.there in
    let log = own_log plan table.limit table.seats.items table.lanes.items c.requires.between c.args.node seat c.index_mut-seat.ensures.value c.requires.there
    c.args.link lane c.index_mut-lane.ensures.value c.requires.link c.args.end c.requires.inside in
    let before = published_before plan table.limit table.seats.items table.lanes.items c.requires.between c.args.node seat c.index_mut-seat.ensures.value c.requires.there
    c.args.link lane c.index_mut-lane.ensures.value c.requires.link c.args.end c.requires.inside c.requires.route in
    let sent = c.send-batch.ensures.own c.args.link (leaves plan c.args.node seat.runner.node c.args.end c.args.link seat.runner.plan its.of_plan its.node_is c.requires.route) in
    let upto_on : lane.log.published ≤ upto = omega (arith, on (goal.at.append-requires-clause-own c).After-index_mut-lane, c.clock-clock.ensures.value) in
    sent_is c.send-batch.result.entries seat.runner.plan lane.log.run c.args.link lane.log.number (get_or seat.runner.published c.args.end 0) lane.log.published seat.runner.clock upto
    (its.of_plan ∙ sym log.of_plan) (sym log.number_is) before (sym c.clock-clock.ensures.value) sent
    ∙ sym (between_is_history lane.log.run lane.log.number lane.log.published upto upto_on)

pub returns : goal.returns
returns c =
    let plan = c.args.plan.now in
    let table = c.args.self.now in
    let seats = table.seats.items in
    let lanes = table.lanes.items in
    let lane = c.index_mut-lane.result.now in
    let seat = c.index_mut-seat.result.now in
    let all : List Entry = lane.log.entries ++ c.send-batch.result.entries in
    let goes = sends plan table.limit seats lanes c.requires.between c.args.node seat c.index_mut-seat.ensures.value c.requires.there
    c.args.link lane c.index_mut-lane.ensures.value c.requires.link c.args.end c.requires.inside c.requires.route (on (goal.at.returns c).After-index_mut-lane) all in
    let P : RunnerRec → Lane → Type 0
    = λ r l. Sends plan c.args.link c.args.node table.limit seats lanes (set seats c.args.node (record seat { runner = r })) (set lanes c.args.link l) in
    let at_clock : ℕ → Lane = λ t. record { log = record lane.log { published = t; entries = all }; w = record lane.w { published = t }; r = lane.r } in
    let after : Lane = record { log = c.append.new.self; w = c.append.new.w; r = lane.r } in
    let appended : at_clock c.clock-clock.result ≡ after = λ i. record { log = sym c.in_ok-append.ensures.log i; w = sym c.in_ok-append.ensures.end i; r = lane.r } in
    let lane_is : at_clock seat.runner.clock ≡ after = ap at_clock (sym c.clock-clock.ensures.value) ∙ appended in
    let runner_is = sym (c.keep.ensures.same ∙ c.send-batch.ensures.rest) in
    record { sends = (refl, subst (λ (l : Lane). P c.keep.new.runner l) lane_is (subst (λ (r : RunnerRec). P r (at_clock seat.runner.clock)) runner_is goes)) }
