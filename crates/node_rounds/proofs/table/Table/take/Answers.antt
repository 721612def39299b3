use Rattle.std.proofs.Common.{◌≡◌, ℕ, suc, ◌<◌, List, set, sym, ◌∙◌, subst, refl, arith}
use Rattle.xs_base.specs.declared.entry.Entry.{Entry}
use Rattle.sys_plan.specs.Plan.{PlanRec}
use Rattle.serial_model.specs.Serial.{history}
use Rattle.link_logs.specs.declared.answers.Got.{Got}
use Rattle.link_logs.specs.Logs.{Finds, emptied, looked}
use Rattle.link_logs.specs.Entries.{between}
use Rattle.plan_lanes.specs.declared.lane.Lane.{Lane}
use Rattle.plan_stories.proofs.Stories.{between_is_history}
use Rattle.node_rounds.specs.declared.seat.Handed.{Handed}
use Rattle.node_rounds.specs.Sends.{Takes}
use Rattle.node_rounds.proofs.Steps.{own_log, takes_nothing, takes_entries}
use Rattle.node_rounds.proofs.table.Table.take.Goals as goal

-- what was found is what the link carried between what was read and what is published
found_is : (entries : List Entry) (run plan : PlanRec) (number link got published : ℕ) → run ≡ plan → number ≡ link → got < published
    → entries ≡ between (λ slot. history run number slot (suc slot)) got published → entries ≡ history plan link got published
found_is entries run plan number link got published p l less is =
    is ∙ between_is_history run number got published (omega (arith, less)) ∙ (λ i. history (p i) (l i) got published)

pub returns-in_ok-hand-in-Entries : goal.returns-in_ok-hand-in-Entries
returns-in_ok-hand-in-Entries c =
    let plan = c.args.plan.now in
    let table = c.args.self.now in
    let seats = table.seats.items in
    let lanes = table.lanes.items in
    let lane = c.index_mut-lane.result.now in
    let seat = c.index_mut-seat.result.now in
    let x : Handed = record { end = c.args.end; to = c.in-Entries.to; batch = c.in-Entries.batch } in
    let found = subst (λ (g : Got). Finds (λ slot. history lane.log.run lane.log.number slot (suc slot)) lane.log lane.r.got g) c.in-Entries.is c.take.ensures.found in
    let log = own_log plan table.limit seats lanes c.requires.between c.args.node seat c.index_mut-seat.ensures.value c.requires.there
    c.args.link lane c.index_mut-lane.ensures.value c.requires.link c.args.end c.requires.inside in
    let entries = found_is c.in-Entries.batch.entries lane.log.run plan lane.log.number c.args.link lane.r.got lane.log.published log.of_plan log.number_is found.0 found.3 in
    let goes = takes_entries plan table.limit seats lanes c.requires.between c.args.node seat c.index_mut-seat.ensures.value c.requires.there
    c.args.link lane c.index_mut-lane.ensures.value c.requires.link c.args.end c.requires.inside c.requires.route c.take.result
    x refl found.2 found.0 entries c.hand.new.self.handed.items c.in_ok-hand-in-Entries.ensures.handed c.hand.new.self (c.hand.ensures.runner ∙ c.give_back.ensures.runner) refl in
    let taken : Lane = record lane { log = emptied lane.log; r = looked lane.log c.take.result lane.r } in
    let after : Lane = record { log = c.take.new.self; w = lane.w; r = c.give_back.new.r } in
    let lane_is : taken ≡ after = λ i. record { log = sym c.take.ensures.log i; w = lane.w; r = sym (c.give_back.ensures.reader ∙ c.take.ensures.end) i } in
    record { takes = (refl, subst (λ (l : Lane). Takes plan c.args.link table.limit seats lanes (set seats c.args.node c.hand.new.self) (set lanes c.args.link l)) lane_is goes) }

pub returns-in-Nothing : goal.returns-in-Nothing
returns-in-Nothing c =
    let plan = c.args.plan.now in
    let table = c.args.self.now in
    let seats = table.seats.items in
    let lanes = table.lanes.items in
    let lane = c.index_mut-lane.result.now in
    let found = subst (λ (g : Got). Finds (λ slot. history lane.log.run lane.log.number slot (suc slot)) lane.log lane.r.got g) c.in-Nothing.is c.take.ensures.found in
    let goes = takes_nothing plan table.limit seats lanes c.requires.between
    c.args.link lane c.index_mut-lane.ensures.value c.requires.link c.args.node c.args.end c.requires.inside c.requires.route c.take.result found.0 in
    let taken : Lane = record lane { log = emptied lane.log; r = looked lane.log c.take.result lane.r } in
    let after : Lane = record { log = c.take.new.self; w = lane.w; r = c.take.new.r } in
    let lane_is : taken ≡ after = λ i. record { log = sym c.take.ensures.log i; w = lane.w; r = sym c.take.ensures.end i } in
    record { takes = (refl, subst (λ (l : Lane). Takes plan c.args.link table.limit seats lanes seats (set lanes c.args.link l)) lane_is goes) }
