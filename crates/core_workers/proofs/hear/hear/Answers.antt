use Rattle.std.proofs.Common.{◌≡◌, ◌≤◌, false, Some, refl, sym, ap, ◌∙◌, subst, arith}
use Rattle.link_logs.specs.declared.answers.Got.{Got}
use Rattle.sys_plan.specs.Plan.{PlanRec}
use Rattle.serial_model.specs.Serial.{history}
use Rattle.link_logs.specs.Logs.{ReadRec}
use Rattle.plan_stories.specs.Stories.{carried_at}
use Rattle.log_cells.specs.declared.answers.TryGot.{TryGot}
use Rattle.log_cells.specs.Ends.{Gives}
use Rattle.log_cells.specs.Tries.{Takes}
use Rattle.node_runners.specs.Runner.{RunnerRec}
use Rattle.plan_cells.specs.declared.ends.Incoming.{Incoming}
use Rattle.core_workers.specs.Worker.{IsHeard}
use Rattle.core_workers.proofs.Handing.{at_none, heard_by, found_is}
use Rattle.core_workers.proofs.hear.hear.Goals as goal

pub hand_over-requires-in-Entries-clause-heard : goal.hand_over-requires-in-Entries-clause-heard
hand_over-requires-in-Entries-clause-heard c =
    let before = c.args.runner.now in
    let runner = c.hand_over.new.runner in
    let reader = c.hand_over.new.reader in
    let old = c.args.reader.now in
    let same_plan : runner.plan ≡ before.plan = ap (λ (r : RunnerRec). r.plan) c.hand_over.ensures.hears.rest in
    let heard = subst (λ (p : PlanRec). IsHeard p runner.horizon reader) (sym same_plan) c.hand_over.ensures.heard in
    let same_reader = c.hand_over.ensures.rest in
    let link : reader.link ≡ old.link = ap (λ (i : Incoming). i.link) same_reader in
    let run : reader.r.end.run ≡ runner.plan = ap (λ (i : Incoming). i.r.end.run) same_reader ∙ c.requires.fit.run ∙ sym c.requires.of_plan ∙ sym same_plan in
    let number : reader.r.end.number ≡ reader.link = ap (λ (i : Incoming). i.r.end.number) same_reader ∙ c.requires.fit.number ∙ sym link in
    let at = carried_at reader.r.end.run reader.r.end.number in
    let takes = subst (λ (x : TryGot). Takes at reader.r x c.try_take.new.r) c.in-Got.is c.try_take.ensures.takes in
    let gives = subst (λ (x : Got). Gives at reader.r.end x c.try_take.new.r.end) c.in-Entries.is takes.gives in
    let seen : heard.seen.seen ≡ reader.r.end.got = at_none runner.plan reader.link heard.seen.seen reader.r.end.got reader.hand c.in_ok-hand_over.ensures.ok heard.in_hand in
    let from : c.in-Entries.from ≡ heard.seen.seen = gives.0 ∙ sym seen in
    let got : c.try_take.new.r.end.got ≡ c.in-Entries.to = ap (λ (r : ReadRec PlanRec). r.got) gives.3 in
    let on : c.in-Entries.from ≤ c.in-Entries.to = omega (arith, gives.1) in
    let entries = found_is runner.plan reader.r.end.run reader.link reader.r.end.number heard.seen.seen c.in-Entries.from c.in-Entries.to c.in-Entries.batch.entries run number from on gives.2 in
    heard_by runner.plan runner.horizon runner.horizon reader
    (record { end = reader.end; link = reader.link; r = c.try_take.new.r; hand = Some (record { batch = c.in-Entries.batch; to = c.in-Entries.to }); busy = false })
    refl heard refl refl
    (omega (arith, gives.1, from, got), sym got, entries ∙ ap (λ t. history runner.plan reader.link heard.seen.seen t) (sym got))
