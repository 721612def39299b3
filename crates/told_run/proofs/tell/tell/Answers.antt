use Rattle.std.proofs.Common.{◌∙◌}
use Rattle.std.proofs.lemmas.Result.{on_ok_weaker}
use Rattle.run_plan.specs.Told.{EachIsToldNext}
use Rattle.told_run.proofs.Tells.{are-told, are-within}
use Rattle.told_run.proofs.tell.tell.Goals as goal

pub returns-clause-told : goal.returns-clause-told
returns-clause-told c =
    let m = c.args.machine.now in
    let all = c.slot_told.new.told in
    on_ok_weaker c.slot_told.result (λ (each : EachIsToldNext m all). are-told m c.requires.begun all (c.slot_told.auto.told ∙ c.requires.nodes) each c.machines_are_serial.ensures.serial)
    c.slot_told.ensures.each

pub returns-clause-within : goal.returns-clause-within
returns-clause-within c =
    let m = c.args.machine.now in
    let all = c.slot_told.new.told in
    on_ok_weaker c.slot_told.result (λ (each : EachIsToldNext m all). are-within m c.requires.begun all (c.slot_told.auto.told ∙ c.requires.nodes) each)
    c.slot_told.ensures.each
