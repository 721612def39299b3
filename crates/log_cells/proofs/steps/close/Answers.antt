use Rattle.std.proofs.Common.{sym, ◌∙◌, subst}
use Rattle.link_logs.specs.Logs.{Writes}
use Rattle.log_cells.proofs.Turns.{writer_slot, writer_log, wrote, shut}
use Rattle.log_cells.proofs.steps.close.Goals as goal

pub slot_mut-log-requires : goal.slot_mut-log-requires
slot_mut-log-requires g c = (c.requires.table, writer_slot c.requires.has)

pub returns-clause-has : goal.returns-clause-has
returns-clause-has g c =
    let has = c.requires.has in
    let here = c.slot_mut-log.ensures.value in
    let log = c.slot_mut-log.result.now in
    let writes = subst (λ l. Writes c.args.end.now l) (writer_log has log here) has.writes in
    let done = shut log c.close.new.self c.args.end.now c.close.new.w _ writes (sym writes.cause ∙ c.requires.open) c.close.ensures.log c.close.ensures.end in
    wrote has log c.close.new.self c.close.new.w here done.run done.number done.writes done.follows
