use Rattle.std.proofs.Common.{sym, ◌∙◌, subst, arith}
use Rattle.link_logs.specs.Logs.{Writes}
use Rattle.log_cells.proofs.Turns.{writer_slot, writer_log, wrote, appended}
use Rattle.log_cells.proofs.steps.append.Goals as goal

pub slot_mut-log-requires : goal.slot_mut-log-requires
slot_mut-log-requires g c = (c.requires.table, writer_slot c.requires.has)

pub returns-clause-has : goal.returns-clause-has
returns-clause-has g c =
    let has = c.requires.has in
    let here = c.slot_mut-log.ensures.value in
    let log = c.slot_mut-log.result.now in
    let writes = subst (λ l. Writes c.args.end.now l) (writer_log has log here) has.writes in
    let t = c.append.ensures in
    let done = appended log c.append.new.self c.args.end.now c.append.new.w c.args.upto _ c.append.result writes (sym writes.cause ∙ c.requires.open) (omega (arith, c.requires.on, writes.published)) t.log t.end t.err t.err_end in
    wrote has log c.append.new.self c.append.new.w here done.run done.number done.writes done.follows
