use Rattle.std.proofs.Common.{sym, subst}
use Rattle.link_logs.specs.Logs.{Reads, Finds}
use Rattle.log_cells.proofs.Turns.{reader_slot, reader_log, reader_logs, reader_ends, looks_at, stays_shut, takes_all}
use Rattle.log_cells.proofs.steps.take.Goals as goal

pub slot_mut-log-requires : goal.slot_mut-log-requires
slot_mut-log-requires g c = (c.requires.table, reader_slot c.requires.has.0)

pub returns-clause-got : goal.returns-clause-got
returns-clause-got g c =
    let has = c.requires.has.0 in
    let here = c.slot_mut-log.ensures.value in
    let log = c.slot_mut-log.result.now in
    let end = c.args.end.now in
    let reads = subst (λ l. Reads end l) (reader_log has log here) has.reads in
    let at = g.S.Story.entries_at in
    let found = subst (λ entries. Finds entries log end.got c.take.result) (λ i. at (sym reads.run i) (sym reads.number i)) c.take.ensures.found in
    looks_at log end c.take.new.r (at end.run end.number) c.take.result reads (reader_ends end has log here) found c.take.ensures.end _ (reader_logs has log here)

pub returns-clause-shut : goal.returns-clause-shut
returns-clause-shut g c =
    let has = c.requires.has.0 in
    let here = c.slot_mut-log.ensures.value in
    let log = c.slot_mut-log.result.now in
    let end = c.args.end.now in
    let reads = subst (λ l. Reads end l) (reader_log has log here) has.reads in
    stays_shut log end c.take.new.r (g.S.Story.entries_at log.run log.number) c.take.result reads (reader_ends end has log here) c.take.ensures.found c.take.ensures.end

pub returns-clause-has : goal.returns-clause-has
returns-clause-has g c =
    let has = c.requires.has.0 in
    let here = c.slot_mut-log.ensures.value in
    let log = c.slot_mut-log.result.now in
    let end = c.args.end.now in
    let reads = subst (λ l. Reads end l) (reader_log has log here) has.reads in
    takes_all log end c.take.new.r (g.S.Story.entries_at log.run log.number) c.take.result reads (reader_ends end has log here) c.take.ensures.found c.take.ensures.end c.take.new.self _ _ _ c.requires.has here c.take.ensures.log
