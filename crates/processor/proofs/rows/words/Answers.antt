use Rattle.std.proofs.Common.{ap, sym, ◌∙◌, subst, arith}
use Rattle.std.proofs.lemmas.List.{get_or_default}
use Rattle.xs_model.specs.declared.thread.Thread.{Thread}
use Rattle.xs_model.specs.Threads.{fresh_thread}
use Rattle.xs_model.specs.Record.{CoreRec, thread_of, with_thread}
use Rattle.step_model.specs.Effect.{on_registers}
use Rattle.step_model.specs.WordRows.{words_row}
use Rattle.step_model.specs.Outcomes.{EndsAs}
use Rattle.core_units.specs.Units.{Ends, units_of}
use Rattle.processor.specs.Knows.{StaysKnown}
use Rattle.processor.proofs.Able.{thread-set, gone_on-run}
use Rattle.processor.proofs.Parts.{registers_end}
use Rattle.processor.proofs.rows.words.Goals as goal

pub returns-clause-known : goal.returns-clause-known
returns-clause-known c =
    subst (λ (core : CoreRec). StaysKnown core (with_thread (units_of c.units.inside) c.args.k c.go_on_where_done.new.thread)) c.units.view_is
    (thread-set (units_of c.units.inside) c.args.k _ _ c.units.inside.ram c.requires.thread c.units.invariant.eight
    (ap (λ (core : CoreRec). (thread_of core c.args.k).run) c.units.view_is ∙ c.requires.going)
    (ap (λ (th : Thread). th.run) c.go_on_where_done.ensures ∙ gone_on-run c.alu-outcome.result c.alu-outcome.new.thread ∙ ap (λ (th : Thread). th.run) c.alu-outcome.ensures.stays))

pub returns-clause-row : goal.returns-clause-row
returns-clause-row c =
    let s = c.units.inside in
    let k = c.args.k in
    let outcome = c.alu-outcome.result in
    let row = subst (λ (th : Thread). EndsAs outcome th c.alu-outcome.new.thread (words_row th c.args.ins)) (get_or_default s.threads k _ fresh_thread (omega arith)) c.alu-outcome.ensures.row in
    subst (λ (core : CoreRec). Ends outcome core (with_thread (units_of s) k c.go_on_where_done.new.thread) (on_registers core k (words_row (thread_of core k) c.args.ins))) c.units.view_is
    (subst (λ (th : Thread). Ends outcome (units_of s) (with_thread (units_of s) k th) (on_registers (units_of s) k (words_row (thread_of (units_of s) k) c.args.ins))) (sym c.go_on_where_done.ensures)
    (registers_end (units_of s) k outcome c.alu-outcome.new.thread (words_row (thread_of (units_of s) k) c.args.ins) row))
