use Rattle.std.proofs.Common.{ap, subst, ◌∙◌, arith}
use Rattle.xs_model.specs.Record.{CoreRec, thread_of}
use Rattle.step_model.specs.Effect.{with_own}
use Rattle.step_model.specs.Rows.{effect}
use Rattle.flow_unit.specs.Own.{own}
use Rattle.core_units.specs.Units.{Ends, units_of}
use Rattle.processor.specs.Knows.{StaysKnown}
use Rattle.processor.proofs.Able.{thread-set}
use Rattle.processor.proofs.Parts.{own_end_of}
use Rattle.processor.proofs.rows.own.Goals as goal

pub returns-clause-row : goal.returns-clause-row
returns-clause-row c =
    λ here.
    let old = units_of c.units.inside in
    let after = own c.flow.new.thread c.flow.new.ram in
    subst (λ (core : CoreRec). Ends c.flow.result core (with_own old c.args.k after) (effect here core c.args.k c.args.ins)) c.units.view_is
    (own_end_of old c.args.k here c.args.ins c.flow.result _ after (omega arith) c.requires.part c.flow.ensures.row)

pub returns-clause-known : goal.returns-clause-known
returns-clause-known c =
    subst (λ (core : CoreRec). StaysKnown core (with_own (units_of c.units.inside) c.args.k (own c.flow.new.thread c.flow.new.ram))) c.units.view_is
    (thread-set (units_of c.units.inside) c.args.k _ _ c.flow.new.ram c.requires.thread c.units.invariant.eight
    (ap (λ (core : CoreRec). (thread_of core c.args.k).run) c.units.view_is ∙ c.requires.going)
    c.flow.ensures.run)
