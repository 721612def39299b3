use Rattle.std.proofs.Common.{sym, subst, arith}
use Rattle.xs_model.specs.Record.{CoreRec}
use Rattle.quiet_model.specs.Slots.{IsFirst}
use Rattle.quiet_model.specs.Stirs.{some_eligible}
use Rattle.thread_slots.specs.Able.{some_may_pick}
use Rattle.core_waits.specs.Parts.{AreAble}
use Rattle.core_units.specs.Units.{units_of}
use Rattle.processor.proofs.Eligible.{by_able}
use Rattle.processor.proofs.quiet.first_rested.Goals as goal

pub returns : goal.returns
returns c =
    let core = units_of c.units.inside in
    let known = subst (λ (core : CoreRec). AreAble core c.args.able) (sym c.units.view_is) c.requires.value in
    subst (λ (core : CoreRec). IsFirst (some_eligible core) c.args.from c.args.bound c.rested_from.result) c.units.view_is
    (c.first_slots.ensures.alike (some_may_pick c.args.able.threads core.slots.last) (some_eligible core) c.args.from c.args.bound c.rested_from.result
    (λ slot low high none. by_able core c.args.able slot known (omega (arith, c.requires.now, low), omega (arith, c.requires.known, high)))
    c.rested_from.ensures.first)
