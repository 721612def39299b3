use Rattle.std.proofs.Common.{ap, ◌∙◌, subst}
use Rattle.xs_model.specs.Record.{CoreRec, thread_of, with_thread}
use Rattle.core_units.specs.Units.{units_of}
use Rattle.processor.specs.Knows.{StaysKnown}
use Rattle.processor.proofs.Able.{thread-set}
use Rattle.processor.proofs.issue.take.Goals as goal

pub returns-clause-known : goal.returns-clause-known
returns-clause-known c =
    subst (λ (core : CoreRec). StaysKnown core (with_thread (units_of c.units.inside) c.args.k c.take_choice.new.thread)) c.units.view_is
    (thread-set (units_of c.units.inside) c.args.k _ _ c.units.inside.ram c.requires.thread c.units.invariant.eight
    (ap (λ (core : CoreRec). (thread_of core c.args.k).run) c.units.view_is ∙ c.requires.going)
    c.take_choice.ensures.run)
