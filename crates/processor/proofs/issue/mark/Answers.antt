use Rattle.std.proofs.Common.{ap, subst}
use Rattle.xs_model.specs.Record.{CoreRec, SlotsRec}
use Rattle.core_units.specs.Units.{units_of}
use Rattle.processor.specs.Knows.{StaysKnown}
use Rattle.processor.proofs.Able.{last-set}
use Rattle.processor.proofs.issue.mark.Goals as goal

pub returns-clause-known : goal.returns-clause-known
returns-clause-known c =
    subst (λ (core : CoreRec). StaysKnown core (record (units_of c.units.inside) { slots = c.mark_issue.new.self })) c.units.view_is
    (last-set (units_of c.units.inside) c.mark_issue.new.self (ap (λ (slots : SlotsRec). slots.division) c.mark_issue.ensures.marked))
