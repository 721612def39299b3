use Rattle.std.proofs.Common.{◌≡◌, ap, sym, ◌∙◌, subst}
use Rattle.xs_model.specs.Record.{CoreRec}
use Rattle.xs_model.specs.Picks.{is_able}
use Rattle.quiet_model.specs.Stirs.{some_eligible}
use Rattle.core_units.specs.Units.{units_of}
use Rattle.processor.proofs.Eligible.{by_mask}
use Rattle.processor.proofs.picks.some_may_issue.Goals as goal

pub returns : goal.returns
returns c =
    let core = units_of c.units.inside in
    let slot = c.args.slot in
    subst (λ (core : CoreRec). c.some_rested.result ≡ some_eligible core slot) c.units.view_is
    (c.some_rested.ensures.value ∙ by_mask core c.args.able slot (λ k below. c.requires k below ∙ sym (ap (λ (core : CoreRec). is_able core k slot) c.units.view_is)))
