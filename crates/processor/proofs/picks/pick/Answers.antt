use Rattle.std.proofs.Common.{◌≡◌, ap, sym, ◌∙◌, subst}
use Rattle.std.specs.Prelude.{◌&&◌}
use Rattle.xs_model.specs.Record.{CoreRec, last_of}
use Rattle.xs_model.specs.Picks.{is_able, is_rested, eligible, picked}
use Rattle.core_units.specs.Units.{units_of}
use Rattle.processor.proofs.picks.pick.Goals as goal

pub returns-clause-value : goal.returns-clause-value
returns-clause-value c =
    let core = units_of c.units.inside in
    let slot = c.args.slot in
    subst (λ (core : CoreRec). c.pick.result ≡ picked core slot) c.units.view_is
    (c.pick.ensures.value (λ k. eligible core k slot) (λ k below.
    ap (λ able. able && is_rested (last_of core k) slot)
    (ap (λ (core : CoreRec). is_able core k slot) c.units.view_is ∙ sym (c.requires.able k below))))
