use Rattle.std.proofs.Common.{◌∙◌, List, sym, ap, arith}
use Rattle.xs_base.specs.declared.token.Token.{Token}
use Rattle.switch_routes.proofs.GoesBy.{goes-then, goes-as, goes-nowhere, waits}
use Rattle.net_model.specs.Switch.{lost_step}
use Rattle.switch_routes.proofs.work.Work.lost_step.Goals as goal

pub returns-in-Some : goal.returns-in-Some
returns-in-Some c =
    let i = c.args.input in
    goes-as 0 (λ begun m s. sym (ap (λ (ts : List Token). lost_step i ts m) (sym (waits begun c.args.self.now m s i) ∙ c.in-Some.ensures.cases)))
    (goes-then 0 0 0 (omega arith) c.take_first.ensures.goes c.after_token.ensures)

pub returns-in_default : goal.returns-in_default
returns-in_default c =
    let i = c.args.input in
    goes-as 0 (λ begun m s. sym (ap (λ (ts : List Token). lost_step i ts m) (sym (waits begun c.args.self.now m s i) ∙ c.in_default.ensures.cases)))
    (goes-nowhere 0 c.args.self.now)
