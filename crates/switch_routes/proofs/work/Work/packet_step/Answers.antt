use Rattle.std.proofs.Common.{◌∙◌, List, sym, ap}
use Rattle.xs_base.specs.declared.token.Token.{Token}
use Rattle.switch_routes.proofs.GoesBy.{goes-as, goes-nowhere, waits}
use Rattle.net_model.specs.Switch.{packet_step, want_step}
use Rattle.switch_routes.proofs.work.Work.packet_step.Goals as goal

pub returns-in-Some : goal.returns-in-Some
returns-in-Some c =
    let i = c.args.input in
    goes-as 1 (λ begun m s. sym (ap (λ (ts : List Token). packet_step (want_step begun.routes begun.slot i) i ts m) (sym (waits begun c.args.self.now m s i) ∙ c.in-Some.ensures.cases))) c.start_packet.ensures

pub returns-in_default : goal.returns-in_default
returns-in_default c =
    let i = c.args.input in
    goes-as 1 (λ begun m s. sym (ap (λ (ts : List Token). packet_step (want_step begun.routes begun.slot i) i ts m) (sym (waits begun c.args.self.now m s i) ∙ c.in_default.ensures.cases)))
    (goes-nowhere 1 c.args.self.now)
