use Rattle.std.proofs.Common.{Bool, ap, sym}
use Rattle.std.proofs.lemmas.Bool.{lt-ltb}
use Rattle.switch_routes.proofs.GoesBy.{goes-as, goes-pop}
use Rattle.switch_routes.proofs.Rules.{taken_by}
use Rattle.switch_routes.proofs.work.Work.take_first.Goals as goal

pub returns-then-input-lt-LINK_ENDS-clause-goes : goal.returns-then-input-lt-LINK_ENDS-clause-goes
returns-then-input-lt-LINK_ENDS-clause-goes c =
    goes-as 0 (λ begun m s. ap (λ (b : Bool). taken_by b c.args.input m) (sym (lt-ltb c.args.input 8 c.if-input-lt-LINK_ENDS.true)))
    (goes-pop c.args.self.now c.args.input _ _ c.pop.ensures.gaps (c.pop.ensures.sent c.args.self.now.slot) c.pop.ensures.value c.set_credit.ensures)
