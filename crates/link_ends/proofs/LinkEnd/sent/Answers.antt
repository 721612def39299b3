use Rattle.link_ends.proofs.Sends.{stands_after_sent}
use Rattle.link_ends.proofs.LinkEnd.sent.Goals as goal

pub returns-clause-stands : goal.returns-clause-stands
returns-clause-stands c =
    rw (← c.self.view_is) (λ link of. stands_after_sent _ c.args.slot link (rw (← c.self.view_is) at c.requires) of)
