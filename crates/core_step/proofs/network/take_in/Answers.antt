use Rattle.std.proofs.Common.{List, Option, sym, subst}
use Rattle.xs_model.specs.Record.{LinkRec}
use Rattle.switch_routes.specs.Rows.{AllCountsOf, CreditedBy}
use Rattle.core_step.specs.Core.{NothingArrives}
use Rattle.core_step.proofs.Arriving.{links_stay}
use Rattle.core_step.proofs.network.take_in.Goals as goal

pub returns-else-arrives-clause-stands : goal.returns-else-arrives-clause-stands
returns-else-arrives-clause-stands c = λ slot rec h.
    let n : NothingArrives c.args.arrivals.now = c.requires c.if-arrives.false in
    subst (λ (links : List (Option LinkRec)). AllCountsOf c.args.links.now links) (sym (links_stay slot 0 c.args.arrivals.now.tokens c.args.arrivals.now.credits rec n.tokens n.credits)) h

pub returns-else-arrives-clause-credited : goal.returns-else-arrives-clause-credited
returns-else-arrives-clause-credited c = λ slot rec h.
    let n : NothingArrives c.args.arrivals.now = c.requires c.if-arrives.false in
    subst (λ (links : List (Option LinkRec)). CreditedBy slot links) (sym (links_stay slot 0 c.args.arrivals.now.tokens c.args.arrivals.now.credits rec n.tokens n.credits)) h
