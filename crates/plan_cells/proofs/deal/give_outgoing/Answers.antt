use Rattle.std.proofs.Common.{refl}
use Rattle.plan_cells.specs.declared.ends.Ends.{Ends}
use Rattle.plan_cells.proofs.Lists.{given_one, given_none}
use Rattle.plan_cells.proofs.deal.give_outgoing.Goals as goal

pub returns-clause-outgoing : goal.returns-clause-outgoing
returns-clause-outgoing c =
    let now : Ends = c.index_mut-ends.result.now in
    given_one (λ (e : Ends). e.outgoing.items) c.args.all.now.items c.args.node now (record now { outgoing = c.push.new.self }) c.requires.node c.index_mut-ends.ensures.value c.args.outgoing c.in_ok-push.ensures.items

pub returns-clause-incoming : goal.returns-clause-incoming
returns-clause-incoming c =
    let now : Ends = c.index_mut-ends.result.now in
    given_none (λ (e : Ends). e.incoming.items) c.args.all.now.items c.args.node now (record now { outgoing = c.push.new.self }) c.requires.node c.index_mut-ends.ensures.value refl
