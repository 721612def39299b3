use Rattle.std.proofs.Common.{not, ap, sym, ◌∙◌, arith}
use Rattle.bit_masks.proofs.Free.{lowest_more, lowest_here, lowest_none}
use Rattle.sync_locks.proofs.syncs.first_with_slave.Goals as goal

pub returns-then-has_slave-clause-lowest : goal.returns-then-has_slave-clause-lowest
returns-then-has_slave-clause-lowest c =
    sym (c.loop-n.invariant ∙ lowest_here _ c.args.syncs.now c.loop-n.n _ (omega (arith, c.type_inv.syncs)) (ap not (sym c.has_slave.ensures ∙ c.if-has_slave.true)))

pub loop-n-preserved : goal.loop-n-preserved
loop-n-preserved c =
    c.loop-n.invariant ∙ lowest_more _ c.args.syncs.now c.loop-n.n _ (omega (arith, c.type_inv.syncs)) (ap not (sym c.has_slave.ensures ∙ c.if-has_slave.false))

pub returns-clause-lowest : goal.returns-clause-lowest
returns-clause-lowest c =
    sym (c.loop-n.invariant ∙ lowest_none _ c.args.syncs.now c.loop-n.n (omega (arith, c.type_inv.syncs)))
