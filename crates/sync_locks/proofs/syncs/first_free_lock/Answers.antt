use Rattle.std.proofs.Common.{sym, ◌∙◌, arith}
use Rattle.bit_masks.proofs.Free.{lowest_more, lowest_here, lowest_none}
use Rattle.sync_locks.proofs.syncs.first_free_lock.Goals as goal

pub returns-then-not-is_used-clause-lowest : goal.returns-then-not-is_used-clause-lowest
returns-then-not-is_used-clause-lowest c =
    sym (c.loop-n.invariant ∙ lowest_here _ c.args.locks.now c.loop-n.n _ (omega (arith, c.type_inv.locks)) (sym c.is_used.ensures ∙ c.if-not-is_used.true))

pub loop-n-preserved : goal.loop-n-preserved
loop-n-preserved c =
    c.loop-n.invariant ∙ lowest_more _ c.args.locks.now c.loop-n.n _ (omega (arith, c.type_inv.locks)) (sym c.is_used.ensures ∙ c.if-not-is_used.false)

pub returns-clause-lowest : goal.returns-clause-lowest
returns-clause-lowest c =
    sym (c.loop-n.invariant ∙ lowest_none _ c.args.locks.now c.loop-n.n (omega (arith, c.type_inv.locks)))
