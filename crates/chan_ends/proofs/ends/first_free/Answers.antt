use Rattle.std.proofs.Common.{sym, ◌∙◌, arith}
use Rattle.bit_masks.proofs.Free.{lowest_more, lowest_here, lowest_none}
use Rattle.chan_ends.proofs.ends.first_free.Goals as goal

pub returns-then-not-used-clause-lowest : goal.returns-then-not-used-clause-lowest
returns-then-not-used-clause-lowest c =
    sym (c.loop-c.invariant ∙ lowest_here _ c.args.ends.now c.loop-c.c _ (omega (arith, c.type_inv.ends)) (sym c.used.ensures ∙ c.if-not-used.true))

pub loop-c-preserved : goal.loop-c-preserved
loop-c-preserved c =
    c.loop-c.invariant ∙ lowest_more _ c.args.ends.now c.loop-c.c _ (omega (arith, c.type_inv.ends)) (sym c.used.ensures ∙ c.if-not-used.false)

pub returns-clause-lowest : goal.returns-clause-lowest
returns-clause-lowest c =
    sym (c.loop-c.invariant ∙ lowest_none _ c.args.ends.now c.loop-c.c (omega (arith, c.type_inv.ends)))
