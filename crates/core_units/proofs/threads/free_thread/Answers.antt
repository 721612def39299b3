use Rattle.std.proofs.Common.{sym, ◌∙◌, arith}
use Rattle.step_model.specs.ThreadRows.{is_taken}
use Rattle.bit_masks.proofs.Free.{lowest_more, lowest_here, lowest_none}
use Rattle.core_units.proofs.threads.free_thread.Goals as goal

pub returns-then-not-is_taken-clause-lowest : goal.returns-then-not-is_taken-clause-lowest
returns-then-not-is_taken-clause-lowest c =
    sym (c.loop-k.invariant ∙ lowest_here (λ th. is_taken th.run) c.args.threads.now c.loop-k.k _ (omega arith) (sym c.is_taken.ensures ∙ c.if-not-is_taken.true))

pub loop-k-preserved : goal.loop-k-preserved
loop-k-preserved c =
    c.loop-k.invariant ∙ lowest_more (λ th. is_taken th.run) c.args.threads.now c.loop-k.k _ (omega arith) (sym c.is_taken.ensures ∙ c.if-not-is_taken.false)

pub returns-clause-lowest : goal.returns-clause-lowest
returns-clause-lowest c =
    sym (c.loop-k.invariant ∙ lowest_none (λ th. is_taken th.run) c.args.threads.now c.loop-k.k (omega arith))
