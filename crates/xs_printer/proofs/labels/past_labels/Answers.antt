use Rattle.std.proofs.Common.{◌≡◌, drop, sym, ◌∙◌, ap, arith}
use Rattle.xs_printer.proofs.LabelWalk.{past_more, past_stop, past_end}
use Rattle.xs_printer.proofs.labels.past_labels.Goals as goal

pub returns-then-address-at-clause-rest : goal.returns-then-address-at-clause-rest
returns-then-address-at-clause-rest c =
    sym (past_stop c.args.at c.args.image.now.symbols c.loop-k.k _ c.label-address.ensures c.if-address-at.true) ∙ c.loop-k.invariant

pub loop-k-preserved : goal.loop-k-preserved
loop-k-preserved c =
    sym (past_more c.args.at c.args.image.now.symbols c.loop-k.k _ c.label-address.ensures c.if-address-at.false) ∙ c.loop-k.invariant

pub returns-clause-rest : goal.returns-clause-rest
returns-clause-rest c =
    let symbols = c.args.image.now.symbols in
    let end : c.loop-k.k ≡ c.symbol_count-count.result = omega arith in
    ap (λ k. drop k symbols) (sym end) ∙ (sym (past_end c.args.at symbols c.loop-k.k (omega arith)) ∙ c.loop-k.invariant)
