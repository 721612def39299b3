use Rattle.std.proofs.Common.{◌≡◌, ◌++◌, drop, sym, ◌∙◌, ap, arith}
use Rattle.xs_printer.proofs.FirstLabels.{first_past}
use Rattle.xs_printer.proofs.Pieces.{two_more, none_left}
use Rattle.xs_printer.proofs.LabelWalk.{past_more, past_stop, past_end, lines_more, lines_stop, lines_end, lines_of_address}
use Rattle.xs_printer.proofs.labels.append_labels.Goals as goal

pub returns-then-address-at-clause-lines : goal.returns-then-address-at-clause-lines
returns-then-address-at-clause-lines c =
    none_left _ _ _ (lines_stop c.args.at c.args.image.now.symbols c.loop-k.k _ c.label-address.ensures c.if-address-at.true) c.loop-k.invariant.lines
    ∙ ap (λ t. c.args.out.now ++ t) (lines_of_address c.args.at c.args.image.now.symbols c.args.from (c.labels_stand_in_order.ensures.here c.args.at c.args.image.now.symbols c.requires.image.order) c.requires.first)

pub returns-then-address-at-clause-next : goal.returns-then-address-at-clause-next
returns-then-address-at-clause-next c next n =
    let symbols = c.args.image.now.symbols in
    first_past c.args.at next c.args.from c.loop-k.k symbols (c.labels_stand_in_order.ensures.later c.args.at next symbols c.requires.image.order n) c.requires.first (omega arith)
    (sym (past_stop c.args.at symbols c.loop-k.k _ c.label-address.ensures c.if-address-at.true) ∙ c.loop-k.invariant.rest)

pub loop-k-preserved : goal.loop-k-preserved
loop-k-preserved c =
    let symbols = c.args.image.now.symbols in
    record {
      rest = sym (past_more c.args.at symbols c.loop-k.k _ c.label-address.ensures c.if-address-at.false) ∙ c.loop-k.invariant.rest;
      lines = two_more _ _ _ _ _ _ _ _ (c.in_ok-append.ensures.ok ∙ ap (λ b. c.loop-k.out ++ b) c.as_bytes.ensures.value) c.in_ok-append-2.ensures.ok
          (lines_more c.args.at symbols c.loop-k.k _ c.label-address.ensures c.if-address-at.false) c.loop-k.invariant.lines;
    }

pub returns-clause-lines : goal.returns-clause-lines
returns-clause-lines c =
    none_left _ _ _ (lines_end c.args.at c.args.image.now.symbols c.loop-k.k (omega arith)) c.loop-k.invariant.lines
    ∙ ap (λ t. c.args.out.now ++ t) (lines_of_address c.args.at c.args.image.now.symbols c.args.from (c.labels_stand_in_order.ensures.here c.args.at c.args.image.now.symbols c.requires.image.order) c.requires.first)

pub returns-clause-next : goal.returns-clause-next
returns-clause-next c next n =
    let symbols = c.args.image.now.symbols in
    let within = c.requires.first.within in
    let end : c.loop-k.k ≡ c.symbol_count-count.result = omega arith in
    first_past c.args.at next c.args.from c.symbol_count-count.result symbols (c.labels_stand_in_order.ensures.later c.args.at next symbols c.requires.image.order n) c.requires.first (omega arith)
    (ap (λ k. drop k symbols) (sym end) ∙ (sym (past_end c.args.at symbols c.loop-k.k (omega arith)) ∙ c.loop-k.invariant.rest))
