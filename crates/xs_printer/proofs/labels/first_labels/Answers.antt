use Rattle.std.proofs.Common.{sym, arith}
use Rattle.xs_printer.proofs.FirstLabels.{none_yet, one_more_first, past_place}
use Rattle.xs_printer.proofs.labels.first_labels.Goals as goal

pub loop-place-init : goal.loop-place-init
loop-place-init c = record {
  firsts = none_yet c.args.image.now.symbols c.new-firsts.result.items c.new-firsts.ensures.items;
  within = omega arith;
  rest = sym (c.labels_stand_in_order.ensures.first_place c.args.image.now c.code.ensures.image);
}

pub loop-place-preserved : goal.loop-place-preserved
loop-place-preserved c =
    let image = c.args.image.now in
    let p = c.loop-place.place in
    record {
      firsts = one_more_first image.symbols p c.loop-place.next _ _ c.in_ok-push.ensures.items c.loop-place.invariant.rest c.loop-place.invariant.firsts;
      within = c.past_labels-next.ensures.within;
      rest = past_place image.symbols p c.loop-place.next _ (c.labels_stand_in_order.ensures.later _ _ image.symbols c.code.ensures.image.order (c.labels_stand_in_order.ensures.next_place image p c.code.ensures.image)) c.loop-place.invariant.rest c.past_labels-next.ensures.rest;
    }
