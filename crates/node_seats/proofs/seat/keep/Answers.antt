use Rattle.std.proofs.Common.{◌+◌, ◌-◌, List, ◌++◌, length, take, ap, sym, ◌∙◌, subst, arith, append_assoc}
use Rattle.std.proofs.lemmas.List.{take_more}
use Rattle.xs_model.specs.declared.event.Event.{Event}
use Rattle.trace_lines.specs.Kept.{Keeps}
use Rattle.node_seats.proofs.seat.keep.Goals as goal

pub loop-e-preserved : goal.loop-e-preserved
loop-e-preserved c =
    let emitted = c.args.given.now in
    let k = c.loop-e.e-index in
    record {
      keeps = λ all h.
          subst (Keeps c.add.new.self) (append_assoc all (take k emitted) _ ∙ ap (λ (es : List Event). all ++ es) (sym (take_more emitted k _ c.loop-e-test.true)))
          (c.add.ensures.keeps (all ++ take k emitted) (c.loop-e.invariant.keeps all h));
      room = c.add.ensures.room (length emitted - (k + 1)) (λ few. omega (arith, c.loop-e.invariant.room few));
      more = omega arith;
    }
