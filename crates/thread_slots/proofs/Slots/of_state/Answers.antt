use Rattle.std.proofs.Common.{ℕ, List, Option, ap, ◌∙◌, arith}
use Rattle.xs_model.specs.Record.{SlotsRec}
use Rattle.thread_slots.proofs.Marked.{all_marked}
use Rattle.thread_slots.proofs.Slots.of_state.Goals as goal

pub returns : goal.returns
returns c = record {
  value =
      ap (λ (last : List (Option ℕ)). let slots : SlotsRec = record { last = last; division = c.args.division } in slots)
      (ap (λ (slots : SlotsRec). slots.last) c.slots.view_is
      ∙ all_marked c.loop-th.th c.args.last.now c.loop-th.slots.last (omega (arith, c.told-last)) (omega (arith, c.loop-th-test.false)) c.loop-th.invariant);
}
