use Rattle.std.proofs.Common.{◌≡◌, ◌+◌, ◌*◌, ap, subst, arith}
use Rattle.xs_model.specs.Record.{SlotsRec}
use Rattle.thread_slots.specs.Able.{some_may_pick}
use Rattle.thread_slots.proofs.Rested.{any_rested}
use Rattle.thread_slots.proofs.Slots.some_rested.Goals as goal

pub returns : goal.returns
returns c = record {
  value =
      subst (λ last. c.some_turn_before.result ≡ some_may_pick c.args.mask last c.args.slot) (ap (λ (slots : SlotsRec). slots.last) c.self.view_is)
      (any_rested c.args.mask c.args.slot (8 * (c.from.result + 1)) c.some_turn_before.result c.self.inside.turns c.self.invariant (omega (arith, c.from.ensures)) c.some_turn_before.ensures.some c.some_turn_before.ensures.none);
}
