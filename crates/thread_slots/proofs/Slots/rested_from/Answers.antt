use Rattle.std.proofs.Common.{ap, subst, arith}
use Rattle.xs_model.specs.Record.{SlotsRec}
use Rattle.quiet_model.specs.Slots.{IsFirst}
use Rattle.thread_slots.specs.Able.{some_may_pick}
use Rattle.thread_slots.proofs.Rested.{first_rested}
use Rattle.thread_slots.proofs.Slots.rested_from.Goals as goal

pub returns : goal.returns
returns c = record {
  first =
      subst (λ last. IsFirst (some_may_pick c.args.mask last) c.args.from c.args.bound c.min.result) (ap (λ (slots : SlotsRec). slots.last) c.self.view_is)
      (first_rested c.args.mask c.args.from c.args.bound c.least_turn-rested.result c.min.result c.self.inside.turns c.self.invariant c.least_turn-rested.ensures (omega arith) (omega (arith, c.min.ensures, c.max.ensures, c.from.ensures, c.from-2.ensures)));
}
