use Rattle.std.proofs.Common.{◌≡◌, None, length, ap, ◌∙◌, arith}
use Rattle.std.proofs.lemmas.List.{ext_get_or, length-map}
use Rattle.xs_model.specs.Record.{SlotsRec}
use Rattle.thread_slots.specs.Turns.{last_in}
use Rattle.thread_slots.proofs.Slots.state.Goals as goal

pub returns : goal.returns
returns c =
    let threads : length c.args.self.now.last ≡ 8 = rw (← c.self.view_is) (length-map c.self.inside.turns last_in ∙ c.self.invariant.threads) in
    record {
      last = ext_get_or None c.loop-th.last c.args.self.now.last (omega (arith, c.loop-th.invariant.0, threads)) (λ k h. c.loop-th.invariant.1 k (omega (arith, c.loop-th.invariant.0)));
      division = ap (λ (slots : SlotsRec). slots.division) c.self.view_is;
    }
