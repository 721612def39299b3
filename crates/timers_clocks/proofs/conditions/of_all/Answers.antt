use Rattle.std.proofs.Common.{ap, sym, ◌∙◌, inl, inr, arith}
use Rattle.std.proofs.lemmas.Bool.{cases_lt}
use Rattle.std.proofs.lemmas.List.{get_or_past}
use Rattle.xs_model.specs.Record.{TimerRec, unused_timer}
use Rattle.timers_clocks.proofs.conditions.of_all.Goals as goal

pub returns : goal.returns
returns c n within =
    elim (cases_lt n c.loop-n.n) [
      | inl below ↦ c.loop-n.invariant.0 n below
      | inr above ↦ c.loop-n.invariant.1 n above within ∙ sym (ap (λ (timer : TimerRec). timer.after) (get_or_past c.args.timers.now n unused_timer (omega (arith, above, c.type_inv.timers))))
    ]
