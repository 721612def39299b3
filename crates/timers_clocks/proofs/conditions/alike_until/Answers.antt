use Rattle.std.proofs.Common.{ℕ, ◌≡◌, ◌≤◌, subst, inl, inr, below_more, arith}
use Rattle.std.proofs.lemmas.Bool.{cases_lt}
use Rattle.std.proofs.lemmas.List.{get_or_default}
use Rattle.xs_base.specs.Numbers.{Slot}
use Rattle.xs_model.specs.Record.{unused_timer}
use Rattle.xs_model.specs.Time.{timer_holds}
use Rattle.timers_clocks.specs.Timers.{timer_at}
use Rattle.timers_clocks.specs.Alike.{SomeTurnsAfter, TurnsAfter}
use Rattle.timers_clocks.proofs.conditions.alike_until.Goals as goal

pub loop-n-preserved : goal.loop-n-preserved
loop-n-preserved c =
    let timers = c.args.timers.now in
    let slot = c.args.slot in
    let n = c.loop-n.n in
    let until : ℕ = c.min-until.result in
    let its = get_or_default timers n c.index-timers-n.result unused_timer (omega (arith, c.loop-n-test.true, c.type_inv.timers)) in
    let here : (later : Slot) → slot ≤ later → later ≤ c.alike_until.result → timer_holds later (timer_at timers n) ≡ timer_holds slot (timer_at timers n) =
    subst (λ timer. (later : Slot) → slot ≤ later → later ≤ c.alike_until.result → timer_holds later timer ≡ timer_holds slot timer) its c.alike_until.ensures.same in
    let turns : TurnsAfter (λ slot. timer_holds slot (timer_at timers n)) slot c.alike_until.result =
    subst (λ timer. TurnsAfter (λ slot. timer_holds slot timer) slot c.alike_until.result) its c.alike_until.ensures.last in
    record {
      same = below_more _ _ (λ k below later from to. c.loop-n.invariant.same k below later from (omega arith)) (λ later from to. here later from (omega arith));
      now = omega (arith, c.alike_until.ensures.now);
      last =
          elim (cases_lt c.loop-n.until c.alike_until.result) [
            | inl less ↦ let e : c.loop-n.until ≡ until = omega arith in subst (SomeTurnsAfter timers slot) e c.loop-n.invariant.last
            | inr more ↦ let e : c.alike_until.result ≡ until = omega arith in subst (SomeTurnsAfter timers slot) e (λ room. (n, c.loop-n-test.true, turns room))
          ];
    }
