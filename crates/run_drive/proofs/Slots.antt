-- A node that runs so many slots, one by one.
use Rattle.std.proofs.Common.{◌≡◌, ℕ, zero, suc, ◌+◌, ◌-◌, ◌<◌, ◌≤◌, true, false, cond, refl, sym, ap, ◌∙◌, arith, inl, inr}
use mathlib.Core.Logic.{◌⊎◌}
use Rattle.std.proofs.lemmas.Bool.{cases_Bool}
use Rattle.xs_base.specs.Numbers.{Slot}
use Rattle.ahead_limits.specs.Horizon.{HorizonRec, may_run, IsBelowAll, StopsAt}
use Rattle.ahead_limits.specs.Schedule.{clock_after}
use Rattle.ahead_limits.proofs.Ends.{may_run_exactly}
use Rattle.node_runners.specs.Runner.{RunnerRec}

no_run : (h : HorizonRec) (clock : Slot) → (IsBelowAll h clock → ⊥) → may_run h clock ≡ false
no_run h clock not = by_case (cases_Bool (may_run h clock))
  where
    by_case : (may_run h clock ≡ true) ⊎ (may_run h clock ≡ false) → may_run h clock ≡ false
    by_case (inl runs) = absurd (not ((may_run_exactly h clock (may_run h clock) refl).0 runs))
    by_case (inr stays) = stays

pub none_at_limit : (h : HorizonRec) (clock : Slot) → clock ≡ h.limit → may_run h clock ≡ false
none_at_limit h clock is = no_run h clock (λ below. omega (arith, is, below.0))

pub none_where_stopped : (h : HorizonRec) (clock : Slot) (end seen : ℕ) → StopsAt h clock end seen → may_run h clock ≡ false
none_where_stopped h clock end seen stop = no_run h clock (λ below. omega (arith, stop.is_horizon, below.1 end stop.link stop.there))

stays_there : (h : HorizonRec) (count : ℕ) (clock : Slot) → may_run h clock ≡ false → clock_after h count clock ≡ clock
unfolding clock_after
stays_there h zero clock stays = refl
stays_there h (suc count) clock stays = ap (λ b. clock_after h count (cond b (clock + 1) clock)) stays ∙ stays_there h count clock stays

one_more : (h : HorizonRec) (left count : ℕ) (clock : Slot) → left ≡ suc count → clock_after h left clock ≡ clock_after h count (cond (may_run h clock) (clock + 1) clock)
unfolding clock_after
one_more h left count clock is = ap (λ n. clock_after h n clock) is

none_left : (h : HorizonRec) (left : ℕ) (clock : Slot) → left ≡ 0 → clock_after h left clock ≡ clock
unfolding clock_after
none_left h left clock is = ap (λ n. clock_after h n clock) is

module _ (before runner : RunnerRec) (count done : ℕ)
    (rest : runner ≡ record before { clock = runner.clock; stepped = runner.stepped })
    (leads : clock_after before.horizon (count - done) runner.clock ≡ clock_after before.horizon count before.clock) where
  same_horizon : runner.horizon ≡ before.horizon
  same_horizon = ap (λ (r : RunnerRec). r.horizon) rest

  at_clock : (clock : Slot) → runner.clock ≡ clock → runner ≡ record before { clock = clock; stepped = runner.stepped }
  at_clock clock is = rest ∙ (let f : Slot → RunnerRec = λ t. record before { clock = t; stepped = runner.stepped } in ap f is)

  pub all_ran : count ≤ done → runner ≡ record before { clock = clock_after before.horizon count before.clock; stepped = runner.stepped }
  all_ran past = at_clock _ (sym (none_left before.horizon (count - done) runner.clock (omega (arith, past))) ∙ leads)

  module _ (after : RunnerRec) (slot : after ≡ record runner { clock = cond (may_run runner.horizon runner.clock) (runner.clock + 1) runner.clock; stepped = after.stepped }) where
    after_is : after ≡ record before { clock = cond (may_run runner.horizon runner.clock) (runner.clock + 1) runner.clock; stepped = after.stepped }
    after_is =
        let f : RunnerRec → RunnerRec = λ r. record r { clock = cond (may_run runner.horizon runner.clock) (runner.clock + 1) runner.clock; stepped = after.stepped } in
        slot ∙ ap f rest

    clock_is : after.clock ≡ cond (may_run runner.horizon runner.clock) (runner.clock + 1) runner.clock
    clock_is = ap (λ (r : RunnerRec). r.clock) after_is

    after_at : (clock : Slot) → after.clock ≡ clock → after ≡ record before { clock = clock; stepped = after.stepped }
    after_at clock is = after_is ∙ (let f : Slot → RunnerRec = λ t. record before { clock = t; stepped = after.stepped } in ap f (sym clock_is ∙ is))

    pub rest_stays : after ≡ record before { clock = after.clock; stepped = after.stepped }
    rest_stays = after_at after.clock refl

    pub leads_on : done < count → clock_after before.horizon (count - (done + 1)) after.clock ≡ clock_after before.horizon count before.clock
    leads_on more =
        let clock_by : after.clock ≡ cond (may_run before.horizon runner.clock) (runner.clock + 1) runner.clock
        = clock_is ∙ ap (λ (h : HorizonRec). cond (may_run h runner.clock) (runner.clock + 1) runner.clock) same_horizon in
        ap (λ t. clock_after before.horizon (count - (done + 1)) t) clock_by
        ∙ sym (one_more before.horizon (count - done) (count - (done + 1)) runner.clock (omega (arith, more)))
        ∙ leads

    pub stopped : may_run runner.horizon runner.clock ≡ false → after ≡ record before { clock = clock_after before.horizon count before.clock; stepped = after.stepped }
    stopped stays =
        let stays_before : may_run before.horizon runner.clock ≡ false = ap (λ (h : HorizonRec). may_run h runner.clock) (sym same_horizon) ∙ stays in
        after_at _ (clock_is ∙ ap (λ b. cond b (runner.clock + 1) runner.clock) stays
        ∙ sym (stays_there before.horizon (count - done) runner.clock stays_before) ∙ leads)
