use Rattle.std.proofs.Common.{◌≡◌, ℕ, ◌+◌, Bool, false, cond, sym, ap, ◌∙◌, subst, inl, inr}
use mathlib.Core.Logic.{◌⊎◌}
use Rattle.ahead_limits.specs.Horizon.{may_run}
use Rattle.node_runners.specs.declared.runner.Ran.{Ran}
use Rattle.node_runners.specs.declared.runner.Ran.TheVariants.{Blocked, AtLimit}
use Rattle.node_runners.specs.Runner.{RunnerRec, Runs}
use Rattle.run_drive.proofs.Slots.{none_where_stopped, none_at_limit}
use Rattle.run_drive.proofs.stage.runs_on.Goals as goal

-- a node whose horizon does not let it run stays as it was
record Stays (before after : RunnerRec) : Type 0 where
  stays : may_run before.horizon before.clock ≡ false
  same : after ≡ before

stays : (before after : RunnerRec) (ran : Ran) → Runs before ran after → ((end : ℕ) × (seen : ℕ) × (ran ≡ Blocked end seen)) ⊎ (ran ≡ AtLimit) → Stays before after
stays before after ran runs (inl b) =
    let r = subst (λ (x : Ran). Runs before x after) b.2 runs in
    record { stays = none_where_stopped before.horizon before.clock b.0 b.1 r.1; same = r.2 }
stays before after ran runs (inr is) =
    let r = subst (λ (x : Ran). Runs before x after) is runs in
    record { stays = none_at_limit before.horizon before.clock r.0; same = r.1 }

clock_by : (before after : RunnerRec) → Stays before after → after ≡ record before { clock = cond (may_run before.horizon before.clock) (before.clock + 1) before.clock; stepped = after.stepped }
clock_by before after s =
    let f : Bool → ℕ → RunnerRec = λ b steps. record before { clock = cond b (before.clock + 1) before.clock; stepped = steps } in
    s.same ∙ (λ i. f (sym s.stays i) (sym (ap (λ (r : RunnerRec). r.stepped) s.same) i))

pub returns-in-Blocked : goal.returns-in-Blocked
returns-in-Blocked c =
    let s = stays c.args.runner.now c.run_slot.new.self c.in_ok-run_slot.field-0 c.in_ok-run_slot.ensures.ran c.in-Blocked.is in
    record { told = sym s.stays; slot = clock_by c.args.runner.now c.run_slot.new.self s }
