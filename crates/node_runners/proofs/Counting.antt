-- How many slots a node has stepped, while it goes over quiet slots at once.
use Rattle.std.proofs.Common.{◌≡◌, ℕ, ◌+◌, true, sym, ap, ◌∙◌, subst, arith}
use Rattle.xs_base.specs.Numbers.{Slot}
use Rattle.node_runners.specs.Runner.{RunnerRec}
use Rattle.quiet_model.specs.Slots.{NoneBefore}
use Rattle.busy_slots.specs.Busy.{is_busy, busy_count}
use Rattle.busy_slots.specs.Serial.{QuietSlotsAreNotCounted}
use Rattle.busy_slots.specs.Arrivals.{BusySlotIsCounted}
use Rattle.node_runners.specs.Busy.{HasSteppedBusy, RunsOn}

-- over quiet slots
pub quiet_passed : (a : RunnerRec) (count : Slot) → QuietSlotsAreNotCounted → NoneBefore (is_busy a.plan a.node) a.clock (a.clock + count) → HasSteppedBusy a
    → busy_count a.plan a.node (a.clock + count) ≡ a.stepped
quiet_passed a count quiet none busy = quiet a.plan a.node a.clock (a.clock + count) (omega arith) none ∙ sym busy

-- over a busy slot
pub busy_stepped : BusySlotIsCounted → (a b : RunnerRec) → b ≡ record a { clock = a.clock + 1; stepped = a.stepped + 1 } → is_busy a.plan a.node a.clock ≡ true → HasSteppedBusy a → HasSteppedBusy b
busy_stepped one a b is here busy =
    subst HasSteppedBusy (sym is) (ap (λ n. n + 1) busy ∙ sym (one a.plan a.node a.clock here))

-- ---- A node that runs on

own_numbers : (before now : RunnerRec) (clock steps : ℕ) → now ≡ record before { clock = clock; stepped = steps } → now ≡ record before { clock = now.clock; stepped = now.stepped }
own_numbers before now clock steps is =
    is ∙ (λ i. record before { clock = sym (ap (λ (r : RunnerRec). r.clock) is) i; stepped = sym (ap (λ (r : RunnerRec). r.stepped) is) i })

pub further : (before a b : RunnerRec) → RunsOn before a → RunsOn a b → RunsOn before b
further before a b so_far on =
    let onto : RunnerRec → RunnerRec = λ r. record r { clock = b.clock; stepped = b.stepped } in
    record { rest = on.rest ∙ ap onto so_far.rest; on = omega (arith, so_far.on, on.on); busy = on.busy }

pub over_busy : BusySlotIsCounted → (before a b : RunnerRec) → RunsOn before a → b ≡ record a { clock = a.clock + 1; stepped = a.stepped + 1 } → is_busy a.plan a.node a.clock ≡ true → RunsOn before b
over_busy one before a b so_far is here =
    let onto : RunnerRec → RunnerRec = λ r. record r { clock = a.clock + 1; stepped = a.stepped + 1 } in
    record {
      rest = own_numbers before b (a.clock + 1) (a.stepped + 1) (is ∙ ap onto so_far.rest);
      on = omega (arith, so_far.on, ap (λ (r : RunnerRec). r.clock) is);
      busy = busy_stepped one a b is here so_far.busy;
    }

pub over_none : (before a b : RunnerRec) → RunsOn before a → b ≡ a → RunsOn before b
over_none before a b so_far same = subst (RunsOn before) (sym same) so_far
