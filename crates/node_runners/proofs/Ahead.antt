-- The slot at which the horizon of a node ends.
use Rattle.std.proofs.Common.{◌≡◌, ℕ, zero, suc, ◌+◌, ◌-◌, ◌^◌, ◌<◌, ◌≤◌, ◌⊎◌, inl, inr, Bool, true, false, if◌then◌else◌, refl, sym, ap, ◌∙◌, arith}
use Rattle.std.proofs.Math.Nat.{eq-or-lt_of_le}
use Rattle.std.proofs.lemmas.Bool.{true≢false, cases_Bool}
use Rattle.xs_base.specs.Numbers.{Slot, EndNumber}
use Rattle.ahead_limits.specs.declared.horizon.Seen.{Seen}
use Rattle.ahead_limits.specs.Horizon.{HorizonRec, Sees, horizon_at, may_run, IsBelowAll}
use Rattle.ahead_limits.specs.Schedule.{clock_after}
use Rattle.ahead_limits.proofs.Ends.{may_run_exactly}

-- a node that is to run so many slots runs up to a slot, where it may not run or has run them all
record RunsTo (h : HorizonRec) (count : ℕ) (clock stop : Slot) : Type 0 where
  on : clock ≤ stop
  runs : (slot : Slot) → clock ≤ slot → slot < stop → may_run h slot ≡ true
  stops : (stop ≡ clock + count) ⊎ (may_run h stop ≡ false)

module _ (h : HorizonRec) (count : ℕ) (clock : Slot) (rest : (t : Slot) → RunsTo h count t (clock_after h count t)) where
  one_more : (b : Bool) → may_run h clock ≡ b → RunsTo h (suc count) clock (clock_after h count (if b then clock + 1 else clock))
  one_more true may =
      let r = rest (clock + 1) in
      record { on = omega (arith, r.on); runs = λ slot on below. by_order slot r.runs (eq-or-lt_of_le on) below; stops = all r.stops }
    where
      by_order : (slot : Slot) → ((t : Slot) → clock + 1 ≤ t → t < clock_after h count (clock + 1) → may_run h t ≡ true) → (clock ≡ slot) ⊎ (clock < slot)
          → slot < clock_after h count (clock + 1) → may_run h slot ≡ true
      by_order slot runs (inl same) below = sym (ap (may_run h) same) ∙ may
      by_order slot runs (inr later) below = runs slot (omega (arith, later)) below

      all : (clock_after h count (clock + 1) ≡ clock + 1 + count) ⊎ (may_run h (clock_after h count (clock + 1)) ≡ false)
          → (clock_after h count (clock + 1) ≡ clock + suc count) ⊎ (may_run h (clock_after h count (clock + 1)) ≡ false)
      all (inl here) = inl (omega (arith, here))
      all (inr not) = inr not
  one_more false not =
      let r = rest clock in
      record { on = r.on; runs = r.runs; stops = inr (stands r.runs (eq-or-lt_of_le r.on)) }
    where
      stands : ((t : Slot) → clock ≤ t → t < clock_after h count clock → may_run h t ≡ true)
          → (clock ≡ clock_after h count clock) ⊎ (clock < clock_after h count clock) → may_run h (clock_after h count clock) ≡ false
      stands runs (inl same) = sym (ap (may_run h) same) ∙ not
      stands runs (inr later) = absurd (true≢false (sym (runs clock (omega arith) later) ∙ not))

runs_to : (h : HorizonRec) (count : ℕ) (clock : Slot) → RunsTo h count clock (clock_after h count clock)
unfolding clock_after
runs_to h zero clock = record { on = omega arith; runs = λ slot on below. absurd (omega (arith, on, below)); stops = inl (omega arith) }
runs_to h (suc count) clock = one_more h count clock (λ t. runs_to h count t) (may_run h clock) refl

-- the first slot from one on that a node may not run, which is not past its limit or an arc's horizon where the first one is not
pub record IsHorizon (h : HorizonRec) (clock stop : Slot) : Type 0 where
  pub on : clock ≤ stop
  pub below : (slot : Slot) → clock ≤ slot → slot < stop → IsBelowAll h slot
  pub within : clock ≤ h.limit → stop ≤ h.limit
  pub ahead : (end : EndNumber) (s : Seen) → Sees h end s → clock ≤ horizon_at s → stop ≤ horizon_at s
  pub stops : may_run h stop ≡ false

module _ (h : HorizonRec) (small : h.limit < 2 ^ 32) (clock stop : Slot) (r : RunsTo h (2 ^ 32 - 1) clock stop) where
  below_all : (slot : Slot) → clock ≤ slot → slot < stop → IsBelowAll h slot
  below_all slot on before = (may_run_exactly h slot (may_run h slot) refl).0 (r.runs slot on before)

  within_limit : (clock ≡ stop) ⊎ (clock < stop) → clock ≤ h.limit → stop ≤ h.limit
  within_limit (inl same) at = omega (arith, same, at)
  within_limit (inr later) at = let last = below_all (stop - 1) (omega (arith, later)) (omega (arith, later)) in omega (arith, later, last.0)

  ahead_of : (end : EndNumber) (s : Seen) → (clock ≡ stop) ⊎ (clock < stop) → Sees h end s → clock ≤ horizon_at s → stop ≤ horizon_at s
  ahead_of end s (inl same) sees at = omega (arith, same, at)
  ahead_of end s (inr later) sees at =
      let last = below_all (stop - 1) (omega (arith, later)) (omega (arith, later)) in
      let here : stop - 1 < horizon_at s = last.1 end s sees in
      omega (arith, later, here)

  at_stop : (stop ≡ clock + (2 ^ 32 - 1)) ⊎ (may_run h stop ≡ false) → (may_run h stop ≡ true) ⊎ (may_run h stop ≡ false) → may_run h stop ≡ false
  at_stop (inr not) test = not
  at_stop (inl far) (inr not) = not
  at_stop (inl far) (inl may) = let below = (may_run_exactly h stop (may_run h stop) refl).0 may in absurd (omega (arith, far, below.0, small))

  horizon_at_stop : IsHorizon h clock stop
  horizon_at_stop = record {
    on = r.on;
    below = below_all;
    within = within_limit (eq-or-lt_of_le r.on);
    ahead = λ end s sees at. ahead_of end s (eq-or-lt_of_le r.on) sees at;
    stops = at_stop r.stops (cases_Bool (may_run h stop));
  }

pub is_horizon : (h : HorizonRec) (clock : Slot) → h.limit < 2 ^ 32 → IsHorizon h clock (clock_after h (2 ^ 32 - 1) clock)
is_horizon h clock small = horizon_at_stop h small clock (clock_after h (2 ^ 32 - 1) clock) (runs_to h (2 ^ 32 - 1) clock)
