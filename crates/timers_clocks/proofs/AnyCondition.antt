-- A mask that is 0 has no timer, and any other has one.
use Rattle.std.proofs.Common.{ℕ, ◌≡◌, ◌<◌, ◌≤◌, ◌^◌, List, length, Bool, true, false, not, eqb, ap, sym, subst, ◌∙◌, inl, inr, arith}
use Rattle.std.specs.List.{list_any}
use Rattle.std.specs.Int.{w32, trailing_zeros, bit_at}
use Rattle.std.proofs.lemmas.Bool.{eq-eqb, ne_eqb, cases_lt, false≢true}
use Rattle.std.proofs.lemmas.List.{get_or_past}
use Rattle.std.proofs.lemmas.List.Elements.{All-from_get_or}
use Rattle.std.proofs.lemmas.List.Folds.{list_any_at, list_any_none}
use Rattle.std.proofs.lemmas.Nat.Bits.{bit_at-zero, bit_at-trailing_zeros}
use Rattle.xs_model.specs.Record.{TimerRec, unused_timer}
use Rattle.timers_clocks.specs.Timers.{IsMask, timer_at}

abbrev has_condition : TimerRec → Bool
has_condition timer = timer.after

none_at_zero : (timers : List TimerRec) → length timers ≤ 32 → IsMask 0 timers → list_any has_condition timers ≡ false
none_at_zero timers long exact =
    list_any_none has_condition timers (All-from_get_or (λ timer. has_condition timer ≡ false) timers unused_timer (λ n h. sym (exact n (omega (arith, long))) ∙ ap (λ b. eqb b 1) (bit_at-zero n)))

some_at : (timers : List TimerRec) (n : ℕ) → has_condition (timer_at timers n) ≡ true → list_any has_condition timers ≡ true
some_at timers n is =
    elim (cases_lt n (length timers)) [
      | inl within ↦ list_any_at has_condition timers n unused_timer within is
      | inr past ↦ absurd (false≢true (sym (ap has_condition (get_or_past timers n unused_timer past)) ∙ is))
    ]

pub any_condition : (mask : ℕ) (timers : List TimerRec) → length timers ≤ 32 → mask < 2 ^ 32 → IsMask mask timers → not (eqb mask 0) ≡ list_any (λ timer. timer.after) timers
any_condition mask timers long fits exact =
    elim (cases_lt 0 mask) [
      | inl some ↦
          let n : ℕ = trailing_zeros w32 mask in
          let within : n < 32 = (bit_at-trailing_zeros w32 mask some fits).0 in
          let is : bit_at mask n ≡ 1 = (bit_at-trailing_zeros w32 mask some fits).1 in
          ap not (ne_eqb mask 0 (λ e. omega (arith, some))) ∙ sym (some_at timers n (sym (exact n within) ∙ ap (λ b. eqb b 1) is))
      | inr none ↦
          let e : mask ≡ 0 = omega (arith, none) in
          ap not (eq-eqb mask 0 e) ∙ sym (none_at_zero timers long (subst (λ m. IsMask m timers) e exact))
    ]
