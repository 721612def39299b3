-- A counter after some falling edges.
use Rattle.std.proofs.Common.{ℕ, zero, suc, ◌≡◌, ◌+◌, ◌%◌, ◌<◌, Some, None, eqb, refl, ap, ◌∙◌, arith}
use Rattle.std.proofs.lemmas.Bool.{eq-eqb, ne_eqb}
use Rattle.quiet_model.specs.Clocks.{counter_after_falls}
use Rattle.single_port.specs.Begins.{IsDueAt}

pub counter_after : (n counter : ℕ) → counter < 65536 → counter_after_falls n counter ≡ (counter + n) % 65536
unfolding counter_after_falls
counter_after zero counter fits = omega (arith, fits)
counter_after (suc n) counter fits =
    ap (λ now. (now + 1) % 65536) (counter_after n counter fits) ∙ omega arith

pub due_at_once : (counter : ℕ) → IsDueAt counter None 1
due_at_once counter = record { some = omega arith; none_before = λ n some less. absurd (omega (arith, some, less)); there = refl }

pub due_at : (counter time k : ℕ) → counter < 65536 → time < 65536 → 0 < k → k < 65537 → (counter + k) % 65536 ≡ time → IsDueAt counter (Some time) k
due_at counter time k fits below some most is = record {
  some = some;
  none_before = λ n some_n less. ap (λ now. eqb now time) (counter_after n counter fits) ∙ ne_eqb ((counter + n) % 65536) time (λ e. omega (arith, e, is, some_n, less, most));
  there = ap (λ now. eqb now time) (counter_after k counter fits) ∙ eq-eqb ((counter + k) % 65536) time is;
}
