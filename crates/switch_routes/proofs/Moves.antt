-- The steps of the inputs, one after the other.
use Rattle.std.proofs.Common.{ℕ, zero, suc, ◌≡◌, ◌+◌, refl, ap, sym, ◌∙◌, arith, add-one}
use Rattle.xs_model.specs.AtWork.{AtWork}
use Rattle.net_model.specs.Switch.{Routes, moves_from, input_step}

-- the steps of the first inputs
unfoldable pub first_steps : Routes → ℕ → ℕ → AtWork → AtWork
first_steps routes slot zero m = m
first_steps routes slot (suc count) m = input_step routes slot count (first_steps routes slot count m)

pub no_steps : (routes : Routes) (slot : ℕ) (m : AtWork) → first_steps routes slot 0 m ≡ m
unfolding first_steps
no_steps routes slot m = refl

pub next_step : (routes : Routes) (slot count : ℕ) (m : AtWork) → first_steps routes slot (count + 1) m ≡ input_step routes slot count (first_steps routes slot count m)
unfolding first_steps
next_step routes slot count m = rw add-one refl

steps_from : (routes : Routes) (slot : ℕ) (i count all : ℕ) (m : AtWork) → all ≡ i + count → moves_from routes slot i count (first_steps routes slot i m) ≡ first_steps routes slot all m
unfolding moves_from
steps_from routes slot i zero all m is =
    let same : all ≡ i = omega arith in
    ap (λ (k : ℕ). first_steps routes slot k m) (sym same)
steps_from routes slot i (suc count) all m is =
    ap (λ (x : AtWork). moves_from routes slot (i + 1) count x) (sym (next_step routes slot i m))
    ∙ steps_from routes slot (i + 1) count all m (omega arith)

pub all_steps : (routes : Routes) (slot all : ℕ) (m : AtWork) → first_steps routes slot all m ≡ moves_from routes slot 0 all m
all_steps routes slot all m =
    sym (steps_from routes slot 0 all all m (omega arith)) ∙ ap (λ (x : AtWork). moves_from routes slot 0 all x) (no_steps routes slot m)
