-- A counter after one more, and counters after one more each up to one.
use Rattle.std.proofs.Common.{◌≡◌, ◌≢◌, ℕ, ◌+◌, ◌<◌, ◌≤◌, ◌⊎◌, Bool, ◌&&◌, List, length, ap, ◌∙◌, sym, refl, subst, arith}
use Rattle.std.proofs.lemmas.Bool.{ne_eqb, eq-eqb}
use Rattle.std.proofs.Math.Nat.{eq-or-lt_of_le}
use Rattle.std.proofs.Math.Logic.{⊎_elim}
use Rattle.profile_model.specs.Sums.{one_if}
use Rattle.run_counts.specs.Tallies.{at, IsOneMore}

module _ (is : Bool) (place : ℕ) (before after : List ℕ) (more : IsOneMore is place before after) where
  -- at its place
  pub here : at after place ≡ at before place + one_if is
  here = more place ∙ ap (λ (same : Bool). at before place + one_if (same && is)) (eq-eqb place place refl)

  -- at another
  pub elsewhere : (j : ℕ) → place ≢ j → at after j ≡ at before j
  elsewhere j apart = more j ∙ ap (λ (same : Bool). at before j + one_if (same && is)) (ne_eqb place j apart) ∙ omega arith

-- below a place each counter has one more, where it is to be counted, and from there on it is as it was
pub record IsCountedTo (is : ℕ → Bool) (place : ℕ) (before after : List ℕ) : Type 0 where
  pub long : length after ≡ length before
  pub done : (j : ℕ) → j < place → at after j ≡ at before j + one_if (is j)
  pub rest : (j : ℕ) → place ≤ j → at after j ≡ at before j

pub none-yet : (is : ℕ → Bool) (counts : List ℕ) → IsCountedTo is 0 counts counts
none-yet is counts = record { long = refl; done = λ j h. absurd (omega (arith, h)); rest = λ j h. refl }

pub one-further : (is : ℕ → Bool) (place : ℕ) (before now after : List ℕ) → IsCountedTo is place before now → IsOneMore (is place) place now after
    → length after ≡ length now → IsCountedTo is (place + 1) before after
one-further is place before now after counted more long =
    let at_it : at after place ≡ at before place + one_if (is place) =
    here (is place) place now after more ∙ ap (λ (n : ℕ). n + one_if (is place)) (counted.rest place (omega arith)) in
    let last : (j : ℕ) → j ≡ place → at after j ≡ at before j + one_if (is j) =
    λ j same. subst (λ (p : ℕ). at after p ≡ at before p + one_if (is p)) (sym same) at_it in
    let below : (j : ℕ) → j < place → at after j ≡ at before j + one_if (is j) =
    λ j h. elsewhere (is place) place now after more j (λ same. omega (arith, h, same)) ∙ counted.done j h in
    let each : (j : ℕ) → (j ≡ place) ⊎ (j < place) → at after j ≡ at before j + one_if (is j) =
    λ j cases. ⊎_elim (last j) (below j) cases in
    record {
      long = long ∙ counted.long;
      done = λ j h. each j (eq-or-lt_of_le (omega (arith, h)));
      rest = λ j h. elsewhere (is place) place now after more j (λ same. omega (arith, h, same)) ∙ counted.rest j (omega (arith, h));
    }
