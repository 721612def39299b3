-- Facts on each number below a bound, one by one.
use Rattle.std.proofs.Common.{ℕ, zero, suc, ◌<◌, inl, inr, sym, subst, arith}
use Rattle.std.proofs.lemmas.Bool.{cases_eq}

abbrev pub AllBelow : (ℕ → Type 0) → ℕ → Type 0
AllBelow P zero = Unit {0}
AllBelow P (suc n) = P n × AllBelow P n

pub below : (P : ℕ → Type 0) (n : ℕ) → AllBelow P n → (k : ℕ) → k < n → P k
below P zero h k less = absurd (omega arith)
below P (suc n) h k less =
    elim (cases_eq k n) [
      | inl e ↦ subst P (sym e) h.0
      | inr d ↦ below P n h.1 k (omega (arith, d))
    ]
