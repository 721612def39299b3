-- The last issues of the threads are marked, one after the other.
use Rattle.std.proofs.Common.{ℕ, ◌≡◌, ◌+◌, ◌<◌, ◌≤◌, Option, Some, None, List, length, set, get_or, ap, sym, ◌∙◌, arith, inl, inr}
use Rattle.std.proofs.lemmas.Bool.{cases_eq}
use Rattle.std.proofs.lemmas.List.{ext_get_or, length-set, get_or-set_same, get_or-set_other}

-- so far those below n are, and the others never issued
pub record AreMarkedBelow (n : ℕ) (last marked : List (Option ℕ)) : Type 0 where
  pub count : length marked ≡ 8
  pub below : (k : ℕ) → k < n → get_or marked k None ≡ get_or last k None
  pub others : (k : ℕ) → n ≤ k → get_or marked k None ≡ None

pub one_marked : (n slot : ℕ) (last marked : List (Option ℕ)) → AreMarkedBelow n last marked → n < 8 → get_or last n None ≡ Some slot → AreMarkedBelow (n + 1) last (set marked n (Some slot))
one_marked n slot last marked so_far within is = record {
  count = length-set marked n (Some slot) ∙ so_far.count;
  below = λ k h. elim (cases_eq k n) [
    | inl e ↦ ap (λ i. get_or (set marked n (Some slot)) i None) e ∙ get_or-set_same marked n (Some slot) None (omega (arith, so_far.count)) ∙ sym is ∙ ap (λ i. get_or last i None) (sym e)
    | inr ne ↦ get_or-set_other marked n k (Some slot) None ne ∙ so_far.below k (omega (arith, ne))
  ];
  others = λ k h. get_or-set_other marked n k (Some slot) None (λ e. omega (arith, e, h)) ∙ so_far.others k (omega arith);
}

pub one_passed : (n : ℕ) (last marked : List (Option ℕ)) → AreMarkedBelow n last marked → get_or last n None ≡ None → AreMarkedBelow (n + 1) last marked
one_passed n last marked so_far is = record {
  count = so_far.count;
  below = λ k h. elim (cases_eq k n) [
    | inl e ↦ so_far.others k (omega (arith, e)) ∙ sym is ∙ ap (λ i. get_or last i None) (sym e)
    | inr ne ↦ so_far.below k (omega (arith, ne))
  ];
  others = λ k h. so_far.others k (omega arith);
}

pub all_marked : (n : ℕ) (last marked : List (Option ℕ)) → length last ≡ 8 → 8 ≤ n → AreMarkedBelow n last marked → marked ≡ last
all_marked n last marked long all are =
    ext_get_or None marked last (are.count ∙ sym long) (λ k h. are.below k (omega (arith, are.count)))
