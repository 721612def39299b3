-- The pins of ports that are high.
use Rattle.std.proofs.Common.{ℕ, ◌≡◌, ◌+◌, ◌^◌, ◌<◌, ◌≤◌, Bool, false, cond, eqb, List, [], ◌∷◌, length, get_or, refl, ap, sym, ◌∙◌, arith, inl, inr, zero, suc}
use Rattle.std.specs.Prelude.{◌==◌}
use Rattle.std.proofs.lemmas.Bool.{cond-true, cond-false, cases_lt, cases_eq, eq-eqb, ne_eqb}
use Rattle.std.proofs.lemmas.List.{get_or_past}
use Rattle.std.proofs.lemmas.Nat.Bits.{bit_at_above, bit_at-zero}
use Rattle.xs_model.specs.Masks.{in_mask}
use Rattle.xs_model.specs.Record.{PortRec}
use Rattle.xs_model.specs.Ports.{level_of, levels_of}
use Rattle.buffered_ports.specs.Asks.{port_at}

-- ---- The level of one pin

pub level_at : (ports : List PortRec) (outside : List ℕ) (k : ℕ) → k < length ports → k < length outside → get_or (levels_of ports outside) k 0 ≡ level_of (port_at ports k).driven (get_or outside k 0)
level_at [] outside k within known = absurd (omega arith)
level_at (port ∷ ports) [] k within known = absurd (omega arith)
level_at (port ∷ ports) (level ∷ outside) zero within known = refl
level_at (port ∷ ports) (level ∷ outside) (suc k) within known = level_at ports outside k (omega arith) (omega arith)

no_more_levels : (ports : List PortRec) (outside : List ℕ) → length (levels_of ports outside) ≤ length ports
no_more_levels [] outside = omega arith
no_more_levels (port ∷ ports) [] = omega arith
no_more_levels (port ∷ ports) (level ∷ outside) = omega (arith, no_more_levels ports outside)

-- ---- Their mask

-- a mask has those of the pins below n that show 1, and no others
pub record AreHighBelow (n mask : ℕ) (levels : List ℕ) : Type 0 where
  pub below : (k : ℕ) → k < n → in_mask mask k ≡ (get_or levels k 0 == 1)
  pub rest : (k : ℕ) → n ≤ k → in_mask mask k ≡ false

pub none_yet : (levels : List ℕ) → AreHighBelow 0 0 levels
none_yet levels = record { below = λ k h. absurd (omega (arith, h)); rest = λ k h. ap (λ b. eqb b 1) (bit_at-zero k) }

pub one_more : (n mask new : ℕ) (levels : List ℕ) (high : Bool) → n < 32 → new < 2 ^ 32 → AreHighBelow n mask levels → high ≡ (get_or levels n 0 == 1) → ((k : ℕ) → k < 32 → in_mask new k ≡ cond (k == n) high (in_mask mask k)) → AreHighBelow (n + 1) new levels
one_more n mask new levels high within fits so_far is written = record {
  below = λ k h. elim (cases_eq k n) [
    | inl e ↦ written k (omega (arith, h, within)) ∙ cond-true (eqb k n) _ _ (eq-eqb k n e) ∙ is ∙ ap (λ i. get_or levels i 0 == 1) (sym e)
    | inr ne ↦ written k (omega (arith, h, within)) ∙ cond-false (eqb k n) _ _ (ne_eqb k n ne) ∙ so_far.below k (omega (arith, h, ne))
  ];
  rest = λ k h. elim (cases_lt k 32) [
    | inl small ↦ written k small ∙ cond-false (eqb k n) _ _ (ne_eqb k n (λ e. omega (arith, e, h))) ∙ so_far.rest k (omega (arith, h))
    | inr large ↦ ap (λ b. eqb b 1) (bit_at_above new 32 k fits large)
  ];
}

-- a mask of all of them has each
pub high_everywhere : (n mask : ℕ) (levels : List ℕ) → length levels ≤ n → AreHighBelow n mask levels → (k : ℕ) → in_mask mask k ≡ (get_or levels k 0 == 1)
high_everywhere n mask levels all high k =
    elim (cases_lt k n) [
      | inl below ↦ high.below k below
      | inr above ↦ high.rest k above ∙ ap (λ level. level == 1) (sym (get_or_past levels k 0 (omega (arith, above, all))))
    ]

pub all_high : (n mask : ℕ) (ports : List PortRec) (outside : List ℕ) → length ports ≤ n → AreHighBelow n mask (levels_of ports outside) → (k : ℕ) → in_mask mask k ≡ (get_or (levels_of ports outside) k 0 == 1)
all_high n mask ports outside all high = high_everywhere n mask (levels_of ports outside) (omega (arith, all, no_more_levels ports outside)) high
