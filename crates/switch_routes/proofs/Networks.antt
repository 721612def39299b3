-- The link ends of a network as a mask, from the last link end on.
use Rattle.std.proofs.Common.{ℕ, zero, suc, ◌≡◌, ◌+◌, ◌*◌, ◌-◌, ◌^◌, ◌<◌, ◌≤◌, Bool, true, false, cond, eqb, List, [], ◌∷◌, length, drop, get_or, sym, ap, ◌∙◌, arith}
use Rattle.std.proofs.lemmas.List.{length-drop, drop_all, drop_more}
use Rattle.net_model.specs.Ways.{ends_of_net}

pub one_or_none : (b : Bool) → cond b 1 0 ≤ 1
one_or_none true = omega arith
one_or_none false = omega arith

-- the mask of so many link ends has no more bits
few_bits : (n : ℕ) (nets : List ℕ) (net : ℕ) → length nets ≤ n → ends_of_net nets net < 2 ^ n
few_bits zero [] net few = omega arith
few_bits zero (k ∷ nets) net few = absurd (omega (arith, few))
few_bits (suc n) [] net few = omega (arith, few_bits n [] net (omega arith))
few_bits (suc n) (k ∷ nets) net few = omega (arith, one_or_none (eqb k net), few_bits n nets net (omega (arith, few)))

module _ (nets : List ℕ) (net : ℕ) (eight : length nets ≡ 8) where
  pub none_left : (n : ℕ) → n ≡ 8 → ends_of_net (drop n nets) net ≡ 0
  none_left n is = ap (λ (xs : List ℕ). ends_of_net xs net) (drop_all n nets (omega (arith, eight, is)))

  -- one more has room
  pub has_room : (n : ℕ) → 1 ≤ n → ends_of_net (drop n nets) net ≤ 127
  has_room n some =
      let few = few_bits 7 (drop n nets) net (omega (arith, length-drop n nets, eight, some)) in omega (arith, few)

  pub one_more : (n m : ℕ) → n + 1 ≡ m → n < 8 → cond (eqb (get_or nets n 0) net) 1 0 + 2 * ends_of_net (drop m nets) net ≡ ends_of_net (drop n nets) net
  one_more n m is within =
      ap (λ (k : ℕ). cond (eqb (get_or nets n 0) net) 1 0 + 2 * ends_of_net (drop k nets) net) (sym is)
      ∙ sym (ap (λ (xs : List ℕ). ends_of_net xs net) (drop_more nets n 0 (omega (arith, eight, within))))
