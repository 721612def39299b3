-- A link end among those of a bit and of a network.
use Rattle.std.proofs.Common.{ℕ, zero, suc, ◌≡◌, ◌+◌, ◌*◌, ◌/◌, ◌%◌, ◌<◌, Bool, true, false, cond, eqb, List, [], ◌∷◌, length, get_or, min, bit_and, refl, sym, ap, ◌∙◌, arith}
use Rattle.std.specs.Prelude.{◌&&◌}
use Rattle.std.specs.Int.{bit_at}
use Rattle.std.proofs.lemmas.Bool.{eq-eqb, ne_eqb}
use Rattle.std.proofs.lemmas.Nat.Bits.{bit_at_lowest, bit_at-suc, bit_at_and, bit_at-lt}
use Rattle.net_model.specs.Ways.{ends_of_net}

lowest_of : (b : Bool) (rest : ℕ) → (cond b 1 0 + 2 * rest) % 2 ≡ cond b 1 0
lowest_of true rest = omega arith
lowest_of false rest = omega arith

above_of : (b : Bool) (rest : ℕ) → (cond b 1 0 + 2 * rest) / 2 ≡ rest
above_of true rest = omega arith
above_of false rest = omega arith

-- a link end is in the mask of its network
end_of_net : (nets : List ℕ) (net end : ℕ) → end < length nets → bit_at (ends_of_net nets net) end ≡ cond (eqb (get_or nets end 0) net) 1 0
end_of_net [] net end within = absurd (omega arith)
end_of_net (n ∷ nets) net zero within = bit_at_lowest (ends_of_net (n ∷ nets) net) ∙ lowest_of (eqb n net) (ends_of_net nets net)
end_of_net (n ∷ nets) net (suc end) within =
    bit_at-suc (ends_of_net (n ∷ nets) net) end ∙ ap (λ m. bit_at m end) (above_of (eqb n net) (ends_of_net nets net)) ∙ end_of_net nets net end (omega arith)

both : (a : ℕ) (b : Bool) → a < 2 → eqb (min a (cond b 1 0)) 1 ≡ (eqb a 1 && b)
both zero true below = refl
both zero false below = refl
both (suc zero) true below = refl
both (suc zero) false below = refl
both (suc (suc a)) b below = absurd (omega arith)

-- it is among those of the bit that are of the network where it is one of the bit, and of the network
end_of_both : (ways : ℕ) (nets : List ℕ) (net end : ℕ) → end < length nets
    → eqb (bit_at (bit_and ways (ends_of_net nets net)) end) 1 ≡ (eqb (bit_at ways end) 1 && eqb (get_or nets end 0) net)
end_of_both ways nets net end within =
    ap (λ m. eqb m 1) (bit_at_and ways (ends_of_net nets net) end ∙ ap (min (bit_at ways end)) (end_of_net nets net end within))
    ∙ both (bit_at ways end) (eqb (get_or nets end 0) net) (bit_at-lt ways end)

module _ (ways : ℕ) (nets : List ℕ) (net end : ℕ) (within : end < length nets) where
  pub of_the_bit : bit_at ways end ≡ 1 → eqb (get_or nets end 0) net ≡ eqb (bit_at (bit_and ways (ends_of_net nets net)) end) 1
  of_the_bit is = sym (end_of_both ways nets net end within ∙ ap (λ (b : Bool). b && eqb (get_or nets end 0) net) (eq-eqb (bit_at ways end) 1 is))

  pub not_of_the_bit : (bit_at ways end ≡ 1 → ⊥) → false ≡ eqb (bit_at (bit_and ways (ends_of_net nets net)) end) 1
  not_of_the_bit is = sym (end_of_both ways nets net end within ∙ ap (λ (b : Bool). b && eqb (get_or nets end 0) net) (ne_eqb (bit_at ways end) 1 is))
