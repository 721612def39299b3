-- What arrives at a node, link end by link end.
use Rattle.std.proofs.Common.{◌≡◌, ℕ, zero, suc, ◌+◌, ◌<◌, false, Option, None, List, [], ◌∷◌, ◌++◌, length, take, drop, map, replicate, get_or, refl, ◌∙◌, arith}
use Rattle.std.specs.Prelude.{slice_set}
use Rattle.xs_base.specs.Numbers.{Slot}
use Rattle.xs_base.specs.declared.token.Token.{Token}
use Rattle.xs_model.specs.declared.outside.Arrivals.{Arrivals}
use Rattle.core_step.specs.Core.{NothingArrives}
use Rattle.serial_model.specs.Serial.{arriving}
use Rattle.crossings.specs.declared.crossing.Crossing.{Crossing}
use Rattle.crossings.specs.Crossings.{crossing_of}
use Rattle.node_runners.specs.Queue.{InletRec, inlet_at, no_arrivals, after_slot, arrivals_by}

-- what is noted of one link end
abbrev pub noted : ℕ → Crossing → Arrivals → Arrivals
noted end c a = record { tokens = slice_set a.tokens end c.token; credits = slice_set a.credits end c.credit }

module _ (slot : Slot) where
  by_places : (end : ℕ) (xs : List InletRec) → end < length xs → end < 8 → noted end (crossing_of (arriving slot (inlet_at xs end).delay (inlet_at xs end).queue)) (arrivals_by slot (take end xs)) ≡ arrivals_by slot (take (end + 1) xs)
  by_places zero (a ∷ xs) h k = refl
  by_places (suc zero) (a ∷ b ∷ xs) h k = refl
  by_places (suc (suc zero)) (a ∷ b ∷ c ∷ xs) h k = refl
  by_places (suc (suc (suc zero))) (a ∷ b ∷ c ∷ d ∷ xs) h k = refl
  by_places (suc (suc (suc (suc zero)))) (a ∷ b ∷ c ∷ d ∷ e ∷ xs) h k = refl
  by_places (suc (suc (suc (suc (suc zero))))) (a ∷ b ∷ c ∷ d ∷ e ∷ f ∷ xs) h k = refl
  by_places (suc (suc (suc (suc (suc (suc zero)))))) (a ∷ b ∷ c ∷ d ∷ e ∷ f ∷ g ∷ xs) h k = refl
  by_places (suc (suc (suc (suc (suc (suc (suc zero))))))) (a ∷ b ∷ c ∷ d ∷ e ∷ f ∷ g ∷ i ∷ xs) h k = refl
  by_places end xs h k = absurd (omega (arith, h, k))

  -- one more link end
  pub arrivals-more : (end : ℕ) (xs : List InletRec) (c : Crossing) (a : Arrivals) → end < length xs → end < 8 → a ≡ arrivals_by slot (take end xs)
      → c ≡ crossing_of (arriving slot (inlet_at xs end).delay (inlet_at xs end).queue) → noted end c a ≡ arrivals_by slot (take (end + 1) xs)
  arrivals-more end xs c a h k is_a is_c = (λ i. noted end (is_c i) (is_a i)) ∙ by_places end xs h k

  pub inlet-after : (xs : List InletRec) (end : ℕ) → inlet_at (map (after_slot slot) xs) end ≡ after_slot slot (inlet_at xs end)
  inlet-after [] end = refl
  inlet-after (x ∷ xs) zero = refl
  inlet-after (x ∷ xs) (suc end) = inlet-after xs end

  -- the first ones were looked at, and this one was not
  pub rest-at : (xs : List InletRec) (end : ℕ) (d : InletRec) → end < length xs → get_or (map (after_slot slot) (take end xs) ++ drop end xs) end d ≡ inlet_at xs end
  rest-at [] end d h = absurd (omega (arith, h))
  rest-at (x ∷ xs) zero d h = refl
  rest-at (x ∷ xs) (suc end) d h = rest-at xs end d (omega (arith, h))

abbrev no_token : Option Token
no_token = None

no-token : (n e : ℕ) → get_or (replicate n no_token) e None ≡ None
no-token zero e = refl
no-token (suc n) zero = refl
no-token (suc n) (suc e) = no-token n e

no-credit : (n e : ℕ) → get_or (replicate n false) e false ≡ false
no-credit zero e = refl
no-credit (suc n) zero = refl
no-credit (suc n) (suc e) = no-credit n e

pub nothing-arrives : NothingArrives no_arrivals
nothing-arrives = record { tokens = no-token 8; credits = no-credit 8 }
