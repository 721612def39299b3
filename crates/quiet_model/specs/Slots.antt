-- The first slot at which something holds.
use Rattle.std.specs.Prelude.{◌≡◌, ◌<◌, ◌≤◌, ◌||◌, ◌⊎◌, Bool, true, false}
use Rattle.xs_base.specs.Numbers.{Slot}

-- it holds at none of the slots before
abbrev pub NoneBefore : (Slot → Bool) → Slot → Slot → Type 0
NoneBefore holds from result = (slot : Slot) → from ≤ slot → slot < result → holds slot ≡ false

-- the first slot from one on and before a bound at which it holds, or the bound if it holds at none
pub record IsFirst (holds : Slot → Bool) (from bound result : Slot) : Type 0 where
  pub none_before : NoneBefore holds from result
  pub there : ((from ≤ result) × (result < bound) × (holds result ≡ true)) ⊎ (result ≡ bound)

-- the first slot at which one or the other holds, by two searches: the second goes only up to what the first found
abbrev pub FirstOfEither : Type 0
FirstOfEither = (one other : Slot → Bool) (from bound first result : Slot) →
    IsFirst one from bound first → IsFirst other from first result → IsFirst (λ slot. one slot || other slot) from bound result

-- it depends on nothing but what holds in these slots
abbrev pub FirstAlike : Type 0
FirstAlike = (one other : Slot → Bool) (from bound result : Slot) →
    ((slot : Slot) → from ≤ slot → slot < bound → NoneBefore one from slot → one slot ≡ other slot) →
    IsFirst one from bound result → IsFirst other from bound result
