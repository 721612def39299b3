-- How long a timer is waited for.
use Rattle.std.specs.Prelude.{ℕ, ◌≡◌, ◌<◌, ◌≤◌, ◌+◌, ◌^◌, true, false}
use Rattle.xs_base.specs.Numbers.{Slot, Word}
use Rattle.xs_model.specs.Time.{time_at, is_after}
use Rattle.look_model.specs.Resources.{slots_until_after}

-- so many slots from a slot on the time is after x, and in no slot between
pub record IsMoment (slot : Slot) (x : Word) (count : ℕ) : Type 0 where
  pub reached : is_after x (time_at (slot + count)) ≡ true
  pub not_before : (s : Slot) → slot ≤ s → s < slot + count → is_after x (time_at s) ≡ false

-- what is told of every value in every slot
abbrev pub MomentsAreFirst : Type 0
MomentsAreFirst = (slot : Slot) (x : Word) → x < 2 ^ 32 → IsMoment slot x (slots_until_after slot x)
