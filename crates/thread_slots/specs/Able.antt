-- Which threads of a mask may be picked.
use Rattle.std.specs.Prelude.{ℕ, Bool, ◌&&◌, Option, None, List, slice_index_or}
use Rattle.std.specs.List.{list_any}
use Rattle.xs_base.specs.Numbers.{Slot, ThreadNumber}
use Rattle.xs_model.specs.Masks.{in_mask}
use Rattle.xs_model.specs.Picks.{is_rested}
use Rattle.quiet_model.specs.Stirs.{thread_numbers}

-- a thread of the mask may be picked in a slot where it is rested
abbrev pub may_pick : ℕ → List (Option Slot) → Slot → ThreadNumber → Bool
may_pick mask last slot k = in_mask mask k && is_rested (slice_index_or last k None) slot

-- some thread of the mask may
abbrev pub some_may_pick : ℕ → List (Option Slot) → Slot → Bool
some_may_pick mask last slot = list_any (may_pick mask last slot) thread_numbers
