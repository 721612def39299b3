-- The bound that a horizon keeps beside its ends, so that one comparison tells whether a node may run.
use Rattle.std.specs.Prelude.{◌≡◌, ◌≤◌, min, fold, Option, Some, None, List, slice_index_or}
use Rattle.xs_base.specs.Numbers.{Slot, EndNumber}
use Rattle.ahead_limits.specs.declared.horizon.Seen.{Seen}
use Rattle.ahead_limits.specs.Horizon.{horizon_at}

-- the lesser of a bound and the horizon at an end
abbrev pub nearer : Slot → Option Seen → Slot
nearer bound None = bound
nearer bound (Some s) = min bound (horizon_at s)

-- the least of a limit and of the horizon at each of these ends
abbrev pub least_bound : Slot → List (Option Seen) → Slot
least_bound limit ends = fold nearer limit ends

-- from this end on no arc comes
abbrev pub NoneFrom : EndNumber → List (Option Seen) → Type 0
NoneFrom from ends = (end : EndNumber) → from ≤ end → slice_index_or ends end None ≡ None
