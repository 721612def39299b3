-- How far a node may run by what it has seen of the arcs that come to it.
use Rattle.std.specs.Prelude.{◌≡◌, ◌≢◌, ◌+◌, ◌<◌, Bool, true, ◌&&◌, ◌==◌, nat_lt, if◌then◌else◌, Option, Some, None, List, [], ◌∷◌, replicate, slice_get, slice_index_or}
use Rattle.std.specs.List.{list_all}
use Rattle.xs_base.specs.Numbers.{Slot, EndNumber}
use Rattle.sys_plan.specs.declared.system_plan.TheConstants.{ENDS}
use Rattle.ahead_limits.specs.declared.horizon.Seen.{Seen}

-- the limit of the run, and what was seen at each end that an arc comes to
pub record HorizonRec : Type 0 where
  pub limit : Slot
  pub ends : List (Option Seen)

abbrev pub no_arcs : List (Option Seen)
no_arcs = replicate ENDS None

-- what was seen at an end, 0 where no arc comes
abbrev pub seen_by_end : Option Seen → Slot
seen_by_end None = 0
seen_by_end (Some s) = s.seen

abbrev pub seen_at : HorizonRec → EndNumber → Slot
seen_at h end = seen_by_end (slice_index_or h.ends end None)

-- an arc of which this much was seen
abbrev pub seen_to : Slot → Option Seen → Option Seen
seen_to slot None = None
seen_to slot (Some s) = Some (record s { seen = slot })

-- the horizon of an arc: the first slot for which it is not known what arrives by it
abbrev pub horizon_at : Seen → Slot
horizon_at s = s.seen + s.delay

abbrev pub lets_run : Slot → Option Seen → Bool
lets_run clock None = true
lets_run clock (Some s) = nat_lt clock (horizon_at s)

-- whether a node may run the slot that its clock shows, which is the next one
abbrev pub may_run : HorizonRec → Slot → Bool
may_run h clock = nat_lt clock h.limit && list_all (lets_run clock) h.ends

-- what was seen at an end that stops a node at its clock
abbrev pub stops_at : Slot → Option Seen → Option Slot
stops_at clock None = None
stops_at clock (Some s) = if clock == horizon_at s then Some s.seen else None

abbrev pub or_later : EndNumber → Option Slot → Option (EndNumber × Slot) → Option (EndNumber × Slot)
or_later n (Some seen) later = Some (n, seen)
or_later n None later = later

-- the first of these ends, counted from n, that stops a node at its clock, and what was seen there
abbrev pub first_stop : Slot → EndNumber → List (Option Seen) → Option (EndNumber × Slot)
first_stop clock n [] = None
first_stop clock n (s ∷ ends) = or_later n (stops_at clock s) (first_stop clock (n + 1) ends)

-- ---- The same by end

-- an arc comes to an end, and this much of it was seen
abbrev pub Sees : HorizonRec → EndNumber → Seen → Type 0
Sees h end s = slice_get h.ends end ≡ Some (Some s)

-- the clock is below the limit, and below the horizon at every end
abbrev pub IsBelowAll : HorizonRec → Slot → Type 0
IsBelowAll h clock = (clock < h.limit) × ((end : EndNumber) (s : Seen) → Sees h end s → clock < horizon_at s)

-- at no end below this one the clock is the horizon
abbrev pub NoneStopsBelow : HorizonRec → Slot → EndNumber → Type 0
NoneStopsBelow h clock below = (end : EndNumber) (s : Seen) → end < below → Sees h end s → clock ≢ horizon_at s

-- it is at this one, of which this much was seen, and at none below it
pub record StopsAt (h : HorizonRec) (clock : Slot) (end : EndNumber) (seen : Slot) : Type 0 where
  pub link : Seen
  pub there : Sees h end link
  pub seen_there : link.seen ≡ seen
  pub is_horizon : clock ≡ horizon_at link
  pub least : NoneStopsBelow h clock end
