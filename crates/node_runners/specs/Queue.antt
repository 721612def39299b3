-- What comes to the ends of a node and has not arrived yet.
use Rattle.std.specs.Prelude.{ℕ, ◌≡◌, ◌+◌, ◌<◌, ◌≤◌, nat_lt, min, Bool, false, Option, Some, None, List, [], ◌∷◌, ◌++◌, length, filter, replicate, slice_get, slice_index_or}
use Rattle.std.specs.List.{AllByRecursion}
use Rattle.xs_base.specs.Numbers.{Slot, EndNumber}
use Rattle.xs_base.specs.declared.entry.Entry.{Entry}
use Rattle.xs_model.specs.declared.outside.Arrivals.{Arrivals}
use Rattle.serial_model.specs.Serial.{arriving, arrivals_of}
use Rattle.crossings.specs.Crossings.{AreInSendingOrder, HaveNoLevel}
use Rattle.busy_slots.specs.Busy.{brings_something}

-- the delay of the arc that comes to an end, and its entries that were seen and have not arrived
pub record InletRec : Type 0 where
  pub delay : ℕ
  pub queue : List Entry

-- where no arc comes
abbrev pub no_inlet : InletRec
no_inlet = record { delay = 0; queue = [] }

abbrev pub inlet_at : List InletRec → EndNumber → InletRec
inlet_at inlets end = slice_index_or inlets end no_inlet

-- an end of which this was seen after what waits there
abbrev pub longer : InletRec → List Entry → InletRec
longer inlet entries = record inlet { queue = inlet.queue ++ entries }

-- what waits at the link ends of a node, and what arrived in the slot that was asked of last
pub record LinkInletsRec : Type 0 where
  pub ends : List InletRec
  pub arrived : Arrivals

abbrev pub no_arrivals : Arrivals
no_arrivals = record { tokens = replicate 8 None; credits = replicate 8 false }

-- entries of a link in the order in which they were sent, none of which arrived before a slot
pub record AreWaiting (slot : Slot) (delay : ℕ) (entries : List Entry) : Type 0 where
  pub in_order : AreInSendingOrder entries
  pub due : AllByRecursion (λ (e : Entry). slot ≤ e.slot + delay) entries
  pub no_level : HaveNoLevel entries

-- the entries that arrive after a slot
abbrev pub arriving_after : Slot → ℕ → List Entry → List Entry
arriving_after slot delay entries = filter (λ (e : Entry). nat_lt slot (e.slot + delay)) entries

-- an end after a slot
abbrev pub after_slot : Slot → InletRec → InletRec
after_slot slot inlet = record inlet { queue = arriving_after slot inlet.delay inlet.queue }

-- what arrives by a link end in a slot
abbrev pub arriving_at : Slot → List InletRec → EndNumber → List Entry
arriving_at slot inlets end = arriving slot (inlet_at inlets end).delay (inlet_at inlets end).queue

-- what arrives in a slot by these link ends, and nothing by the others
abbrev pub arrivals_by : Slot → List InletRec → Arrivals
arrivals_by slot inlets = arrivals_of (λ end. arriving_at slot inlets end)

-- something arrives in a slot by one of these link ends
abbrev pub some_arrive : List InletRec → Slot → Bool
some_arrive inlets slot = brings_something (arrivals_by slot inlets)

-- nothing of what waits at these link ends arrived before a slot
abbrev pub AllWait : Slot → List InletRec → Type 0
AllWait slot inlets = (end : EndNumber) → end < length inlets → AreWaiting slot (inlet_at inlets end).delay (inlet_at inlets end).queue

-- the slot in which an entry arrives, where there is one and that is before a bound
abbrev pub arrival_of : Slot → ℕ → Option Entry → Slot
arrival_of bound delay None = bound
arrival_of bound delay (Some e) = min (e.slot + delay) bound

-- the slot in which the first entry that waits at an end arrives, if that is before a bound
abbrev pub nearer_arrival : Slot → InletRec → Slot
nearer_arrival bound inlet = arrival_of bound inlet.delay (slice_get inlet.queue 0)

-- nothing of what waits at these link ends arrives before a slot, since the first entry of none of them does
abbrev pub AwaitsUntil : Slot → List InletRec → Type 0
AwaitsUntil next inlets = (end : EndNumber) (e : Entry) → slice_get (inlet_at inlets end).queue 0 ≡ Some e → next ≤ e.slot + (inlet_at inlets end).delay

-- what the link ends of a node keep beside what waits there: the slot up to which nothing arrives, and what arrives where nothing does
pub record AreInlets (next : Slot) (inlets : List InletRec) (nothing : Arrivals) : Type 0 where
  pub until : AwaitsUntil next inlets
  pub is_nothing : nothing ≡ no_arrivals

-- ---- One entry

-- the first entry of what waits at an end leaves it, if it has arrived by a slot
abbrev pub TakesNext : Slot → InletRec → Option Entry → InletRec → Type 0
TakesNext slot before None after = (after ≡ before) × ((e : Entry) → slice_get before.queue 0 ≡ Some e → slot < e.slot + before.delay)
TakesNext slot before (Some e) after = (before ≡ record after { queue = e ∷ after.queue }) × (e.slot + before.delay ≤ slot)
