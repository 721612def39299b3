-- Slots in which nothing happens anywhere, which are gone over at once.
use Rattle.std.specs.Prelude.{◌≡◌, ◌+◌, ◌-◌, List}
use Rattle.std.specs.List.{AllByRecursion}
use Rattle.xs_base.specs.Numbers.{Slot}
use Rattle.crossings.specs.Crossings.{IsDueFrom}
use Rattle.core_step.specs.Quiet.{IsQuietTo}
use Rattle.node_seats.specs.Seats.{IsSeat, HasNoted, SkipsOn}
use Rattle.node_seats.specs.Shown.{IsShown, shown_by}
use Rattle.run_plan.specs.declared.track.Track.{Track}
use Rattle.run_plan.specs.declared.wire.Wire.{Wire}
use Rattle.run_plan.specs.declared.station.Station.{Station}

-- a node is quiet in the slots from one on and before another, where nothing arrives at it
abbrev pub RestsTo : Slot → Slot → Station → Type 0
RestsTo from to station = IsQuietTo station.seat.core from to

-- what is still to arrive by a directed link arrives after this slot
abbrev pub ArrivesAfter : Slot → Track → Type 0
ArrivesAfter slot track = IsDueFrom (slot + 1) track.delay track.first track.history.entries

-- what is still to come by a wire comes after this slot
abbrev pub ComesAfter : Slot → Wire → Type 0
ComesAfter slot wire = IsDueFrom (slot + 1) wire.delay wire.first wire.history.entries

-- nothing happens anywhere in the slots from one on and before another, and nothing arrives in that one, by links and by wires
pub record IsQuietSystem (from to : Slot) (stations : List Station) (tracks : List Track) (all_wires : List Wire) : Type 0 where
  pub nodes : AllByRecursion (RestsTo from to) stations
  pub arcs : AllByRecursion (ArrivesAfter to) tracks
  pub wires : AllByRecursion (ComesAfter to) all_wires

-- a node as it is before a slot, from which on and before another it is quiet
pub record MaySkip (from to : Slot) (station : Station) : Type 0 where
  pub here : IsSeat from station.seat
  pub shown : IsShown from station.pins
  pub quiet : RestsTo from to station

-- what the slots from one on and before another make of a node that is quiet in them
pub record StationSkips (from to : Slot) (before after : Station) : Type 0 where
  pub incoming : after.incoming.links ≡ before.incoming.links
  pub script : after.pins.script ≡ before.pins.script
  pub number : after.pins.number ≡ before.pins.number
  pub wired : after.pins.wired ≡ before.pins.wired
  pub levels : after.pins.levels ≡ before.pins.levels
  pub shown : IsShown to after.pins
  pub noted : HasNoted to after.pins after.seat
  pub skips : SkipsOn from to (shown_by before.pins (to - 1)) before.seat after.seat
