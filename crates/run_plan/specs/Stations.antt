-- Nodes at work, with the arcs that come to them.
use Rattle.std.specs.Prelude.{ℕ, ◌≡◌, ◌+◌, if◌then◌else◌, List}
use Rattle.std.specs.List.{AllByRecursion}
use Rattle.xs_base.specs.Numbers.{Slot}
use Rattle.xs_model.specs.declared.outside.Arrivals.{Arrivals}
use Rattle.node_seats.specs.Seats.{IsSeat, HasNoted, StepsOn}
use Rattle.node_seats.specs.Shown.{IsShown, shown_by}
use Rattle.run_plan.specs.declared.track.Track.{Track}
use Rattle.run_plan.specs.declared.station.Station.{Station}
use Rattle.run_plan.specs.declared.inbound.TheConstants.{NOTHING}
use Rattle.run_plan.specs.Inbound.{IsBelow, arrivals_by}

-- a node as it is before a slot, among so many arcs
pub record IsStation (slot : Slot) (link_count : ℕ) (station : Station) : Type 0 where
  pub here : IsSeat slot station.seat
  pub shown : IsShown slot station.pins
  pub noted : HasNoted slot station.pins station.seat
  pub incoming : AllByRecursion (IsBelow link_count) station.incoming.links

-- what a node goes on with: what arrives by the arcs that come to it, if it is due, and nothing if it is not
abbrev pub taken_by : List Track → Station → Arrivals
taken_by tracks station = if station.due then arrivals_by tracks station.incoming.links else NOTHING

-- what a slot makes of a node
pub record StationSteps (slot : Slot) (tracks : List Track) (before after : Station) : Type 0 where
  pub incoming : after.incoming.links ≡ before.incoming.links
  pub script : after.pins.script ≡ before.pins.script
  pub number : after.pins.number ≡ before.pins.number
  pub wired : after.pins.wired ≡ before.pins.wired
  pub levels : after.pins.levels ≡ before.pins.levels
  pub shown : IsShown (slot + 1) after.pins
  pub noted : HasNoted (slot + 1) after.pins after.seat
  pub steps : StepsOn slot (taken_by tracks before) (shown_by before.pins slot) before.seat after.seat
