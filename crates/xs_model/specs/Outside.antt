-- What a node's slot takes from outside and gives to it.
use Rattle.std.specs.Prelude.{◌+◌, ◌<◌, ◌^◌, Bool, false, List, [], ◌∷◌, Option, None, replicate}
use Rattle.xs_base.specs.Numbers.{Slot, Word, PortNumber}
use Rattle.xs_base.specs.Ids.{port_width}
use Rattle.xs_base.specs.declared.token.Token.{Token}
use Rattle.xs_model.specs.declared.event.Event.{Event}
use Rattle.xs_model.specs.declared.event.Happen.{Happen}
use Rattle.xs_model.specs.declared.outside.PinView.{PinView}

-- what a slot gives: its events in order, and for each link end 0 to 7 the token and the credit that leave by it
pub record Emitted : Type 0 where
  pub events : List Event
  pub tokens : List (Option Token)
  pub credits : List Bool

-- these events, and nothing that leaves by a link end
abbrev pub emitted_events : List Event → Emitted
emitted_events events = record { events = events; tokens = replicate 8 None; credits = replicate 8 false }

-- something happens in a slot
abbrev pub in_slot : Slot → Happen → Event
in_slot slot what = record { slot = slot; what = what }

-- each pin shows a value of its port's width, the first of them that of this port
abbrev pub LevelsFitFrom : PortNumber → List Word → Type 0
LevelsFitFrom port [] = Unit {0}
LevelsFitFrom port (level ∷ levels) = (level < 2 ^ port_width port) × LevelsFitFrom (port + 1) levels

-- so do the pins of all ports
abbrev pub LevelsFit : List Word → Type 0
LevelsFit levels = LevelsFitFrom 0 levels

-- each pin shows 0
abbrev pub low_pins : PinView
low_pins = record { level = replicate 29 0 }
