-- A node at work in a slot. The slot's four phases are four steps of this record.
use Rattle.std.specs.Prelude.{Bool, false, List, [], ◌∷◌, ◌++◌, Option, None, map, replicate}
use Rattle.xs_base.specs.Numbers.{Slot}
use Rattle.xs_base.specs.declared.token.Token.{Token}
use Rattle.xs_model.specs.declared.event.Happen.{Happen}
use Rattle.xs_model.specs.Record.{NodeRec}
use Rattle.xs_model.specs.Outside.{Emitted, in_slot}

-- the node, what happened in the slot so far, and what left by each of the eight link ends
pub record AtWork : Type 0 where
  pub rec : NodeRec
  pub happened : List Happen
  pub tokens : List (Option Token)
  pub credits : List Bool

-- a node as its slot begins
abbrev pub slot_begins : NodeRec → AtWork
slot_begins rec = record { rec = rec; happened = []; tokens = replicate 8 None; credits = replicate 8 false }

abbrev pub it_happens : Happen → AtWork → AtWork
it_happens what m = record m { happened = m.happened ++ what ∷ [] }

-- what a slot gives to the outside
abbrev pub emitted_in : Slot → AtWork → Emitted
emitted_in slot m = record { events = map (in_slot slot) m.happened; tokens = m.tokens; credits = m.credits }
