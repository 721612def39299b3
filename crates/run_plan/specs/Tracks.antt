-- Directed links at work: their histories, and what of them arrives in a slot.
use Rattle.std.specs.Prelude.{◌≡◌, ◌+◌, ◌*◌, ◌<◌, ◌≤◌, List, ◌++◌}
use Rattle.std.specs.List.{AllByRecursion}
use Rattle.xs_base.specs.Numbers.{Slot}
use Rattle.xs_base.specs.declared.numbers.TheConstants.{LINK_ENDS}
use Rattle.xs_base.specs.declared.entry.Entry.{Entry}
use Rattle.serial_model.specs.Serial.{arriving}
use Rattle.crossings.specs.Crossings.{crossing_of, AreInSendingOrder, HaveNoLevel, IsDueFrom}
use Rattle.run_plan.specs.declared.track.Track.{Track}

-- a directed link as it is before a slot
pub record IsTrack (slot : Slot) (track : Track) : Type 0 where
  pub from_end : track.from_end < LINK_ENDS
  pub delayed : 1 ≤ track.delay
  pub in_order : AreInSendingOrder track.history.entries
  pub no_level : HaveNoLevel track.history.entries
  pub before : AllByRecursion (λ (e : Entry). e.slot < slot) track.history.entries
  pub few : track.first ≤ 2 * slot
  pub due : IsDueFrom slot track.delay track.first track.history.entries
  pub arrived : track.arrived ≡ crossing_of (arriving slot track.delay track.history.entries)

-- what a slot makes of a directed link, which goes on with what its sender sent
pub record GoesOn (slot : Slot) (sent : List Entry) (before after : Track) : Type 0 where
  pub from : after.from ≡ before.from
  pub from_end : after.from_end ≡ before.from_end
  pub to : after.to ≡ before.to
  pub delay : after.delay ≡ before.delay
  pub entries : after.history.entries ≡ before.history.entries ++ sent
  pub next : IsTrack (slot + 1) after
