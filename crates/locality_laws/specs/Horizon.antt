-- What was sent stays sent, and what a node has seen of its links and wires tells how far it may go.
use Rattle.std.specs.Prelude.{◌≡◌, ◌+◌, ◌-◌, ◌<◌, ◌≤◌, suc, List, ◌++◌, length}
use Rattle.std.specs.List.{AllByRecursion}
use Rattle.xs_base.specs.Numbers.{Slot, Word, LinkNumber}
use Rattle.xs_base.specs.declared.entry.Entry.{Entry}
use Rattle.sys_plan.specs.Plan.{PlanRec, delay_of}
use Rattle.serial_model.specs.Serial.{serial, history, arriving, level_after, arrived_by, wire_level}
use Rattle.locality_laws.specs.Locality.{history_in}

-- what an arc carried up to a slot, then what it carried from there on
abbrev pub HistoriesGrow : Type 0
HistoriesGrow = (plan : PlanRec) (link : LinkNumber) (from mid to : Slot) → from ≤ mid → mid ≤ to →
    history plan link from mid ++ history plan link mid to ≡ history plan link from to

-- what it carried in all slots is its history in the serial machine
abbrev pub HistoriesAreWhole : Type 0
HistoriesAreWhole = (plan : PlanRec) (link : LinkNumber) (slots : Slot) → history plan link 0 slots ≡ history_in (serial plan slots).histories link

-- in a slot an arc carries two entries at most, and they have that slot
pub record CarriesFew (slot : Slot) (entries : List Entry) : Type 0 where
  pub few : length entries ≤ 2
  pub in_slot : AllByRecursion (λ (e : Entry). e.slot ≡ slot) entries

abbrev pub SlotsCarryFew : Type 0
SlotsCarryFew = (plan : PlanRec) (link : LinkNumber) (slot : Slot) → CarriesFew slot (history plan link slot (suc slot))

-- Where the entries of an arc were seen, from one slot on and before another, all that arrives by it is known: in a slot that is
-- before the second one and the delay together, if what was sent a delay before it is not before the first one.
abbrev pub SeenArrives : Type 0
SeenArrives = (plan : PlanRec) (link : LinkNumber) (from seen slot : Slot) → 1 ≤ delay_of plan link →
    from ≤ slot - delay_of plan link → slot < seen + delay_of plan link →
    arriving slot (delay_of plan link) (history plan link from seen) ≡ arriving slot (delay_of plan link) (history_in (serial plan slot).histories link)

-- and it is what the arc carried in the slot that is a delay before this one, where there is such a slot
abbrev pub ArrivesLater : Type 0
ArrivesLater = (plan : PlanRec) (link : LinkNumber) (slot : Slot) → 1 ≤ delay_of plan link →
    arriving slot (delay_of plan link) (history_in (serial plan slot).histories link) ≡ history plan link (slot - delay_of plan link) (suc slot - delay_of plan link)

-- ---- Levels

-- the level that what a wire carried before a slot leaves
abbrev pub level_before : PlanRec → LinkNumber → Slot → Word
level_before plan wire slot = level_after 0 (history plan wire 0 slot)

-- what it carries from there on leads from level to level
abbrev pub LevelsGoOn : Type 0
LevelsGoOn = (plan : PlanRec) (wire : LinkNumber) (from to : Slot) → from ≤ to →
    level_after (level_before plan wire from) (history plan wire from to) ≡ level_before plan wire to

-- in a slot it shows the level that is left by what was sent a delay before it, or earlier.
abbrev pub WiresShowLater : Type 0
WiresShowLater = (plan : PlanRec) (wire : LinkNumber) (slot : Slot) → 1 ≤ delay_of plan wire →
    wire_level slot (delay_of plan wire) (history_in (serial plan slot).histories wire) ≡ level_before plan wire (suc slot - delay_of plan wire)

-- so what arrives in the slot, of entries that were seen, leads to it from the level before
abbrev pub LevelsCome : Type 0
LevelsCome = (plan : PlanRec) (wire : LinkNumber) (seen slot : Slot) → 1 ≤ delay_of plan wire → slot < seen + delay_of plan wire →
    let since = slot - delay_of plan wire in
    level_after (level_before plan wire since) (arriving slot (delay_of plan wire) (history plan wire since seen))
    ≡ wire_level slot (delay_of plan wire) (history_in (serial plan slot).histories wire)

-- Where the entries of a wire were seen, from one slot on and before another, and the level is known that is left by those before them,
-- what the wire shows is known: in a slot that is before the second one and the delay together, if all that was sent before the first one
-- has arrived by then.
abbrev pub SeenLevels : Type 0
SeenLevels = (plan : PlanRec) (wire : LinkNumber) (from seen slot : Slot) → 1 ≤ delay_of plan wire →
    from ≤ suc slot - delay_of plan wire → slot < seen + delay_of plan wire →
    level_after (level_before plan wire from) (arrived_by slot (delay_of plan wire) (history plan wire from seen))
    ≡ wire_level slot (delay_of plan wire) (history_in (serial plan slot).histories wire)
