-- What a snapshot keeps of an arc, entry by entry.
use Rattle.std.specs.Prelude.{ℕ, ◌+◌, nat_le, if◌then◌else◌, Bool, true, false, Option, Some, None, [], ◌∷◌, ◌++◌}
use Rattle.xs_base.specs.Numbers.{Slot, Word}
use Rattle.xs_base.specs.declared.entry.Entry.{Entry}
use Rattle.sys_plan.specs.Plan.{Joined}
use Rattle.serial_model.specs.Serial.{level_or, is_credit}
use Rattle.snap_parts.specs.Parts.{LogRec}

-- whether an arc is a wire, by what it joins
abbrev pub is_wire : Option Joined → Bool
is_wire None = false
is_wire (Some joined) = true

-- the level that a wire shows after one more entry, which has arrived where it was sent before this slot. A directed link shows none
abbrev pub level_with : Slot → Bool → Word → Entry → Word
level_with from wire level e = if nat_le from e.slot then level else if wire then level_or e.what level else level

-- What is kept with one more entry. It is in flight where it was sent in this slot or after it.
abbrev pub log_with : Slot → Bool → LogRec → Entry → LogRec
log_with from wire log e = record {
  entries = if nat_le from e.slot then log.entries ++ e ∷ [] else log.entries;
  tokens = if is_credit e.what then log.tokens else log.tokens + 1;
  credits = if is_credit e.what then log.credits + 1 else log.credits;
  level = level_with from wire log.level e;
}
