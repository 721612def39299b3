-- How entries of directed links and wires stand in bytes.
use Rattle.std.specs.Prelude.{ℕ, ◌+◌, ◌-◌, ◌^◌, Bool, true, ◌&&◌, ◌==◌, nat_lt, nat_le, if◌then◌else◌, Option, Some, None, List, length}
use Rattle.std.specs.List.{count_by, last_or}
use Rattle.xs_base.specs.Numbers.{Slot}
use Rattle.xs_base.specs.declared.token.Token.TheVariants.{Byte, Ctrl}
use Rattle.xs_base.specs.declared.entry.Entry.{Entry}
use Rattle.xs_base.specs.declared.entry.What.{What}
use Rattle.xs_base.specs.declared.entry.What.TheVariants.{Token, Credit, Level}
use Rattle.snap_parts.specs.InFlight.{is_token, is_credit}
use Rattle.byte_forms.specs.Forms.{Form, byte, word, where_is, below, both, seen_as}
use Rattle.log_forms.specs.declared.counts.Counts.{Counts}
use Rattle.log_forms.specs.declared.entry.Before.{Before}

-- ---- A slot, a kind and a value

-- the kind: 0 for a data byte, 1 for a control token, 2 for a credit, 3 for a level
abbrev pub kind_of : What → ℕ
kind_of (Token (Byte b)) = 0
kind_of (Token (Ctrl c)) = 1
kind_of Credit = 2
kind_of (Level n) = 3

-- the value, which is 0 of a credit
abbrev pub value_of : What → ℕ
value_of (Token (Byte b)) = b
value_of (Token (Ctrl c)) = c
value_of Credit = 0
value_of (Level n) = n

abbrev pub what_of : (kind value : ℕ) → What
what_of kind value =
    if kind == 0 then Token (Byte value) else if kind == 1 then Token (Ctrl value) else if kind == 2 then Credit else Level value

abbrev pub EntryFields : Type 0
EntryFields = Slot × (ℕ × ℕ)

abbrev pub entry_of : EntryFields → Entry
entry_of f = record { slot = f.0; what = what_of f.1.0 f.1.1 }

abbrev pub fields_of_entry : Entry → EntryFields
fields_of_entry e = (e.slot, (kind_of e.what, value_of e.what))

-- ---- What an entry is told of those before it

-- how many of the entries are tokens, and how many are credits
abbrev pub counts_of : List Entry → Counts
counts_of entries = record {
  tokens = count_by (λ (e : Entry). is_token e.what) entries;
  credits = count_by (λ (e : Entry). is_credit e.what) entries;
}

-- the counts with one more of a kind, which is a token or a credit
abbrev pub counts_with : Counts → ℕ → Counts
counts_with counts kind =
    if kind == 2 then record { tokens = counts.tokens; credits = counts.credits + 1 } else record { tokens = counts.tokens + 1; credits = counts.credits }

-- how many there are, the last of them, and how many of them are tokens and how many are credits
abbrev pub before_of : List Entry → Before
before_of entries = record { place = length entries; last = last_or None entries; counts = counts_of entries }

-- ---- Slots

-- from a delay before the snapshot's slot on, or from 0 on, and before the snapshot's slot
abbrev pub is_in_flight : (slot : Slot) (delay : ℕ) → Slot → Bool
is_in_flight slot delay at = nat_le (slot - delay) at && nat_lt at slot

-- not before the slot of the entry before
abbrev pub is_not_before : Option Entry → Slot → Bool
is_not_before None at = true
is_not_before (Some last) at = nat_le last.slot at

-- after the slot of the entry before
abbrev pub is_after : Option Entry → Slot → Bool
is_after None at = true
is_after (Some last) at = nat_lt last.slot at

-- the slot of an entry of a directed link, after this one
unfoldable pub link_slot : Slot → ℕ → Option Entry → Form Slot
link_slot slot delay last = where_is word (λ at. is_in_flight slot delay at && is_not_before last at)

-- the slot of an entry of a wire, after this one
unfoldable pub wire_slot : Slot → ℕ → Option Entry → Form Slot
wire_slot slot delay last = where_is word (λ at. is_in_flight slot delay at && is_after last at)

-- ---- Kinds and values

-- in the slot of a token a credit may follow, and nothing else in the slot of any entry
abbrev pub may_follow : Option Entry → Slot → ℕ → Bool
may_follow None at kind = true
may_follow (Some last) at kind = if last.slot == at then is_token last.what && (kind == 2) else true

-- what a value is below: a token's is a byte, and a credit's is 0
abbrev pub value_limit : (kind : ℕ) → ℕ
value_limit kind = if kind == 2 then 1 else 256

-- the value that stands after a kind of a directed link
unfoldable pub link_value : ℕ → Form ℕ
link_value kind = below word (value_limit kind)

-- a level of a pin of this width
unfoldable pub level : ℕ → Form ℕ
level width = below word (2 ^ width)

-- a level
unfoldable pub wire_kind : Form ℕ
wire_kind = where_is byte (λ kind. kind == 3)

-- An entry of a wire between pins of this width, in flight before this slot and after the entry before it.
unfoldable pub wire_entry : Slot → ℕ → ℕ → Option Entry → Form Entry
wire_entry slot delay width last = seen_as (both (wire_slot slot delay last) (λ at. both wire_kind (λ kind. level width))) entry_of fields_of_entry

-- What is written of an entry asks for no facts.
abbrev pub any_entry : Form Entry
any_entry = seen_as (both word (λ at. both byte (λ kind. word))) entry_of fields_of_entry
