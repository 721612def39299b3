-- The windows of a link's two ends, and how the entries of a directed link stand in bytes.
use Rattle.std.specs.Prelude.{ℕ, ◌+◌, Bool, true, ◌&&◌, ◌==◌, nat_lt, nat_le, if◌then◌else◌, Option, Some, None, List, []}
use Rattle.xs_base.specs.Numbers.{Slot}
use Rattle.xs_base.specs.declared.numbers.TheConstants.{WINDOW_TOKENS}
use Rattle.xs_base.specs.declared.entry.Entry.{Entry}
use Rattle.byte_forms.specs.Forms.{Form, byte, word, where_is, both, seen_as}
use Rattle.log_forms.specs.declared.counts.Counts.{Counts}
use Rattle.log_forms.specs.declared.entry.Before.{Before}
use Rattle.log_forms.specs.declared.ends.Held.{Held}
use Rattle.log_forms.specs.Entries.{entry_of, fields_of_entry, counts_of, counts_with, link_slot, may_follow, link_value}

-- What is known of a link before the entries of its second directed link: those of its first one, which lead from link end a to link end b,
-- and what the two link ends hold.
pub record EndsRec : Type 0 where
  pub forth : List Entry
  pub a : Held
  pub b : Held

-- A window is how many tokens are without a credit: those in flight, those in the buffer where they arrive, and those whose credits are in
-- flight back.
abbrev pub is_open : (window tokens buffered credits : ℕ) → Bool
is_open window tokens buffered credits = window == tokens + buffered + credits

-- both windows, of a by what is in flight forth and of b by what is in flight back
abbrev pub windows_fit : EndsRec → Counts → Bool
windows_fit ends back =
    is_open ends.a.window (counts_of ends.forth).tokens ends.b.buffered back.credits
    && is_open ends.b.window back.tokens ends.a.buffered (counts_of ends.forth).credits
    && nat_le ends.a.window WINDOW_TOKENS
    && nat_le ends.b.window WINDOW_TOKENS

-- of a link's first directed link nothing is asked
abbrev pub law_holds : Option EndsRec → Counts → Bool
law_holds None back = true
law_holds (Some ends) back = windows_fit ends back

-- How many entries there are. Where there are none, the law on windows is tested here.
unfoldable pub link_count : Option EndsRec → Form ℕ
link_count ends = where_is word (λ n. if n == 0 then law_holds ends (counts_of []) else true)

-- A data byte, a control token or a credit. At the last of `count` entries the law on windows is tested here, before its value.
unfoldable pub link_kind : Option EndsRec → ℕ → Before → Slot → Form ℕ
link_kind ends count before at =
    where_is byte (λ kind. nat_lt kind 3 && may_follow before.last at kind
    && (if before.place + 1 == count then law_holds ends (counts_with before.counts kind) else true))

-- an entry of a directed link, in flight before this slot
unfoldable pub link_entry : Slot → ℕ → Option EndsRec → ℕ → Before → Form Entry
link_entry slot delay ends count before =
    seen_as (both (link_slot slot delay before.last) (λ at. both (link_kind ends count before at) link_value)) entry_of fields_of_entry
