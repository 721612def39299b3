-- How what a snapshot keeps of directed links and wires stands in bytes.
use Rattle.std.specs.Prelude.{ℕ, ◌^◌, Option, None, List}
use Rattle.std.specs.List.{last_or}
use Rattle.xs_base.specs.Numbers.{Slot, Word}
use Rattle.xs_base.specs.declared.entry.Entry.{Entry}
use Rattle.snap_parts.specs.Parts.{LogRec}
use Rattle.byte_forms.specs.Forms.{Form, word, long, below, both, seen_as, chain, counted}
use Rattle.log_forms.specs.Entries.{before_of, wire_entry}
use Rattle.log_forms.specs.Windows.{EndsRec, link_count, link_entry}

abbrev pub LogFields : Type 0
LogFields = List Entry × (ℕ × (ℕ × Word))

abbrev pub log_of : LogFields → LogRec
log_of f = record { entries = f.0; tokens = f.1.0; credits = f.1.1.0; level = f.1.1.1 }

abbrev pub fields_of_log : LogRec → LogFields
fields_of_log log = (log.entries, (log.tokens, (log.credits, log.level)))

-- how much was sent since slot 0, and a level below a limit
unfoldable pub sums : ℕ → Form (ℕ × (ℕ × Word))
sums limit = both (below long (2 ^ 63)) (λ tokens. both (below long (2 ^ 63)) (λ credits. below word limit))

-- so many entries of a directed link
abbrev pub link_entries : Slot → ℕ → Option EndsRec → ℕ → Form (List Entry)
link_entries slot delay ends count = chain count (λ before. link_entry slot delay ends count (before_of before))

-- so many entries of a wire
abbrev pub wire_entries : Slot → ℕ → ℕ → ℕ → Form (List Entry)
wire_entries slot delay width count = chain count (λ before. wire_entry slot delay width (last_or None before))

-- A directed link in a snapshot of this slot, and for the second one of a link what is known of its ends. Its level is 0.
unfoldable pub link_log : Slot → ℕ → Option EndsRec → Form LogRec
link_log slot delay ends = seen_as (both (counted (link_count ends) (link_entries slot delay ends)) (λ entries. sums 1)) log_of fields_of_log

-- a wire between pins of this width in a snapshot of this slot
unfoldable pub wire_log : Slot → ℕ → ℕ → Form LogRec
wire_log slot delay width = seen_as (both (counted word (wire_entries slot delay width)) (λ entries. sums (2 ^ width))) log_of fields_of_log
