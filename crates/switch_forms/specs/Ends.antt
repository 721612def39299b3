-- How link ends stand in bytes.
use Rattle.std.specs.Prelude.{ℕ, ◌+◌, Bool, false, not, ◌==◌, nat_lt, if◌then◌else◌, List, length, slice_index_or}
use Rattle.arrayvec.specs.ArrayVec.{ArrayVec}
use Rattle.xs_base.specs.Numbers.{Slot}
use Rattle.xs_base.specs.declared.numbers.TheConstants.{LINK_ENDS, WINDOW_TOKENS}
use Rattle.xs_base.specs.declared.token.Token.{Token}
use Rattle.link_ends.specs.declared.state.EndState.{EndState}
use Rattle.byte_forms.specs.Forms.{Form, byte, word, flag, where_is, below, both, seen_as, option_of, flag_and_value, chain}
use Rattle.state_forms.specs.Buffers.{buffer}

-- whether it is there, the tokens that wait, how many of those sent are without a credit, and whether it ever sent and its last slot of
-- sending
abbrev pub EndFields : Type 0
EndFields = Bool × (ArrayVec Token × (ℕ × (Bool × ℕ)))

abbrev pub end_of_fields : EndFields → EndState
end_of_fields f = record { present = f.0; buffer = f.1.0; window = f.1.1.0; last = option_of f.1.1.1 }

abbrev pub fields_of_end : EndState → EndFields
fields_of_end e = (e.present, (e.buffer, (e.window, flag_and_value e.last)))

-- it is there exactly where the plan has it
abbrev pub is_there : Bool → Bool → Bool
is_there there present = if there then present else not present

-- one that sent is there, and one that never sent has the window 0
abbrev pub may_have_sent : Bool → ℕ → Bool → Bool
may_have_sent there window sent = if sent then there else window == 0

-- the last slot of sending lies before this slot, and is 0 where there is none
abbrev pub is_last : Slot → Bool → ℕ → Bool
is_last slot sent last = if sent then nat_lt last slot else last == 0

-- A link end, which the plan has or not, in a snapshot of this slot. At most 8 tokens are without a credit. One that is not there is 0 in
-- all its fields, each of which is refused for itself. A window without a last slot is refused at the flag of that slot.
unfoldable pub link_end : Bool → Slot → Form EndState
link_end there slot =
    seen_as (both (where_is flag (is_there there)) (λ present. both (buffer there) (λ tokens. both (below byte (if there then WINDOW_TOKENS + 1 else 1)) (λ window.
    both (where_is flag (may_have_sent there window)) (λ sent. where_is word (is_last slot sent))))))
    end_of_fields fields_of_end

-- the link ends of a node, of which the plan has these
abbrev pub link_ends : List Bool → Slot → Form (List EndState)
link_ends there slot = chain LINK_ENDS (λ before. link_end (slice_index_or there (length before) false) slot)
