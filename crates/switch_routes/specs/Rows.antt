-- The row of a node's link ends, and the link records that it stands for.
use Rattle.std.specs.Prelude.{ℕ, ◌≤◌, Bool, false, Option, Some, None, List, [], ◌∷◌, map, replicate, slice_index_or, drop, IfSome, if◌then◌else◌}
use Rattle.std.specs.List.{AllByRecursion}
use Rattle.xs_base.specs.Numbers.{Slot, EndNumber, InputNumber}
use Rattle.xs_base.specs.declared.token.Token.{Token}
use Rattle.xs_model.specs.Record.{LinkRec, ChanRec}
use Rattle.net_model.specs.Switch.{is_link_input, chan_of_input}
use Rattle.link_ends.specs.Counts.{EndCounts, CountsOf, can_send}
use Rattle.chan_ends.specs.Ends.{chan_at}

-- no link end is there
abbrev pub no_ends : List (Option EndCounts)
no_ends = replicate 8 None

-- what the link end in a place keeps, where it is there
abbrev pub counts_at : List (Option EndCounts) → EndNumber → Option EndCounts
counts_at row end = slice_index_or row end None

-- a link end that is there stands for a link record, and none for none
abbrev pub IsCountsOf : Option EndCounts → Option LinkRec → Type 0
IsCountsOf None None = Unit {0}
IsCountsOf (Some counts) (Some link) = CountsOf counts link
IsCountsOf _ _ = ⊥

-- the row stands for these link records, one by one
abbrev pub AllCountsOf : List (Option EndCounts) → List (Option LinkRec) → Type 0
AllCountsOf [] [] = Unit {0}
AllCountsOf (end ∷ row) (link ∷ links) = IsCountsOf end link × AllCountsOf row links
AllCountsOf _ _ = ⊥

-- the gap of a link end in slots, 0 where it is not there
abbrev pub end_gap : Option EndCounts → ℕ
end_gap None = 0
end_gap (Some counts) = counts.gap

-- the gaps of the link ends in slots, 0 where there is none
abbrev pub end_gaps : List (Option EndCounts) → List ℕ
end_gaps row = map end_gap row

-- each credit was counted in this slot or earlier
abbrev pub CreditedBy : Slot → List (Option LinkRec) → Type 0
CreditedBy slot links = AllByRecursion (λ l. IfSome l (λ link. AllByRecursion (λ s. s ≤ slot) link.credited)) links

-- each link end sent its last token in this slot or earlier, or never
abbrev pub SentBy : Slot → List (Option EndCounts) → Type 0
SentBy slot row = AllByRecursion (λ end. IfSome end (λ counts. IfSome counts.last_sent (λ s. s ≤ slot))) row

-- the tokens that wait at a link end
abbrev pub buffer_of : Option EndCounts → List Token
buffer_of None = []
buffer_of (Some counts) = counts.buffer

-- whether a link end is there and may send in a slot
abbrev pub may_send_by : Slot → Option EndCounts → Bool
may_send_by slot None = false
may_send_by slot (Some counts) = can_send counts slot

-- a link end with its first token taken
abbrev pub without_first : Option EndCounts → Option EndCounts
without_first None = None
without_first (Some counts) = Some (record counts { buffer = drop 1 counts.buffer })

-- the tokens that wait at an input
abbrev pub waiting_in : List ChanRec → List (Option EndCounts) → InputNumber → List Token
waiting_in ends row i = if is_link_input i then buffer_of (counts_at row i) else (chan_at ends (chan_of_input i)).output
