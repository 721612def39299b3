-- Link ends: what arrives at them, and when they may send. They count lists of slots.
use Rattle.std.specs.Prelude.{ℕ, ◌+◌, ◌<◌, Bool, true, false, ◌&&◌, nat_le, nat_lt, if◌then◌else◌, Option, Some, None, List, [], ◌∷◌, ◌++◌, length, filter, slice_index_or}
use Rattle.std.specs.List.{AllByRecursion}
use Rattle.xs_base.specs.Numbers.{Slot, EndNumber}
use Rattle.xs_base.specs.declared.numbers.TheConstants.{BUFFER_TOKENS, WINDOW_TOKENS}
use Rattle.xs_base.specs.declared.token.Token.{Token}
use Rattle.xs_model.specs.declared.outside.Arrivals.{Arrivals}
use Rattle.xs_model.specs.Record.{LinkRec}
use Rattle.xs_model.specs.AtWork.{AtWork}

-- a link end that nothing came to and that never sent
abbrev pub fresh_link : LinkRec
fresh_link = record { buffer = []; sent = []; credited = [] }

-- a token that arrives is put into the buffer, where it has room; else it is dropped
abbrev pub token_arrives : Option Token → LinkRec → LinkRec
token_arrives None link = link
token_arrives (Some t) link = if nat_lt (length link.buffer) BUFFER_TOKENS then record link { buffer = link.buffer ++ t ∷ [] } else link

-- a credit that arrives is counted, where some token that was sent is outstanding; else it is dropped
abbrev pub credit_arrives : Slot → Bool → LinkRec → LinkRec
credit_arrives slot credit link =
    if credit && nat_lt (length link.credited) (length link.sent) then record link { credited = link.credited ++ slot ∷ [] } else link

-- what arrives in a slot at a link end: the token, then the credit; where there is no link end it is dropped
abbrev pub link_after_arrivals : Slot → Option Token → Bool → Option LinkRec → Option LinkRec
link_after_arrivals slot token credit None = None
link_after_arrivals slot token credit (Some link) = Some (credit_arrives slot credit (token_arrives token link))

-- the link ends from number end on, after what arrives in a slot
unfoldable pub links_after_arrivals : Slot → List (Option Token) → List Bool → EndNumber → List (Option LinkRec) → List (Option LinkRec)
links_after_arrivals slot tokens credits end [] = []
links_after_arrivals slot tokens credits end (link ∷ links) =
    link_after_arrivals slot (slice_index_or tokens end None) (slice_index_or credits end false) link
    ∷ links_after_arrivals slot tokens credits (end + 1) links

-- every slot that a link end keeps is before this one
pub record IsLinkBefore (slot : Slot) (link : LinkRec) : Type 0 where
  pub sent : AllByRecursion (λ s. s < slot) link.sent
  pub credited : AllByRecursion (λ s. s < slot) link.credited

-- Phase 1 of a slot: what arrives by the link ends.
abbrev pub arrive : Slot → Arrivals → AtWork → AtWork
arrive slot arrivals m = record m {
  rec = record m.rec { links = links_after_arrivals slot arrivals.tokens arrivals.credits 0 m.rec.links };
}

-- the last slot of a list; the slots of a link end's list rise, as sends go slot by slot
abbrev pub latest : List Slot → Option Slot
latest [] = None
latest (s ∷ []) = Some s
latest (s ∷ r ∷ rest) = latest (r ∷ rest)

abbrev pub gap_is_over : ℕ → Slot → Option Slot → Bool
gap_is_over gap slot None = true
gap_is_over gap slot (Some last) = nat_le (last + gap) slot

-- A link end may send in a slot where of the tokens that it sent before fewer than the window's are without a credit
-- so far, and its last token was sent a gap ago or longer, or never.
abbrev pub may_send : ℕ → Slot → LinkRec → Bool
may_send gap slot link =
    nat_lt (length (filter (λ s. nat_lt s slot) link.sent)) (WINDOW_TOKENS + length (filter (λ s. nat_le s slot) link.credited))
    && gap_is_over gap slot (latest link.sent)
