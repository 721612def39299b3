-- What a slot of a node does at one of its link ends.
use Rattle.std.specs.Prelude.{ℕ, ◌≡◌, ◌<◌, ◌≤◌, Bool, true, false, if◌then◌else◌, Option, Some, None, is_some, List, [], ◌∷◌, ◌++◌, length, drop, slice_index, slice_index_or}
use Rattle.xs_base.specs.Numbers.{Slot, EndNumber}
use Rattle.xs_base.specs.declared.numbers.TheConstants.{LINK_ENDS}
use Rattle.xs_base.specs.declared.token.Token.{Token}
use Rattle.xs_model.specs.declared.outside.Arrivals.{Arrivals}
use Rattle.xs_model.specs.declared.outside.PinView.{PinView}
use Rattle.xs_model.specs.Record.{NodeRec, LinkRec}
use Rattle.net_model.specs.Links.{link_after_arrivals, may_send}
use Rattle.net_model.specs.Switch.{link_at}
use Rattle.step_model.specs.Fixed.{Fixed}
use Rattle.step_model.specs.Step.{Stepped, node_step}

abbrev pub slots_of : Slot → Option Token → List Slot
slots_of slot None = []
slots_of slot (Some t) = slot ∷ []

-- a link end in a slot: as it is when what arrives has arrived, as it is after the slot, and what left by it
pub record LinkSlot (gap : ℕ) (slot : Slot) (before after : LinkRec) (token : Option Token) (credit : Bool) : Type 0 where
  -- a credit leaves exactly where the first token leaves the buffer
  pub buffer : after.buffer ≡ (if credit then drop 1 before.buffer else before.buffer)
  pub waited : credit ≡ true → 1 ≤ length before.buffer
  -- a token leaves only where one may, and its slot is noted
  pub allowed : is_some token ≡ true → may_send gap slot before ≡ true
  pub sent : after.sent ≡ before.sent ++ slots_of slot token
  pub credited : after.credited ≡ before.credited

-- the same of a link end that may not be there: then nothing leaves by it
abbrev pub LinkSlotAt : ℕ → Slot → Option LinkRec → Option LinkRec → Option Token → Bool → Type 0
LinkSlotAt gap slot None None token credit = (token ≡ None) × (credit ≡ false)
LinkSlotAt gap slot (Some before) (Some after) token credit = LinkSlot gap slot before after token credit
LinkSlotAt gap slot _ _ token credit = ⊥

-- a link end of a node when what arrives in a slot has arrived
abbrev pub arrived_at : NodeRec → Slot → Arrivals → EndNumber → Option LinkRec
arrived_at rec slot arrivals end =
    link_after_arrivals slot (slice_index_or arrivals.tokens end None) (slice_index_or arrivals.credits end false) (link_at rec end)

abbrev pub LinkSlotOf : Fixed → NodeRec → Slot → Arrivals → EndNumber → Stepped → Type 0
LinkSlotOf fixed rec slot arrivals end after =
    LinkSlotAt (slice_index fixed.routes.gaps end) slot (arrived_at rec slot arrivals end) (link_at after.rec end)
    (slice_index_or after.emitted.tokens end None) (slice_index_or after.emitted.credits end false)

-- whatever the node, its code and what comes to it, for each link end with a gap
abbrev pub SlotAtLinkEnd : Type 0
SlotAtLinkEnd = (fixed : Fixed) (rec : NodeRec) (slot : Slot) (arrivals : Arrivals) (pins : PinView) (end : EndNumber) →
    end < LINK_ENDS →
    1 ≤ slice_index fixed.routes.gaps end →
    LinkSlotOf fixed rec slot arrivals end (node_step fixed rec slot arrivals pins)
