-- What travels on a link: the tokens of one direction, and the credits that go back for them.
use Rattle.std.specs.Prelude.{ℕ, ◌≡◌, ◌+◌, ◌-◌, ◌%◌, ◌≤◌, ◌==◌, nat_le, if◌then◌else◌, Option, Some, option_to_list, List, [], ◌∷◌, ◌++◌, length, drop, filter, slice_get, slice_index_or}
use Rattle.xs_base.specs.Numbers.{Slot, Position, EndNumber, LinkNumber}
use Rattle.xs_base.specs.declared.numbers.TheConstants.{BUFFER_TOKENS, WINDOW_TOKENS}
use Rattle.xs_base.specs.declared.token.Token.{Token}
use Rattle.xs_base.specs.declared.entry.Entry.{Entry}
use Rattle.xs_base.specs.declared.entry.What.{What}
use Rattle.xs_base.specs.declared.entry.What.TheVariants as what
use Rattle.xs_model.specs.Record.{LinkRec, first_node}
use Rattle.net_model.specs.Links.{token_arrives, credit_arrives}
use Rattle.net_model.specs.Switch.{link_at}
use Rattle.sys_plan.specs.Plan.{PlanRec, IsPlan, Arc, link_arcs}
use Rattle.serial_model.specs.Serial.{SystemRec, serial, arriving, token_among, credit_among}

-- the directed link that goes back: 2k + 1 for 2k, and 2k for 2k + 1
abbrev pub opposite : LinkNumber → LinkNumber
opposite link = if link % 2 == 0 then link + 1 else link - 1

-- the link end of the node at a position, where it is there
abbrev pub link_end : SystemRec → Position → EndNumber → Option LinkRec
link_end system node end = link_at (slice_index_or system.nodes node (first_node 0 0 [])) end

abbrev pub token_of : What → List Token
token_of (what.Token t) = t ∷ []
token_of _ = []

-- the tokens among entries, in their order
abbrev pub tokens_of : List Entry → List Token
tokens_of [] = []
tokens_of (e ∷ es) = token_of e.what ++ tokens_of es

abbrev pub count_credit : What → ℕ
count_credit what.Credit = 1
count_credit _ = 0

-- how many of the entries are credits
abbrev pub credits_of : List Entry → ℕ
credits_of [] = 0
credits_of (e ∷ es) = count_credit e.what + credits_of es

-- the entries that have not arrived before a slot
abbrev pub in_flight : Slot → ℕ → List Entry → List Entry
in_flight slot delay entries = filter (λ (e : Entry). nat_le slot (e.slot + delay)) entries

-- a directed link before a slot: its delay; its two link ends; its history; and the history of the one that goes back, by
-- which the credits for its tokens come
pub record Travel : Type 0 where
  pub slot : Slot
  pub delay : ℕ
  pub sender : Option LinkRec
  pub receiver : Option LinkRec
  pub forth : List Entry
  pub back : List Entry

-- direction d, which is directed link l, in a system before a slot
abbrev pub travel_of : SystemRec → Slot → LinkNumber → Arc → Travel
travel_of system slot l d = record {
  slot = slot;
  delay = d.delay;
  sender = link_end system d.from d.from_end;
  receiver = link_end system d.to d.to_end;
  forth = slice_index_or system.histories l [];
  back = slice_index_or system.histories (opposite l) [];
}

-- what holds of its two link ends, which are there
abbrev pub OfEnds : (Travel → LinkRec → LinkRec → Type 0) → Travel → Option LinkRec → Option LinkRec → Type 0
OfEnds holds t (Some sender) (Some receiver) = holds t sender receiver
OfEnds holds t _ _ = ⊥

-- that holds for every plan, before every slot, for each directed link
abbrev pub OfEachLink : (Travel → LinkRec → LinkRec → Type 0) → Type 0
OfEachLink holds = (plan : PlanRec) (slot : Slot) (l : LinkNumber) (d : Arc) →
    IsPlan plan →
    slice_get (link_arcs plan.links) l ≡ Some d →
    let t = travel_of (serial plan slot) slot l d in OfEnds holds t t.sender t.receiver

-- ---- The window. A token that was sent has no credit yet while it is in flight, while it is in the receiver's buffer, and
-- while its credit is in flight; there are never more than 8 of these.
pub record Window (t : Travel) (sender receiver : LinkRec) : Type 0 where
  -- the sender notes a slot for each token that was sent
  pub noted : length sender.sent ≡ length (tokens_of t.forth)
  pub open_tokens : length sender.sent
      ≡ length sender.credited + (length (tokens_of (in_flight t.slot t.delay t.forth)) + (length receiver.buffer + credits_of (in_flight t.slot t.delay t.back)))
  pub few : length sender.sent ≤ length sender.credited + WINDOW_TOKENS
  pub fits : length receiver.buffer ≤ BUFFER_TOKENS

abbrev pub WindowIsKept : Type 0
WindowIsKept = OfEachLink Window

-- ---- What arrives: at most one token and one credit in a slot; the token has room in the receiver's buffer, and the credit
-- is for a token that has none yet; so neither is dropped.
pub record Arrives (t : Travel) (sender receiver : LinkRec) : Type 0 where
  pub one_token : tokens_of (arriving t.slot t.delay t.forth) ≡ option_to_list (token_among (arriving t.slot t.delay t.forth))
  pub one_credit : credits_of (arriving t.slot t.delay t.back) ≤ 1
  pub token_fits : length receiver.buffer + length (tokens_of (arriving t.slot t.delay t.forth)) ≤ BUFFER_TOKENS
  pub credit_is_due : length sender.credited + credits_of (arriving t.slot t.delay t.back) ≤ length sender.sent
  pub token_kept : (token_arrives (token_among (arriving t.slot t.delay t.forth)) receiver).buffer ≡ receiver.buffer ++ tokens_of (arriving t.slot t.delay t.forth)
  pub credit_counted : length (credit_arrives t.slot (credit_among (arriving t.slot t.delay t.back)) sender).credited
      ≡ length sender.credited + credits_of (arriving t.slot t.delay t.back)

abbrev pub FitsWhereItArrives : Type 0
FitsWhereItArrives = OfEachLink Arrives

-- ---- The order. Of the tokens that were sent the first ones were taken from the receiver's buffer, as many as credits went
-- back; the others are those in the buffer, and then those in flight.
pub record Order (t : Travel) (sender receiver : LinkRec) : Type 0 where
  pub taken : credits_of t.back ≤ length (tokens_of t.forth)
  pub others : drop (credits_of t.back) (tokens_of t.forth) ≡ receiver.buffer ++ tokens_of (in_flight t.slot t.delay t.forth)

abbrev pub KeepsItsOrder : Type 0
KeepsItsOrder = OfEachLink Order
