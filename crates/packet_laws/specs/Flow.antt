-- One step of an input of the switch: what becomes of the tokens at a node, and of what its inputs hold.
use Rattle.std.specs.Prelude.{ℕ, ◌≡◌, ◌≢◌, ◌⊎◌, ◌+◌, ◌<◌, ◌≤◌, ◌==◌, true, false, if◌then◌else◌, List, [], ◌∷◌, ◌++◌, length, slice_index, slice_index_or}
use Rattle.std.specs.Prelude.{Option, Some, None, is_some, option_map, option_to_list}
use Rattle.xs_base.specs.Numbers.{Slot, ChanNumber, EndNumber, InputNumber}
use Rattle.xs_base.specs.declared.numbers.TheConstants.{LINK_ENDS, INPUTS, HEADER_BYTES}
use Rattle.xs_base.specs.declared.token.Token.{Token}
use Rattle.xs_base.specs.declared.token.Token.TheVariants.{Byte}
use Rattle.xs_model.specs.declared.dest.Dest.{Dest}
use Rattle.xs_model.specs.Dests.{dest_of}
use Rattle.xs_model.specs.Record.{NodeRec, InputRec, Idle, Head1, Head2, Want, Local, Out, Lost, chan_of}
use Rattle.xs_model.specs.declared.outside.Arrivals.{Arrivals}
use Rattle.xs_model.specs.declared.outside.PinView.{PinView}
use Rattle.xs_model.specs.AtWork.{AtWork, slot_begins}
use Rattle.net_model.specs.Links.{arrive}
use Rattle.net_model.specs.Switch.{Routes, is_link_input, chan_of_input, link_at, waiting_at, state_at, is_local_to, is_out_by, ends_packet, is_pause, header_byte, end_may_send, input_step}
use Rattle.step_model.specs.Fixed.{Fixed}
use Rattle.step_model.specs.Step.{ports_step}

-- ---- Where tokens go

pub data Move : Type 0 where
  -- no token moves
  Rests : Move
  -- the first token that waits at the input is taken, and goes nowhere
  TakesOff : (t : Token) → Move
  -- it is taken, and leaves by a link end
  Forwards : (end : EndNumber) (t : Token) → Move
  -- it is taken, and is put into the input buffer of a channel end
  Delivers : (chan : ChanNumber) (t : Token) → Move
  -- none is taken, and a header byte leaves by a link end
  SendsHeader : (end : EndNumber) (t : Token) → Move

-- what leaves the input's buffer, what leaves the node by a link end, and what is put into the input buffer of a channel end
abbrev pub takes : Move → List Token
takes (TakesOff t) = t ∷ []
takes (Forwards end t) = t ∷ []
takes (Delivers chan t) = t ∷ []
takes _ = []

abbrev pub sends : Move → EndNumber → List Token
sends (Forwards end t) e = if end == e then t ∷ [] else []
sends (SendsHeader end t) e = if end == e then t ∷ [] else []
sends _ e = []

abbrev pub puts : Move → ChanNumber → List Token
puts (Delivers chan t) n = if chan == n then t ∷ [] else []
puts _ n = []

-- what has left by a link end in the slot so far: a token or none
abbrev pub left_by : AtWork → EndNumber → List Token
left_by m e = option_to_list (slice_index_or m.tokens e None)

-- the move of input i, from a node at work to what it is after: of all that wait at inputs, of what has left by all link ends, and of all input
-- buffers of channel ends
pub record Flows (i : InputNumber) (move : Move) (m after : AtWork) : Type 0 where
  pub own : waiting_at m.rec i ≡ takes move ++ waiting_at after.rec i
  pub others : (j : InputNumber) → j ≢ i → waiting_at after.rec j ≡ waiting_at m.rec j
  pub out : (e : EndNumber) → left_by after e ≡ left_by m e ++ sends move e
  pub into : (n : ChanNumber) → (chan_of after.rec.core n).input ≡ (chan_of m.rec.core n).input ++ puts move n

-- ---- What inputs hold. Tokens go only to what their input holds, and it lets go with END or PAUSE, and with nothing else.

abbrev pub after_first : InputRec → Token → InputRec
after_first state t = if ends_packet t then Idle else state

-- where a token may be of a header: at the input of a link end, which holds nothing after it
abbrev pub IsOfHeader : InputNumber → InputRec → Type 0
IsOfHeader i (Local chan) = ⊥
IsOfHeader i (Out end headers dest) = ⊥
IsOfHeader i _ = is_link_input i ≡ true

-- what an input may do in a state, and the state after it
abbrev pub Does : InputNumber → Move → InputRec → InputRec → Type 0
Does i Rests state new = new ≡ state
Does i (TakesOff t) Idle new = IsOfHeader i new
Does i (TakesOff t) (Head1 high) new = IsOfHeader i new
Does i (TakesOff t) (Head2 high low) new = IsOfHeader i new
Does i (TakesOff t) Lost new = new ≡ after_first Lost t
Does i (TakesOff t) (Local chan) new = (is_pause t ≡ true) × (new ≡ Idle)
Does i (Delivers n t) (Local chan) new = (n ≡ chan) × (new ≡ after_first (Local chan) t)
Does i (SendsHeader e t) (Out end headers dest) new = (e ≡ end) × (headers < HEADER_BYTES) × (t ≡ Byte (header_byte dest headers)) × (new ≡ Out end (headers + 1) dest)
Does i (Forwards e t) (Out end headers dest) new = (e ≡ end) × (HEADER_BYTES ≤ headers) × (new ≡ after_first (Out end headers dest) t)
Does i _ _ new = ⊥

-- where an input wants to go: it says so, or it is idle and its channel end says so
abbrev pub wanted : NodeRec → InputNumber → InputRec → Option Dest
wanted rec i (Want dest net) = Some dest
wanted rec i Idle = if is_link_input i then None else option_map dest_of (chan_of rec.core (chan_of_input i)).dest
wanted rec i _ = None

-- what an input that wants to go somewhere may be then: it takes hold only of what no input holds
abbrev pub MayBe : NodeRec → Option Dest → InputRec → Type 0
MayBe rec (Some dest) (Want to net) = to ≡ dest
MayBe rec (Some dest) (Local chan) = (chan ≡ dest.chan) × ((j : InputNumber) → is_local_to chan (state_at rec j) ≡ false)
MayBe rec (Some dest) (Out end headers to) = (to ≡ dest) × (headers ≡ 0) × ((j : InputNumber) → is_out_by end (state_at rec j) ≡ false)
MayBe rec (Some dest) Lost = Unit {0}
MayBe rec _ _ = ⊥

-- ---- Both, in one step

-- a node has as many inputs and link ends as every node has, an input holds only a channel end that is in use, no two inputs hold the same, and
-- link ends have gaps
pub record IsSwitch (gaps : List ℕ) (rec : NodeRec) : Type 0 where
  pub inputs : length rec.inputs ≡ INPUTS
  pub links : length rec.links ≡ LINK_ENDS
  pub used : (j : InputNumber) (n : ChanNumber) → state_at rec j ≡ Local n → (chan_of rec.core n).used ≡ true
  pub chans : (n : ChanNumber) (j k : InputNumber) → is_local_to n (state_at rec j) ≡ true → is_local_to n (state_at rec k) ≡ true → j ≡ k
  pub ends : (e : EndNumber) (j k : InputNumber) → is_out_by e (state_at rec j) ≡ true → is_out_by e (state_at rec k) ≡ true → j ≡ k
  pub gap : (e : EndNumber) → is_some (link_at rec e) ≡ true → 1 ≤ slice_index gaps e

-- one at work is so before each of these steps, and a link end by which a token has left in the slot may send no other in it
pub record Works (routes : Routes) (slot : Slot) (m : AtWork) : Type 0 where
  pub switch : IsSwitch routes.gaps m.rec
  pub tokens : length m.tokens ≡ LINK_ENDS
  pub once : (e : EndNumber) → is_some (slice_index_or m.tokens e None) ≡ true → end_may_send routes slot e (link_at m.rec e) ≡ false

pub record Steps (routes : Routes) (slot : Slot) (i : InputNumber) (m after : AtWork) : Type 0 where
  pub move : Move
  -- the state in which the input moves: its own, or it has found its way first
  pub state : InputRec
  pub finds : (state ≡ state_at m.rec i) ⊎ MayBe m.rec (wanted m.rec i (state_at m.rec i)) state
  pub does : Does i move state (state_at after.rec i)
  pub flows : Flows i move m after
  pub others : (j : InputNumber) → j ≢ i → state_at after.rec j ≡ state_at m.rec j
  pub works : Works routes slot after

abbrev pub SwitchesKeepTokens : Type 0
SwitchesKeepTokens = (routes : Routes) (slot : Slot) (i : InputNumber) (m : AtWork) → i < INPUTS → Works routes slot m
    → Steps routes slot i m (input_step routes slot i m)

-- so works a node that is so before a slot, when the inputs of its switch make their steps
abbrev pub SwitchesWork : Type 0
SwitchesWork = (fixed : Fixed) (rec : NodeRec) (slot : Slot) (arrivals : Arrivals) (pins : PinView) → IsSwitch fixed.routes.gaps rec
    → Works fixed.routes slot (ports_step slot pins (arrive slot arrivals (slot_begins rec)))
