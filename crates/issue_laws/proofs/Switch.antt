-- Nothing of a slot before its issue changes the memory: at the switch tokens move from link ends and channel ends to others.
use Rattle.std.proofs.Common.{◌≡◌, ℕ, zero, suc, ◌+◌, ◌==◌, Bool, true, false, not, ◌||◌, nat_lt, if◌then◌else◌, Option, Some, None, List, [], ◌∷◌, refl}
use Rattle.xs_base.specs.Numbers.{Slot, ChanNumber, EndNumber, InputNumber, Identifier}
use Rattle.xs_base.specs.declared.numbers.TheConstants.{LINK_ENDS, CHAN_ENDS, INPUTS, HEADER_BYTES}
use Rattle.xs_base.specs.declared.token.Token.{Token}
use Rattle.xs_base.specs.declared.token.Token.TheVariants.{Byte, Ctrl}
use Rattle.xs_model.specs.declared.dest.Dest.{Dest}
use Rattle.xs_model.specs.declared.outside.Arrivals.{Arrivals}
use Rattle.xs_model.specs.declared.outside.PinView.{PinView}
use Rattle.xs_model.specs.Dests.{dest_of}
use Rattle.xs_model.specs.Record.{NodeRec, InputRec, Idle, Head1, Head2, Want, Local, Out, Lost, chan_of}
use Rattle.xs_model.specs.Waits.{has_room}
use Rattle.xs_model.specs.AtWork.{AtWork, slot_begins}
use Rattle.net_model.specs.Ways.{Way, Here, Behind, way_to}
use Rattle.net_model.specs.Links.{arrive}
use Rattle.net_model.specs.Switch.{Routes, is_link_input, chan_of_input, to_state, waiting_at, state_at, chan_is_held, link_at, free_end, take_first, end_may_send, is_pause, head_step}
use Rattle.net_model.specs.Switch.{hold_end, local_step, out_token, out_step, lost_step, start_packet, packet_step, want_way, want_step, step_at, moves_from}
use Rattle.step_model.specs.Fixed.{Fixed}
use Rattle.step_model.specs.Step.{ports_step, before_issue}

module _ (memory : List ℕ) where
  -- a node at work with this memory
  abbrev Has : AtWork → Type 0
  Has m = m.rec.core.memory ≡ memory

  -- one or another
  either : (holds : Bool) (x y : AtWork) → Has x → Has y → Has (if holds then x else y)
  either true x y one other = one
  either false x y one other = other

  -- a token is taken from where it waits
  take_has : (i : InputNumber) (m : AtWork) → Has m → Has (take_first i m)
  take_has i m h = either (is_link_input i) _ _ h h

  -- a header byte is taken, or dropped
  head_has : (routes : Routes) (i : InputNumber) (state : InputRec) (waiting : List Token) (m : AtWork) → Has m → Has (head_step routes i state waiting m)
  head_has routes i state [] m h = h
  head_has routes i state (Byte b ∷ rest) m h = take_has i m h
  head_has routes i state (Ctrl c ∷ rest) m h = take_has i m h

  -- a token comes to a channel end
  local_has : (i : InputNumber) (n : ChanNumber) (waiting : List Token) (m : AtWork) → Has m → Has (local_step i n waiting m)
  local_has i n [] m h = h
  local_has i n (t ∷ rest) m h =
      let taken : Has (take_first i m) = take_has i m h in
      either (is_pause t) _ _ taken (either (has_room 1 (chan_of m.rec.core n).input) _ m taken h)

  -- a token is dropped
  lost_has : (i : InputNumber) (waiting : List Token) (m : AtWork) → Has m → Has (lost_step i waiting m)
  lost_has i [] m h = h
  lost_has i (t ∷ rest) m h = take_has i m h

  module _ (routes : Routes) (slot : Slot) (i : InputNumber) where
    -- a token leaves by a link end
    token_has : (e : EndNumber) (headers : ℕ) (dest : Dest) (waiting : List Token) (m : AtWork) → Has m → Has (out_token slot i e headers dest waiting m)
    token_has e headers dest [] m h = h
    token_has e headers dest (t ∷ rest) m h = take_has i m h

    -- it does where the link end may send, after the header
    out_has : (e : EndNumber) (headers : ℕ) (dest : Dest) (m : AtWork) → Has m → Has (out_step routes slot i e headers dest m)
    out_has e headers dest m h =
        either (end_may_send routes slot e (link_at m.rec e)) _ m
        (either (nat_lt headers HEADER_BYTES) _ _ h (token_has e headers dest (waiting_at m.rec i) m h)) h

    -- a link end is held, if one is free
    hold_has : (dest : Dest) (end : Option EndNumber) (m : AtWork) → Has m → Has (hold_end (λ e m. out_step routes slot i e 0 dest m) i dest end m)
    hold_has dest None m h = h
    hold_has dest (Some e) m h = out_has e 0 dest (to_state i (Out e 0 dest) m) h

    -- the way to a destination
    way_has : (dest : Dest) (way : Way) (m : AtWork) → Has m → Has (want_way routes slot i dest way m)
    way_has dest Here m h =
        let at = to_state i (Local dest.chan) m in
        either (not (nat_lt dest.chan CHAN_ENDS) || not (chan_of m.rec.core dest.chan).used) _ _ h
        (either (chan_is_held m.rec dest.chan) m _ h (local_has i dest.chan (waiting_at at.rec i) at h))
    way_has dest (Behind mask) m h = either (mask == 0) _ _ h (hold_has dest (free_end m.rec mask 0 LINK_ENDS) m h)

    -- it is looked up
    want_has : (dest : Dest) (net : ℕ) (m : AtWork) → Has m → Has (want_step routes slot i dest net m)
    want_has dest net m h = way_has dest (way_to routes.id routes.ways routes.nets net dest.node) m h

    -- a packet begins, if there is a destination
    start_has : (net : ℕ) (dest : Option Identifier) (m : AtWork) → Has m → Has (start_packet (want_step routes slot i) i net dest m)
    start_has net None m h = h
    start_has net (Some id) m h = want_has (dest_of id) net (to_state i (Want (dest_of id) net) m) h

    -- it does where tokens wait
    packet_has : (waiting : List Token) (m : AtWork) → Has m → Has (packet_step (want_step routes slot i) i waiting m)
    packet_has [] m h = h
    packet_has (t ∷ rest) m h = let chan = chan_of m.rec.core (chan_of_input i) in start_has chan.net chan.dest m h

    -- the step of an input
    step_has : (state : InputRec) (m : AtWork) → Has m → Has (step_at routes slot i state m)
    step_has Idle m h = either (is_link_input i) _ _ (head_has routes i Idle (waiting_at m.rec i) m h) (packet_has (waiting_at m.rec i) m h)
    step_has (Head1 high) m h = either (is_link_input i) _ m (head_has routes i (Head1 high) (waiting_at m.rec i) m h) h
    step_has (Head2 high low) m h = either (is_link_input i) _ m (head_has routes i (Head2 high low) (waiting_at m.rec i) m h) h
    step_has (Want dest net) m h = want_has dest net m h
    step_has (Local n) m h = local_has i n (waiting_at m.rec i) m h
    step_has (Out e headers dest) m h = out_has e headers dest m h
    step_has Lost m h = lost_has i (waiting_at m.rec i) m h

  -- the steps of so many inputs
  moves_have : (routes : Routes) (slot : Slot) (i count : ℕ) (m : AtWork) → Has m → Has (moves_from routes slot i count m)
  unfolding moves_from
  moves_have routes slot i zero m h = h
  moves_have routes slot i (suc count) m h =
      moves_have routes slot (i + 1) count (step_at routes slot i (state_at m.rec i) m) (step_has routes slot i (state_at m.rec i) m h)

-- the memory is as it was before the slot
pub before_has : (fixed : Fixed) (rec : NodeRec) (slot : Slot) (arrivals : Arrivals) (pins : PinView) → (before_issue fixed rec slot arrivals pins).rec.core.memory ≡ rec.core.memory
before_has fixed rec slot arrivals pins =
    moves_have rec.core.memory fixed.routes slot 0 INPUTS (ports_step slot pins (arrive slot arrivals (slot_begins rec))) refl
