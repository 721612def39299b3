-- The step of an input of the switch leaves another input as it is, with what waits there.
use Rattle.std.proofs.Common.{◌≡◌, ◌≢◌, ℕ, zero, suc, ◌+◌, ◌≤◌, ◌==◌, Bool, true, false, not, ◌||◌, nat_lt, if◌then◌else◌, Option, Some, None, List, [], ◌∷◌, length, get_or}
use Rattle.std.proofs.Common.{slice_set, refl, ap, ◌∙◌, arith, length-set, get_or-set_other}
use Rattle.xs_base.specs.Numbers.{Slot, ChanNumber, EndNumber, InputNumber, Identifier}
use Rattle.xs_base.specs.declared.numbers.TheConstants.{LINK_ENDS, CHAN_ENDS, INPUTS, HEADER_BYTES}
use Rattle.xs_base.specs.declared.token.Token.{Token}
use Rattle.xs_base.specs.declared.token.Token.TheVariants.{Byte, Ctrl}
use Rattle.xs_model.specs.declared.event.Happen.TheVariants as happen
use Rattle.xs_model.specs.declared.dest.Dest.{Dest}
use Rattle.xs_model.specs.Dests.{dest_of}
use Rattle.xs_model.specs.declared.outside.Arrivals.{Arrivals}
use Rattle.xs_model.specs.declared.outside.PinView.{PinView}
use Rattle.xs_model.specs.Record.{NodeRec, LinkRec, InputRec, Idle, Head1, Head2, Want, Local, Out, Lost, chan_of}
use Rattle.xs_model.specs.Waits.{has_room}
use Rattle.xs_model.specs.AtWork.{AtWork, slot_begins, it_happens}
use Rattle.net_model.specs.Ways.{Way, Here, Behind, way_to}
use Rattle.net_model.specs.Links.{arrive}
use Rattle.net_model.specs.Switch.{Routes, is_link_input, chan_of_input, link_without_first, sent_in, to_state, waiting_at, state_at, chan_is_held, buffer_of_link, link_at}
use Rattle.net_model.specs.Switch.{free_end, take_first, end_may_send, ends_packet, after_token, loses, put_into, send, start_packet, packet_step, header_byte, head_step, hold_end}
use Rattle.net_model.specs.Switch.{is_pause, local_step, out_token, out_step, lost_step, want_way, want_step, step_at, moves_from}
use Rattle.step_model.specs.Fixed.{Fixed}
use Rattle.step_model.specs.Step.{node_step, ports_step}

-- a token leaves by a link end: the buffers stay as they are
sent_buffer : (slot : Slot) (link : Option LinkRec) → buffer_of_link (sent_in slot link) ≡ buffer_of_link link
sent_buffer slot None = refl
sent_buffer slot (Some link) = refl

pub send_buffer : (slot : Slot) (links : List (Option LinkRec)) (i j : ℕ) →
    buffer_of_link (get_or (slice_set links i (sent_in slot (get_or links i None))) j None) ≡ buffer_of_link (get_or links j None)
send_buffer slot [] i j = refl
send_buffer slot (link ∷ links) zero zero = sent_buffer slot link
send_buffer slot (link ∷ links) zero (suc j) = refl
send_buffer slot (link ∷ links) (suc i) zero = refl
send_buffer slot (link ∷ links) (suc i) (suc j) = send_buffer slot links i j

-- what is true of each of two is true whichever it is
pub either : {A : Type 0} (P : A → Type 0) (holds : Bool) (x y : A) → P x → P y → P (if holds then x else y)
either P true x y this that = this
either P false x y this that = that

module _ (e : EndNumber) (m0 : AtWork) where
  -- input e is as it was, and so are what waits there, where it is a link end's, and whether a token has left
  pub record Alike (inputs : List InputRec) (links : List (Option LinkRec)) (credits : List Bool) : Type 0 where
    pub state : get_or inputs e Idle ≡ get_or m0.rec.inputs e Idle
    pub many : length inputs ≡ length m0.rec.inputs
    pub buffer : buffer_of_link (get_or links e None) ≡ buffer_of_link (get_or m0.rec.links e None)
    pub credit : get_or credits e false ≡ get_or m0.credits e false
    pub as_many : length credits ≡ length m0.credits

  abbrev pub IsAlike : AtWork → Type 0
  IsAlike m = Alike m.rec.inputs m.rec.links m.credits

  pub alike_itself : IsAlike m0
  alike_itself = record { state = refl; many = refl; buffer = refl; credit = refl; as_many = refl }

  sends_alike : (slot : Slot) (end : EndNumber) (t : Token) (m : AtWork) → IsAlike m → IsAlike (send slot end t m)
  sends_alike slot end t m h = record { state = h.state; many = h.many; buffer = send_buffer slot m.rec.links end e ∙ h.buffer; credit = h.credit; as_many = h.as_many }

  module _ (i : InputNumber) (other : e ≢ i) where
    sets_alike : (state : InputRec) (m : AtWork) → IsAlike m → IsAlike (to_state i state m)
    sets_alike state m h = record {
      state = get_or-set_other m.rec.inputs i e state Idle other ∙ h.state;
      many = length-set m.rec.inputs i state ∙ h.many;
      buffer = h.buffer;
      credit = h.credit;
      as_many = h.as_many;
    }

    without_first_alike : (m : AtWork) → IsAlike m → Alike m.rec.inputs (slice_set m.rec.links i (link_without_first (link_at m.rec i))) (slice_set m.credits i true)
    without_first_alike m h = record {
      state = h.state;
      many = h.many;
      buffer = ap buffer_of_link (get_or-set_other m.rec.links i e (link_without_first (link_at m.rec i)) None other) ∙ h.buffer;
      credit = get_or-set_other m.credits i e true false other ∙ h.credit;
      as_many = length-set m.credits i true ∙ h.as_many;
    }

    takes_alike : (m : AtWork) → IsAlike m → IsAlike (take_first i m)
    takes_alike m h = either IsAlike (is_link_input i) _ _ (without_first_alike m h) h

    token_alike : (state : InputRec) (t : Token) (m : AtWork) → IsAlike m → IsAlike (after_token i state t m)
    token_alike state t m h = sets_alike (if ends_packet t then Idle else state) m h

    module _ (routes : Routes) (slot : Slot) where
      head_alike : (state : InputRec) (waiting : List Token) (m : AtWork) → IsAlike m → IsAlike (head_step routes i state waiting m)
      head_alike state [] m h = h
      head_alike state (Byte b ∷ rest) m h = sets_alike _ (take_first i m) (takes_alike m h)
      head_alike state (Ctrl c ∷ rest) m h = takes_alike m h

      local_alike : (n : ChanNumber) (waiting : List Token) (m : AtWork) → IsAlike m → IsAlike (local_step i n waiting m)
      local_alike n [] m h = h
      local_alike n (t ∷ rest) m h =
          let first = takes_alike m h in
          either IsAlike (is_pause t) _ _ (token_alike (Local n) t (take_first i m) first)
          (either IsAlike (has_room 1 (chan_of m.rec.core n).input) _ m (token_alike (Local n) t (it_happens (happen.Chan n t) (put_into n t (take_first i m))) first) h)

      lost_alike : (waiting : List Token) (m : AtWork) → IsAlike m → IsAlike (lost_step i waiting m)
      lost_alike [] m h = h
      lost_alike (t ∷ rest) m h = token_alike Lost t (take_first i m) (takes_alike m h)

      out_token_alike : (end : EndNumber) (headers : ℕ) (dest : Dest) (waiting : List Token) (m : AtWork) → IsAlike m → IsAlike (out_token slot i end headers dest waiting m)
      out_token_alike end headers dest [] m h = h
      out_token_alike end headers dest (t ∷ rest) m h =
          token_alike (Out end headers dest) t (send slot end t (take_first i m)) (sends_alike slot end t (take_first i m) (takes_alike m h))

      out_alike : (end : EndNumber) (headers : ℕ) (dest : Dest) (m : AtWork) → IsAlike m → IsAlike (out_step routes slot i end headers dest m)
      out_alike end headers dest m h =
          let header = Byte (header_byte dest headers) in
          either IsAlike (end_may_send routes slot end (link_at m.rec end)) _ m
          (either IsAlike (nat_lt headers HEADER_BYTES) _ _ (sets_alike (Out end (headers + 1) dest) (send slot end header m) (sends_alike slot end header m h))
          (out_token_alike end headers dest (waiting_at m.rec i) m h)) h

      hold_alike : (dest : Dest) (end : Option EndNumber) (m : AtWork) → IsAlike m → IsAlike (hold_end (λ e m. out_step routes slot i e 0 dest m) i dest end m)
      hold_alike dest None m h = h
      hold_alike dest (Some end) m h = out_alike end 0 dest (to_state i (Out end 0 dest) m) (sets_alike (Out end 0 dest) m h)

      loses_alike : (dest : Dest) (m : AtWork) → IsAlike m → IsAlike (loses i dest m)
      loses_alike dest m h = sets_alike Lost m h

      way_alike : (dest : Dest) (way : Way) (m : AtWork) → IsAlike m → IsAlike (want_way routes slot i dest way m)
      way_alike dest Here m h =
          let n = dest.chan in
          let held = to_state i (Local n) m in
          either IsAlike (not (nat_lt n CHAN_ENDS) || not (chan_of m.rec.core n).used) _ _ (loses_alike dest m h)
          (either IsAlike (chan_is_held m.rec n) m _ h (local_alike n (waiting_at held.rec i) held (sets_alike (Local n) m h)))
      way_alike dest (Behind mask) m h = either IsAlike (mask == 0) _ _ (loses_alike dest m h) (hold_alike dest (free_end m.rec mask 0 LINK_ENDS) m h)

      want_alike : (dest : Dest) (net : ℕ) (m : AtWork) → IsAlike m → IsAlike (want_step routes slot i dest net m)
      want_alike dest net m h = way_alike dest (way_to routes.id routes.ways routes.nets net dest.node) m h

      start_alike : (net : ℕ) (id : Option Identifier) (m : AtWork) → IsAlike m → IsAlike (start_packet (want_step routes slot i) i net id m)
      start_alike net None m h = h
      start_alike net (Some id) m h = want_alike (dest_of id) net (to_state i (Want (dest_of id) net) m) (sets_alike (Want (dest_of id) net) m h)

      packet_alike : (waiting : List Token) (m : AtWork) → IsAlike m → IsAlike (packet_step (want_step routes slot i) i waiting m)
      packet_alike [] m h = h
      packet_alike (t ∷ rest) m h = let chan = chan_of m.rec.core (chan_of_input i) in start_alike chan.net chan.dest m h

      pub step_alike : (state : InputRec) (m : AtWork) → IsAlike m → IsAlike (step_at routes slot i state m)
      step_alike Idle m h = either IsAlike (is_link_input i) _ _ (head_alike Idle (waiting_at m.rec i) m h) (packet_alike (waiting_at m.rec i) m h)
      step_alike (Head1 high) m h = either IsAlike (is_link_input i) _ m (head_alike (Head1 high) (waiting_at m.rec i) m h) h
      step_alike (Head2 high low) m h = either IsAlike (is_link_input i) _ m (head_alike (Head2 high low) (waiting_at m.rec i) m h) h
      step_alike (Want dest net) m h = want_alike dest net m h
      step_alike (Local n) m h = local_alike n (waiting_at m.rec i) m h
      step_alike (Out end headers dest) m h = out_alike end headers dest m h
      step_alike Lost m h = lost_alike (waiting_at m.rec i) m h

-- no step changes how many inputs there are
many_still : (routes : Routes) (slot : Slot) (i count : ℕ) (m : AtWork) → i + count ≤ INPUTS → length (moves_from routes slot i count m).rec.inputs ≡ length m.rec.inputs
unfolding moves_from
many_still routes slot i zero m few = refl
many_still routes slot i (suc count) m few =
    let other : INPUTS ≢ i = (λ same. absurd (omega (arith, few, same))) in
    let next = step_at routes slot i (state_at m.rec i) m in
    many_still routes slot (i + 1) count next (omega (arith, few)) ∙ (step_alike INPUTS m i other routes slot (state_at m.rec i) m (alike_itself INPUTS m)).many

pub node_counts : (fixed : Fixed) (rec : NodeRec) (slot : Slot) (arrivals : Arrivals) (pins : PinView) → length (node_step fixed rec slot arrivals pins).rec.inputs ≡ length rec.inputs
unfolding node_step
node_counts fixed rec slot arrivals pins = many_still fixed.routes slot 0 INPUTS (ports_step slot pins (arrive slot arrivals (slot_begins rec))) (omega arith)
