-- The switch at one link end: only that end's own input takes a token from its buffer, once, and at most one token leaves by it.
use Rattle.std.proofs.Common.{◌≡◌, ℕ, zero, suc, ◌+◌, ◌≤◌, ◌==◌, Bool, true, false, not, ◌||◌, nat_lt, if◌then◌else◌, Option, Some, None, List, [], ◌∷◌, get_or, slice_index, refl, subst, ◌∙◌, arith}
use Rattle.xs_base.specs.Numbers.{Slot, ChanNumber, EndNumber, InputNumber, Identifier}
use Rattle.xs_base.specs.declared.numbers.TheConstants.{LINK_ENDS, CHAN_ENDS, HEADER_BYTES}
use Rattle.xs_base.specs.declared.token.Token.{Token}
use Rattle.xs_base.specs.declared.token.Token.TheVariants.{Byte, Ctrl}
use Rattle.xs_model.specs.declared.dest.Dest.{Dest}
use Rattle.xs_model.specs.Dests.{dest_of}
use Rattle.xs_model.specs.Record.{LinkRec, InputRec, Idle, Head1, Head2, Want, Local, Out, Lost, chan_of}
use Rattle.xs_model.specs.Waits.{has_room}
use Rattle.xs_model.specs.AtWork.{AtWork}
use Rattle.net_model.specs.Ways.{Way, Here, Behind, way_to}
use Rattle.net_model.specs.Switch.{Routes, is_link_input, chan_of_input, to_state, waiting_at, state_at, chan_is_held, link_at, free_end, take_first, send, end_may_send, start_packet, packet_step, head_step, hold_end, header_byte, is_pause, local_step, out_token, out_step, lost_step, want_way, want_step, step_at, moves_from}
use Rattle.link_laws.specs.LinkSlot.{LinkSlotAt}
use Rattle.link_laws.proofs.SlotAtEndLists.{may_after_take, SoFar, passes, takes, sends}

module _ (routes : Routes) (slot : Slot) (e : EndNumber) (before : Option LinkRec) where
  abbrev pub At : InputNumber → AtWork → Type 0
  At n m = SoFar routes slot e before n m.rec.links m.tokens m.credits

  -- where nothing leaves
  later : (i : InputNumber) (m : AtWork) → At i m → At (suc i) m
  later i m h = passes routes slot e before i m.rec.links m.tokens m.credits h

  either : (n : InputNumber) (holds : Bool) (x y : AtWork) → (holds ≡ true → At n x) → At n y → At n (if holds then x else y)
  either n true x y one other = one refl
  either n false x y one other = other

  by_input : (n : InputNumber) (link : Bool) (own other waiting : List Token) (x y : AtWork) →
      (if link then own else other) ≡ waiting → (own ≡ waiting → At n x) → At n y → At n (if link then x else y)
  by_input n true own other waiting x y waits one two = one waits
  by_input n false own other waiting x y waits one two = two

  take : (i : InputNumber) (t : Token) (rest : List Token) (m : AtWork) → waiting_at m.rec i ≡ t ∷ rest → At i m → At (suc i) (take_first i m)
  take i t rest m waits h =
      by_input (suc i) (is_link_input i) _ _ (t ∷ rest) _ _ waits
      (λ waits. takes routes slot e before i m.rec.links m.tokens m.credits t rest waits h)
      (later i m h)

  may_either : (end : EndNumber) (may : Bool) (holds : Bool) (x y : AtWork) →
      end_may_send routes slot end (link_at x.rec end) ≡ may →
      end_may_send routes slot end (link_at y.rec end) ≡ may →
      end_may_send routes slot end (link_at (if holds then x else y).rec end) ≡ may
  may_either end may true x y one other = one
  may_either end may false x y one other = other

  may_still : (i : InputNumber) (end : EndNumber) (m : AtWork) →
      end_may_send routes slot end (link_at (take_first i m).rec end) ≡ end_may_send routes slot end (link_at m.rec end)
  may_still i end m = may_either end _ (is_link_input i) _ _ (may_after_take routes slot m.rec.links i end) refl

  module _ (long : 1 ≤ slice_index routes.gaps e) where
    sent : (n : InputNumber) (end : EndNumber) (t : Token) (m : AtWork) →
        end_may_send routes slot end (link_at m.rec end) ≡ true → At n m → At n (send slot end t m)
    sent n end t m may h = sends routes slot e before long n end m.rec.links m.tokens m.credits t may h

    -- ---- The step of an input, rule by rule

    module _ (i : InputNumber) where
      head_so : (state : InputRec) (waiting : List Token) (m : AtWork) → waiting_at m.rec i ≡ waiting → At i m → At (suc i) (head_step routes i state waiting m)
      head_so state [] m waits h = later i m h
      head_so state (Byte b ∷ rest) m waits h = take i (Byte b) rest m waits h
      head_so state (Ctrl c ∷ rest) m waits h = take i (Ctrl c) rest m waits h

      local_so : (n : ChanNumber) (waiting : List Token) (m : AtWork) → waiting_at m.rec i ≡ waiting → At i m → At (suc i) (local_step i n waiting m)
      local_so n [] m waits h = later i m h
      local_so n (t ∷ rest) m waits h =
          let taken : At (suc i) (take_first i m) = take i t rest m waits h in
          either (suc i) (is_pause t) _ _ (λ _. taken)
          (either (suc i) (has_room 1 (chan_of m.rec.core n).input) _ m (λ _. taken) (later i m h))

      lost_so : (waiting : List Token) (m : AtWork) → waiting_at m.rec i ≡ waiting → At i m → At (suc i) (lost_step i waiting m)
      lost_so [] m waits h = later i m h
      lost_so (t ∷ rest) m waits h = take i t rest m waits h

      token_so : (end : EndNumber) (headers : ℕ) (dest : Dest) (waiting : List Token) (m : AtWork) →
          waiting_at m.rec i ≡ waiting →
          end_may_send routes slot end (link_at m.rec end) ≡ true →
          At i m →
          At (suc i) (out_token slot i end headers dest waiting m)
      token_so end headers dest [] m waits may h = later i m h
      token_so end headers dest (t ∷ rest) m waits may h =
          sent (suc i) end t (take_first i m) (may_still i end m ∙ may) (take i t rest m waits h)

      out_so : (end : EndNumber) (headers : ℕ) (dest : Dest) (m : AtWork) → At i m → At (suc i) (out_step routes slot i end headers dest m)
      out_so end headers dest m h =
          let header = Byte (header_byte dest headers) in
          let gone = send slot end header m in
          either (suc i) (end_may_send routes slot end (link_at m.rec end)) _ m
          (λ may. either (suc i) (nat_lt headers HEADER_BYTES) _ _
          (λ _. later i gone (sent i end header m may h))
          (token_so end headers dest (waiting_at m.rec i) m refl may h))
          (later i m h)

      hold_so : (dest : Dest) (end : Option EndNumber) (m : AtWork) → At i m → At (suc i) (hold_end (λ e m. out_step routes slot i e 0 dest m) i dest end m)
      hold_so dest None m h = later i m h
      hold_so dest (Some end) m h = out_so end 0 dest _ h

      way_so : (dest : Dest) (way : Way) (m : AtWork) → At i m → At (suc i) (want_way routes slot i dest way m)
      way_so dest Here m h =
          let n = dest.chan in
          let held = to_state i (Local n) m in
          either (suc i) (not (nat_lt n CHAN_ENDS) || not (chan_of m.rec.core n).used) _ _ (λ _. later i m h)
          (either (suc i) (chan_is_held m.rec n) m _ (λ _. later i m h) (local_so n (waiting_at held.rec i) held refl h))
      way_so dest (Behind mask) m h =
          either (suc i) (mask == 0) _ _ (λ _. later i m h) (hold_so dest (free_end m.rec mask 0 LINK_ENDS) m h)

      want_so : (dest : Dest) (net : ℕ) (m : AtWork) → At i m → At (suc i) (want_step routes slot i dest net m)
      want_so dest net m h = way_so dest (way_to routes.id routes.ways routes.nets net dest.node) m h

      start_so : (net : ℕ) (id : Option Identifier) (m : AtWork) → At i m → At (suc i) (start_packet (want_step routes slot i) i net id m)
      start_so net None m h = later i m h
      start_so net (Some id) m h = want_so (dest_of id) net _ h

      packet_so : (waiting : List Token) (m : AtWork) → At i m → At (suc i) (packet_step (want_step routes slot i) i waiting m)
      packet_so [] m h = later i m h
      packet_so (t ∷ rest) m h = let chan = chan_of m.rec.core (chan_of_input i) in start_so chan.net chan.dest m h

      step_so : (state : InputRec) (m : AtWork) → At i m → At (suc i) (step_at routes slot i state m)
      step_so Idle m h =
          either (suc i) (is_link_input i) _ _ (λ _. head_so Idle (waiting_at m.rec i) m refl h) (packet_so (waiting_at m.rec i) m h)
      step_so (Head1 high) m h =
          either (suc i) (is_link_input i) _ m (λ _. head_so (Head1 high) (waiting_at m.rec i) m refl h) (later i m h)
      step_so (Head2 high low) m h =
          either (suc i) (is_link_input i) _ m (λ _. head_so (Head2 high low) (waiting_at m.rec i) m refl h) (later i m h)
      step_so (Want dest net) m h = want_so dest net m h
      step_so (Local n) m h = local_so n (waiting_at m.rec i) m refl h
      step_so (Out end headers dest) m h = out_so end headers dest m h
      step_so Lost m h = lost_so (waiting_at m.rec i) m refl h

    -- the steps of so many inputs
    pub moves_so : (i count : ℕ) (m : AtWork) →
        At i m →
        let after = moves_from routes slot i count m in
        LinkSlotAt (slice_index routes.gaps e) slot before (link_at after.rec e) (get_or after.tokens e None) (get_or after.credits e false)
    unfolding moves_from
    moves_so i zero m h = h.so_far
    moves_so i (suc count) m h =
        let after = step_at routes slot i (state_at m.rec i) m in
        let next : suc i ≡ i + 1 = omega arith in
        moves_so (i + 1) count after (subst (λ n. At n after) next (step_so i (state_at m.rec i) m h))
