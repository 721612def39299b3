-- The switch and one link end: in a slot at most one token leaves by it, and it is the next one of the packet of the input that holds it.
use Rattle.std.proofs.Common.{◌≡◌, ◌⊎◌, inl, inr, ℕ, zero, suc, ◌+◌, ◌<◌, ◌≤◌, ◌==◌, Bool, true, false, not, ◌||◌, nat_lt, is_some, IfSome, if◌then◌else◌, Option, Some, None, List}
use Rattle.std.proofs.Common.{[], ◌∷◌, ◌++◌, length, get_or, slice_index, slice_set, refl, ap, sym, subst, ◌∙◌, append-nil, length-set, get_or-set_same, get_or-set_other, arith}
use Rattle.std.proofs.lemmas.Bool.{both_ways, cases_eq, cond_both, ne_eqb, ltb-true, ltb-false, false_from_ne_true}
use Rattle.std.specs.Prelude.{option_to_list}
use Rattle.std.specs.Int.{bit_at}
use Rattle.xs_base.specs.Numbers.{Slot, NodeId, ChanNumber, EndNumber, InputNumber, Identifier}
use Rattle.xs_base.specs.declared.numbers.TheConstants.{LINK_ENDS, CHAN_ENDS, INPUTS, HEADER_BYTES}
use Rattle.xs_base.specs.declared.token.Token.{Token}
use Rattle.xs_base.specs.declared.token.Token.TheVariants.{Byte, Ctrl}
use Rattle.xs_model.specs.declared.event.Happen.TheVariants as happen
use Rattle.xs_model.specs.declared.dest.Dest.{Dest}
use Rattle.xs_model.specs.Dests.{dest_of}
use Rattle.xs_model.specs.Record.{LinkRec, InputRec, Idle, Head1, Head2, Want, Local, Out, Lost, chan_of}
use Rattle.xs_model.specs.Waits.{has_room}
use Rattle.xs_model.specs.AtWork.{AtWork, it_happens}
use Rattle.net_model.specs.Ways.{Way, Here, Behind, way_to}
use Rattle.net_model.specs.Switch.{Routes, net_of_end, is_link_input, is_out_by, chan_of_input, sent_in, to_state, waiting_at, state_at, chan_is_held, end_is_held, link_at}
use Rattle.net_model.specs.Switch.{free_end, take_first, end_may_send, ends_packet, after_token, put_into, send, start_packet, packet_step, after_header, header_byte, head_step}
use Rattle.net_model.specs.Switch.{hold_end, is_pause, local_step, out_token, out_step, lost_step, want_way, want_step, step_at, moves_from}
use Rattle.link_laws.proofs.SlotAtEndLists.{may_after_take}
use Rattle.packet_laws.specs.Packets.{Place, Between, place_after, place_of, place_sent}
use Rattle.packet_laws.specs.Whole.{Sends}
use Rattle.packet_laws.proofs.LinkEnds.{IsFreeEnd, free_end_is, none_at, may_still, not_again_at}
use Rattle.packet_laws.proofs.Alike.{either}
use Rattle.packet_laws.proofs.Places.{one_more, one_header, one_token}
use Rattle.packet_laws.proofs.SendingInputs.{at, is_out, IsCutAt, still_sends, alone_sends}

-- a token that is not there is none
nothing_there : (token : Option Token) → (is_some token ≡ true → ⊥) → token ≡ None
nothing_there None never = refl
nothing_there (Some t) never = absurd (never refl)

-- each id that lies behind a link end, in whatever network, passes
abbrev pub AllPass : Routes → (NodeId → Bool) → EndNumber → Type 0
AllPass routes passes e =
    (net : ℕ) (dest : NodeId) (mask : ℕ) → way_to routes.id routes.ways routes.nets net dest ≡ Behind mask → bit_at mask e ≡ 1 → passes dest ≡ true

module _ (routes : Routes) (slot : Slot) (passes : NodeId → Bool) (e : EndNumber) (before : List Token) where
  -- what left by the link end up to now: before the slot, and in it
  abbrev pub row : List (Option Token) → List Token
  row tokens = before ++ option_to_list (get_or tokens e None)

  pub record SendsSo (inputs : List InputRec) (links : List (Option LinkRec)) (tokens : List (Option Token)) : Type 0 where
    pub has_token : e < length tokens
    pub all : length inputs ≡ INPUTS
    pub once : is_some (get_or tokens e None) ≡ true → end_may_send routes slot e (get_or links e None) ≡ false
    pub sends : Sends passes e inputs (row tokens)

  abbrev pub Good : AtWork → Type 0
  Good m = SendsSo m.rec.inputs m.rec.links m.tokens

  -- what is in this state does not hold the link end
  abbrev IsApart : InputRec → Type 0
  IsApart state = is_out_by e state ≡ false

  not_apart : (headers : ℕ) (dest : Dest) → IsApart (Out e headers dest) → ⊥
  not_apart headers dest apart = both_ways _ apart (is_out e headers dest (Out e headers dest) refl)

  header_apart : (state : InputRec) (net b : ℕ) → IsApart state → IsApart (after_header net state b)
  header_apart Idle net b apart = refl
  header_apart (Head1 high) net b apart = refl
  header_apart (Head2 high low) net b apart = refl
  header_apart (Want dest to) net b apart = refl
  header_apart (Local chan) net b apart = refl
  header_apart (Out end headers dest) net b apart = apart
  header_apart Lost net b apart = refl

  module _ (long : 1 ≤ slice_index routes.gaps e) (ways : AllPass routes passes e) where
    module _ (i : InputNumber) (within : i < INPUTS) where
      -- the input is in a state
      abbrev In : InputRec → AtWork → Type 0
      In state m = Good m × (state_at m.rec i ≡ state)

      take_in : (state : InputRec) (m : AtWork) → In state m → In state (take_first i m)
      take_in state m h =
          cond_both (is_link_input i) _ _ (In state)
          (λ link. (
            record {
              has_token = h.0.has_token;
              all = h.0.all;
              once = λ gone. may_after_take routes slot m.rec.links i e ∙ h.0.once gone;
              sends = h.0.sends;
            },
            h.1,
          ))
          (λ chan. h)

      -- from a state in which it does not hold the link end to another
      apart_in : (old new : InputRec) (m : AtWork) → IsApart old → IsApart new → In old m → In new (to_state i new m)
      apart_in old new m was will h =
          let inside : i < length m.rec.inputs = omega (arith, within, h.0.all) in (
            record {
              has_token = h.0.has_token;
              all = length-set m.rec.inputs i new ∙ h.0.all;
              once = h.0.once;
              sends = still_sends passes e m.rec.inputs i new inside (ap (is_out_by e) h.1 ∙ was) will (row m.tokens) h.0.sends;
            },
            get_or-set_same m.rec.inputs i new Idle inside,
          )

      token_so : (old state : InputRec) (t : Token) (m : AtWork) → IsApart old → IsApart state → In old m → Good (after_token i state t m)
      token_so old state t m was will h =
          let apart : IsApart (if ends_packet t then Idle else state) = either IsApart (ends_packet t) Idle state refl will in
          (apart_in old _ m was apart h).0

      -- ---- The step of an input that does not hold the link end, rule by rule

      head_so : (state : InputRec) (waiting : List Token) (m : AtWork) → IsApart state → In state m → Good (head_step routes i state waiting m)
      head_so state [] m apart h = h.0
      head_so state (Byte b ∷ rest) m apart h =
          let net = net_of_end routes i in
          (apart_in state (after_header net state b) (take_first i m) apart (header_apart state net b apart) (take_in state m h)).0
      head_so state (Ctrl c ∷ rest) m apart h = (take_in state m h).0

      local_so : (n : ChanNumber) (waiting : List Token) (m : AtWork) → In (Local n) m → Good (local_step i n waiting m)
      local_so n [] m h = h.0
      local_so n (t ∷ rest) m h =
          let taken = take_in (Local n) m h in
          let put = it_happens (happen.Chan n t) (put_into n t (take_first i m)) in
          either Good (is_pause t) _ _ (token_so (Local n) (Local n) t (take_first i m) refl refl taken)
          (either Good (has_room 1 (chan_of m.rec.core n).input) _ m (token_so (Local n) (Local n) t put refl refl taken) h.0)

      lost_so : (waiting : List Token) (m : AtWork) → In Lost m → Good (lost_step i waiting m)
      lost_so [] m h = h.0
      lost_so (t ∷ rest) m h = token_so Lost Lost t (take_first i m) refl refl (take_in Lost m h)

      -- ---- A token leaves by a link end

      send_in : (state : InputRec) (end : EndNumber) (t : Token) (m : AtWork) → (e ≡ end → ⊥) → In state m → In state (send slot end t m)
      send_in state end t m other h =
          let same_link = get_or-set_other m.rec.links end e (sent_in slot (link_at m.rec end)) None other in
          let same_token = get_or-set_other m.tokens end e (Some t) None other in (
            record {
              has_token = omega (arith, length-set m.tokens end (Some t), h.0.has_token);
              all = h.0.all;
              once = λ gone. ap (end_may_send routes slot e) same_link ∙ h.0.once (sym (ap is_some same_token) ∙ gone);
              sends = subst (λ token. Sends passes e m.rec.inputs (before ++ option_to_list token)) (sym same_token) h.0.sends;
            },
            h.1,
          )

      other_so : (end : EndNumber) (headers : ℕ) (dest : Dest) (m : AtWork) →
          (e ≡ end → ⊥) → In (Out end headers dest) m → Good (out_step routes slot i end headers dest m)
      other_so end headers dest m other h =
          let state = Out end headers dest in
          let header = Byte (header_byte dest headers) in
          either Good (end_may_send routes slot end (link_at m.rec end)) _ m
          (either Good (nat_lt headers HEADER_BYTES) _ _
          (apart_in state (Out end (headers + 1) dest) (send slot end header m) apart apart (send_in state end header m other h)).0
          (by (waiting_at m.rec i)))
          h.0
        where
          apart : (end == e) ≡ false
          apart = ne_eqb end e (λ same. other (sym same))

          by : (waiting : List Token) → Good (out_token slot i end headers dest waiting m)
          by [] = h.0
          by (t ∷ rest) =
              let state = Out end headers dest in
              token_so state state t (send slot end t (take_first i m)) apart apart (send_in state end t (take_first i m) other (take_in state m h))

      -- by this one, and the packet is cut at the next place
      leaves : (headers : ℕ) (dest : Dest) (t : Token) (next : Place) (new : InputRec) (m : AtWork) →
          end_may_send routes slot e (link_at m.rec e) ≡ true →
          (passes dest.node ≡ true → place_after passes (place_sent headers dest) t ≡ Some next) →
          (passes dest.node ≡ true → IsCutAt passes next new) →
          (IsApart new → next ≡ Between) →
          In (Out e headers dest) m →
          Good (to_state i new (send slot e t m))
      leaves headers dest t next new m may goes cut free h =
          let its = h.0.sends.held i headers dest h.1 in
          let none : get_or m.tokens e None ≡ None = nothing_there _ (λ gone. both_ways _ (h.0.once gone) may) in
          let was : row m.tokens ≡ before = ap (λ token. before ++ option_to_list token) none ∙ append-nil before in
          let is : get_or (slice_set m.tokens e (Some t)) e None ≡ Some t = get_or-set_same m.tokens e (Some t) None h.0.has_token in
          let packets : place_of passes before ≡ Some (place_sent headers dest) = sym (ap (place_of passes) was) ∙ h.0.sends.packets ∙ ap Some its.1 in
          let after : place_of passes (before ++ t ∷ []) ≡ Some next =
          one_more passes (place_sent headers dest) next before t packets (goes its.0) in
          record {
            has_token = omega (arith, length-set m.tokens e (Some t), h.0.has_token);
            all = length-set m.rec.inputs i new ∙ h.0.all;
            once = λ gone. not_again_at routes slot e long m.rec.links e;
            sends = subst (λ token. Sends passes e (slice_set m.rec.inputs i new) (before ++ option_to_list token)) (sym is)
                (alone_sends passes e m.rec.inputs i new (omega (arith, within, h.0.all)) next (before ++ t ∷ []) alone after (cut its.0) free);
          }
        where
          alone : (j : InputNumber) → (j ≡ i → ⊥) → is_out_by e (at m.rec.inputs j) ≡ false
          alone j other = false_from_ne_true _ (λ holds. other (h.0.sends.one j i holds (is_out e headers dest (at m.rec.inputs i) h.1)))

      own_token_so : (headers : ℕ) (dest : Dest) (waiting : List Token) (m : AtWork) →
          HEADER_BYTES ≤ headers →
          end_may_send routes slot e (link_at m.rec e) ≡ true →
          In (Out e headers dest) m →
          Good (out_token slot i e headers dest waiting m)
      own_token_so headers dest [] m more may h = h.0
      own_token_so headers dest (t ∷ rest) m more may h =
          leaves headers dest t _ _ (take_first i m) (may_still routes slot e i m may) (λ passed. one_token passes headers dest t more)
          (λ passed. cut passed (ends_packet t)) (free (ends_packet t)) (take_in (Out e headers dest) m h)
        where
          cut : passes dest.node ≡ true → (ends : Bool) →
              IsCutAt passes (if ends then Between else place_sent headers dest) (if ends then Idle else Out e headers dest)
          cut passed true = tt
          cut passed false = (passed, refl)

          free : (ends : Bool) → IsApart (if ends then Idle else Out e headers dest) → (if ends then Between else place_sent headers dest) ≡ Between
          free true apart = refl
          free false apart = absurd (not_apart headers dest apart)

      own_so : (headers : ℕ) (dest : Dest) (m : AtWork) → In (Out e headers dest) m → Good (out_step routes slot i e headers dest m)
      own_so headers dest m h =
          cond_both (end_may_send routes slot e (link_at m.rec e)) _ m Good
          (λ may. cond_both (nat_lt headers HEADER_BYTES) _ _ Good
          (λ less. leaves headers dest (Byte (header_byte dest headers)) (place_sent (headers + 1) dest) (Out e (headers + 1) dest) m may
          (one_header passes headers dest (ltb-true headers HEADER_BYTES less)) (λ passed. (passed, refl))
          (λ apart. absurd (not_apart (headers + 1) dest apart)) h)
          (λ more. own_token_so headers dest (waiting_at m.rec i) m (ltb-false headers HEADER_BYTES more) may h))
          (λ never. h.0)

      out_so : (end : EndNumber) (headers : ℕ) (dest : Dest) (m : AtWork) → In (Out end headers dest) m → Good (out_step routes slot i end headers dest m)
      out_so end headers dest m h = elim (cases_eq e end) [
        | inl same ↦ subst (λ end. In (Out end headers dest) m → Good (out_step routes slot i end headers dest m)) same (own_so headers dest m) h
        | inr other ↦ other_so end headers dest m other h
      ]

      -- ---- The step of an input that wants to go to a destination

      -- the link end is held from now on
      own_in : (state : InputRec) (dest : Dest) (m : AtWork) →
          end_is_held m.rec e ≡ false → passes dest.node ≡ true → In state m → In (Out e 0 dest) (to_state i (Out e 0 dest) m)
      own_in state dest m none passed h =
          let inside : i < length m.rec.inputs = omega (arith, within, h.0.all) in
          let frees = none_at (is_out_by e) m.rec.inputs refl none in (
            record {
              has_token = h.0.has_token;
              all = length-set m.rec.inputs i (Out e 0 dest) ∙ h.0.all;
              once = h.0.once;
              sends = alone_sends passes e m.rec.inputs i (Out e 0 dest) inside h.0.sends.place (row m.tokens) (λ j other. frees j) h.0.sends.packets
                  (passed, h.0.sends.free frees) (λ apart. absurd (not_apart 0 dest apart));
            },
            get_or-set_same m.rec.inputs i (Out e 0 dest) Idle inside,
          )

      hold_so : (state : InputRec) (mask : ℕ) (dest : Dest) (end : Option EndNumber) (m : AtWork) →
          IsApart state →
          (bit_at mask e ≡ 1 → passes dest.node ≡ true) →
          IfSome end (IsFreeEnd m.rec mask LINK_ENDS) →
          In state m →
          Good (hold_end (λ e m. out_step routes slot i e 0 dest m) i dest end m)
      hold_so state mask dest None m apart leads is h = h.0
      hold_so state mask dest (Some end) m apart leads is h = out_so end 0 dest (to_state i (Out end 0 dest) m) (by (cases_eq e end))
        where
          by : (e ≡ end) ⊎ (e ≡ end → ⊥) → In (Out end 0 dest) (to_state i (Out end 0 dest) m)
          by (inl same) =
              subst (λ end. IsFreeEnd m.rec mask LINK_ENDS end → In (Out end 0 dest) (to_state i (Out end 0 dest) m)) same
              (λ (free : IsFreeEnd m.rec mask LINK_ENDS e). own_in state dest m free.free (leads free.in_mask) h) is
          by (inr other) = apart_in state (Out end 0 dest) m apart (ne_eqb end e (λ same. other (sym same))) h

      way_so : (state : InputRec) (dest : Dest) (way : Way) (m : AtWork) →
          IsApart state →
          ((mask : ℕ) → way ≡ Behind mask → bit_at mask e ≡ 1 → passes dest.node ≡ true) →
          In state m →
          Good (want_way routes slot i dest way m)
      way_so state dest Here m apart leads h =
          let n = dest.chan in
          let next = to_state i (Local n) m in
          either Good (not (nat_lt n CHAN_ENDS) || not (chan_of m.rec.core n).used) _ _ (apart_in state Lost m apart refl h).0
          (either Good (chan_is_held m.rec n) m _ h.0 (local_so n (waiting_at next.rec i) next (apart_in state (Local n) m apart refl h)))
      way_so state dest (Behind mask) m apart leads h =
          let free = free_end_is m.rec mask 0 LINK_ENDS LINK_ENDS refl in
          either Good (mask == 0) _ _ (apart_in state Lost m apart refl h).0
          (hold_so state mask dest (free_end m.rec mask 0 LINK_ENDS) m apart (leads mask refl) free h)

      want_so : (state : InputRec) (dest : Dest) (net : ℕ) (m : AtWork) → IsApart state → In state m → Good (want_step routes slot i dest net m)
      want_so state dest net m apart h = way_so state dest (way_to routes.id routes.ways routes.nets net dest.node) m apart (ways net dest.node) h

      start_so : (net : ℕ) (id : Option Identifier) (m : AtWork) → In Idle m → Good (start_packet (want_step routes slot i) i net id m)
      start_so net None m h = h.0
      start_so net (Some id) m h =
          let want = Want (dest_of id) net in want_so want (dest_of id) net (to_state i want m) refl (apart_in Idle want m refl refl h)

      packet_so : (waiting : List Token) (m : AtWork) → In Idle m → Good (packet_step (want_step routes slot i) i waiting m)
      packet_so [] m h = h.0
      packet_so (t ∷ rest) m h = let chan = chan_of m.rec.core (chan_of_input i) in start_so chan.net chan.dest m h

      -- ---- The step of an input

      step_so : (state : InputRec) (m : AtWork) → In state m → Good (step_at routes slot i state m)
      step_so Idle m h =
          either Good (is_link_input i) _ _ (head_so Idle (waiting_at m.rec i) m refl h) (packet_so (waiting_at m.rec i) m h)
      step_so (Head1 high) m h = either Good (is_link_input i) _ m (head_so (Head1 high) (waiting_at m.rec i) m refl h) h.0
      step_so (Head2 high low) m h = either Good (is_link_input i) _ m (head_so (Head2 high low) (waiting_at m.rec i) m refl h) h.0
      step_so (Want dest net) m h = want_so (Want dest net) dest net m refl h
      step_so (Local n) m h = local_so n (waiting_at m.rec i) m h
      step_so (Out end headers dest) m h = out_so end headers dest m h
      step_so Lost m h = lost_so (waiting_at m.rec i) m h

    -- the steps of so many inputs
    pub moves_so : (i count : ℕ) (m : AtWork) → i + count ≤ INPUTS → Good m → Good (moves_from routes slot i count m)
    unfolding moves_from
    moves_so i zero m within h = h
    moves_so i (suc count) m within h =
        let state = state_at m.rec i in
        moves_so (i + 1) count (step_at routes slot i state m) (omega (arith, within)) (step_so i (omega (arith, within)) state m (h, refl))
