-- Two nodes at work that differ in their link ends alone, which are alike: each step of the switch does the same in both.
use Rattle.std.proofs.Common.{◌≡◌, ℕ, zero, suc, ◌+◌, ◌==◌, Bool, true, false, not, ◌&&◌, ◌||◌, nat_lt, if◌then◌else◌, Option, Some, None, List, [], ◌∷◌, refl, ap, sym, subst}
use Rattle.std.specs.Int.{bit_at}
use Rattle.xs_base.specs.Numbers.{Slot, ChanNumber, EndNumber, InputNumber, Identifier}
use Rattle.xs_base.specs.declared.numbers.TheConstants.{LINK_ENDS, CHAN_ENDS, HEADER_BYTES}
use Rattle.xs_base.specs.declared.token.Token.{Token}
use Rattle.xs_base.specs.declared.token.Token.TheVariants.{Byte, Ctrl}
use Rattle.xs_model.specs.declared.dest.Dest.{Dest}
use Rattle.xs_model.specs.declared.event.Happen.{Happen}
use Rattle.xs_model.specs.declared.event.Happen.TheVariants as happen
use Rattle.xs_model.specs.Dests.{dest_of}
use Rattle.xs_model.specs.Record.{NodeRec, LinkRec, InputRec, Idle, Head1, Head2, Want, Local, Out, Lost, chan_of}
use Rattle.xs_model.specs.Waits.{has_room}
use Rattle.xs_model.specs.AtWork.{AtWork, it_happens}
use Rattle.net_model.specs.Ways.{Way, Here, Behind, way_to}
use Rattle.net_model.specs.Switch.{Routes, net_of_end, is_link_input, chan_of_input, to_state, waiting_at, state_at, chan_is_held, end_is_held, link_at, free_end, take_first, after_token, loses, put_into, send, end_may_send, start_packet, packet_step, after_header, head_step, link_head_step, hold_end, header_byte, is_pause, deliver, local_step, out_token, out_step, lost_step, want_way, want_step, step_at, input_step, moves_from}
use Rattle.link_laws.proofs.WindowLists.{AllAlikeIn, all_taken, all_sent, all_wait, all_may}

-- a node at work with other link ends
abbrev pub with_links : AtWork → List (Option LinkRec) → AtWork
with_links m others = record m { rec = record m.rec { links = others } }

module _ (slot : Slot) where
  -- another one at work, which has other link ends that are alike, and is the same in all else
  pub record WorkAlike (m other : AtWork) : Type 0 where
    pub links : List (Option LinkRec)
    pub alike : AllAlikeIn slot m.rec.links links
    pub same : other ≡ with_links m links

  -- a piece of work that keeps nodes alike
  abbrev pub Keeps : (AtWork → AtWork) → Type 0
  Keeps work = (m : AtWork) (others : List (Option LinkRec)) → AllAlikeIn slot m.rec.links others → WorkAlike (work m) (work (with_links m others))

  -- a piece of work after others
  pub after : (work : AtWork → AtWork) (m other : AtWork) → Keeps work → WorkAlike m other → WorkAlike (work m) (work other)
  after work m other keeps h = subst (λ other. WorkAlike (work m) (work other)) (sym h.same) (keeps m h.links h.alike)

  nothing : Keeps (λ m. m)
  nothing m others h = record { links = others; alike = h; same = refl }

  either : (this that : Bool) (x x' y y' : AtWork) → this ≡ that → WorkAlike x x' → WorkAlike y y' →
      WorkAlike (if this then x else y) (if that then x' else y')
  either true true x x' y y' e one two = one
  either false false x x' y y' e one two = two
  either true false x x' y y' e one two = cc
  either false true x x' y y' e one two = cc

  -- ---- What the rules are made of

  to_state_so : (i : InputNumber) (state : InputRec) → Keeps (to_state i state)
  to_state_so i state m others h = record { links = others; alike = h; same = refl }

  happens_so : (what : Happen) → Keeps (it_happens what)
  happens_so what m others h = record { links = others; alike = h; same = refl }

  put_so : (n : ChanNumber) (t : Token) → Keeps (put_into n t)
  put_so n t m others h = record { links = others; alike = h; same = refl }

  loses_so : (i : InputNumber) (dest : Dest) → Keeps (loses i dest)
  loses_so i dest m others h = record { links = others; alike = h; same = refl }

  take_so : (i : InputNumber) → Keeps (take_first i)
  take_so i m others h = either (is_link_input i) (is_link_input i) _ _ _ _ refl
      (record { links = _; alike = all_taken slot m.rec.links others i h; same = refl })
      (record { links = others; alike = h; same = refl })

  send_so : (end : EndNumber) (t : Token) → Keeps (send slot end t)
  send_so end t m others h = record { links = _; alike = all_sent slot m.rec.links others end h; same = refl }

  after_token_so : (i : InputNumber) (state : InputRec) (t : Token) (m other : AtWork) →
      WorkAlike m other → WorkAlike (after_token i state t m) (after_token i state t other)
  after_token_so i state t m other h = after (after_token i state t) m other (λ m others h. record { links = others; alike = h; same = refl }) h

  either_waits : (link : Bool) (own other : List Token) (chan : List Token) → own ≡ other → (if link then own else chan) ≡ (if link then other else chan)
  either_waits true own other chan e = e
  either_waits false own other chan e = refl

  waits_so : (i : InputNumber) (m : AtWork) (others : List (Option LinkRec)) → AllAlikeIn slot m.rec.links others →
      waiting_at m.rec i ≡ waiting_at (with_links m others).rec i
  waits_so i m others h = either_waits (is_link_input i) _ _ _ (all_wait slot m.rec.links others i h)

  -- work on the tokens that wait at an input
  on_waiting : (i : InputNumber) (work : List Token → AtWork → AtWork) → ((waiting : List Token) → Keeps (work waiting)) →
      Keeps (λ m. work (waiting_at m.rec i) m)
  on_waiting i work keeps m others h =
      subst (λ waiting. WorkAlike (work (waiting_at m.rec i) m) (work waiting (with_links m others))) (waits_so i m others h)
      (keeps (waiting_at m.rec i) m others h)

  free_so : (rec : NodeRec) (others : List (Option LinkRec)) (mask : ℕ) (end : EndNumber) (count : ℕ) →
      free_end rec mask end count ≡ free_end (record rec { links = others }) mask end count
  unfolding free_end
  free_so rec others mask end zero = refl
  free_so rec others mask end (suc count) =
      ap (λ rest. if (bit_at mask end == 1) && not (end_is_held rec end) then Some end else rest) (free_so rec others mask (end + 1) count)

  -- ---- The step of an input, rule by rule

  module _ (routes : Routes) (i : InputNumber) where
    head_so : (state : InputRec) (waiting : List Token) → Keeps (head_step routes i state waiting)
    head_so state [] m others h = nothing m others h
    head_so state (Byte b ∷ rest) m others h =
        after (to_state i (after_header (net_of_end routes i) state b)) _ _ (to_state_so i (after_header (net_of_end routes i) state b)) (take_so i m others h)
    head_so state (Ctrl c ∷ rest) m others h = take_so i m others h

    link_head_so : (state : InputRec) → Keeps (link_head_step routes i state)
    link_head_so state m others h =
        either (is_link_input i) (is_link_input i) _ _ _ _ refl (on_waiting i (head_step routes i state) (head_so state) m others h) (nothing m others h)

    deliver_so : (n : ChanNumber) (t : Token) → Keeps (deliver i n t)
    deliver_so n t m others h =
        let taken = take_so i m others h in
        let put = after (put_into n t) _ _ (put_so n t) taken in
        let told = after (it_happens (happen.Chan n t)) _ _ (happens_so (happen.Chan n t)) put in
        either (is_pause t) (is_pause t) _ _ _ _ refl (after_token_so i (Local n) t _ _ taken)
        (either (has_room 1 (chan_of m.rec.core n).input) (has_room 1 (chan_of m.rec.core n).input) _ _ _ _ refl
        (after_token_so i (Local n) t _ _ told) (nothing m others h))

    local_so : (n : ChanNumber) (waiting : List Token) → Keeps (local_step i n waiting)
    local_so n [] m others h = nothing m others h
    local_so n (t ∷ rest) m others h = deliver_so n t m others h

    lost_so : (waiting : List Token) → Keeps (lost_step i waiting)
    lost_so [] m others h = nothing m others h
    lost_so (t ∷ rest) m others h = after_token_so i Lost t _ _ (take_so i m others h)

    token_so : (end : EndNumber) (headers : ℕ) (dest : Dest) (waiting : List Token) → Keeps (out_token slot i end headers dest waiting)
    token_so end headers dest [] m others h = nothing m others h
    token_so end headers dest (t ∷ rest) m others h =
        after_token_so i (Out end headers dest) t _ _ (after (send slot end t) _ _ (send_so end t) (take_so i m others h))

    out_so : (end : EndNumber) (headers : ℕ) (dest : Dest) → Keeps (out_step routes slot i end headers dest)
    out_so end headers dest m others h =
        let header = Byte (header_byte dest headers) in
        let next = to_state i (Out end (headers + 1) dest) in
        either (end_may_send routes slot end (link_at m.rec end)) (end_may_send routes slot end (link_at (with_links m others).rec end)) _ _ _ _
        (all_may slot routes m.rec.links others end h)
        (either (nat_lt headers HEADER_BYTES) (nat_lt headers HEADER_BYTES) _ _ _ _ refl
        (after next _ _ (to_state_so i (Out end (headers + 1) dest)) (send_so end header m others h))
        (on_waiting i (out_token slot i end headers dest) (token_so end headers dest) m others h))
        (nothing m others h)

    hold_so : (dest : Dest) (end : Option EndNumber) → Keeps (hold_end (λ e m. out_step routes slot i e 0 dest m) i dest end)
    hold_so dest None m others h = nothing m others h
    hold_so dest (Some end) m others h =
        after (out_step routes slot i end 0 dest) _ _ (out_so end 0 dest) (to_state_so i (Out end 0 dest) m others h)

    held_so : (dest : Dest) (mask : ℕ) → Keeps (λ m. hold_end (λ e m. out_step routes slot i e 0 dest m) i dest (free_end m.rec mask 0 LINK_ENDS) m)
    held_so dest mask m others h =
        let hold = hold_end (λ e m. out_step routes slot i e 0 dest m) i dest in
        subst (λ end. WorkAlike (hold (free_end m.rec mask 0 LINK_ENDS) m) (hold end (with_links m others)))
        (free_so m.rec others mask 0 LINK_ENDS) (hold_so dest (free_end m.rec mask 0 LINK_ENDS) m others h)

    way_so : (dest : Dest) (way : Way) → Keeps (want_way routes slot i dest way)
    way_so dest Here m others h =
        let n = dest.chan in
        let lost = not (nat_lt n CHAN_ENDS) || not (chan_of m.rec.core n).used in
        let step = λ (m : AtWork). local_step i n (waiting_at m.rec i) m in
        either lost lost _ _ _ _ refl (loses_so i dest m others h)
        (either (chan_is_held m.rec n) (chan_is_held m.rec n) _ _ _ _ refl (nothing m others h)
        (after step _ _ (on_waiting i (local_step i n) (local_so n)) (to_state_so i (Local n) m others h)))
    way_so dest (Behind mask) m others h =
        either (mask == 0) (mask == 0) _ _ _ _ refl (loses_so i dest m others h) (held_so dest mask m others h)

    want_so : (dest : Dest) (net : ℕ) → Keeps (want_step routes slot i dest net)
    want_so dest net m others h = way_so dest (way_to routes.id routes.ways routes.nets net dest.node) m others h

    start_so : (net : ℕ) (id : Option Identifier) → Keeps (start_packet (want_step routes slot i) i net id)
    start_so net None m others h = nothing m others h
    start_so net (Some id) m others h =
        after (want_step routes slot i (dest_of id) net) _ _ (want_so (dest_of id) net) (to_state_so i (Want (dest_of id) net) m others h)

    packet_so : (waiting : List Token) → Keeps (packet_step (want_step routes slot i) i waiting)
    packet_so [] m others h = nothing m others h
    packet_so (t ∷ rest) m others h = let chan = chan_of m.rec.core (chan_of_input i) in start_so chan.net chan.dest m others h

    step_so : (state : InputRec) → Keeps (step_at routes slot i state)
    step_so Idle m others h =
        either (is_link_input i) (is_link_input i) _ _ _ _ refl (on_waiting i (head_step routes i Idle) (head_so Idle) m others h)
        (on_waiting i (packet_step (want_step routes slot i) i) packet_so m others h)
    step_so (Head1 high) m others h = link_head_so (Head1 high) m others h
    step_so (Head2 high low) m others h = link_head_so (Head2 high low) m others h
    step_so (Want dest net) m others h = want_so dest net m others h
    step_so (Local n) m others h = on_waiting i (local_step i n) (local_so n) m others h
    step_so (Out end headers dest) m others h = out_so end headers dest m others h
    step_so Lost m others h = on_waiting i (lost_step i) lost_so m others h

    input_so : Keeps (input_step routes slot i)
    input_so m others h = step_so (state_at m.rec i) m others h

  -- the steps of so many inputs
  pub moves_so : (routes : Routes) (i count : ℕ) → Keeps (moves_from routes slot i count)
  unfolding moves_from
  moves_so routes i zero m others h = nothing m others h
  moves_so routes i (suc count) m others h =
      after (moves_from routes slot (i + 1) count) _ _ (moves_so routes (i + 1) count) (input_so routes i m others h)
