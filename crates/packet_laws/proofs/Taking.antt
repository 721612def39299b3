-- One slot of a node at the input of a link end: it takes the first token that waits or none, and is where the tokens that it took end.
use Rattle.std.proofs.Common.{◌≡◌, ◌≢◌, inl, inr, ℕ, zero, suc, ◌+◌, ◌*◌, ◌<◌, ◌≤◌, ◌==◌, Bool, true, false, not, ◌||◌, nat_lt, if◌then◌else◌, Option, Some, None, List, [], ◌∷◌}
use Rattle.std.proofs.Common.{length, get_or, slice_index, slice_set, refl, sym, ap, subst, subst₂, ◌∙◌, arith, length-set, get_or-set_same}
use Rattle.std.proofs.lemmas.Bool.{cases_eq}
use Rattle.std.proofs.lemmas.List.{get_or-replicate}
use Rattle.std.proofs.lemmas.Option.{none-some}
use Rattle.std.proofs.lemmas.Bool.Decides.{nat_tests}
use Rattle.std.specs.Int.{bit_at}
use Rattle.std.specs.Prelude.{IfSome}
use Rattle.xs_base.specs.Numbers.{Slot, NodeId, ChanNumber, EndNumber}
use Rattle.xs_base.specs.declared.numbers.TheConstants.{LINK_ENDS, CHAN_ENDS, INPUTS, HEADER_BYTES}
use Rattle.xs_base.specs.declared.token.Token.{Token}
use Rattle.xs_base.specs.declared.token.Token.TheVariants.{Byte, Ctrl}
use Rattle.xs_model.specs.declared.event.Happen.TheVariants as happen
use Rattle.xs_model.specs.declared.outside.Arrivals.{Arrivals}
use Rattle.xs_model.specs.declared.outside.PinView.{PinView}
use Rattle.xs_model.specs.declared.dest.Dest.{Dest}
use Rattle.xs_model.specs.Record.{NodeRec, LinkRec, InputRec, Idle, Head1, Head2, Want, Local, Out, Lost, chan_of}
use Rattle.xs_model.specs.Waits.{has_room}
use Rattle.xs_model.specs.AtWork.{AtWork, slot_begins, it_happens}
use Rattle.net_model.specs.Ways.{Way, Here, Behind, way_to}
use Rattle.net_model.specs.Links.{link_after_arrivals, links_after_arrivals, arrive}
use Rattle.net_model.specs.Switch.{Routes, is_link_input, to_state, waiting_at, state_at, chan_is_held, buffer_of_link, link_at, free_end, take_first, end_may_send, ends_packet}
use Rattle.net_model.specs.Switch.{after_token, put_into, send, after_header, header_byte, head_step, hold_end, is_pause, local_step, out_token, out_step, lost_step, want_way, step_at, moves_from}
use Rattle.step_model.specs.Fixed.{Fixed}
use Rattle.step_model.specs.Step.{node_step, ports_step}
use Rattle.link_laws.specs.LinkSlot.{arrived_at}
use Rattle.packet_laws.specs.Packets.{Place, Between, AfterOne, AfterTwo, Within, place_after}
use Rattle.packet_laws.specs.Whole.{IsAt}
use Rattle.packet_laws.proofs.LinkEnds.{IsFreeEnd, free_end_is}
use Rattle.packet_laws.proofs.Alike.{either, IsAlike, alike_itself, step_alike}

module _ (passes : NodeId → Bool) (OnWay : NodeId → EndNumber → Type 0) where
  -- ---- One more token

  module _ (net : ℕ) where
    abbrev At : Place → InputRec → Type 0
    At place state = IsAt OnWay net place state

    -- the place after a token is where the input is then
    abbrev Follows : Place → Token → InputRec → Type 0
    Follows place t state = (next : Place) → place_after passes place t ≡ Some next → At next state

    moved : (place : Place) (state : InputRec) → At place state → (next : Place) → Some place ≡ Some next → At next state
    moved place state at next e = subst (λ (o : Option Place). IfSome o (λ p. At p state)) e at

    -- within a header each byte is one of it, and a control token is of no packet
    record IsHead (place : Place) (state : InputRec) : Type 0 where
      byte : (b : ℕ) → Follows place (Byte b) (after_header net state b)
      ctrl : (c : ℕ) → Follows place (Ctrl c) state

    head_idle : (place : Place) → At place Idle → IsHead place Idle
    head_idle Between at = record { byte = λ b. moved (AfterOne b) (Head1 b) refl; ctrl = λ c next e. absurd (none-some next e) }
    head_idle (AfterOne high) at = absurd at
    head_idle (AfterTwo high low) at = absurd at
    head_idle (Within dest) at = absurd at

    head_one : (place : Place) (h : ℕ) → At place (Head1 h) → IsHead place (Head1 h)
    head_one Between h at = absurd at
    head_one (AfterOne high) h at = record { byte = λ b. moved (AfterTwo high b) (Head2 h b) (at, refl); ctrl = λ c next e. absurd (none-some next e) }
    head_one (AfterTwo high low) h at = absurd at
    head_one (Within dest) h at = absurd at

    -- the header is whole, and its id passes
    begun_is : (test : Bool) (dest : Dest) (state : InputRec) → At (Within dest) state →
        (next : Place) → (if test then Some (Within dest) else None) ≡ Some next → At next state
    begun_is true dest state at next e = moved (Within dest) state at next e
    begun_is false dest state at next e = absurd (none-some next e)

    head_two : (place : Place) (h l : ℕ) → At place (Head2 h l) → IsHead place (Head2 h l)
    head_two Between h l at = absurd at
    head_two (AfterOne high) h l at = absurd at
    head_two (AfterTwo high low) h l at = record { byte = by; ctrl = λ c next e. absurd (none-some next e) }
      where
        by : (b : ℕ) → Follows (AfterTwo high low) (Byte b) (Want (record { node = h * 256 + l; chan = b }) net)
        by b =
            let dest : Dest = record { node = high * 256 + low; chan = b } in
            let same : record { node = h * 256 + l; chan = b } ≡ dest = (λ i. record { node = at.0 i * 256 + at.1 i; chan = b }) in
            begun_is (passes dest.node) dest _ (same, refl)
    head_two (Within dest) h l at = absurd at

    -- within a packet
    token_within : (dest : Dest) (state : InputRec) (t : Token) → At (Within dest) state → Follows (Within dest) t (if ends_packet t then Idle else state)
    token_within dest state t at = by (ends_packet t)
      where
        by : (ends : Bool) → (next : Place) → Some (if ends then Between else Within dest) ≡ Some next → At next (if ends then Idle else state)
        by true next e = moved Between Idle tt next e
        by false next e = moved (Within dest) state at next e

    -- an input goes on with each token, up to the end of the packet
    abbrev GoesOn : Place → InputRec → Type 0
    GoesOn place state = (t : Token) → Follows place t (if ends_packet t then Idle else state)

    on_local : (place : Place) (n : ChanNumber) → At place (Local n) → GoesOn place (Local n)
    on_local Between n at = absurd at
    on_local (AfterOne high) n at = absurd at
    on_local (AfterTwo high low) n at = absurd at
    on_local (Within dest) n at = λ t. token_within dest (Local n) t at

    on_out : (place : Place) (end : EndNumber) (headers : ℕ) (to : Dest) → At place (Out end headers to) → GoesOn place (Out end headers to)
    on_out Between end headers to at = absurd at
    on_out (AfterOne high) end headers to at = absurd at
    on_out (AfterTwo high low) end headers to at = absurd at
    on_out (Within dest) end headers to at = λ t. token_within dest (Out end headers to) t at

    on_lost : (place : Place) → At place Lost → GoesOn place Lost
    on_lost Between at = absurd at
    on_lost (AfterOne high) at = absurd at
    on_lost (AfterTwo high low) at = absurd at
    on_lost (Within dest) at = λ t. token_within dest Lost t at

    more_headers : (place : Place) (end : EndNumber) (headers other : ℕ) (to : Dest) → At place (Out end headers to) → At place (Out end other to)
    more_headers Between end headers other to at = absurd at
    more_headers (AfterOne high) end headers other to at = absurd at
    more_headers (AfterTwo high low) end headers other to at = absurd at
    more_headers (Within dest) end headers other to at = at

    -- where an input may be that wants to go to a destination
    record Wants (place : Place) (dest : Dest) (by : ℕ) : Type 0 where
      its_net : by ≡ net
      lost : At place Lost
      here : At place (Local dest.chan)
      out : (end headers : ℕ) → OnWay dest.node end → At place (Out end headers dest)

    wants : (place : Place) (dest : Dest) (by : ℕ) → At place (Want dest by) → Wants place dest by
    wants Between dest by at = absurd at
    wants (AfterOne high) dest by at = absurd at
    wants (AfterTwo high low) dest by at = absurd at
    wants (Within to) dest by at = record {
      its_net = at.1;
      lost = tt;
      here = ap (λ (d : Dest). d.chan) at.0;
      out = λ end headers way. (at.0, subst (λ (d : Dest). OnWay d.node end) at.0 way);
    }

    -- what a slot does at the input, where these tokens wait: it takes none, or the first of them
    abbrev pub Took : Place → List Token → Bool → InputRec → Type 0
    Took place waits false state = At place state
    Took place [] true state = ⊥
    Took place (t ∷ rest) true state = Follows place t state

  -- ---- The input's own step

  module _ (routes : Routes) (slot : Slot) (e : EndNumber) (link : is_link_input e ≡ true)
      (ways : (dest : NodeId) (mask : ℕ) (end : EndNumber) → end < LINK_ENDS →
      way_to routes.id routes.ways routes.nets (slice_index routes.nets e) dest ≡ Behind mask → bit_at mask end ≡ 1 → OnWay dest end)
      (place : Place) (waits : List Token) where
    abbrev net : ℕ
    net = slice_index routes.nets e

    abbrev Is : InputRec → Type 0
    Is state = IsAt OnWay net place state

    -- what the input's step leaves is as it should be
    abbrev Right : List InputRec → List Bool → Type 0
    Right inputs credits = Took net place waits (get_or credits e false) (get_or inputs e Idle)

    abbrev IsRight : AtWork → Type 0
    IsRight m = Right m.rec.inputs m.credits

    -- before it the input is in a state, and no token has left
    record Own (state : InputRec) (inputs : List InputRec) (links : List (Option LinkRec)) (credits : List Bool) : Type 0 where
      is : get_or inputs e Idle ≡ state
      there : e < length inputs
      has_credit : e < length credits
      untaken : get_or credits e false ≡ false
      waiting : buffer_of_link (get_or links e None) ≡ waits

    abbrev IsOwn : InputRec → AtWork → Type 0
    IsOwn state m = Own state m.rec.inputs m.rec.links m.credits

    at_link : {A : Type 0} (P : A → Type 0) (x y : A) → P x → P (if is_link_input e then x else y)
    at_link P x y its = subst (λ test. P (if test then x else y)) (sym link) its

    set_own : (old new : InputRec) (m : AtWork) → IsOwn old m → IsOwn new (to_state e new m)
    set_own old new m h = record {
      is = get_or-set_same m.rec.inputs e new Idle h.there;
      there = omega (arith, length-set m.rec.inputs e new, h.there);
      has_credit = h.has_credit;
      untaken = h.untaken;
      waiting = h.waiting;
    }

    -- it takes nothing, and is left or set
    rests : (state : InputRec) (m : AtWork) → IsOwn state m → Is state → IsRight m
    rests state m h at = subst₂ (Took net place waits) (sym h.untaken) (sym h.is) at

    sets : (old new : InputRec) (m : AtWork) → IsOwn old m → Is new → IsRight (to_state e new m)
    sets old new m h at = rests new (to_state e new m) (set_own old new m h) at

    -- it takes its first token, and is set or left
    took : (t : Token) (rest : List Token) (state : InputRec) (inputs : List InputRec) (credits : List Bool) →
        t ∷ rest ≡ waits → e < length credits → get_or inputs e Idle ≡ state → Follows net place t state → Right inputs (slice_set credits e true)
    took t rest state inputs credits first has is next =
        subst₂ (Took net place waits) (sym (get_or-set_same credits e true false has)) (sym is)
        (subst (λ (tokens : List Token). Took net place tokens true state) first next)

    took_and_set : (t : Token) (rest : List Token) (old new : InputRec) (m : AtWork) →
        t ∷ rest ≡ waits → IsOwn old m → Follows net place t new → IsRight (to_state e new (take_first e m))
    took_and_set t rest old new m first h next =
        at_link (λ (taken : AtWork). IsRight (to_state e new taken)) _ _
        (took t rest new (slice_set m.rec.inputs e new) m.credits first h.has_credit (get_or-set_same m.rec.inputs e new Idle h.there) next)

    took_and_left : (t : Token) (rest : List Token) (state : InputRec) (m : AtWork) →
        t ∷ rest ≡ waits → IsOwn state m → Follows net place t state → IsRight (take_first e m)
    took_and_left t rest state m first h next = at_link IsRight _ _ (took t rest state m.rec.inputs m.credits first h.has_credit h.is next)

    waiting_is : (state : InputRec) (m : AtWork) → IsOwn state m → waiting_at m.rec e ≡ waits
    waiting_is state m h = at_link (λ (tokens : List Token). tokens ≡ waits) _ _ h.waiting

    -- ---- Rule by rule

    head_right : (state : InputRec) (waiting : List Token) (m : AtWork) → waiting ≡ waits → IsOwn state m → Is state → IsHead net place state →
        IsRight (head_step routes e state waiting m)
    head_right state [] m all h at head = rests state m h at
    head_right state (Byte b ∷ rest) m all h at head = took_and_set (Byte b) rest state (after_header net state b) m all h (head.byte b)
    head_right state (Ctrl c ∷ rest) m all h at head = took_and_left (Ctrl c) rest state m all h (head.ctrl c)

    local_right : (n : ChanNumber) (waiting : List Token) (m : AtWork) → waiting ≡ waits → IsOwn (Local n) m → Is (Local n) →
        IsRight (local_step e n waiting m)
    local_right n [] m all h at = rests (Local n) m h at
    local_right n (t ∷ rest) m all h at =
        let gone = took_and_set t rest (Local n) (if ends_packet t then Idle else Local n) m all h (on_local net place n at t) in
        let put = it_happens (happen.Chan n t) (put_into n t (take_first e m)) in
        either IsRight (is_pause t) (after_token e (Local n) t (take_first e m)) _ gone
        (either IsRight (has_room 1 (chan_of m.rec.core n).input) (after_token e (Local n) t put) m gone (rests (Local n) m h at))

    lost_right : (waiting : List Token) (m : AtWork) → waiting ≡ waits → IsOwn Lost m → Is Lost → IsRight (lost_step e waiting m)
    lost_right [] m all h at = rests Lost m h at
    lost_right (t ∷ rest) m all h at = took_and_set t rest Lost (if ends_packet t then Idle else Lost) m all h (on_lost net place at t)

    out_token_right : (end : EndNumber) (headers : ℕ) (dest : Dest) (waiting : List Token) (m : AtWork) →
        waiting ≡ waits → IsOwn (Out end headers dest) m → Is (Out end headers dest) → IsRight (out_token slot e end headers dest waiting m)
    out_token_right end headers dest [] m all h at = rests (Out end headers dest) m h at
    out_token_right end headers dest (t ∷ rest) m all h at =
        let state = Out end headers dest in
        took_and_set t rest state (if ends_packet t then Idle else state) m all h (on_out net place end headers dest at t)

    out_right : (end : EndNumber) (headers : ℕ) (dest : Dest) (m : AtWork) → IsOwn (Out end headers dest) m → Is (Out end headers dest) →
        IsRight (out_step routes slot e end headers dest m)
    out_right end headers dest m h at =
        let state = Out end headers dest in
        let next = Out end (headers + 1) dest in
        either IsRight (end_may_send routes slot end (link_at m.rec end)) _ m
        (either IsRight (nat_lt headers HEADER_BYTES) (to_state e next (send slot end (Byte (header_byte dest headers)) m)) _
        (sets state next m h (more_headers net place end headers (headers + 1) dest at))
        (out_token_right end headers dest (waiting_at m.rec e) m (waiting_is state m h) h at))
        (rests state m h at)

    -- the input is set, and steps on from there
    hold_right : (mask : ℕ) (dest : Dest) (by : ℕ) (end : Option EndNumber) (m : AtWork) → IsOwn (Want dest by) m → Is (Want dest by) →
        ((end : EndNumber) → IsFreeEnd m.rec mask LINK_ENDS end → Is (Out end 0 dest)) → IfSome end (IsFreeEnd m.rec mask LINK_ENDS) →
        IsRight (hold_end (λ e' m. out_step routes slot e e' 0 dest m) e dest end m)
    hold_right mask dest by None m h at out free = rests (Want dest by) m h at
    hold_right mask dest by (Some end) m h at out free =
        let held = Out end 0 dest in
        out_right end 0 dest (to_state e held m) (set_own (Want dest by) held m h) (out end free)

    way_right : (dest : Dest) (by : ℕ) (way : Way) (m : AtWork) → way_to routes.id routes.ways routes.nets by dest.node ≡ way →
        IsOwn (Want dest by) m → Is (Want dest by) → IsRight (want_way routes slot e dest way m)
    way_right dest by Here m its h at =
        let n = dest.chan in
        let want = Want dest by in
        let held = to_state e (Local n) m in
        let own = set_own want (Local n) m h in
        let w = wants net place dest by at in
        either IsRight (not (nat_lt n CHAN_ENDS) || not (chan_of m.rec.core n).used) _ _ (sets want Lost m h w.lost)
        (either IsRight (chan_is_held m.rec n) m _ (rests want m h at)
        (local_right n (waiting_at held.rec e) held (waiting_is (Local n) held own) own w.here))
    way_right dest by (Behind mask) m its h at =
        let want = Want dest by in
        let w = wants net place dest by at in
        let same : way_to routes.id routes.ways routes.nets net dest.node ≡ Behind mask =
        ap (λ n. way_to routes.id routes.ways routes.nets n dest.node) (sym w.its_net) ∙ its in
        either IsRight (mask == 0) _ _ (sets want Lost m h w.lost)
        (hold_right mask dest by (free_end m.rec mask 0 LINK_ENDS) m h at (λ end of. w.out end 0 (ways dest.node mask end of.low same of.in_mask))
        (free_end_is m.rec mask 0 LINK_ENDS LINK_ENDS refl))

    own_step : (state : InputRec) (m : AtWork) → IsOwn state m → Is state → IsRight (step_at routes slot e state m)
    own_step Idle m h at = at_link IsRight _ _ (head_right Idle (waiting_at m.rec e) m (waiting_is Idle m h) h at (head_idle net place at))
    own_step (Head1 high) m h at =
        let state = Head1 high in at_link IsRight _ m (head_right state (waiting_at m.rec e) m (waiting_is state m h) h at (head_one net place high at))
    own_step (Head2 high low) m h at =
        let state = Head2 high low in
        at_link IsRight _ m (head_right state (waiting_at m.rec e) m (waiting_is state m h) h at (head_two net place high low at))
    own_step (Want dest by) m h at = way_right dest by (way_to routes.id routes.ways routes.nets by dest.node) m refl h at
    own_step (Local n) m h at = local_right n (waiting_at m.rec e) m (waiting_is (Local n) m h) h at
    own_step (Out end headers dest) m h at = out_right end headers dest m h at
    own_step Lost m h at = lost_right (waiting_at m.rec e) m (waiting_is Lost m h) h at

    -- ---- All inputs' steps

    -- another's step leaves it right
    still_right : (m after : AtWork) → IsAlike e m after → IsRight m → IsRight after
    still_right m after same h = subst₂ (Took net place waits) (sym same.credit) (sym same.state) h

    after_own : (i count : ℕ) (m : AtWork) → e < i → IsRight m → IsRight (moves_from routes slot i count m)
    unfolding moves_from
    after_own i zero m past h = h
    after_own i (suc count) m past h =
        let next = step_at routes slot i (state_at m.rec i) m in
        let other : e ≢ i = (λ same. absurd (omega (arith, past, same))) in
        let alike = step_alike e m i other routes slot (state_at m.rec i) m (alike_itself e m) in
        after_own (i + 1) count next (omega (arith, past)) (still_right m next alike h)

    -- before its own step it is as it was as the slot began
    still_own : (state : InputRec) (m after : AtWork) → IsAlike e m after → IsOwn state m → IsOwn state after
    still_own state m after same h = record {
      is = same.state ∙ h.is;
      there = omega (arith, same.many, h.there);
      has_credit = omega (arith, same.as_many, h.has_credit);
      untaken = same.credit ∙ h.untaken;
      waiting = same.buffer ∙ h.waiting;
    }

    before_own : (i count : ℕ) (state : InputRec) (m : AtWork) → i ≤ e → e < i + count → Is state → IsOwn state m →
        IsRight (moves_from routes slot i count m)
    unfolding moves_from
    before_own i zero state m low past at h = absurd (omega (arith, low, past))
    before_own i (suc count) state m low past at h = elim (cases_eq e i) [
      | inl same ↦ mine i same
      | inr other ↦
          let next = step_at routes slot i (state_at m.rec i) m in
          let alike = step_alike e m i other routes slot (state_at m.rec i) m (alike_itself e m) in
          before_own (i + 1) count state next (omega (arith, low, other)) (omega (arith, past)) at (still_own state m next alike h)
    ]
      where
        mine : (n : ℕ) → e ≡ n → IsRight (moves_from routes slot (n + 1) count (step_at routes slot n (state_at m.rec n) m))
        mine n same =
            subst (λ n. IsRight (moves_from routes slot (n + 1) count (step_at routes slot n (state_at m.rec n) m))) same
            (after_own (e + 1) count (step_at routes slot e (state_at m.rec e) m) (omega arith)
            (subst (λ st. IsRight (step_at routes slot e st m)) (sym h.is) (own_step state m h at)))

-- ---- A slot

-- what arrives at the link end with place j among those from number n on
arrives_at : (slot : Slot) (tokens : List (Option Token)) (credits : List Bool) (n : EndNumber) (links : List (Option LinkRec)) (j : ℕ) →
    get_or (links_after_arrivals slot tokens credits n links) j None
    ≡ link_after_arrivals slot (get_or tokens (n + j) None) (get_or credits (n + j) false) (get_or links j None)
unfolding links_after_arrivals
arrives_at slot tokens credits n [] j = refl
arrives_at slot tokens credits n (link ∷ links) zero =
    let e : n ≡ n + zero = omega arith in
    ap (λ k. link_after_arrivals slot (get_or tokens k None) (get_or credits k false) link) e
arrives_at slot tokens credits n (link ∷ links) (suc j) =
    let e : n + 1 + j ≡ n + suc j = omega arith in
    arrives_at slot tokens credits (n + 1) links j
    ∙ ap (λ k. link_after_arrivals slot (get_or tokens k None) (get_or credits k false) (get_or links j None)) e

arrived_so : (rec : NodeRec) (slot : Slot) (arrivals : Arrivals) (end : EndNumber) →
    link_at (arrive slot arrivals (slot_begins rec)).rec end ≡ arrived_at rec slot arrivals end
arrived_so rec slot arrivals end =
    let e : 0 + end ≡ end = omega arith in
    arrives_at slot arrivals.tokens arrivals.credits 0 rec.links end
    ∙ ap (λ k. link_after_arrivals slot (get_or arrivals.tokens k None) (get_or arrivals.credits k false) (link_at rec end)) e

-- Of a node with all its inputs, in a slot: an input of a link end that is where some tokens end is where they end with the first token that
-- waits, where a credit leaves by the link end, and else where it was; whatever its network has on the way to an id is so.
pub node_takes : (fixed : Fixed) (rec : NodeRec) (slot : Slot) (arrivals : Arrivals) (pins : PinView) (end : EndNumber)
    (passes : NodeId → Bool) (OnWay : NodeId → EndNumber → Type 0) (place : Place) →
    end < LINK_ENDS →
    length rec.inputs ≡ INPUTS →
    ((dest : NodeId) (mask : ℕ) (e : EndNumber) → e < LINK_ENDS →
    way_to fixed.routes.id fixed.routes.ways fixed.routes.nets (slice_index fixed.routes.nets end) dest ≡ Behind mask →
    bit_at mask e ≡ 1 → OnWay dest e) →
    IsAt OnWay (slice_index fixed.routes.nets end) place (state_at rec end) →
    let step = node_step fixed rec slot arrivals pins in
    Took passes OnWay (slice_index fixed.routes.nets end) place
    (buffer_of_link (arrived_at rec slot arrivals end)) (get_or step.emitted.credits end false) (state_at step.rec end)
unfolding node_step
node_takes fixed rec slot arrivals pins end passes OnWay place low all ways at =
    let edged = ports_step slot pins (arrive slot arrivals (slot_begins rec)) in
    before_own passes OnWay fixed.routes slot end (low_is_link end low) ways place (buffer_of_link (arrived_at rec slot arrivals end))
    0 INPUTS (state_at rec end) edged (omega arith) (omega (arith, low)) at
    (record {
      is = refl;
      there = omega (arith, all, low);
      has_credit = low;
      untaken = get_or-replicate LINK_ENDS end false false low;
      waiting = ap buffer_of_link (arrived_so rec slot arrivals end);
    })
  where
    low_is_link : (n : ℕ) → n < LINK_ENDS → is_link_input n ≡ true
    low_is_link n low = grind (arith, nat_tests)
