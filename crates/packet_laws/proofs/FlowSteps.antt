-- One step of an input of the switch, rule by rule: what it does, of tokens and of what inputs hold.
use Rattle.std.proofs.Common.{◌≡◌, ◌≢◌, ◌⊎◌, inl, inr, ℕ, ◌+◌, ◌<◌, ◌≤◌, ◌==◌, Bool, true, false, not, ◌||◌, nat_lt, IfSome, if◌then◌else◌, Option, Some, None}
use Rattle.std.proofs.Common.{List, [], ◌∷◌, length, get_or, slice_set, refl, sym, ap, subst, ◌∙◌, arith, length-set, get_or-set_same, get_or-set_other}
use Rattle.std.proofs.lemmas.Bool.{cases_eq, eqb-true, cond_both, not-false, ltb-true, ltb-false, or_parts, false≢true}
use Rattle.std.proofs.lemmas.Option.{IfSome_then}
use Rattle.std.specs.Prelude.{option_map}
use Rattle.std.specs.List.{list_any}
use Rattle.xs_base.specs.Numbers.{Slot, ChanNumber, EndNumber, InputNumber, Identifier}
use Rattle.xs_base.specs.declared.numbers.TheConstants.{LINK_ENDS, CHAN_ENDS, INPUTS, HEADER_BYTES, END, PAUSE}
use Rattle.xs_base.specs.declared.token.Token.{Token}
use Rattle.xs_base.specs.declared.token.Token.TheVariants.{Byte, Ctrl}
use Rattle.xs_model.specs.declared.event.Happen.TheVariants as happen
use Rattle.xs_model.specs.declared.dest.Dest.{Dest}
use Rattle.xs_model.specs.Dests.{dest_of}
use Rattle.xs_model.specs.Record.{CoreRec, InputRec, Idle, Head1, Head2, Want, Local, Out, Lost, chan_of}
use Rattle.xs_model.specs.Waits.{has_room}
use Rattle.xs_model.specs.AtWork.{AtWork, it_happens}
use Rattle.net_model.specs.Ways.{Way, Here, Behind, way_to}
use Rattle.net_model.specs.Switch.{Routes, net_of_end, is_link_input, is_local_to, is_out_by, chan_of_input, to_state, waiting_at, state_at, chan_is_held, end_is_held, link_at}
use Rattle.net_model.specs.Switch.{free_end, loses, take_first, end_may_send, ends_packet, after_token, put_into, send, start_packet, packet_step, after_header, header_byte}
use Rattle.net_model.specs.Switch.{head_step, hold_end, is_pause, local_step, out_token, out_step, lost_step, want_way, want_step, step_at}
use Rattle.packet_laws.specs.Flow.{Move, Rests, TakesOff, Forwards, Delivers, SendsHeader, IsOfHeader, Does, wanted, MayBe, Works, Steps, after_first}
use Rattle.packet_laws.proofs.LinkEnds.{free_end_is, none_at, may_still}
use Rattle.packet_laws.proofs.FlowBuffers.{IsFlowed, flowed_itself, takes_flowed, puts_flowed, forwards_flowed, header_flowed}

-- ---- States

-- an input that holds a channel end holds one that is in use
module _ (core : CoreRec) where
  abbrev IsUsed : InputRec → Type 0
  IsUsed (Local n) = (chan_of core n).used ≡ true
  IsUsed _ = Unit {0}

  used_is : (state : InputRec) → ((n : ChanNumber) → state ≡ Local n → (chan_of core n).used ≡ true) → IsUsed state
  used_is Idle used = tt
  used_is (Head1 high) used = tt
  used_is (Head2 high low) used = tt
  used_is (Want dest net) used = tt
  used_is (Local n) used = used n refl
  used_is (Out end headers dest) used = tt
  used_is Lost used = tt

  first_used : (ends : Bool) (state : InputRec) → IsUsed state → IsUsed (if ends then Idle else state)
  first_used true state used = tt
  first_used false state used = used

-- what is held in a state was held in another
record Holds (before after : InputRec) : Type 0 where
  chan : (n : ChanNumber) → is_local_to n after ≡ true → is_local_to n before ≡ true
  end : (e : EndNumber) → is_out_by e after ≡ true → is_out_by e before ≡ true

holds_same : (state : InputRec) → Holds state state
holds_same state = record { chan = λ n is. is; end = λ e is. is }

holds_first : (ends : Bool) (state : InputRec) → Holds state (if ends then Idle else state)
holds_first true state = record { chan = λ n is. absurd (false≢true is); end = λ e is. absurd (false≢true is) }
holds_first false state = holds_same state

-- an input held something, or no input did
abbrev Took : (InputRec → Bool) → InputNumber → (InputNumber → InputRec) → Type 0
Took test i before = (test (before i) ≡ true) ⊎ ((j : InputNumber) → test (before j) ≡ false)

-- one input changes, and what it holds then it held before, or none did
module _ (test : InputRec → Bool) (i : InputNumber) (before after : InputNumber → InputRec) (others : (j : InputNumber) → j ≢ i → after j ≡ before j) where
  still_one : (test (after i) ≡ true → Took test i before) → ((j k : InputNumber) → test (before j) ≡ true → test (before k) ≡ true → j ≡ k)
      → (j k : InputNumber) → test (after j) ≡ true → test (after k) ≡ true → j ≡ k
  still_one took one j k this that = by (cases_eq j i) (cases_eq k i)
    where
      was : (j : InputNumber) → j ≢ i → test (after j) ≡ true → test (before j) ≡ true
      was j other holds = ap test (sym (others j other)) ∙ holds

      beside : (j : InputNumber) → j ≢ i → test (before j) ≡ true → Took test i before → i ≡ j
      beside j other holds (inl its) = one i j its holds
      beside j other holds (inr free) = absurd (false≢true (sym (free j) ∙ holds))

      its : (j : InputNumber) → j ≡ i → test (after j) ≡ true → Took test i before
      its j same holds = took (ap (λ k. test (after k)) (sym same) ∙ holds)

      by : (j ≡ i) ⊎ (j ≡ i → ⊥) → (k ≡ i) ⊎ (k ≡ i → ⊥) → j ≡ k
      by (inl j_is) (inl k_is) = j_is ∙ sym k_is
      by (inl j_is) (inr k_other) = j_is ∙ beside k k_other (was k k_other that) (its j j_is this)
      by (inr j_other) (inl k_is) = sym (k_is ∙ beside j j_other (was j j_other this) (its k k_is that))
      by (inr j_other) (inr k_other) = one j k (was j j_other this) (was k k_other that)

module _ (routes : Routes) (slot : Slot) (i : InputNumber) (m0 : AtWork) (within : i < INPUTS) (works : Works routes slot m0) where
  abbrev Flowing : Move → AtWork → Type 0
  Flowing move m = IsFlowed routes slot i m0 move m

  abbrev Uses : InputRec → Type 0
  Uses state = IsUsed m0.rec.core state

  abbrev old : InputRec
  old = state_at m0.rec i

  -- the input is in a state, and the others are as they were
  record InState (state : InputRec) (inputs : List InputRec) : Type 0 where
    is : get_or inputs i Idle ≡ state
    others : (j : InputNumber) → j ≢ i → get_or inputs j Idle ≡ state_at m0.rec j
    many : length inputs ≡ INPUTS

  sets : (state new : InputRec) (inputs : List InputRec) → InState state inputs → InState new (slice_set inputs i new)
  sets state new inputs h = record {
    is = get_or-set_same inputs i new Idle (omega (arith, within, h.many));
    others = λ j other. get_or-set_other inputs i j new Idle other ∙ h.others j other;
    many = length-set inputs i new ∙ h.many;
  }

  abbrev Finds : InputRec → Type 0
  Finds state = (state ≡ old) ⊎ MayBe m0.rec (wanted m0.rec i old) state

  -- what it holds it held before, or none did
  finds_chan : (n : ChanNumber) (to : Option Dest) (state : InputRec) → (state ≡ old) ⊎ MayBe m0.rec to state → is_local_to n state ≡ true → Took (is_local_to n) i (state_at m0.rec)
  finds_chan n to state (inl same) holds = inl (ap (is_local_to n) (sym same) ∙ holds)
  finds_chan n to Idle (inr may) holds = absurd (false≢true holds)
  finds_chan n to (Head1 high) (inr may) holds = absurd (false≢true holds)
  finds_chan n to (Head2 high low) (inr may) holds = absurd (false≢true holds)
  finds_chan n to (Want dest net) (inr may) holds = absurd (false≢true holds)
  finds_chan n None (Local chan) (inr may) holds = absurd may
  finds_chan n (Some dest) (Local chan) (inr may) holds = inr (subst (λ c. (j : InputNumber) → is_local_to c (state_at m0.rec j) ≡ false) (eqb-true chan n holds) may.1)
  finds_chan n to (Out end headers dest) (inr may) holds = absurd (false≢true holds)
  finds_chan n to Lost (inr may) holds = absurd (false≢true holds)

  finds_end : (e : EndNumber) (to : Option Dest) (state : InputRec) → (state ≡ old) ⊎ MayBe m0.rec to state → is_out_by e state ≡ true → Took (is_out_by e) i (state_at m0.rec)
  finds_end e to state (inl same) holds = inl (ap (is_out_by e) (sym same) ∙ holds)
  finds_end e to Idle (inr may) holds = absurd (false≢true holds)
  finds_end e to (Head1 high) (inr may) holds = absurd (false≢true holds)
  finds_end e to (Head2 high low) (inr may) holds = absurd (false≢true holds)
  finds_end e to (Want dest net) (inr may) holds = absurd (false≢true holds)
  finds_end e to (Local chan) (inr may) holds = absurd (false≢true holds)
  finds_end e None (Out end headers dest) (inr may) holds = absurd may
  finds_end e (Some to) (Out end headers dest) (inr may) holds = inr (subst (λ k. (j : InputNumber) → is_out_by k (state_at m0.rec j) ≡ false) (eqb-true end e holds) may.2)
  finds_end e to Lost (inr may) holds = absurd (false≢true holds)

  -- the input has found its way, as far as it does in this step, and no token has moved
  record Before (state : InputRec) (m : AtWork) : Type 0 where
    finds : Finds state
    used : Uses state
    at : InState state m.rec.inputs
    flows : Flowing Rests m

  abbrev Done : AtWork → Type 0
  Done m = Steps routes slot i m0 m

  done : (state new : InputRec) (move : Move) (m : AtWork) → Finds state → Uses new → Holds state new → InState new m.rec.inputs → Does i move state new → Flowing move m → Done m
  done state new move m finds used holds at does flows = record {
    move = move;
    state = state;
    finds = finds;
    does = subst (Does i move state) (sym at.is) does;
    flows = record { own = flows.own; others = flows.others; out = flows.out; into = flows.into };
    others = at.others;
    works = record {
      switch = record {
        inputs = at.many;
        links = flows.many_links;
        used = all_used;
        chans = λ n. still_one (is_local_to n) i (state_at m0.rec) (state_at m.rec) at.others
            (λ is. finds_chan n (wanted m0.rec i old) state finds (holds.chan n (ap (is_local_to n) (sym at.is) ∙ is))) (works.switch.chans n);
        ends = λ e. still_one (is_out_by e) i (state_at m0.rec) (state_at m.rec) at.others
            (λ is. finds_end e (wanted m0.rec i old) state finds (holds.end e (ap (is_out_by e) (sym at.is) ∙ is))) (works.switch.ends e);
        gap = flows.gaps;
      };
      tokens = flows.many_tokens;
      once = flows.once;
    };
  }
    where
      all_used : (j : InputNumber) (n : ChanNumber) → state_at m.rec j ≡ Local n → (chan_of m.rec.core n).used ≡ true
      all_used j n is = flows.used n ∙ elim (cases_eq j i) [
        | inl same ↦ subst Uses (sym at.is ∙ ap (state_at m.rec) (sym same) ∙ is) used
        | inr other ↦ works.switch.used j n (sym (at.others j other) ∙ is)
      ]

  rests : (state : InputRec) (m : AtWork) → Before state m → Done m
  rests state m h = done state state Rests m h.finds h.used (holds_same state) h.at refl h.flows

  first : (state : InputRec) → old ≡ state → Before state m0
  first state is = record {
    finds = inl (sym is);
    used = used_is m0.rec.core state (λ n same. works.switch.used i n (is ∙ same));
    at = record { is = is; others = λ j other. refl; many = works.switch.inputs };
    flows = flowed_itself routes slot i m0 works;
  }

  -- it finds its way
  turns : (state new : InputRec) (m : AtWork) → Finds new → Uses new → Before state m → Before new (to_state i new m)
  turns state new m finds used h = record { finds = finds; used = used; at = sets state new m.rec.inputs h.at; flows = h.flows }

  -- ---- The rules

  -- what take_first does to the inputs: nothing
  taken_at : (state : InputRec) (m : AtWork) → InState state m.rec.inputs → InState state (take_first i m).rec.inputs
  taken_at state m h = cond_both (is_link_input i) _ _ (λ (taken : AtWork). InState state taken.rec.inputs) (λ link. h) (λ chan. h)

  abbrev Waits : AtWork → List Token → Type 0
  Waits m waiting = waiting_at m.rec i ≡ waiting

  -- rule 2
  module _ (link : is_link_input i ≡ true) where
    -- the states within a header
    abbrev IsHead : InputRec → Type 0
    IsHead Idle = Unit {0}
    IsHead (Head1 high) = Unit {0}
    IsHead (Head2 high low) = Unit {0}
    IsHead _ = ⊥

    takes_header : (state new : InputRec) (t : Token) → IsHead state → IsOfHeader i new → Does i (TakesOff t) state new
    takes_header Idle new t head is = is
    takes_header (Head1 high) new t head is = is
    takes_header (Head2 high low) new t head is = is
    takes_header (Want dest net) new t head is = absurd head
    takes_header (Local n) new t head is = absurd head
    takes_header (Out end headers dest) new t head is = absurd head
    takes_header Lost new t head is = absurd head

    holds_nothing : {state new : InputRec} → ((n : ChanNumber) → is_local_to n new ≡ false) → ((e : EndNumber) → is_out_by e new ≡ false) → Holds state new
    holds_nothing chan end = record { chan = λ n is. absurd (false≢true (sym (chan n) ∙ is)); end = λ e is. absurd (false≢true (sym (end e) ∙ is)) }

    byte_is : (state : InputRec) (net b : ℕ) → IsHead state → IsOfHeader i (after_header net state b) × Uses (after_header net state b) × Holds state (after_header net state b)
    byte_is Idle net b head = (link, tt, holds_nothing (λ n. refl) (λ e. refl))
    byte_is (Head1 high) net b head = (link, tt, holds_nothing (λ n. refl) (λ e. refl))
    byte_is (Head2 high low) net b head = (link, tt, holds_nothing (λ n. refl) (λ e. refl))
    byte_is (Want dest to) net b head = absurd head
    byte_is (Local n) net b head = absurd head
    byte_is (Out end headers dest) net b head = absurd head
    byte_is Lost net b head = absurd head

    still_is : (state : InputRec) → IsHead state → IsOfHeader i state
    still_is Idle head = link
    still_is (Head1 high) head = link
    still_is (Head2 high low) head = link
    still_is (Want dest to) head = absurd head
    still_is (Local n) head = absurd head
    still_is (Out end headers dest) head = absurd head
    still_is Lost head = absurd head

    head_does : (state : InputRec) (waiting : List Token) (m : AtWork) → IsHead state → Waits m waiting → Before state m → Done (head_step routes i state waiting m)
    head_does state [] m head waits h = rests state m h
    head_does state (Byte b ∷ rest) m head waits h =
        let new = after_header (net_of_end routes i) state b in
        let is = byte_is state (net_of_end routes i) b head in
        done state new (TakesOff (Byte b)) (to_state i new (take_first i m)) h.finds is.1 is.2 (sets state new _ (taken_at state m h.at)) (takes_header state new (Byte b) head is.0)
        (takes_flowed routes slot i m0 (Byte b) rest m waits h.flows)
    head_does state (Ctrl c ∷ rest) m head waits h =
        done state state (TakesOff (Ctrl c)) (take_first i m) h.finds h.used (holds_same state) (taken_at state m h.at) (takes_header state state (Ctrl c) head (still_is state head))
        (takes_flowed routes slot i m0 (Ctrl c) rest m waits h.flows)

  -- a token that is taken at an input that goes on up to END or PAUSE
  first_does : (state : InputRec) (move : Move) (t : Token) (m : AtWork) → Finds state → Uses state → InState state m.rec.inputs → Does i move state (after_first state t) → Flowing move m
      → Done (after_token i state t m)
  first_does state move t m finds used at does flows =
      let new = after_first state t in
      let ends = ends_packet t in
      done state new move (after_token i state t m) finds (first_used m0.rec.core ends state used) (holds_first ends state) (sets state new m.rec.inputs at) does flows

  -- rule 6
  lost_does : (waiting : List Token) (m : AtWork) → Waits m waiting → Before Lost m → Done (lost_step i waiting m)
  lost_does [] m waits h = rests Lost m h
  lost_does (t ∷ rest) m waits h = first_does Lost (TakesOff t) t (take_first i m) h.finds tt (taken_at Lost m h.at) refl (takes_flowed routes slot i m0 t rest m waits h.flows)

  -- rule 4
  pause_ends : (t : Token) (state : InputRec) → is_pause t ≡ true → after_first state t ≡ Idle
  pause_ends (Byte b) state pause = absurd (false≢true pause)
  pause_ends (Ctrl c) state pause = by (c == END)
    where
      by : (end : Bool) → (if end || (c == PAUSE) then Idle else state) ≡ Idle
      by true = refl
      by false = ap (λ test. if test then Idle else state) pause

  local_does : (n : ChanNumber) (waiting : List Token) (m : AtWork) → Waits m waiting → Before (Local n) m → Done (local_step i n waiting m)
  local_does n [] m waits h = rests (Local n) m h
  local_does n (t ∷ rest) m waits h =
      let taken = takes_flowed routes slot i m0 t rest m waits h.flows in
      let at = taken_at (Local n) m h.at in
      let put = it_happens (happen.Chan n t) (put_into n t (take_first i m)) in
      cond_both (is_pause t) _ _ Done
      (λ pause. first_does (Local n) (TakesOff t) t (take_first i m) h.finds h.used at (pause, pause_ends t (Local n) pause) taken)
      (λ other. cond_both (has_room 1 (chan_of m.rec.core n).input) _ m Done
      (λ room. first_does (Local n) (Delivers n t) t put h.finds h.used at (refl, refl) (puts_flowed routes slot i m0 n t (take_first i m) h.used taken))
      (λ full. rests (Local n) m h))

  -- rule 5
  token_does : (e : EndNumber) (headers : ℕ) (dest : Dest) (waiting : List Token) (m : AtWork) → HEADER_BYTES ≤ headers → end_may_send routes slot e (link_at m.rec e) ≡ true → Waits m waiting
      → Before (Out e headers dest) m → Done (out_token slot i e headers dest waiting m)
  token_does e headers dest [] m more may waits h = rests (Out e headers dest) m h
  token_does e headers dest (t ∷ rest) m more may waits h =
      let state = Out e headers dest in
      first_does state (Forwards e t) t (send slot e t (take_first i m)) h.finds tt (taken_at state m h.at) (refl, more, refl)
      (forwards_flowed routes slot i m0 e t (take_first i m) (may_still routes slot e i m may) (takes_flowed routes slot i m0 t rest m waits h.flows))

  out_does : (e : EndNumber) (headers : ℕ) (dest : Dest) (m : AtWork) → Before (Out e headers dest) m → Done (out_step routes slot i e headers dest m)
  out_does e headers dest m h =
      let t = Byte (header_byte dest headers) in
      let state = Out e headers dest in
      let new = Out e (headers + 1) dest in
      let one_more : Holds state new = record { chan = λ n is. is; end = λ k is. is } in
      cond_both (end_may_send routes slot e (link_at m.rec e)) _ m Done
      (λ may. cond_both (nat_lt headers HEADER_BYTES) _ _ Done
      (λ less. done state new (SendsHeader e t) (to_state i new (send slot e t m)) h.finds tt one_more (sets state new m.rec.inputs h.at) (refl, ltb-true headers HEADER_BYTES less, refl, refl)
      (header_flowed routes slot i m0 e t m may h.flows))
      (λ more. token_does e headers dest (waiting_at m.rec i) m (ltb-false headers HEADER_BYTES more) may refl h))
      (λ never. rests state m h)

  -- rule 3, of an input that wants to go to a destination
  module _ (dest : Dest) (wants : wanted m0.rec i old ≡ Some dest) where
    found : (state : InputRec) → MayBe m0.rec (Some dest) state → Finds state
    found state may = inr (subst (λ to. MayBe m0.rec to state) (sym wants) may)

    -- such an input holds nothing
    holds_no_chan : (n : ChanNumber) (state : InputRec) → wanted m0.rec i state ≡ Some dest → is_local_to n state ≡ false
    holds_no_chan n Idle is = refl
    holds_no_chan n (Head1 high) is = refl
    holds_no_chan n (Head2 high low) is = refl
    holds_no_chan n (Want to net) is = refl
    holds_no_chan n (Local chan) is = cc
    holds_no_chan n (Out end headers to) is = refl
    holds_no_chan n Lost is = refl

    holds_no_end : (e : EndNumber) (state : InputRec) → wanted m0.rec i state ≡ Some dest → is_out_by e state ≡ false
    holds_no_end e Idle is = refl
    holds_no_end e (Head1 high) is = refl
    holds_no_end e (Head2 high low) is = refl
    holds_no_end e (Want to net) is = refl
    holds_no_end e (Local chan) is = refl
    holds_no_end e (Out end headers to) is = cc
    holds_no_end e Lost is = refl

    -- what none holds now, none held as the step began
    free_first : (test : InputRec → Bool) (state : InputRec) (m : AtWork) → test Idle ≡ false → test old ≡ false → Before state m → list_any test m.rec.inputs ≡ false
        → (j : InputNumber) → test (state_at m0.rec j) ≡ false
    free_first test state m idle its h none j = elim (cases_eq j i) [
      | inl same ↦ ap (λ k. test (state_at m0.rec k)) same ∙ its
      | inr other ↦ ap test (sym (h.at.others j other)) ∙ none_at test m.rec.inputs idle none j
    ]

    hold_does : (state : InputRec) (end : Option EndNumber) (m : AtWork) → IfSome end (λ e. end_is_held m.rec e ≡ false) → Before state m
        → Done (hold_end (λ e m. out_step routes slot i e 0 dest m) i dest end m)
    hold_does state None m free h = rests state m h
    hold_does state (Some e) m free h =
        let new = Out e 0 dest in
        out_does e 0 dest (to_state i new m)
        (turns state new m (found new (refl, refl, free_first (is_out_by e) state m refl (holds_no_end e old wants) h free)) tt h)

    loses_does : (state : InputRec) (m : AtWork) → Before state m → Done (loses i dest m)
    loses_does state m h = let next = turns state Lost m (found Lost tt) tt h in done Lost Lost Rests (loses i dest m) next.finds tt (holds_same Lost) next.at refl next.flows

    way_does : (state : InputRec) (way : Way) (m : AtWork) → Before state m → Done (want_way routes slot i dest way m)
    way_does state Here m h =
        let n = dest.chan in
        let next = to_state i (Local n) m in
        cond_both (not (nat_lt n CHAN_ENDS) || not (chan_of m.rec.core n).used) _ _ Done (λ lost. loses_does state m h)
        (λ there. cond_both (chan_is_held m.rec n) m _ Done (λ held. rests state m h)
        (λ free. local_does n (waiting_at next.rec i) next refl
        (turns state (Local n) m (found (Local n) (refl, free_first (is_local_to n) state m refl (holds_no_chan n old wants) h free)) (sym (h.flows.used n) ∙ not-false _ (or_parts _ _ there).1) h)))
    way_does state (Behind mask) m h =
        let free : IfSome (free_end m.rec mask 0 LINK_ENDS) (λ e. end_is_held m.rec e ≡ false) =
        IfSome_then (free_end m.rec mask 0 LINK_ENDS) (free_end_is m.rec mask 0 LINK_ENDS LINK_ENDS refl) (λ e of. of.free) in
        cond_both (mask == 0) _ _ Done (λ lost. loses_does state m h) (λ some. hold_does state (free_end m.rec mask 0 LINK_ENDS) m free h)

    want_does : (state : InputRec) (net : ℕ) (m : AtWork) → Before state m → Done (want_step routes slot i dest net m)
    want_does state net m h = way_does state (way_to routes.id routes.ways routes.nets net dest.node) m h

  -- rule 1
  module _ (chan : is_link_input i ≡ false) (idle : old ≡ Idle) where
    start_does : (net : ℕ) (id : Option Identifier) → (chan_of m0.rec.core (chan_of_input i)).dest ≡ id → Done (start_packet (want_step routes slot i) i net id m0)
    start_does net None is = rests Idle m0 (first Idle idle)
    start_does net (Some id) is =
        let want = Want (dest_of id) net in
        let wants : wanted m0.rec i old ≡ Some (dest_of id) =
        ap (wanted m0.rec i) idle ∙ ap (λ test. if test then None else option_map dest_of (chan_of m0.rec.core (chan_of_input i)).dest) chan ∙ ap (option_map dest_of) is in
        want_does (dest_of id) wants want net (to_state i want m0) (turns Idle want m0 (found (dest_of id) wants want refl) tt (first Idle idle))

    packet_does : (waiting : List Token) → Done (packet_step (want_step routes slot i) i waiting m0)
    packet_does [] = rests Idle m0 (first Idle idle)
    packet_does (t ∷ rest) = let chan = chan_of m0.rec.core (chan_of_input i) in start_does chan.net chan.dest refl

  -- ---- The step

  step_does : (state : InputRec) → old ≡ state → Done (step_at routes slot i state m0)
  step_does Idle is =
      cond_both (is_link_input i) _ _ Done (λ link. head_does link Idle (waiting_at m0.rec i) m0 tt refl (first Idle is)) (λ chan. packet_does chan is (waiting_at m0.rec i))
  step_does (Head1 high) is =
      let h = first (Head1 high) is in
      cond_both (is_link_input i) _ m0 Done (λ link. head_does link (Head1 high) (waiting_at m0.rec i) m0 tt refl h) (λ chan. rests (Head1 high) m0 h)
  step_does (Head2 high low) is =
      let h = first (Head2 high low) is in
      cond_both (is_link_input i) _ m0 Done (λ link. head_does link (Head2 high low) (waiting_at m0.rec i) m0 tt refl h) (λ chan. rests (Head2 high low) m0 h)
  step_does (Want dest net) is = want_does dest (ap (wanted m0.rec i) is) (Want dest net) net m0 (first (Want dest net) is)
  step_does (Local n) is = local_does n (waiting_at m0.rec i) m0 refl (first (Local n) is)
  step_does (Out e headers dest) is = out_does e headers dest m0 (first (Out e headers dest) is)
  step_does Lost is = lost_does (waiting_at m0.rec i) m0 refl (first Lost is)

  pub steps : Done (step_at routes slot i (state_at m0.rec i) m0)
  steps = step_does (state_at m0.rec i) refl
