-- What a slot does before its issue: the switch changes channel ends, inputs and link ends alone, and leaves what is true of them.
use Rattle.std.proofs.Common.{◌≡◌, ℕ, zero, suc, ◌+◌, ◌<◌, ◌==◌, Bool, true, false, not, ◌||◌, ◌&&◌, nat_lt, is_some, if◌then◌else◌, Option, Some, None, List, [], ◌∷◌, ◌++◌, length, drop, get_or, slice_index, slice_set, bit_and, refl, sym, ap, ◌∙◌, arith, length-set}
use Rattle.std.proofs.lemmas.Bool.{ltb-true, cond_both, and_parts, not-true, eqb-true}
use Rattle.std.proofs.lemmas.Nat.Bits.{bit_at_and}
use Rattle.std.specs.Int.{bit_at}
use Rattle.std.specs.Prelude.{IfSome}
use Rattle.xs_base.specs.Numbers.{Slot, NodeId, ChanNumber, EndNumber, InputNumber, Identifier}
use Rattle.xs_base.specs.declared.numbers.TheConstants.{LINK_ENDS, CHAN_ENDS, INPUTS, HEADER_BYTES}
use Rattle.xs_base.specs.declared.token.Token.{Token}
use Rattle.xs_base.specs.declared.token.Token.TheVariants.{Byte, Ctrl}
use Rattle.xs_model.specs.declared.event.Happen.TheVariants as happen
use Rattle.xs_model.specs.declared.outside.Arrivals.{Arrivals}
use Rattle.xs_model.specs.declared.outside.PinView.{PinView}
use Rattle.xs_model.specs.declared.dest.Dest.{Dest}
use Rattle.xs_model.specs.Dests.{dest_of}
use Rattle.xs_model.specs.Record.{CoreRec, NodeRec, ChanRec, LinkRec, InputRec, Idle, Head1, Head2, Want, Local, Out, Lost, unused_chan, chan_of}
use Rattle.xs_model.specs.Waits.{has_room}
use Rattle.xs_model.specs.AtWork.{AtWork, slot_begins, it_happens}
use Rattle.xs_model.specs.Ports.{edges_from}
use Rattle.net_model.specs.Ways.{Way, Here, Behind, first_difference, ends_of_net, way_at, way_to}
use Rattle.net_model.specs.Links.{link_after_arrivals, links_after_arrivals, arrive}
use Rattle.net_model.specs.Switch.{Routes, is_link_input, chan_of_input, node_with_chan, chan_without_first, link_without_first, sent_in, to_state, waiting_at, state_at, chan_is_held, end_is_held, link_at, free_end, take_first, end_may_send, ends_packet, after_token, loses, put_into, send, start_packet, packet_step, after_header, header_byte, net_of_end, head_step, hold_end, is_pause, local_step, out_token, out_step, lost_step, want_way, want_step, step_at, moves_from}
use Rattle.step_model.specs.Fixed.{Fixed}
use Rattle.step_model.specs.Step.{ports_step, before_issue}
use Rattle.chan_ends.specs.States.{IsChan}
use Rattle.state_laws.specs.Facts.{ChansFit, InputFits, InputsFit, chan_is_used, end_is_there}
use Rattle.state_laws.proofs.Lists.{each_set}
use Rattle.state_laws.proofs.Inputs.{NoOther, still_no_other, set_fits, holds_nothing, chan_not_held, end_not_held, as_it_is}

-- ---- One of some channel ends or link ends changes

used_set : (chans : List ChanRec) (c : ℕ) (new : ChanRec) (d : ℕ) → new.used ≡ (get_or chans c unused_chan).used → (get_or (slice_set chans c new) d unused_chan).used ≡ (get_or chans d unused_chan).used
used_set [] c new d same = refl
used_set (x ∷ chans) zero new zero same = same
used_set (x ∷ chans) zero new (suc d) same = refl
used_set (x ∷ chans) (suc c) new zero same = refl
used_set (x ∷ chans) (suc c) new (suc d) same = used_set chans c new d same

there_set : (links : List (Option LinkRec)) (e : ℕ) (new : Option LinkRec) (d : ℕ) → is_some new ≡ is_some (get_or links e None) → is_some (get_or (slice_set links e new) d None) ≡ is_some (get_or links d None)
there_set [] e new d same = refl
there_set (x ∷ links) zero new zero same = same
there_set (x ∷ links) zero new (suc d) same = refl
there_set (x ∷ links) (suc e) new zero same = refl
there_set (x ∷ links) (suc e) new (suc d) same = there_set links e new d same

without_there : (link : Option LinkRec) → is_some (link_without_first link) ≡ is_some link
without_there None = refl
without_there (Some link) = refl

sent_there : (slot : Slot) (link : Option LinkRec) → is_some (sent_in slot link) ≡ is_some link
sent_there slot None = refl
sent_there slot (Some link) = refl

-- ---- Which link end is held

-- of a mask, one that is free
record IsFreeEnd (rec : NodeRec) (mask bound : ℕ) (e : EndNumber) : Type 0 where
  in_mask : bit_at mask e ≡ 1
  free : end_is_held rec e ≡ false
  low : e < bound

free_is : (rec : NodeRec) (mask end count below : ℕ) → end + count ≡ below → IfSome (free_end rec mask end count) (IsFreeEnd rec mask below)
unfolding free_end
free_is rec mask end zero below e = tt
free_is rec mask end (suc count) below e =
    cond_both ((bit_at mask end == 1) && not (end_is_held rec end)) (Some end) _ (λ found. IfSome found (IsFreeEnd rec mask below))
    (λ yes.
    let parts = and_parts (bit_at mask end == 1) (not (end_is_held rec end)) yes in
    record { in_mask = eqb-true (bit_at mask end) 1 parts.0; free = not-true (end_is_held rec end) parts.1; low = omega (arith, e) })
    (λ no. free_is rec mask (end + 1) count below (omega (arith, e)))

first_below : (n : ℕ) (a b : NodeId) → IfSome (first_difference n a b) (λ bit. bit < n)
unfolding first_difference
first_below zero a b = tt
first_below (suc n) a b =
    cond_both (bit_at a n == bit_at b n) (first_difference n a b) (Some n) (λ found. IfSome found (λ bit. bit < suc n))
    (λ same. more (first_difference n a b) (first_below n a b)) (λ other. omega arith)
  where
    more : (found : Option ℕ) → IfSome found (λ bit. bit < n) → IfSome found (λ bit. bit < suc n)
    more None h = tt
    more (Some bit) h = omega (arith, h)

in_both : (a b e : ℕ) → bit_at (bit_and a b) e ≡ 1 → bit_at a e ≡ 1
in_both a b e both = omega (arith, bit_at_and a b e, both)

-- ---- Nodes at work

module _ (S : Type 0) (core : CoreRec) (used : ChanNumber → Bool) (there : EndNumber → Bool) (many : ℕ) where
  pub record Fits (rec : NodeRec) : Type 0 where
    pub chans : ChansFit rec.core
    pub inputs : InputsFit used there rec.inputs

  -- all but the channel ends of the core is as it was; those in use stay so, and the link ends stay there
  pub record Fine (rec : NodeRec) : Type 0 where
    pub rest : rec.core ≡ record core { chans = rec.core.chans }
    pub in_use : (c : ChanNumber) → chan_is_used rec.core c ≡ used c
    pub ends : (e : EndNumber) → end_is_there rec e ≡ there e
    pub as_many : length rec.links ≡ many
    pub fits : S → Fits rec

  abbrev Good : AtWork → Type 0
  Good m = Fine m.rec

  either : (holds : Bool) (x y : AtWork) → Good x → Good y → Good (if holds then x else y)
  either true x y this that = this
  either false x y this that = that

  -- an input may be in a state
  abbrev MayBe : InputNumber → InputRec → NodeRec → Type 0
  MayBe i state rec = S → InputFits used there i state × NoOther i state rec.inputs

  chan_fine : (rec : NodeRec) (c : ChanNumber) (new : ChanRec) → (IsChan (chan_of rec.core c) → IsChan new) → new.used ≡ (chan_of rec.core c).used → Fine rec → Fine (node_with_chan rec c new)
  chan_fine rec c new is same h = record {
    rest = ap (λ (x : CoreRec). record x { chans = slice_set rec.core.chans c new }) h.rest;
    in_use = λ d. used_set rec.core.chans c new d same ∙ h.in_use d;
    ends = h.ends;
    as_many = h.as_many;
    fits = λ s.
        let f = h.fits s in record { chans = each_set IsChan unused_chan rec.core.chans c new f.chans (is (f.chans c)); inputs = f.inputs };
  }

  link_fine : (rec : NodeRec) (e : EndNumber) (new : Option LinkRec) → is_some new ≡ is_some (link_at rec e) → Fine rec → Fine (record rec { links = slice_set rec.links e new })
  link_fine rec e new same h = record {
    rest = h.rest;
    in_use = h.in_use;
    ends = λ d. there_set rec.links e new d same ∙ h.ends d;
    as_many = length-set rec.links e new ∙ h.as_many;
    fits = λ s. let f = h.fits s in record { chans = f.chans; inputs = f.inputs };
  }

  state_fine : (i : InputNumber) (state : InputRec) (m : AtWork) → MayBe i state m.rec → Good m → Good (to_state i state m)
  state_fine i state m may h = record {
    rest = h.rest;
    in_use = h.in_use;
    ends = h.ends;
    as_many = h.as_many;
    fits = λ s.
        let f = h.fits s in record { chans = f.chans; inputs = set_fits i state m.rec.inputs used there (may s).0 (may s).1 f.inputs };
  }

  -- it may then be in another that is like it
  still_may : (i : InputNumber) (state other : InputRec) (rec : NodeRec) → MayBe i state rec → MayBe i other rec → MayBe i other (record rec { inputs = slice_set rec.inputs i state })
  still_may i state other rec may its = λ s. ((its s).0, still_no_other i state rec.inputs other (may s).1 (its s).1)

  first_output : (chan : ChanRec) → IsChan chan → IsChan (chan_without_first chan)
  first_output chan is = record { net = is.net; dest = is.dest; output = λ none. ap (drop 1) (is.output none) }

  take_fine : (i : InputNumber) (m : AtWork) → Good m → Good (take_first i m)
  take_fine i m h =
      let c = chan_of_input i in
      let chan = chan_of m.rec.core c in
      either (is_link_input i) _ _ (link_fine m.rec i _ (without_there (link_at m.rec i)) h) (chan_fine m.rec c (chan_without_first chan) (first_output chan) refl h)

  take_may : (i : InputNumber) (state : InputRec) (m : AtWork) → MayBe i state m.rec → MayBe i state (take_first i m).rec
  take_may i state m may = by (is_link_input i) _ _ may may
    where
      by : (holds : Bool) (x y : AtWork) → MayBe i state x.rec → MayBe i state y.rec → MayBe i state (if holds then x else y).rec
      by true x y this that = this
      by false x y this that = that

  put_fine : (n : ChanNumber) (t : Token) (m : AtWork) → Good m → Good (put_into n t m)
  put_fine n t m h =
      let chan = chan_of m.rec.core n in
      chan_fine m.rec n (record chan { input = chan.input ++ t ∷ [] }) (λ is. record { net = is.net; dest = is.dest; output = is.output }) refl h

  send_fine : (slot : Slot) (e : EndNumber) (t : Token) (m : AtWork) → Good m → Good (send slot e t m)
  send_fine slot e t m h = link_fine m.rec e _ (sent_there slot (link_at m.rec e)) h

  -- ---- States that hold nothing

  idle_may : (i : InputNumber) (rec : NodeRec) → MayBe i Idle rec
  idle_may i rec s = (tt, holds_nothing i Idle rec.inputs (λ c. refl) (λ e. refl))

  lost_may : (i : InputNumber) (rec : NodeRec) → MayBe i Lost rec
  lost_may i rec s = (tt, holds_nothing i Lost rec.inputs (λ c. refl) (λ e. refl))

  want_may : (i : InputNumber) (dest : Dest) (net : ℕ) (rec : NodeRec) → (S → net < 4) → MayBe i (Want dest net) rec
  want_may i dest net rec low s = (low s, holds_nothing i (Want dest net) rec.inputs (λ c. refl) (λ e. refl))

  token_fine : (i : InputNumber) (state : InputRec) (t : Token) (m : AtWork) → MayBe i state m.rec → Good m → Good (after_token i state t m)
  token_fine i state t m may h = by (ends_packet t)
    where
      by : (ends : Bool) → Good (to_state i (if ends then Idle else state) m)
      by true = state_fine i Idle m (idle_may i m.rec) h
      by false = state_fine i state m may h

  loses_fine : (i : InputNumber) (dest : Dest) (m : AtWork) → Good m → Good (loses i dest m)
  loses_fine i dest m h = state_fine i Lost m (lost_may i m.rec) h

  lost_fine : (i : InputNumber) (waiting : List Token) (m : AtWork) → Good m → Good (lost_step i waiting m)
  lost_fine i [] m h = h
  lost_fine i (t ∷ rest) m h = token_fine i Lost t (take_first i m) (lost_may i (take_first i m).rec) (take_fine i m h)

  local_fine : (i : InputNumber) (n : ChanNumber) (waiting : List Token) (m : AtWork) → MayBe i (Local n) m.rec → Good m → Good (local_step i n waiting m)
  local_fine i n [] m may h = h
  local_fine i n (t ∷ rest) m may h =
      let first = take_first i m in
      let good = take_fine i m h in
      let its = take_may i (Local n) m may in
      either (is_pause t) _ _ (token_fine i (Local n) t first its good)
      (either (has_room 1 (chan_of m.rec.core n).input) _ m (token_fine i (Local n) t (it_happens (happen.Chan n t) (put_into n t first)) its (put_fine n t first good)) h)

  -- ---- The rules of an input

  module _ (routes : Routes) (slot : Slot) (i : InputNumber) (nets : S → (e : EndNumber) → slice_index routes.nets e < 4) (ways : S → (bit e : ℕ) → bit < 16 → e < LINK_ENDS → bit_at (slice_index routes.ways bit) e ≡ 1 → there e ≡ true) where
    header_may : (state : InputRec) (b : ℕ) (rec : NodeRec) → is_link_input i ≡ true → MayBe i state rec → MayBe i (after_header (net_of_end routes i) state b) rec
    header_may Idle b rec link may = λ s. (ltb-true i LINK_ENDS link, holds_nothing i _ rec.inputs (λ c. refl) (λ e. refl))
    header_may (Head1 high) b rec link may = λ s. (ltb-true i LINK_ENDS link, holds_nothing i _ rec.inputs (λ c. refl) (λ e. refl))
    header_may (Head2 high low) b rec link may = want_may i _ (net_of_end routes i) rec (λ s. nets s i)
    header_may (Want dest net) b rec link may = may
    header_may (Local chan) b rec link may = may
    header_may (Out end headers dest) b rec link may = may
    header_may Lost b rec link may = may

    head_fine : (state : InputRec) (waiting : List Token) (m : AtWork) → is_link_input i ≡ true → MayBe i state m.rec → Good m → Good (head_step routes i state waiting m)
    head_fine state [] m link may h = h
    head_fine state (Byte b ∷ rest) m link may h =
        state_fine i (after_header (net_of_end routes i) state b) (take_first i m) (header_may state b (take_first i m).rec link (take_may i state m may)) (take_fine i m h)
    head_fine state (Ctrl c ∷ rest) m link may h = take_fine i m h

    -- where it is a link end's
    link_head_fine : (state : InputRec) (other : AtWork) (m : AtWork) → MayBe i state m.rec → Good m → Good other → Good (if is_link_input i then head_step routes i state (waiting_at m.rec i) m else other)
    link_head_fine state other m may h others =
        cond_both (is_link_input i) (head_step routes i state (waiting_at m.rec i) m) other Good (λ link. head_fine state (waiting_at m.rec i) m link may h) (λ no. others)

    out_token_fine : (e : EndNumber) (headers : ℕ) (dest : Dest) (waiting : List Token) (m : AtWork) → MayBe i (Out e headers dest) m.rec → Good m → Good (out_token slot i e headers dest waiting m)
    out_token_fine e headers dest [] m may h = h
    out_token_fine e headers dest (t ∷ rest) m may h =
        token_fine i (Out e headers dest) t (send slot e t (take_first i m)) (take_may i (Out e headers dest) m may) (send_fine slot e t (take_first i m) (take_fine i m h))

    next_may : (e : EndNumber) (headers : ℕ) (dest : Dest) (rec : NodeRec) → headers < HEADER_BYTES → MayBe i (Out e headers dest) rec → MayBe i (Out e (headers + 1) dest) rec
    next_may e headers dest rec less may = λ s.
        let its = may s in
        ((its.0.0, omega (arith, less), its.0.2), record { chan = its.1.chan; end = its.1.end })

    out_fine : (e : EndNumber) (headers : ℕ) (dest : Dest) (m : AtWork) → MayBe i (Out e headers dest) m.rec → Good m → Good (out_step routes slot i e headers dest m)
    out_fine e headers dest m may h =
        either (end_may_send routes slot e (link_at m.rec e)) _ m
        (cond_both (nat_lt headers HEADER_BYTES) _ (out_token slot i e headers dest (waiting_at m.rec i) m) Good
        (λ less. state_fine i (Out e (headers + 1) dest) (send slot e (Byte (header_byte dest headers)) m) (next_may e headers dest m.rec (ltb-true headers HEADER_BYTES less) may) (send_fine slot e (Byte (header_byte dest headers)) m h))
        (λ all. out_token_fine e headers dest (waiting_at m.rec i) m may h)) h

    -- a link end that is held was free, and is there
    end_may : (mask : ℕ) (e : EndNumber) (dest : Dest) (rec : NodeRec) → (S → (e : EndNumber) → e < LINK_ENDS → bit_at mask e ≡ 1 → there e ≡ true) → IsFreeEnd rec mask LINK_ENDS e → MayBe i (Out e 0 dest) rec
    end_may mask e dest rec leads free = λ s.
        ((free.low, omega arith, leads s e free.low free.in_mask), end_not_held i e 0 rec.inputs (Out e 0 dest) (λ d. refl) (λ d same. eqb-true e d same) free.free)

    hold_fine : (mask : ℕ) (dest : Dest) (end : Option EndNumber) (m : AtWork) → (S → (e : EndNumber) → e < LINK_ENDS → bit_at mask e ≡ 1 → there e ≡ true) → IfSome end (IsFreeEnd m.rec mask LINK_ENDS) → Good m → Good (hold_end (λ e m. out_step routes slot i e 0 dest m) i dest end m)
    hold_fine mask dest None m leads free h = h
    hold_fine mask dest (Some e) m leads free h =
        let may = end_may mask e dest m.rec leads free in
        out_fine e 0 dest (to_state i (Out e 0 dest) m) (still_may i (Out e 0 dest) (Out e 0 dest) m.rec may may) (state_fine i (Out e 0 dest) m may h)

    -- a channel end that is held is there and in use, and nobody else's
    chan_may : (n : ChanNumber) (m : AtWork) → n < CHAN_ENDS → (chan_of m.rec.core n).used ≡ true → chan_is_held m.rec n ≡ false → Good m → MayBe i (Local n) m.rec
    chan_may n m low in_use free h = λ s. ((low, sym (h.in_use n) ∙ in_use), chan_not_held i n m.rec.inputs free)

    chan_way_fine : (dest : Dest) (m : AtWork) (low in_use held : Bool) → nat_lt dest.chan CHAN_ENDS ≡ low → (chan_of m.rec.core dest.chan).used ≡ in_use → chan_is_held m.rec dest.chan ≡ held → Good m
        → let next = to_state i (Local dest.chan) m in Good (if not low || not in_use then loses i dest m else (if held then m else local_step i dest.chan (waiting_at next.rec i) next))
    chan_way_fine dest m false in_use held is its other h = loses_fine i dest m h
    chan_way_fine dest m true false held is its other h = loses_fine i dest m h
    chan_way_fine dest m true true true is its other h = h
    chan_way_fine dest m true true false is its other h =
        let n = dest.chan in
        let may = chan_may n m (ltb-true n CHAN_ENDS is) its other h in
        let next = to_state i (Local n) m in
        local_fine i n (waiting_at next.rec i) next (still_may i (Local n) (Local n) m.rec may may) (state_fine i (Local n) m may h)

    abbrev Leads : Way → Type 0
    Leads Here = Unit {0}
    Leads (Behind mask) = S → (e : EndNumber) → e < LINK_ENDS → bit_at mask e ≡ 1 → there e ≡ true

    way_fine : (dest : Dest) (way : Way) (m : AtWork) → Leads way → Good m → Good (want_way routes slot i dest way m)
    way_fine dest Here m leads h = chan_way_fine dest m (nat_lt dest.chan CHAN_ENDS) (chan_of m.rec.core dest.chan).used (chan_is_held m.rec dest.chan) refl refl refl h
    way_fine dest (Behind mask) m leads h =
        let free = free_end m.rec mask 0 LINK_ENDS in
        either (mask == 0) _ _ (loses_fine i dest m h) (hold_fine mask dest free m leads (free_is m.rec mask 0 LINK_ENDS LINK_ENDS refl) h)

    way_leads : (ends : ℕ) (found : Option ℕ) → IfSome found (λ bit. bit < 16) → Leads (way_at routes.ways ends found)
    way_leads ends None low = tt
    way_leads ends (Some bit) low = λ s e there' is. ways s bit e low there' (in_both (slice_index routes.ways bit) ends e is)

    want_fine : (dest : Dest) (net : ℕ) (m : AtWork) → Good m → Good (want_step routes slot i dest net m)
    want_fine dest net m h =
        way_fine dest (way_to routes.id routes.ways routes.nets net dest.node) m
        (way_leads (ends_of_net routes.nets net) (first_difference 16 routes.id dest.node) (first_below 16 routes.id dest.node)) h

    start_fine : (net : ℕ) (dest : Option Identifier) (m : AtWork) → (S → net < 4) → Good m → Good (start_packet (want_step routes slot i) i net dest m)
    start_fine net None m low h = h
    start_fine net (Some id) m low h =
        want_fine (dest_of id) net (to_state i (Want (dest_of id) net) m) (state_fine i (Want (dest_of id) net) m (want_may i (dest_of id) net m.rec low) h)

    packet_fine : (waiting : List Token) (m : AtWork) → Good m → Good (packet_step (want_step routes slot i) i waiting m)
    packet_fine [] m h = h
    packet_fine (t ∷ rest) m h =
        let c = chan_of_input i in
        let chan = chan_of m.rec.core c in start_fine chan.net chan.dest m (λ s. ((h.fits s).chans c).net) h

    step_fine : (state : InputRec) (m : AtWork) → MayBe i state m.rec → Good m → Good (step_at routes slot i state m)
    step_fine Idle m may h = link_head_fine Idle _ m may h (packet_fine (waiting_at m.rec i) m h)
    step_fine (Head1 high) m may h = link_head_fine (Head1 high) m m may h h
    step_fine (Head2 high low) m may h = link_head_fine (Head2 high low) m m may h h
    step_fine (Want dest net) m may h = want_fine dest net m h
    step_fine (Local n) m may h = local_fine i n (waiting_at m.rec i) m may h
    step_fine (Out e headers dest) m may h = out_fine e headers dest m may h
    step_fine Lost m may h = lost_fine i (waiting_at m.rec i) m h

  pub moves_fine : (routes : Routes) (slot : Slot) (nets : S → (e : EndNumber) → slice_index routes.nets e < 4) (ways : S → (bit e : ℕ) → bit < 16 → e < LINK_ENDS → bit_at (slice_index routes.ways bit) e ≡ 1 → there e ≡ true)
      → (i count : ℕ) (m : AtWork) → Good m → Good (moves_from routes slot i count m)
  unfolding moves_from
  moves_fine routes slot nets ways i zero m h = h
  moves_fine routes slot nets ways i (suc count) m h =
      let may : MayBe i (state_at m.rec i) m.rec = λ s. ((h.fits s).inputs.each i, as_it_is used there m.rec.inputs i (h.fits s).inputs) in
      moves_fine routes slot nets ways (i + 1) count (step_at routes slot i (state_at m.rec i) m) (step_fine routes slot i nets ways (state_at m.rec i) m may h)

-- ---- What arrives

arrives_there : (slot : Slot) (token : Option Token) (credit : Bool) (link : Option LinkRec) → is_some (link_after_arrivals slot token credit link) ≡ is_some link
arrives_there slot token credit None = refl
arrives_there slot token credit (Some link) = refl

pub arrived_there : (slot : Slot) (tokens : List (Option Token)) (credits : List Bool) (n : ℕ) (links : List (Option LinkRec)) (e : ℕ) → is_some (get_or (links_after_arrivals slot tokens credits n links) e None) ≡ is_some (get_or links e None)
unfolding links_after_arrivals
arrived_there slot tokens credits n [] e = refl
arrived_there slot tokens credits n (link ∷ links) zero = arrives_there slot (get_or tokens n None) (get_or credits n false) link
arrived_there slot tokens credits n (link ∷ links) (suc e) = arrived_there slot tokens credits (n + 1) links e

pub arrived_many : (slot : Slot) (tokens : List (Option Token)) (credits : List Bool) (n : ℕ) (links : List (Option LinkRec)) → length (links_after_arrivals slot tokens credits n links) ≡ length links
unfolding links_after_arrivals
arrived_many slot tokens credits n [] = refl
arrived_many slot tokens credits n (link ∷ links) = ap suc (arrived_many slot tokens credits (n + 1) links)

-- ---- The node in a slot before its issue

module _ (S : Type 0) (fixed : Fixed) (rec : NodeRec) (slot : Slot) (arrivals : Arrivals) (pins : PinView) where
  abbrev pub edged_core : CoreRec
  edged_core = record rec.core { ports = (edges_from slot rec.core.clocks rec.levels 0 rec.core.ports pins.level).ports }

  abbrev pub FineBefore : NodeRec → Type 0
  FineBefore moved = Fine S edged_core (chan_is_used rec.core) (end_is_there rec) (length rec.links) moved

  pub before_fine : (S → (e : EndNumber) → slice_index fixed.routes.nets e < 4) → (S → (bit e : ℕ) → bit < 16 → e < LINK_ENDS → bit_at (slice_index fixed.routes.ways bit) e ≡ 1 → end_is_there rec e ≡ true)
      → (S → ChansFit rec.core) → (S → InputsFit (chan_is_used rec.core) (end_is_there rec) rec.inputs) → FineBefore (before_issue fixed rec slot arrivals pins).rec
  before_fine nets ways chans inputs =
      let begun : FineBefore (ports_step slot pins (arrive slot arrivals (slot_begins rec))).rec = record {
        rest = refl;
        in_use = λ c. refl;
        ends = λ e. arrived_there slot arrivals.tokens arrivals.credits 0 rec.links e;
        as_many = arrived_many slot arrivals.tokens arrivals.credits 0 rec.links;
        fits = λ s. record { chans = chans s; inputs = inputs s };
      } in
      moves_fine S edged_core (chan_is_used rec.core) (end_is_there rec) (length rec.links) fixed.routes slot nets ways 0 INPUTS (ports_step slot pins (arrive slot arrivals (slot_begins rec))) begun

-- where nothing is asked of it
pub any_before : (fixed : Fixed) (rec : NodeRec) (slot : Slot) (arrivals : Arrivals) (pins : PinView) → FineBefore ⊥ fixed rec slot arrivals pins (before_issue fixed rec slot arrivals pins).rec
any_before fixed rec slot arrivals pins = before_fine ⊥ fixed rec slot arrivals pins (λ s. absurd s) (λ s. absurd s) (λ s. absurd s) (λ s. absurd s)

-- all of the core but its channel ends is as after the edges of its ports
pub core_before : (fixed : Fixed) (rec : NodeRec) (slot : Slot) (arrivals : Arrivals) (pins : PinView)
    → let moved = (before_issue fixed rec slot arrivals pins).rec.core in
    moved ≡ record rec.core { ports = (edges_from slot rec.core.clocks rec.levels 0 rec.core.ports pins.level).ports; chans = moved.chans }
core_before fixed rec slot arrivals pins = (any_before fixed rec slot arrivals pins).rest
