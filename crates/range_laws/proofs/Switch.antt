-- The switch keeps bytes and small numbers, and so does what it sends.
use Rattle.std.proofs.Common.{◌≡◌, ℕ, zero, suc, ◌+◌, ◌<◌, ◌≤◌, ◌^◌, ◌==◌, Bool, true, false, not, ◌||◌, ◌&&◌, nat_lt, if◌then◌else◌, Option, Some, None, List, [], ◌∷◌, ◌++◌, length, get_or, slice_set, refl, ap, ◌∙◌, arith}
use Rattle.std.proofs.lemmas.Bool.{ltb-true, leb-true, cond_both}
use Rattle.std.specs.Prelude.{IfSome}
use Rattle.std.specs.List.{AllByRecursion}
use Rattle.xs_base.specs.Numbers.{Slot, ChanNumber, EndNumber, InputNumber, Identifier}
use Rattle.xs_base.specs.declared.numbers.TheConstants.{LINK_ENDS, CHAN_ENDS, HEADER_BYTES, BUFFER_TOKENS}
use Rattle.xs_base.specs.declared.token.Token.{Token}
use Rattle.xs_base.specs.declared.token.Token.TheVariants.{Byte, Ctrl}
use Rattle.xs_model.specs.declared.event.Happen.TheVariants as happen
use Rattle.xs_model.specs.declared.dest.Dest.{Dest}
use Rattle.xs_model.specs.Dests.{dest_of}
use Rattle.xs_model.specs.Record.{NodeRec, ChanRec, LinkRec, InputRec, Idle, Head1, Head2, Want, Local, Out, Lost, unused_chan, chan_of}
use Rattle.xs_model.specs.Waits.{has_room}
use Rattle.xs_model.specs.AtWork.{AtWork, it_happens}
use Rattle.net_model.specs.Ways.{Way, Here, Behind, way_to}
use Rattle.net_model.specs.Links.{token_arrives, credit_arrives, link_after_arrivals, links_after_arrivals}
use Rattle.net_model.specs.Switch.{Routes, is_link_input, chan_of_input, node_with_chan, chan_without_first, link_without_first, buffer_of_link, sent_in, to_state, waiting_at, state_at, chan_is_held, link_at, free_end, take_first, end_may_send, ends_packet, after_token, loses, put_into, send, start_packet, packet_step, after_header, header_byte, net_of_end, head_step, hold_end, is_pause, local_step, out_token, out_step, lost_step, want_way, want_step, step_at, moves_from}
use Rattle.state_forms.specs.Buffers.{TokenFits}
use Rattle.state_bridge.specs.Fits.{AreSuch}
use Rattle.range_laws.proofs.Lists.{all_at, all_set, such_set}
use Rattle.range_laws.proofs.Words.{IsWord}
use Rattle.range_laws.proofs.Core.{CoreFits, ChanWords, chan_fits, chan_set}
use Rattle.range_laws.proofs.Found.{TokensFit, first_gone, more_fit}
use Rattle.range_laws.proofs.Issue.{HaveFacts}

-- ---- Inputs and link ends

-- a destination that an identifier names, or a header
pub record DestFits (dest : Dest) : Type 0 where
  pub node : dest.node < 2 ^ 16
  pub chan : dest.chan < 256

abbrev pub InputRange : InputRec → Type 0
InputRange Idle = Unit {0}
InputRange (Head1 high) = high < 256
InputRange (Head2 high low) = (high < 256) × (low < 256)
InputRange (Want dest net) = DestFits dest
InputRange (Local chan) = Unit {0}
InputRange (Out end headers dest) = DestFits dest
InputRange Lost = Unit {0}

abbrev pub LinkRange : Option LinkRec → Type 0
LinkRange link = IfSome link (λ link. TokensFit link.buffer)

-- what is true of the numbers of a node
pub record NodeRange (rec : NodeRec) : Type 0 where
  pub core : CoreFits rec.core
  pub inputs : AreSuch InputRange 40 rec.inputs
  pub links : AreSuch LinkRange 8 rec.links
  pub levels : length rec.levels ≡ 29

abbrev pub SentFits : Option Token → Type 0
SentFits sent = IfSome sent TokenFits

-- and of one at work
pub record WorkRange (m : AtWork) : Type 0 where
  pub node : NodeRange m.rec
  pub facts : HaveFacts m.rec.core
  pub tokens : AllByRecursion SentFits m.tokens

dest_fits : (id : Identifier) → IsWord id → DestFits (dest_of id)
dest_fits id is = record { node = omega (arith, is); chan = omega arith }

-- ---- Where one thing changes

either : (holds : Bool) (x y : AtWork) → WorkRange x → WorkRange y → WorkRange (if holds then x else y)
either true x y this that = this
either false x y this that = that

chan_range : (rec : NodeRec) (c : ChanNumber) (new : ChanRec) → ChanWords new → NodeRange rec → NodeRange (node_with_chan rec c new)
chan_range rec c new is h = record { core = chan_set rec.core c new h.core is; inputs = h.inputs; links = h.links; levels = h.levels }

link_range : (rec : NodeRec) (e : EndNumber) (new : Option LinkRec) → LinkRange new → NodeRange rec → NodeRange (record rec { links = slice_set rec.links e new })
link_range rec e new is h = record { core = h.core; inputs = h.inputs; links = such_set LinkRange 8 rec.links e new is h.links; levels = h.levels }

state_range : (i : InputNumber) (state : InputRec) (m : AtWork) → InputRange state → WorkRange m → WorkRange (to_state i state m)
state_range i state m is h = record {
  node = record { core = h.node.core; inputs = such_set InputRange 40 m.rec.inputs i state is h.node.inputs; links = h.node.links; levels = h.node.levels };
  facts = h.facts;
  tokens = h.tokens;
}

its_link : (rec : NodeRec) (e : EndNumber) → NodeRange rec → LinkRange (link_at rec e)
its_link rec e h = all_at LinkRange None tt rec.links e h.links.each

its_chan : (rec : NodeRec) (c : ChanNumber) → NodeRange rec → ChanWords (chan_of rec.core c)
its_chan rec c h = chan_fits rec.core c h.core

without_first : (link : Option LinkRec) → LinkRange link → LinkRange (link_without_first link)
without_first None h = tt
without_first (Some link) h = first_gone link.buffer h

sent_range : (slot : Slot) (link : Option LinkRec) → LinkRange link → LinkRange (sent_in slot link)
sent_range slot None h = tt
sent_range slot (Some link) h = h

first_output : (chan : ChanRec) → ChanWords chan → ChanWords (chan_without_first chan)
first_output chan h = record { net = h.net; dest = h.dest; output = first_gone chan.output h.output; input = h.input }

take_range : (i : InputNumber) (m : AtWork) → WorkRange m → WorkRange (take_first i m)
take_range i m h =
    let c = chan_of_input i in
    let link = link_without_first (link_at m.rec i) in
    let chan = chan_without_first (chan_of m.rec.core c) in
    either (is_link_input i)
    (record m { rec = record m.rec { links = slice_set m.rec.links i link }; credits = slice_set m.credits i true })
    (record m { rec = node_with_chan m.rec c chan })
    (record { node = link_range m.rec i link (without_first (link_at m.rec i) (its_link m.rec i h.node)) h.node; facts = h.facts; tokens = h.tokens })
    (record { node = chan_range m.rec c chan (first_output (chan_of m.rec.core c) (its_chan m.rec c h.node)) h.node; facts = h.facts; tokens = h.tokens })

-- what waits in a buffer of input stays where a token leaves one of output
same_input : (chans : List ChanRec) (c : ℕ) (new : ChanRec) (d : ℕ) → new.input ≡ (get_or chans c unused_chan).input → (get_or (slice_set chans c new) d unused_chan).input ≡ (get_or chans d unused_chan).input
same_input [] c new d same = refl
same_input (x ∷ chans) zero new zero same = same
same_input (x ∷ chans) zero new (suc d) same = refl
same_input (x ∷ chans) (suc c) new zero same = refl
same_input (x ∷ chans) (suc c) new (suc d) same = same_input chans c new d same

taken_input : (i : InputNumber) (m : AtWork) (n : ChanNumber) → (chan_of (take_first i m).rec.core n).input ≡ (chan_of m.rec.core n).input
taken_input i m n = by (is_link_input i)
  where
    c : ChanNumber
    c = chan_of_input i

    by : (link : Bool)
        → (chan_of (if link then record m { rec = record m.rec { links = slice_set m.rec.links i (link_without_first (link_at m.rec i)) }; credits = slice_set m.credits i true } else record m { rec = node_with_chan m.rec (chan_of_input i) (chan_without_first (chan_of m.rec.core (chan_of_input i))) }).rec.core n).input ≡ (chan_of m.rec.core n).input
    by true = refl
    by false = same_input m.rec.core.chans (chan_of_input i) (chan_without_first (chan_of m.rec.core (chan_of_input i))) n refl

put_range : (n : ChanNumber) (t : Token) (m : AtWork) → TokenFits t → length (chan_of m.rec.core n).input + 1 ≤ 8 → WorkRange m → WorkRange (put_into n t m)
put_range n t m is room h =
    let chan = chan_of m.rec.core n in
    let fits = its_chan m.rec n h.node in
    let new = record chan { input = chan.input ++ t ∷ [] } in
    record {
      node = chan_range m.rec n new (record { net = fits.net; dest = fits.dest; output = fits.output; input = more_fit chan.input (t ∷ []) room (is, tt) fits.input }) h.node;
      facts = h.facts;
      tokens = h.tokens;
    }

send_range : (slot : Slot) (e : EndNumber) (t : Token) (m : AtWork) → TokenFits t → WorkRange m → WorkRange (send slot e t m)
send_range slot e t m is h = record {
  node = link_range m.rec e (sent_in slot (link_at m.rec e)) (sent_range slot (link_at m.rec e) (its_link m.rec e h.node)) h.node;
  facts = h.facts;
  tokens = all_set SentFits m.tokens e (Some t) is h.tokens;
}

-- ---- The rules of an input

abbrev Waiting : List Token → Type 0
Waiting tokens = AllByRecursion TokenFits tokens

link_waits : (link : Option LinkRec) → LinkRange link → Waiting (buffer_of_link link)
link_waits None h = tt
link_waits (Some link) h = h.tokens

waits : (i : InputNumber) (m : AtWork) → WorkRange m → Waiting (waiting_at m.rec i)
waits i m h = by (is_link_input i)
  where
    by : (link : Bool) → Waiting (if link then buffer_of_link (link_at m.rec i) else (chan_of m.rec.core (chan_of_input i)).output)
    by true = link_waits (link_at m.rec i) (its_link m.rec i h.node)
    by false = (its_chan m.rec (chan_of_input i) h.node).output.tokens

token_range : (i : InputNumber) (state : InputRec) (t : Token) (m : AtWork) → InputRange state → WorkRange m → WorkRange (after_token i state t m)
token_range i state t m is h = by (ends_packet t)
  where
    by : (ends : Bool) → WorkRange (to_state i (if ends then Idle else state) m)
    by true = state_range i Idle m tt h
    by false = state_range i state m is h

loses_range : (i : InputNumber) (dest : Dest) (m : AtWork) → WorkRange m → WorkRange (loses i dest m)
loses_range i dest m h = let lost = state_range i Lost m tt h in record { node = lost.node; facts = lost.facts; tokens = lost.tokens }

lost_range : (i : InputNumber) (waiting : List Token) (m : AtWork) → WorkRange m → WorkRange (lost_step i waiting m)
lost_range i [] m h = h
lost_range i (t ∷ rest) m h = token_range i Lost t (take_first i m) tt (take_range i m h)

local_range : (i : InputNumber) (n : ChanNumber) (waiting : List Token) (m : AtWork) → Waiting waiting → WorkRange m → WorkRange (local_step i n waiting m)
local_range i n [] m is h = h
local_range i n (t ∷ rest) m is h =
    let first = take_first i m in
    let good = take_range i m h in
    let told = it_happens (happen.Chan n t) (put_into n t first) in
    let input = chan_of m.rec.core n in
    either (is_pause t) (after_token i (Local n) t first) _ (token_range i (Local n) t first tt good)
    (cond_both (has_room 1 input.input) (after_token i (Local n) t told) m WorkRange
    (λ room.
    let less = leb-true (length input.input + 1) BUFFER_TOKENS room in
    let same = ap (λ (tokens : List Token). length tokens) (taken_input i m n) in
    let put = put_range n t first is.0 (omega (arith, less, same)) good in
    token_range i (Local n) t told tt (record { node = put.node; facts = put.facts; tokens = put.tokens }))
    (λ no. h))

module _ (routes : Routes) (slot : Slot) (i : InputNumber) where
  header_range : (state : InputRec) (b : ℕ) → b < 256 → InputRange state → InputRange (after_header (net_of_end routes i) state b)
  header_range Idle b byte is = byte
  header_range (Head1 high) b byte is = (is, byte)
  header_range (Head2 high low) b byte is =
      let fh = is.0 in
      let fl = is.1 in
      record { node = omega (arith, fh, fl); chan = byte }
  header_range (Want dest net) b byte is = is
  header_range (Local chan) b byte is = is
  header_range (Out end headers dest) b byte is = is
  header_range Lost b byte is = is

  head_range : (state : InputRec) (waiting : List Token) (m : AtWork) → InputRange state → Waiting waiting → WorkRange m → WorkRange (head_step routes i state waiting m)
  head_range state [] m is all h = h
  head_range state (Byte b ∷ rest) m is all h = state_range i (after_header (net_of_end routes i) state b) (take_first i m) (header_range state b all.0 is) (take_range i m h)
  head_range state (Ctrl c ∷ rest) m is all h = take_range i m h

  out_token_range : (e : EndNumber) (headers : ℕ) (dest : Dest) (waiting : List Token) (m : AtWork) → DestFits dest → Waiting waiting → WorkRange m → WorkRange (out_token slot i e headers dest waiting m)
  out_token_range e headers dest [] m is all h = h
  out_token_range e headers dest (t ∷ rest) m is all h =
      token_range i (Out e headers dest) t (send slot e t (take_first i m)) is (send_range slot e t (take_first i m) all.0 (take_range i m h))

  header_byte_fits : (dest : Dest) (n : ℕ) → DestFits dest → header_byte dest n < 256
  header_byte_fits dest zero is = let node = is.node in omega (arith, node)
  header_byte_fits dest (suc zero) is = omega arith
  header_byte_fits dest (suc (suc n)) is = is.chan

  out_range : (e : EndNumber) (headers : ℕ) (dest : Dest) (m : AtWork) → DestFits dest → WorkRange m → WorkRange (out_step routes slot i e headers dest m)
  out_range e headers dest m is h =
      let sent = send slot e (Byte (header_byte dest headers)) m in
      either (end_may_send routes slot e (link_at m.rec e)) _ m
      (either (nat_lt headers HEADER_BYTES) (to_state i (Out e (headers + 1) dest) sent) (out_token slot i e headers dest (waiting_at m.rec i) m)
      (state_range i (Out e (headers + 1) dest) sent is (send_range slot e (Byte (header_byte dest headers)) m (header_byte_fits dest headers is) h))
      (out_token_range e headers dest (waiting_at m.rec i) m is (waits i m h) h)) h

  hold_range : (dest : Dest) (end : Option EndNumber) (m : AtWork) → DestFits dest → WorkRange m → WorkRange (hold_end (λ e m. out_step routes slot i e 0 dest m) i dest end m)
  hold_range dest None m is h = h
  hold_range dest (Some e) m is h = out_range e 0 dest (to_state i (Out e 0 dest) m) is (state_range i (Out e 0 dest) m is h)

  way_range : (dest : Dest) (way : Way) (m : AtWork) → DestFits dest → WorkRange m → WorkRange (want_way routes slot i dest way m)
  way_range dest Here m is h =
      let next = to_state i (Local dest.chan) m in
      let good = state_range i (Local dest.chan) m tt h in
      either (not (nat_lt dest.chan CHAN_ENDS) || not (chan_of m.rec.core dest.chan).used) (loses i dest m) _ (loses_range i dest m h)
      (either (chan_is_held m.rec dest.chan) m (local_step i dest.chan (waiting_at next.rec i) next) h (local_range i dest.chan (waiting_at next.rec i) next (waits i next good) good))
  way_range dest (Behind mask) m is h =
      let free = free_end m.rec mask 0 LINK_ENDS in
      either (mask == 0) (loses i dest m) (hold_end (λ e m. out_step routes slot i e 0 dest m) i dest free m) (loses_range i dest m h) (hold_range dest free m is h)

  want_range : (dest : Dest) (net : ℕ) (m : AtWork) → DestFits dest → WorkRange m → WorkRange (want_step routes slot i dest net m)
  want_range dest net m is h = way_range dest (way_to routes.id routes.ways routes.nets net dest.node) m is h

  start_range : (net : ℕ) (dest : Option Identifier) (m : AtWork) → IfSome dest IsWord → WorkRange m → WorkRange (start_packet (want_step routes slot i) i net dest m)
  start_range net None m is h = h
  start_range net (Some id) m is h =
      let dest = dest_fits id is in want_range (dest_of id) net (to_state i (Want (dest_of id) net) m) dest (state_range i (Want (dest_of id) net) m dest h)

  packet_range : (waiting : List Token) (m : AtWork) → WorkRange m → WorkRange (packet_step (want_step routes slot i) i waiting m)
  packet_range [] m h = h
  packet_range (t ∷ rest) m h =
      let c = chan_of_input i in
      let chan = chan_of m.rec.core c in start_range chan.net chan.dest m (its_chan m.rec c h.node).dest h

  step_range : (state : InputRec) (m : AtWork) → InputRange state → WorkRange m → WorkRange (step_at routes slot i state m)
  step_range Idle m is h =
      let waiting = waiting_at m.rec i in
      either (is_link_input i) (head_step routes i Idle waiting m) (packet_step (want_step routes slot i) i waiting m) (head_range Idle waiting m tt (waits i m h) h) (packet_range waiting m h)
  step_range (Head1 high) m is h = let waiting = waiting_at m.rec i in either (is_link_input i) (head_step routes i (Head1 high) waiting m) m (head_range (Head1 high) waiting m is (waits i m h) h) h
  step_range (Head2 high low) m is h = let waiting = waiting_at m.rec i in either (is_link_input i) (head_step routes i (Head2 high low) waiting m) m (head_range (Head2 high low) waiting m is (waits i m h) h) h
  step_range (Want dest net) m is h = want_range dest net m is h
  step_range (Local n) m is h = local_range i n (waiting_at m.rec i) m (waits i m h) h
  step_range (Out e headers dest) m is h = out_range e headers dest m is h
  step_range Lost m is h = lost_range i (waiting_at m.rec i) m h

pub moves_range : (routes : Routes) (slot : Slot) (i count : ℕ) (m : AtWork) → WorkRange m → WorkRange (moves_from routes slot i count m)
unfolding moves_from
moves_range routes slot i zero m h = h
moves_range routes slot i (suc count) m h =
    moves_range routes slot (i + 1) count (step_at routes slot i (state_at m.rec i) m)
    (step_range routes slot i (state_at m.rec i) m (all_at InputRange Idle tt m.rec.inputs i h.node.inputs.each) h)

-- ---- What arrives

token_range_of : (token : Option Token) (link : LinkRec) → SentFits token → TokensFit link.buffer → TokensFit (token_arrives token link).buffer
token_range_of None link is h = h
token_range_of (Some t) link is h =
    cond_both (nat_lt (length link.buffer) BUFFER_TOKENS) (record link { buffer = link.buffer ++ t ∷ [] }) link (λ (link : LinkRec). TokensFit link.buffer)
    (λ room. let less = ltb-true (length link.buffer) BUFFER_TOKENS room in more_fit link.buffer (t ∷ []) (omega (arith, less)) (is, tt) h)
    (λ no. h)

credit_range : (slot : Slot) (credit : Bool) (link : LinkRec) → TokensFit link.buffer → TokensFit (credit_arrives slot credit link).buffer
credit_range slot credit link h = by (credit && nat_lt (length link.credited) (length link.sent))
  where
    by : (test : Bool) → TokensFit (if test then record link { credited = link.credited ++ slot ∷ [] } else link).buffer
    by true = h
    by false = h

arrived_range : (slot : Slot) (token : Option Token) (credit : Bool) (link : Option LinkRec) → SentFits token → LinkRange link → LinkRange (link_after_arrivals slot token credit link)
arrived_range slot token credit None is h = tt
arrived_range slot token credit (Some link) is h = credit_range slot credit (token_arrives token link) (token_range_of token link is h)

all_arrived : (slot : Slot) (tokens : List (Option Token)) (credits : List Bool) (n : ℕ) (links : List (Option LinkRec)) → AllByRecursion SentFits tokens → AllByRecursion LinkRange links → AllByRecursion LinkRange (links_after_arrivals slot tokens credits n links)
unfolding links_after_arrivals
all_arrived slot tokens credits n [] is all = tt
all_arrived slot tokens credits n (link ∷ links) is all = (
  arrived_range slot (get_or tokens n None) (get_or credits n false) link (all_at SentFits None tt tokens n is) all.0,
  all_arrived slot tokens credits (n + 1) links is all.1,
)

many_arrived : (slot : Slot) (tokens : List (Option Token)) (credits : List Bool) (n : ℕ) (links : List (Option LinkRec)) → length (links_after_arrivals slot tokens credits n links) ≡ length links
unfolding links_after_arrivals
many_arrived slot tokens credits n [] = refl
many_arrived slot tokens credits n (link ∷ links) = ap suc (many_arrived slot tokens credits (n + 1) links)

pub links_range : (slot : Slot) (tokens : List (Option Token)) (credits : List Bool) (links : List (Option LinkRec)) → AllByRecursion SentFits tokens → AreSuch LinkRange 8 links → AreSuch LinkRange 8 (links_after_arrivals slot tokens credits 0 links)
links_range slot tokens credits links is h = record {
  count = many_arrived slot tokens credits 0 links ∙ h.count;
  each = all_arrived slot tokens credits 0 links is h.each;
}
