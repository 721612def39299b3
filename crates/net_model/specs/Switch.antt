-- The switch of a node: one step of each of its 40 inputs in a slot, link ends 0 to 7 and then channel ends 0 to 31.
-- Six rules say what an input does, each by the state that the input is in.
use Rattle.std.specs.Prelude.{ℕ, zero, suc, ◌+◌, ◌-◌, ◌*◌, ◌/◌, ◌%◌, Bool, true, false, ◌&&◌, ◌||◌, not, ◌==◌, nat_lt, if◌then◌else◌, Option, Some, None, List, [], ◌∷◌, ◌++◌, drop, slice_index, slice_index_or, slice_set}
use Rattle.std.specs.List.{list_any}
use Rattle.std.specs.Int.{bit_at}
use Rattle.xs_base.specs.Numbers.{Slot, NodeId, ChanNumber, EndNumber, InputNumber, Identifier}
use Rattle.xs_base.specs.declared.numbers.TheConstants.{LINK_ENDS, CHAN_ENDS, INPUTS, HEADER_BYTES, END, PAUSE}
use Rattle.xs_base.specs.declared.token.Token.{Token}
use Rattle.xs_base.specs.declared.token.Token.TheVariants.{Byte, Ctrl}
use Rattle.xs_model.specs.declared.dest.Dest.{Dest}
use Rattle.xs_model.specs.declared.event.Happen.TheVariants as happen
use Rattle.xs_model.specs.Dests.{dest_of, id_of}
use Rattle.xs_model.specs.Record.{NodeRec, LinkRec, ChanRec, InputRec, Idle, Head1, Head2, Want, Local, Out, Lost, chan_of, with_chan}
use Rattle.xs_model.specs.AtWork.{AtWork, it_happens}
use Rattle.xs_model.specs.Waits.{has_room}
use Rattle.net_model.specs.Ways.{Way, Here, Behind, way_to}
use Rattle.net_model.specs.Links.{may_send}

-- what the switch knows of its node's plan
pub record Routes : Type 0 where
  pub id : NodeId
  pub ways : List ℕ  -- 16: for each bit of an id, the link ends that lead on, as a mask
  pub nets : List ℕ  -- 8: for each link end the network of its link, 0 to 3, and 0 where there is no such link end
  pub gaps : List ℕ  -- 8: for each link end its gap in slots, 0 where there is no such link end

-- ---- The inputs and what they hold

-- the network of a link end's link
abbrev pub net_of_end : Routes → EndNumber → ℕ
net_of_end routes end = slice_index routes.nets end

-- the first inputs are those of the link ends
abbrev pub is_link_input : InputNumber → Bool
is_link_input i = nat_lt i LINK_ENDS

-- the channel end of one of the others, and the input of a channel end
abbrev pub chan_of_input : InputNumber → ChanNumber
chan_of_input i = i - LINK_ENDS

abbrev pub input_of_chan : ChanNumber → InputNumber
input_of_chan n = LINK_ENDS + n

abbrev pub link_at : NodeRec → EndNumber → Option LinkRec
link_at rec end = slice_index_or rec.links end None

abbrev pub buffer_of_link : Option LinkRec → List Token
buffer_of_link None = []
buffer_of_link (Some link) = link.buffer

-- the tokens that wait at an input
abbrev pub waiting_at : NodeRec → InputNumber → List Token
waiting_at rec i = if is_link_input i then buffer_of_link (link_at rec i) else (chan_of rec.core (chan_of_input i)).output

abbrev pub state_at : NodeRec → InputNumber → InputRec
state_at rec i = slice_index_or rec.inputs i Idle

abbrev pub with_state : NodeRec → InputNumber → InputRec → NodeRec
with_state rec i state = record rec { inputs = slice_set rec.inputs i state }

abbrev pub to_state : InputNumber → InputRec → AtWork → AtWork
to_state i state m = record m { rec = with_state m.rec i state }

abbrev pub is_idle : InputRec → Bool
is_idle Idle = true
is_idle _ = false

abbrev pub is_local_to : ChanNumber → InputRec → Bool
is_local_to n (Local chan) = chan == n
is_local_to n _ = false

abbrev pub is_out_by : EndNumber → InputRec → Bool
is_out_by e (Out end headers dest) = end == e
is_out_by e _ = false

-- whether some input holds a channel end, or a link end
abbrev pub chan_is_held : NodeRec → ChanNumber → Bool
chan_is_held rec n = list_any (is_local_to n) rec.inputs

abbrev pub end_is_held : NodeRec → EndNumber → Bool
end_is_held rec e = list_any (is_out_by e) rec.inputs

-- whether a channel end is at work: its own input is not idle, or some input holds it
abbrev pub is_busy_among : List InputRec → ChanNumber → Bool
is_busy_among inputs n = not (is_idle (slice_index_or inputs (input_of_chan n) Idle)) || list_any (is_local_to n) inputs

abbrev pub chan_is_busy : NodeRec → ChanNumber → Bool
chan_is_busy rec n = is_busy_among rec.inputs n

-- the lowest of the link ends from end on, of so many, that is in the mask and free
unfoldable pub free_end : NodeRec → ℕ → EndNumber → ℕ → Option EndNumber
free_end rec mask end zero = None
free_end rec mask end (suc count) =
    if (bit_at mask end == 1) && not (end_is_held rec end) then Some end else free_end rec mask (end + 1) count

-- ---- What the rules are made of

abbrev pub node_with_chan : NodeRec → ChanNumber → ChanRec → NodeRec
node_with_chan rec n chan = record rec { core = with_chan rec.core n chan }

abbrev pub link_without_first : Option LinkRec → Option LinkRec
link_without_first None = None
link_without_first (Some link) = Some (record link { buffer = drop 1 link.buffer })

abbrev pub chan_without_first : ChanRec → ChanRec
chan_without_first chan = record chan { output = drop 1 chan.output }

-- The first token that waits at an input is taken. Where it leaves a link end's buffer, a credit leaves by that end.
abbrev pub take_first : InputNumber → AtWork → AtWork
take_first i m =
    if is_link_input i
    then record m {
      rec = record m.rec { links = slice_set m.rec.links i (link_without_first (link_at m.rec i)) };
      credits = slice_set m.credits i true;
    }
    else record m {
      rec = node_with_chan m.rec (chan_of_input i) (chan_without_first (chan_of m.rec.core (chan_of_input i)));
    }

-- END and PAUSE end a packet
abbrev pub ends_packet : Token → Bool
ends_packet (Byte b) = false
ends_packet (Ctrl c) = (c == END) || (c == PAUSE)

abbrev pub is_pause : Token → Bool
is_pause (Byte b) = false
is_pause (Ctrl c) = c == PAUSE

-- an input's state after a token of its packet
abbrev pub after_token : InputNumber → InputRec → Token → AtWork → AtWork
after_token i state t m = to_state i (if ends_packet t then Idle else state) m

-- a packet that has no way is lost
abbrev pub loses : InputNumber → Dest → AtWork → AtWork
loses i dest m = it_happens (happen.Lost (id_of dest)) (to_state i Lost m)

abbrev pub put_into : ChanNumber → Token → AtWork → AtWork
put_into n t m = record m {
  rec = node_with_chan m.rec n (record (chan_of m.rec.core n) { input = (chan_of m.rec.core n).input ++ t ∷ [] });
}

abbrev pub sent_in : Slot → Option LinkRec → Option LinkRec
sent_in slot None = None
sent_in slot (Some link) = Some (record link { sent = link.sent ++ slot ∷ [] })

-- a token leaves by a link end
abbrev pub send : Slot → EndNumber → Token → AtWork → AtWork
send slot e t m = record m {
  rec = record m.rec { links = slice_set m.rec.links e (sent_in slot (link_at m.rec e)) };
  tokens = slice_set m.tokens e (Some t);
}

abbrev pub end_may_send : Routes → Slot → EndNumber → Option LinkRec → Bool
end_may_send routes slot e None = false
end_may_send routes slot e (Some link) = may_send (slice_index routes.gaps e) slot link

-- ---- Rule 1. An idle channel end at which tokens wait begins a packet: it wants to go to its destination by its network, and
-- goes on at once by rule 3, which is given as `onward`. Where there is no destination, nothing begins.

abbrev pub start_packet : (Dest → ℕ → AtWork → AtWork) → InputNumber → ℕ → Option Identifier → AtWork → AtWork
start_packet onward i net None m = m
start_packet onward i net (Some id) m = onward (dest_of id) net (to_state i (Want (dest_of id) net) m)

abbrev pub packet_step : (Dest → ℕ → AtWork → AtWork) → InputNumber → List Token → AtWork → AtWork
packet_step onward i [] m = m
packet_step onward i (t ∷ rest) m =
    let chan = chan_of m.rec.core (chan_of_input i) in start_packet onward i chan.net chan.dest m

-- ---- Rule 2. A link end that is idle or within a header takes the token that waits: the three bytes of a header are
-- the high and the low byte of a node's id, and the number of a channel end there. It wants to go there by the network of
-- its link. A control token in the place of a header byte is dropped.

-- the state of a link end, whose link has this network, after one more header byte
abbrev pub after_header : ℕ → InputRec → ℕ → InputRec
after_header net Idle b = Head1 b
after_header net (Head1 high) b = Head2 high b
after_header net (Head2 high low) b = Want (record { node = high * 256 + low; chan = b }) net
after_header net state b = state

abbrev pub head_token : Routes → InputNumber → InputRec → Token → AtWork → AtWork
head_token routes i state (Byte b) m = to_state i (after_header (net_of_end routes i) state b) (take_first i m)
head_token routes i state (Ctrl c) m = take_first i m

abbrev pub head_step : Routes → InputNumber → InputRec → List Token → AtWork → AtWork
head_step routes i state [] m = m
head_step routes i state (t ∷ rest) m = head_token routes i state t m

-- ---- Rule 3. An input that wants to go to a destination by a network looks for the way there. It goes on at once by rule 4
-- where it holds a channel end of this node, and by rule 5 where it holds a link end; they are given as `onward`.

-- to a channel end of this node: it is held from now on, unless another input holds it
abbrev pub want_chan : (ChanNumber → AtWork → AtWork) → InputNumber → Dest → AtWork → AtWork
want_chan onward i dest m =
    if not (nat_lt dest.chan CHAN_ENDS) || not (chan_of m.rec.core dest.chan).used then loses i dest m
    else (if chan_is_held m.rec dest.chan then m else onward dest.chan (to_state i (Local dest.chan) m))

-- to another node: a link end is held from now on, where one is free
abbrev pub hold_end : (EndNumber → AtWork → AtWork) → InputNumber → Dest → Option EndNumber → AtWork → AtWork
hold_end onward i dest None m = m
hold_end onward i dest (Some e) m = onward e (to_state i (Out e 0 dest) m)

-- behind some link ends: the lowest one that is free
abbrev pub want_end : (EndNumber → AtWork → AtWork) → InputNumber → ℕ → Dest → AtWork → AtWork
want_end onward i mask dest m =
    if mask == 0 then loses i dest m else hold_end onward i dest (free_end m.rec mask 0 LINK_ENDS) m

-- ---- Rule 4. An input that holds a channel end puts the token that waits into the channel end's input buffer, where
-- it has room. PAUSE is dropped. END and PAUSE end the packet.

abbrev pub deliver : InputNumber → ChanNumber → Token → AtWork → AtWork
deliver i n t m =
    if is_pause t then after_token i (Local n) t (take_first i m)
    else (if has_room 1 (chan_of m.rec.core n).input
    then after_token i (Local n) t (it_happens (happen.Chan n t) (put_into n t (take_first i m)))
    else m)

abbrev pub local_step : InputNumber → ChanNumber → List Token → AtWork → AtWork
local_step i n [] m = m
local_step i n (t ∷ rest) m = deliver i n t m

-- ---- Rule 5. An input that holds a link end sends, where the link end may: first the three header bytes of the
-- destination, then the tokens that wait. END and PAUSE end the packet.

-- the header byte with this number: the high and the low byte of the node's id, and the channel end's number
abbrev pub header_byte : Dest → ℕ → ℕ
header_byte dest zero = dest.node / 256
header_byte dest (suc zero) = dest.node % 256
header_byte dest (suc (suc k)) = dest.chan

abbrev pub out_token : Slot → InputNumber → EndNumber → ℕ → Dest → List Token → AtWork → AtWork
out_token slot i e headers dest [] m = m
out_token slot i e headers dest (t ∷ rest) m = after_token i (Out e headers dest) t (send slot e t (take_first i m))

-- the count of header bytes that went out is 0 to 3
abbrev pub out_step : Routes → Slot → InputNumber → EndNumber → ℕ → Dest → AtWork → AtWork
out_step routes slot i e headers dest m =
    if end_may_send routes slot e (link_at m.rec e)
    then (if nat_lt headers HEADER_BYTES
    then to_state i (Out e (headers + 1) dest) (send slot e (Byte (header_byte dest headers)) m)
    else out_token slot i e headers dest (waiting_at m.rec i) m)
    else m

-- ---- Rule 6. An input whose packet is lost drops the token that waits, up to END or PAUSE.

abbrev pub lost_step : InputNumber → List Token → AtWork → AtWork
lost_step i [] m = m
lost_step i (t ∷ rest) m = after_token i Lost t (take_first i m)

-- ---- The step of an input

-- rule 3, and rule 4 or 5 after it
abbrev pub want_way : Routes → Slot → InputNumber → Dest → Way → AtWork → AtWork
want_way routes slot i dest Here m = want_chan (λ n m. local_step i n (waiting_at m.rec i) m) i dest m
want_way routes slot i dest (Behind mask) m = want_end (λ e m. out_step routes slot i e 0 dest m) i mask dest m

-- a packet goes by the way towards its destination, on its network
abbrev pub want_step : Routes → Slot → InputNumber → Dest → ℕ → AtWork → AtWork
want_step routes slot i dest net m =
    want_way routes slot i dest (way_to routes.id routes.ways routes.nets net dest.node) m

abbrev pub idle_step : Routes → Slot → InputNumber → List Token → AtWork → AtWork
idle_step routes slot i tokens m =
    if is_link_input i then head_step routes i Idle tokens m else packet_step (want_step routes slot i) i tokens m

-- only a link end has headers to take
abbrev pub link_head_step : Routes → InputNumber → InputRec → AtWork → AtWork
link_head_step routes i state m = if is_link_input i then head_step routes i state (waiting_at m.rec i) m else m

abbrev pub step_at : Routes → Slot → InputNumber → InputRec → AtWork → AtWork
step_at routes slot i Idle m = idle_step routes slot i (waiting_at m.rec i) m
step_at routes slot i (Head1 high) m = link_head_step routes i (Head1 high) m
step_at routes slot i (Head2 high low) m = link_head_step routes i (Head2 high low) m
step_at routes slot i (Want dest net) m = want_step routes slot i dest net m
step_at routes slot i (Local n) m = local_step i n (waiting_at m.rec i) m
step_at routes slot i (Out e headers dest) m = out_step routes slot i e headers dest m
step_at routes slot i Lost m = lost_step i (waiting_at m.rec i) m

abbrev pub input_step : Routes → Slot → InputNumber → AtWork → AtWork
input_step routes slot i m = step_at routes slot i (state_at m.rec i) m

-- the steps of so many inputs, from number i on
unfoldable pub moves_from : Routes → Slot → InputNumber → ℕ → AtWork → AtWork
moves_from routes slot i zero m = m
moves_from routes slot i (suc count) m = moves_from routes slot (i + 1) count (input_step routes slot i m)

-- Phase 3 of a slot: one step of each of the inputs.
abbrev pub moves : Routes → Slot → AtWork → AtWork
moves routes slot m = moves_from routes slot 0 INPUTS m
