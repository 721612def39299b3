-- Networks of link ends and of channel ends, worked out by hand: slots of the switch of node 1, and of channel end 0 of node 3.
use Rattle.std.specs.Prelude.{ℕ, ◌≡◌, true, false, Some, None, List, [], ◌∷◌, replicate}
use Rattle.xs_base.specs.declared.token.Token.TheVariants.{Byte, Ctrl}
use Rattle.xs_base.specs.Ids.{chan_id}
use Rattle.xs_model.specs.declared.event.Happen.TheVariants as happen
use Rattle.xs_model.specs.Record.{NodeRec, ChanRec, Idle, Head2, Want, Local, Out, Lost, unused_chan}
use Rattle.xs_instructions.specs.declared.instr.Instr.{Instr}
use Rattle.xs_instructions.specs.declared.instr.Instr.TheVariants.{Resources}
use Rattle.xs_instructions.specs.declared.instr.ResIns.TheVariants as resources
use Rattle.net_model.specs.Chans.{got_chan}
use Rattle.net_model.specs.Ways.{Here, Behind, way_to}
use Rattle.net_model.specs.Switch.{Routes, state_at, with_state, node_with_chan}
use Rattle.worked_machine.specs.Pair.{switched}
use Rattle.worked_machine.specs.SwitchSteps.{to, sends}
use Rattle.worked_machine.specs.Routes.{eight_ways, routes, node, no_chans, three_tokens}
use Rattle.worked_machine.specs.Slots.{start_as}
use Rattle.worked_machine.specs.Syncs.{freer_0}
use Rattle.worked_machine.specs.Channels.{with_chan_0, own_id, own_word, far_id, far_chan, two_words, thread_in_1, chan_in_1, events_in_1, traps_in_1, setd_01, outct_end, chkct_end}
use Rattle.worked_machine.specs.Tokens.{went_on, refused, with_lock_0, lock_id, free}

-- ---- The way is that of the link ends of the packet's network

-- link ends 0 to 7 are of the networks 0 to 3, and then of 0 to 3 again
abbrev pub nets_twice : List ℕ
nets_twice = 0 ∷ 1 ∷ 2 ∷ 3 ∷ 0 ∷ 1 ∷ 2 ∷ 3 ∷ []

-- all link ends lead on for bit 0, and the lower four for bit 1
abbrev pub many_ways : List ℕ
many_ways = 255 ∷ 15 ∷ replicate 14 0

pub record WorkedWaysByNet : Type 0 where
  -- to the node itself the network says nothing
  pub itself : way_to 5 eight_ways nets_twice 3 5 ≡ Here
  -- bit k leads to link end k
  pub end_0 : way_to 5 eight_ways nets_twice 0 4 ≡ Behind 1
  pub not_end_0 : way_to 5 eight_ways nets_twice 1 4 ≡ Behind 0
  pub end_7 : way_to 5 eight_ways nets_twice 3 0xfa ≡ Behind 128
  pub not_end_7 : way_to 5 eight_ways nets_twice 2 0xfa ≡ Behind 0
  -- two of eight, and one of four
  pub of_0 : way_to 5 many_ways nets_twice 0 4 ≡ Behind 17
  pub of_1 : way_to 5 many_ways nets_twice 1 4 ≡ Behind 34
  pub of_2 : way_to 5 many_ways nets_twice 2 4 ≡ Behind 68
  pub of_3 : way_to 5 many_ways nets_twice 3 4 ≡ Behind 136
  pub lower_of_2 : way_to 5 many_ways nets_twice 2 7 ≡ Behind 4
  -- a lower bit's link ends do not lead on, though they are of the network
  pub highest_bit_alone : way_to 5 (255 ∷ replicate 15 0) nets_twice 0 6 ≡ Behind 0
  -- where all are of network 0, that network has all ways, and another has none
  pub all_of_0 : way_to 5 many_ways (replicate 8 0) 0 4 ≡ Behind 255
  pub none_of_2 : way_to 5 many_ways (replicate 8 0) 2 4 ≡ Behind 0

-- ---- Node 1, whose link ends 0 to 2 are of networks 2, 3 and 1. Link ends 1 and 2 lead to node 3.

abbrev pub with_nets : Routes
with_nets = record routes { nets = 2 ∷ 3 ∷ 1 ∷ replicate 5 0 }

-- one slot there
abbrev pub in_slot : ℕ → NodeRec → NodeRec
in_slot slot rec = (switched with_nets slot rec).rec

-- at each link end a byte waits that ends a header: the other bytes were 2 and 1
abbrev pub headers : NodeRec
headers = with_state (with_state (with_state (node (Byte 9 ∷ []) (Byte 8 ∷ []) (Byte 7 ∷ []) no_chans) 0 (Head2 2 1)) 1 (Head2 2 1)) 2 (Head2 2 1)

-- a header waits at link end 1, and a byte behind it
abbrev pub whole_header : NodeRec
whole_header = node [] (Byte 2 ∷ Byte 1 ∷ Byte 9 ∷ Byte 5 ∷ []) [] no_chans

-- a channel end of a network with a byte to channel end 4 of node 3
abbrev pub sends_by : ℕ → ChanRec
sends_by net = record (sends (Byte 7 ∷ []) (chan_id 3 4)) { net = net }

-- channel ends of networks 3, 1 and 3 would send; other packets hold link ends 1 and 2
abbrev pub both_held : NodeRec
both_held = with_state (with_state (node [] [] [] (sends_by 3 ∷ sends_by 1 ∷ sends_by 3 ∷ [])) 0 (Out 1 3 (to 3 5))) 1 (Out 2 3 (to 3 6))

-- the packet that holds link end 1 is over
abbrev pub end_1_is_free : NodeRec → NodeRec
end_1_is_free rec = with_state rec 0 Idle

-- and the one that holds link end 2
abbrev pub end_2_is_free : NodeRec → NodeRec
end_2_is_free rec = with_state rec 1 Idle

-- channel end 0 is of another network from now on
abbrev pub chan_0_of : ℕ → NodeRec → NodeRec
chan_0_of net rec = node_with_chan rec 0 (sends_by net)

-- 513 is 2 * 256 + 1
pub record WorkedPackets : Type 0 where
  -- with the last byte of its header a packet wants to go by the network of the link that it came by
  pub by_link_0 : state_at (in_slot 100 headers) 0 ≡ Want (to 513 9) 2
  pub by_link_1 : state_at (in_slot 100 headers) 1 ≡ Want (to 513 8) 3
  pub by_link_2 : state_at (in_slot 100 headers) 2 ≡ Want (to 513 7) 1
  pub second_byte : state_at (in_slot 101 (in_slot 100 whole_header)) 1 ≡ Head2 2 1
  pub third_byte : state_at (in_slot 102 (in_slot 101 (in_slot 100 whole_header))) 1 ≡ Want (to 513 9) 3
  -- that of a channel end wants to go by the network of the channel end, and waits with it
  pub by_chan_0 : state_at (in_slot 100 both_held) 8 ≡ Want (to 3 4) 3
  pub by_chan_1 : state_at (in_slot 100 both_held) 9 ≡ Want (to 3 4) 1
  pub by_chan_2 : state_at (in_slot 100 both_held) 10 ≡ Want (to 3 4) 3
  pub still_waits : state_at (in_slot 101 (in_slot 100 both_held)) 8 ≡ Want (to 3 4) 3
  -- the channel end's network is set anew: the packet that waits goes by the one with which it began
  pub waits_by_the_old : state_at (in_slot 101 (chan_0_of 1 (in_slot 100 both_held))) 8 ≡ Want (to 3 4) 3
  pub not_by_the_new : state_at (in_slot 101 (chan_0_of 1 (end_2_is_free (in_slot 100 both_held)))) 8 ≡ Want (to 3 4) 3
  pub goes_by_the_old : state_at (in_slot 101 (chan_0_of 1 (end_1_is_free (in_slot 100 both_held)))) 8 ≡ Out 1 1 (to 3 4)
  -- a packet that begins after it goes by the new one
  pub next_by_the_new : state_at (in_slot 101 (chan_0_of 1 (with_state (end_2_is_free (in_slot 100 both_held)) 8 Idle))) 8 ≡ Out 2 1 (to 3 4)

-- ---- Two networks between two nodes: link end 1, of network 3, and link end 2, of network 1, lead to node 3

-- these networks are those of three channel ends that would send there
abbrev pub sending : ℕ → ℕ → ℕ → NodeRec
sending zeroth first second = node [] [] [] (sends_by zeroth ∷ sends_by first ∷ sends_by second ∷ [])

-- a packet came by link end 0, of network 2, and one by link end 2, of network 1: they want to go to node 3
abbrev pub come_by : NodeRec
come_by = with_state (with_state (node (Byte 9 ∷ []) [] (Byte 8 ∷ []) no_chans) 0 (Want (to 3 4) 2)) 2 (Want (to 3 5) 1)

-- the same slot where all link ends are of network 0
abbrev pub in_slot_of_0 : ℕ → NodeRec → NodeRec
in_slot_of_0 slot rec = (switched routes slot rec).rec

-- channel end 1 of network 3 sends to channel end 2 of its own node
abbrev pub to_own_node : NodeRec
to_own_node = node [] [] [] (unused_chan ∷ record (sends (Byte 7 ∷ []) (chan_id 1 2)) { net = 3 } ∷ got_chan ∷ [])

pub record WorkedTwoNets : Type 0 where
  -- each goes by its own link end, also where the lower one is free
  pub the_upper : state_at (in_slot 100 (sending 1 3 2)) 8 ≡ Out 2 1 (to 3 4)
  pub the_lower : state_at (in_slot 100 (sending 1 3 2)) 9 ≡ Out 1 1 (to 3 4)
  pub both_headers : (switched with_nets 100 (sending 1 3 2)).tokens ≡ three_tokens None (Some (Byte 0)) (Some (Byte 0))
  -- none of network 2 leads there, though link end 0 is of it: the packet is lost
  pub no_way : state_at (in_slot 100 (sending 1 3 2)) 10 ≡ Lost
  pub loss_told : (switched with_nets 100 (sending 1 3 2)).happened ≡ happen.Lost (chan_id 3 4) ∷ []
  -- the second of a network waits, though the other network's link end is free
  pub goes_first : state_at (in_slot 100 (sending 3 3 3)) 8 ≡ Out 1 1 (to 3 4)
  pub waits : state_at (in_slot 100 (sending 3 3 3)) 9 ≡ Want (to 3 4) 3
  -- on a later hop a packet goes by the network of the link that it came by: that of network 2 has no way, that of network 1 has
  pub on_by_none : state_at (in_slot 100 come_by) 0 ≡ Lost
  pub on_by_1 : state_at (in_slot 100 come_by) 2 ≡ Out 2 1 (to 3 5)
  -- where all link ends are of network 0, a packet of another network is lost
  pub by_0 : state_at (in_slot_of_0 100 (sending 0 2 0)) 8 ≡ Out 1 1 (to 3 4)
  pub by_2 : state_at (in_slot_of_0 100 (sending 0 2 0)) 9 ≡ Lost
  -- but not to a channel end of its own node
  pub own_node : state_at (in_slot_of_0 100 to_own_node) 9 ≡ Local 2
  pub own_node_with_nets : state_at (in_slot 100 to_own_node) 9 ≡ Local 2

-- ---- Channel end 0 of node 3, of network 3

abbrev pub of_3 : ChanRec → ChanRec
of_3 chan = record chan { net = 3 }

-- getr r0, 2
abbrev pub getr_chan : Instr
getr_chan = Resources (resources.Getr 0 2)

-- after an instruction on it in slot 1
abbrev pub left_by : Instr → ChanRec → ChanRec
left_by ins chan = chan_in_1 ins (with_chan_0 (start_as own_word) (of_3 chan))

pub record WorkedChanNets : Type 0 where
  -- it is freed and forgets its destination, but not its network
  pub freed : left_by freer_0 (far_chan [] []) ≡ record { used = false; net = 3; dest = None; output = []; input = [] }
  -- it is got with network 0, whatever it kept
  pub got : left_by getr_chan unused_chan ≡ record { used = true; net = 0; dest = None; output = []; input = [] }
  -- the other rows leave it
  pub dest_set : chan_in_1 setd_01 (two_words own_id far_id (of_3 got_chan)) ≡ of_3 (far_chan [] [])
  pub put : left_by outct_end (far_chan [] []) ≡ of_3 (far_chan (Ctrl 1 ∷ []) [])
  pub taken : left_by chkct_end (far_chan [] (Ctrl 1 ∷ Byte 5 ∷ [])) ≡ of_3 (far_chan [] (Byte 5 ∷ []))

-- setn res[r0], r1
abbrev pub setn_01 : Instr
setn_01 = Resources (resources.Setn 0 1)

pub record WorkedSetn : Type 0 where
  pub is_set : chan_in_1 setn_01 (two_words own_id 3 (far_chan (Byte 5 ∷ []) (Ctrl 1 ∷ []))) ≡ of_3 (far_chan (Byte 5 ∷ []) (Ctrl 1 ∷ []))
  pub goes_on : thread_in_1 setn_01 (two_words own_id 3 got_chan) ≡ went_on own_id 3
  pub again : chan_in_1 setn_01 (two_words own_id 0 (of_3 got_chan)) ≡ got_chan
  -- 4 is no network, and neither is a word whose low byte would be one: the trap's data is the identifier of the channel end,
  -- whose network stays
  pub net_4 : events_in_1 setn_01 (two_words own_id 4 (of_3 got_chan)) ≡ traps_in_1 4 own_id
  pub net_4_keeps : chan_in_1 setn_01 (two_words own_id 4 (of_3 got_chan)) ≡ of_3 got_chan
  pub net_256 : events_in_1 setn_01 (two_words own_id 256 got_chan) ≡ traps_in_1 4 own_id
  pub greatest : events_in_1 setn_01 (two_words own_id 0xffffffff got_chan) ≡ traps_in_1 4 own_id
  -- channel end 0 or 1 is not in use, node 3 has no channel end 32, and the others are none of node 3
  pub not_in_use : events_in_1 setn_01 (two_words own_id 2 (of_3 unused_chan)) ≡ refused
  pub not_in_use_keeps : chan_in_1 setn_01 (two_words own_id 2 (of_3 unused_chan)) ≡ of_3 unused_chan
  pub unused : events_in_1 setn_01 (two_words 0x00030102 1 got_chan) ≡ traps_in_1 4 0x00030102
  pub chan_32 : events_in_1 setn_01 (two_words 0x00032002 1 got_chan) ≡ traps_in_1 4 0x00032002
  pub other_node : events_in_1 setn_01 (two_words far_id 1 got_chan) ≡ traps_in_1 4 far_id
  pub other_kind : events_in_1 setn_01 (two_words 0x00030001 1 got_chan) ≡ traps_in_1 4 0x00030001
  pub no_number : events_in_1 setn_01 (two_words 0 1 got_chan) ≡ traps_in_1 4 0
  -- nor has a lock that is in use a network
  pub lock : events_in_1 setn_01 (with_lock_0 lock_id free) ≡ traps_in_1 4 lock_id

-- getn r1, res[r0]
abbrev pub getn_10 : Instr
getn_10 = Resources (resources.Getn 1 0)

pub record WorkedGetn : Type 0 where
  pub told : thread_in_1 getn_10 (two_words own_id 7 (of_3 (far_chan [] []))) ≡ went_on own_id 3
  pub net_0 : thread_in_1 getn_10 (two_words own_id 7 got_chan) ≡ went_on own_id 0
  pub over_its_name : thread_in_1 (Resources (resources.Getn 0 0)) (two_words own_id 7 (of_3 got_chan)) ≡ went_on 3 7
  pub stays : chan_in_1 getn_10 (two_words own_id 7 (of_3 (far_chan [] []))) ≡ of_3 (far_chan [] [])
  -- what is freed keeps its network, but tells it no more
  pub not_in_use : events_in_1 getn_10 (two_words own_id 7 (of_3 unused_chan)) ≡ refused
  pub chan_32 : events_in_1 getn_10 (two_words 0x00032002 7 got_chan) ≡ traps_in_1 4 0x00032002
  pub other_node : events_in_1 getn_10 (two_words far_id 7 got_chan) ≡ traps_in_1 4 far_id
  pub other_kind : events_in_1 getn_10 (two_words 0x00030001 7 got_chan) ≡ traps_in_1 4 0x00030001
  pub lock : events_in_1 getn_10 (with_lock_0 lock_id free) ≡ traps_in_1 4 lock_id

pub record WorkedNets : Type 0 where
  pub ways : WorkedWaysByNet
  pub packets : WorkedPackets
  pub two_nets : WorkedTwoNets
  pub chan_ends : WorkedChanNets
  pub setn : WorkedSetn
  pub getn : WorkedGetn
