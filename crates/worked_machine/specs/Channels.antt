-- Slots with channel ends and a link end, worked out by hand: node 3, whose link end 0 leads to every other node, with a
-- gap of 4 slots.
use Rattle.std.specs.Prelude.{ℕ, zero, suc, ◌≡◌, ◌+◌, Bool, true, false, Option, Some, None, List, [], ◌∷◌, ◌++◌, replicate, slice_index_or}
use Rattle.xs_base.specs.declared.token.Token.{Token}
use Rattle.xs_base.specs.declared.token.Token.TheVariants.{Byte, Ctrl}
use Rattle.xs_model.specs.declared.thread.Thread.{Thread}
use Rattle.xs_model.specs.declared.thread.Run.TheVariants.{Paused}
use Rattle.xs_model.specs.declared.thread.Wait.{Wait}
use Rattle.xs_model.specs.declared.thread.Wait.TheVariants.{Room, Tokens, Divider}
use Rattle.xs_model.specs.declared.event.Event.{Event}
use Rattle.xs_model.specs.declared.event.Happen.TheVariants as happen
use Rattle.xs_model.specs.declared.outside.Arrivals.{Arrivals}
use Rattle.xs_model.specs.Record.{NodeRec, ChanRec, LinkRec, InputRec, Idle, Head1, Local, Out, first_node, unused_chan, thread_of, chan_of, never_divided}
use Rattle.xs_model.specs.Dests.{dest_of}
use Rattle.xs_model.specs.Outside.{emitted_events, in_slot, low_pins}
use Rattle.xs_instructions.specs.declared.instr.Instr.{Instr}
use Rattle.xs_instructions.specs.declared.instr.Instr.TheVariants.{Words, Memory, Resources}
use Rattle.xs_instructions.specs.declared.instr.WordIns.TheVariants as words
use Rattle.xs_instructions.specs.declared.instr.MemIns.TheVariants as memory
use Rattle.xs_instructions.specs.declared.instr.ResIns.TheVariants as resources
use Rattle.net_model.specs.Chans.{got_chan}
use Rattle.net_model.specs.Links.{fresh_link}
use Rattle.net_model.specs.Switch.{state_at, with_state, link_at}
use Rattle.worked_machine.specs.SwitchSteps.{eight_bytes}
use Rattle.step_model.specs.Fixed.{Fixed}
use Rattle.step_model.specs.Step.{Stepped, node_step}
use Rattle.worked_machine.specs.Slots.{no_arrivals, idle, start, first, start_as, with_three, three_and_zeros, one_nop}

-- node 3, with this code
abbrev pub node_3 : List Instr → Fixed
node_3 code = record { edition = 1; code = code; routes = record { id = 3; ways = replicate 16 1; nets = replicate 8 0; gaps = 4 ∷ replicate 7 0 } }

abbrev pub quiet_slot : List Instr → NodeRec → ℕ → Stepped
quiet_slot code rec slot = node_step (node_3 code) rec slot no_arrivals low_pins

-- the node after so many slots, from a slot on
abbrev pub after_from : List Instr → NodeRec → ℕ → ℕ → NodeRec
after_from code rec slot zero = rec
after_from code rec slot (suc count) = (quiet_slot code (after_from code rec slot count) (slot + count)).rec

-- a node with these for channel end 0, for link end 0 and for the state of the channel end's input
abbrev pub with_network : NodeRec → ChanRec → LinkRec → InputRec → NodeRec
with_network rec chan link state = with_state (record rec {
  core = record rec.core { chans = chan ∷ replicate 31 unused_chan };
  links = Some link ∷ replicate 7 None;
}) 8 state

-- nothing is on its way
abbrev pub with_chan_0 : NodeRec → ChanRec → NodeRec
with_chan_0 rec chan = with_network rec chan fresh_link Idle

-- a token was sent in slot 0, and has no credit yet
abbrev pub sent_in_0 : LinkRec
sent_in_0 = record fresh_link { sent = 0 ∷ [] }

-- the identifiers of channel end 0 of node 3 and of channel end 0 of node 5
abbrev pub own_id : ℕ
own_id = 0x00030002

abbrev pub far_id : ℕ
far_id = 0x00050002

-- a channel end that sends to node 5, with these tokens in its two buffers
abbrev pub far_chan : List Token → List Token → ChanRec
far_chan output input = record { used = true; net = 0; dest = Some far_id; output = output; input = input }

-- thread 0 of a node after slot 1, and channel end 0
abbrev pub thread_in_1 : Instr → NodeRec → Thread
thread_in_1 ins rec = thread_of (quiet_slot (ins ∷ []) rec 1).rec.core 0

abbrev pub chan_in_1 : Instr → NodeRec → ChanRec
chan_in_1 ins rec = chan_of (quiet_slot (ins ∷ []) rec 1).rec.core 0

abbrev pub events_in_1 : Instr → NodeRec → List Event
events_in_1 ins rec = (quiet_slot (ins ∷ []) rec 1).emitted.events

-- the instruction traps in slot 1, and no handler is there
abbrev pub traps_in_1 : ℕ → ℕ → List Event
traps_in_1 number value = in_slot 1 (happen.Trap 0 number 0x00040000 value) ∷ in_slot 1 (happen.Halt 0) ∷ []

abbrev pub getr_twice : List Instr
getr_twice = Resources (resources.Getr 0 2) ∷ Resources (resources.Getr 1 2) ∷ []

abbrev pub getr_port : Instr
getr_port = Resources (resources.Getr 0 0)

abbrev pub getr_timer : Instr
getr_timer = Resources (resources.Getr 0 1)

-- 7 is in r1
abbrev pub seven_in_r1 : NodeRec
seven_in_r1 = start_as (with_three 0 7 0)

pub record WorkedGetr : Type 0 where
  pub first_got : thread_of (after_from getr_twice seven_in_r1 0 1).core 0 ≡ record first { r = three_and_zeros own_id 7 0; pc = 0x00040004 }
  pub is_in_use : (after_from getr_twice seven_in_r1 0 1).core.chans ≡ got_chan ∷ replicate 31 unused_chan
  -- the second is channel end 1
  pub second_got : thread_of (after_from getr_twice seven_in_r1 0 5).core 0 ≡ record first { r = three_and_zeros own_id 0x00030102 0; pc = 0x00040008 }
  pub two_in_use : (after_from getr_twice seven_in_r1 0 5).core.chans ≡ got_chan ∷ got_chan ∷ replicate 30 unused_chan
  -- 0 for a port, which nobody gets; and no channel end is got
  pub of_other_kind : thread_in_1 getr_port (start_as (with_three 7 0 0)) ≡ record first { pc = 0x00040004 }
  pub none_got : (quiet_slot (getr_port ∷ []) start 1).rec.core.chans ≡ replicate 32 unused_chan
  -- timer 0 is got, and no channel end
  pub timer_got : thread_in_1 getr_timer (start_as (with_three 7 0 0)) ≡ record first { r = three_and_zeros 0x001 0 0; pc = 0x00040004 }
  pub timer_alone : (quiet_slot (getr_timer ∷ []) start 1).rec.core.chans ≡ replicate 32 unused_chan

-- setd res[r0], r1
abbrev pub setd_01 : Instr
setd_01 = Resources (resources.Setd 0 1)

-- these words are in r0 and r1, and this is channel end 0
abbrev pub two_words : ℕ → ℕ → ChanRec → NodeRec
two_words a b chan = with_chan_0 (start_as (with_three a b 0)) chan

pub record WorkedSetd : Type 0 where
  pub is_set : chan_in_1 setd_01 (two_words own_id far_id got_chan) ≡ far_chan [] []
  pub goes_on : thread_in_1 setd_01 (two_words own_id far_id got_chan) ≡ record (with_three own_id far_id 0) { pc = 0x00040004 }
  -- it is set anew
  pub again : (chan_in_1 setd_01 (two_words own_id own_id (far_chan [] []))).dest ≡ Some own_id
  -- a low byte of 1: the trap's data is the identifier of the channel end, whose destination stays
  pub low_byte : events_in_1 setd_01 (two_words own_id 0x00050001 (far_chan [] [])) ≡ traps_in_1 4 own_id
  pub low_byte_keeps : chan_in_1 setd_01 (two_words own_id 0x00050001 (far_chan [] [])) ≡ far_chan [] []
  -- channel end 1 is not in use, node 3 has no channel end 32, and the others are none of node 3
  pub unused : events_in_1 setd_01 (two_words 0x00030102 far_id got_chan) ≡ traps_in_1 4 0x00030102
  pub chan_32 : events_in_1 setd_01 (two_words 0x00032002 far_id got_chan) ≡ traps_in_1 4 0x00032002
  pub other_node : events_in_1 setd_01 (two_words far_id far_id got_chan) ≡ traps_in_1 4 far_id
  pub other_kind : events_in_1 setd_01 (two_words 0x00030001 far_id got_chan) ≡ traps_in_1 4 0x00030001
  pub no_number : events_in_1 setd_01 (two_words 0 far_id got_chan) ≡ traps_in_1 4 0

-- outct res[r0], 1
abbrev pub outct_end : Instr
outct_end = Resources (resources.OutctImm 0 1)

-- r0 has channel end 0's identifier
abbrev pub own_word : Thread
own_word = with_three own_id 0 0

-- the channel end sends a packet, whose header is out
abbrev pub header_out : InputRec
header_out = Out 0 3 (dest_of far_id)

-- thread 0 at `outct`, where 8 bytes wait that may go out from slot 4 on
abbrev pub full_node : NodeRec
full_node = with_network (start_as own_word) (far_chan eight_bytes []) sent_in_0 header_out

-- and it waits for room in vain
abbrev pub waits_for_room : NodeRec
waits_for_room = after_from (outct_end ∷ []) full_node 1 1

pub record WorkedOutct : Type 0 where
  pub is_put : chan_in_1 outct_end (with_chan_0 (start_as own_word) (far_chan [] [])) ≡ far_chan (Ctrl 1 ∷ []) []
  pub goes_on : thread_in_1 outct_end (with_chan_0 (start_as own_word) (far_chan [] [])) ≡ record own_word { pc = 0x00040004 }
  pub no_dest : events_in_1 outct_end (with_chan_0 (start_as own_word) got_chan) ≡ traps_in_1 4 own_id
  pub no_dest_keeps : chan_in_1 outct_end (with_chan_0 (start_as own_word) got_chan) ≡ got_chan
  pub not_in_use : events_in_1 outct_end (with_chan_0 (start_as own_word) unused_chan) ≡ traps_in_1 4 own_id
  -- 8 wait: the thread pauses at the instruction, and the buffer stays
  pub pauses : thread_of waits_for_room.core 0 ≡ record own_word { run = Paused (Room 0 1) }
  pub keeps : (chan_of waits_for_room.core 0).output ≡ eight_bytes
  pub is_issue : waits_for_room.core.slots.last ≡ Some 1 ∷ replicate 7 None
  pub still_full : quiet_slot (outct_end ∷ []) waits_for_room 2 ≡ idle waits_for_room
  -- in slot 4 one goes out by the link end; the thread is rested in slot 5
  pub one_out : (chan_of (after_from (outct_end ∷ []) full_node 1 4).core 0).output ≡ replicate 7 (Byte 9)
  pub wakes : thread_of (after_from (outct_end ∷ []) full_node 1 5).core 0 ≡ record own_word { pc = 0x00040004 }
  pub put_then : (chan_of (after_from (outct_end ∷ []) full_node 1 5).core 0).output ≡ Byte 9 ∷ Byte 9 ∷ Byte 9 ∷ Byte 9 ∷ Byte 9 ∷ Byte 9 ∷ Byte 9 ∷ Ctrl 1 ∷ []

-- chkct res[r0], 1
abbrev pub chkct_end : Instr
chkct_end = Resources (resources.ChkctImm 0 1)

-- thread 0 has channel end 0's identifier, and these tokens came
abbrev pub tokens_came : List Token → NodeRec
tokens_came input = with_chan_0 (start_as own_word) (record got_chan { input = input })

pub record WorkedChkct : Type 0 where
  pub is_taken : (chan_in_1 chkct_end (tokens_came (Ctrl 1 ∷ Byte 5 ∷ []))).input ≡ Byte 5 ∷ []
  pub goes_on : thread_in_1 chkct_end (tokens_came (Ctrl 1 ∷ Byte 5 ∷ [])) ≡ record own_word { pc = 0x00040004 }
  -- another control token, and a data byte: it stays
  pub other_token : events_in_1 chkct_end (tokens_came (Ctrl 2 ∷ [])) ≡ traps_in_1 4 own_id
  pub other_stays : (chan_in_1 chkct_end (tokens_came (Ctrl 2 ∷ []))).input ≡ Ctrl 2 ∷ []
  pub data_byte : events_in_1 chkct_end (tokens_came (Byte 1 ∷ [])) ≡ traps_in_1 4 own_id
  pub not_in_use : events_in_1 chkct_end (with_chan_0 (start_as own_word) unused_chan) ≡ traps_in_1 4 own_id
  -- none came: the thread pauses at the instruction, and waits in vain
  pub pauses : quiet_slot (chkct_end ∷ []) (tokens_came []) 1 ≡ idle (record (with_chan_0 (start_as (record own_word { run = Paused (Tokens 0 1) })) got_chan) {
    core = record (with_chan_0 (start_as (record own_word { run = Paused (Tokens 0 1) })) got_chan).core { slots = never_divided (Some 1 ∷ replicate 7 None) };
  })
  pub waits : quiet_slot (chkct_end ∷ []) (after_from (chkct_end ∷ []) (tokens_came []) 1 1) 5 ≡ idle (after_from (chkct_end ∷ []) (tokens_came []) 1 1)

-- thread 0 has channel end 0's identifier, thread 1 is paused, and this is channel end 0
abbrev pub two_threads : Wait → ChanRec → NodeRec
two_threads wait chan = with_network (record start {
  core = record start.core { threads = own_word ∷ record first { run = Paused wait } ∷ replicate 6 (thread_of start.core 7) };
}) chan sent_in_0 header_out

pub record WorkedDependency : Type 0 where
  -- another thread waits for tokens of the channel end: trap 9, and it goes on waiting
  pub tokens : events_in_1 chkct_end (two_threads (Tokens 0 1) got_chan) ≡ traps_in_1 9 own_id
  pub other_stays : (thread_of (quiet_slot (chkct_end ∷ []) (two_threads (Tokens 0 1) got_chan) 1).rec.core 1).run ≡ Paused (Tokens 0 1)
  pub more_tokens : events_in_1 chkct_end (two_threads (Tokens 0 4) got_chan) ≡ traps_in_1 9 own_id
  -- another thread waits for room in the output buffer
  pub room : events_in_1 outct_end (two_threads (Room 0 4) (far_chan eight_bytes [])) ≡ traps_in_1 9 own_id
  pub room_keeps : chan_in_1 outct_end (two_threads (Room 0 4) (far_chan eight_bytes [])) ≡ far_chan eight_bytes []
  -- the two sides of a channel end are two things, and so are two channel ends
  pub other_side : (thread_in_1 outct_end (two_threads (Tokens 0 1) (far_chan eight_bytes []))).run ≡ Paused (Room 0 1)
  pub side_of_room : (thread_in_1 chkct_end (two_threads (Room 0 1) (far_chan eight_bytes []))).run ≡ Paused (Tokens 0 1)
  pub other_chan : (thread_in_1 chkct_end (two_threads (Tokens 1 1) got_chan)).run ≡ Paused (Tokens 0 1)
  -- one that waits for the divider waits at no thing
  pub divider : (thread_in_1 chkct_end (two_threads Divider got_chan)).run ≡ Paused (Tokens 0 1)
  -- a channel end without a destination is refused first, and a thread that need not wait goes on
  pub refused_first : events_in_1 outct_end (two_threads (Room 0 1) (record got_chan { output = eight_bytes })) ≡ traps_in_1 4 own_id
  pub need_not_wait : (thread_in_1 chkct_end (two_threads (Tokens 0 4) (record got_chan { input = Ctrl 1 ∷ [] }))).pc ≡ 0x00040004

-- node 3 at its start with these words in r0 and r1, whose last channel end alone is in use
abbrev pub last_in_use : ℕ → ℕ → ChanRec → NodeRec
last_in_use a b chan = record (start_as (with_three a b 0)) {
  core = record (start_as (with_three a b 0)).core { chans = replicate 31 unused_chan ++ chan ∷ [] };
}

-- channel end 31 of node 3, after an instruction on it in slot 1
abbrev pub last_in_1 : Instr → ChanRec → ChanRec
last_in_1 ins chan = chan_of (quiet_slot (ins ∷ []) (last_in_use 0x00031f02 far_id chan) 1).rec.core 31

-- channel end 31, the last
pub record WorkedLast : Type 0 where
  pub dest_set : last_in_1 setd_01 got_chan ≡ far_chan [] []
  pub put : last_in_1 outct_end (far_chan [] []) ≡ far_chan (Ctrl 1 ∷ []) []
  pub taken : last_in_1 chkct_end (record got_chan { input = Ctrl 1 ∷ Byte 5 ∷ [] }) ≡ record got_chan { input = Byte 5 ∷ [] }
  pub pauses : (thread_in_1 chkct_end (last_in_use 0x00031f02 far_id got_chan)).run ≡ Paused (Tokens 31 1)
  pub before_it : events_in_1 setd_01 (last_in_use 0x00031e02 far_id got_chan) ≡ traps_in_1 4 0x00031e02
  pub after_it : events_in_1 setd_01 (last_in_use 0x00032002 far_id got_chan) ≡ traps_in_1 4 0x00032002
  -- a destination may be any channel end of any node, there or not
  pub dest_of_255 : (chan_in_1 setd_01 (two_words own_id 0x0005ff02 got_chan)).dest ≡ Some 0x0005ff02

-- a token and a credit, or neither, come to link end 0
abbrev pub come : Option Token → List Bool → Arrivals
come token credits = record { tokens = token ∷ replicate 7 None; credits = credits }

-- a byte and a credit come in slot 3
abbrev pub both_come : Stepped
both_come = node_step (node_3 one_nop) (with_network start got_chan sent_in_0 Idle) 3 (come (Some (Byte 5)) (true ∷ replicate 7 false)) low_pins

-- a token comes for channel end 0 in slot 3, where thread 0 waits for it at `chkct`
abbrev pub token_comes : Token → Stepped
token_comes token =
    node_step (node_3 (chkct_end ∷ []))
    (with_state (with_chan_0 (start_as (record own_word { run = Paused (Tokens 0 1) })) got_chan) 0 (Local 0)) 3
    (come (Some token) (replicate 8 false)) low_pins

-- the token for which it waits, and another one
abbrev pub end_comes : Stepped
end_comes = token_comes (Ctrl 1)

abbrev pub byte_comes : Stepped
byte_comes = token_comes (Byte 5)

-- slot 1, where END waits in channel end 0 for channel end 0 itself, and thread 0 is at `chkct`
abbrev pub to_itself : Stepped
to_itself = quiet_slot (chkct_end ∷ []) (with_chan_0 (start_as own_word) (record got_chan { dest = Some own_id; output = Ctrl 1 ∷ [] })) 1

-- END waits at channel end 0, and its header is out
abbrev pub end_leaves : Stepped
end_leaves = quiet_slot one_nop (with_network start (far_chan (Ctrl 1 ∷ []) []) sent_in_0 header_out) 4

-- a program that sends END to channel end 1 of node 5
abbrev pub sender : List Instr
sender = Resources (resources.Getr 0 2) ∷ Memory (memory.LdwDp 1 0) ∷ setd_01 ∷ outct_end ∷ Words words.Nop ∷ Words words.Nop ∷ Words words.Nop ∷ Words words.Nop ∷ []

abbrev pub sender_node : NodeRec
sender_node = record (first_node 0x00040000 0x00010000 (0x02 ∷ 0x01 ∷ 0x05 ∷ 0x00 ∷ [])) { links = Some fresh_link ∷ replicate 7 None }

-- what leaves by link end 0 in a slot
abbrev pub leaves_in : ℕ → Option Token
leaves_in slot = slice_index_or (quiet_slot sender (after_from sender sender_node 0 slot) slot).emitted.tokens 0 None

pub record WorkedNetwork : Type 0 where
  -- the switch takes the byte in the slot in which it comes, as the first of a header, and its credit goes back
  pub taken : state_at both_come.rec 0 ≡ Head1 5
  pub credit_back : both_come.emitted ≡ record (emitted_events []) { credits = true ∷ replicate 7 false }
  pub credit_counted : link_at both_come.rec 0 ≡ Some (record { buffer = []; sent = 0 ∷ []; credited = 3 ∷ [] })
  -- END is put into the channel end and wakes the thread, all in one slot
  pub end_told : end_comes.emitted.events ≡ in_slot 3 (happen.Chan 0 (Ctrl 1)) ∷ []
  pub end_taken : chan_of end_comes.rec.core 0 ≡ got_chan
  pub woken : thread_of end_comes.rec.core 0 ≡ record own_word { pc = 0x00040004 }
  pub packet_over : state_at end_comes.rec 0 ≡ Idle
  -- a byte wakes it too. It issues `chkct` again, which traps and leaves the byte: the byte is told before the trap.
  pub byte_told : byte_comes.emitted.events ≡ in_slot 3 (happen.Chan 0 (Byte 5)) ∷ in_slot 3 (happen.Trap 0 4 0x00040000 own_id) ∷ in_slot 3 (happen.Halt 0) ∷ []
  pub byte_stays : (chan_of byte_comes.rec.core 0).input ≡ Byte 5 ∷ []
  -- END from channel end 0 to itself is put, told and taken by `chkct` in one slot, and no packet is left
  pub own_end_told : to_itself.emitted.events ≡ in_slot 1 (happen.Chan 0 (Ctrl 1)) ∷ []
  pub own_end_taken : chan_of to_itself.rec.core 0 ≡ record got_chan { dest = Some own_id }
  pub own_end_wakes : thread_of to_itself.rec.core 0 ≡ record own_word { pc = 0x00040004 }
  pub own_packet_over : state_at to_itself.rec 8 ≡ Idle
  -- END leaves, and the link end is free again
  pub end_out : end_leaves.emitted.tokens ≡ Some (Ctrl 1) ∷ replicate 7 None
  pub no_more : chan_of end_leaves.rec.core 0 ≡ far_chan [] []
  pub given_up : state_at end_leaves.rec 8 ≡ Idle
  pub noted : link_at end_leaves.rec 0 ≡ Some (record { buffer = []; sent = 0 ∷ 4 ∷ []; credited = [] })
  -- `outct` is issued in slot 12: the header goes out from the slot after it on, a byte each 4 slots, and then END
  pub not_yet : leaves_in 12 ≡ None
  pub high_byte : leaves_in 13 ≡ Some (Byte 0)
  pub in_gap : leaves_in 14 ≡ None
  pub low_byte : leaves_in 17 ≡ Some (Byte 5)
  pub chan_byte : leaves_in 21 ≡ Some (Byte 1)
  pub end_sent : leaves_in 25 ≡ Some (Ctrl 1)
  pub all_sent : leaves_in 29 ≡ None

-- slots of channel ends and links
pub record WorkedChannels : Type 0 where
  pub getr : WorkedGetr
  pub setd : WorkedSetd
  pub outct : WorkedOutct
  pub chkct : WorkedChkct
  pub dependency : WorkedDependency
  pub network : WorkedNetwork
  pub last : WorkedLast
