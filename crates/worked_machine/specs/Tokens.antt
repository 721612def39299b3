-- The rows that put words and tokens into a channel end, take them and look at them, worked out by hand: thread 0 of node 3
-- issues one of them in slot 1.
use Rattle.std.specs.Prelude.{ℕ, ◌≡◌, true, false, Some, None, List, [], ◌∷◌, ◌++◌, replicate}
use Rattle.xs_base.specs.declared.token.Token.{Token}
use Rattle.xs_base.specs.declared.token.Token.TheVariants.{Byte, Ctrl}
use Rattle.xs_model.specs.declared.thread.Thread.{Thread}
use Rattle.xs_model.specs.declared.thread.Run.{Run}
use Rattle.xs_model.specs.declared.thread.Run.TheVariants.{Going, Paused}
use Rattle.xs_model.specs.declared.thread.Wait.TheVariants.{Room, Tokens}
use Rattle.xs_model.specs.declared.event.Event.{Event}
use Rattle.xs_model.specs.Record.{NodeRec, ChanRec, LockRec, unused_chan, unused_lock, thread_of, chan_of, lock_of}
use Rattle.xs_instructions.specs.declared.instr.Instr.{Instr}
use Rattle.xs_instructions.specs.declared.instr.Instr.TheVariants.{Resources}
use Rattle.xs_instructions.specs.declared.instr.ResIns.TheVariants as resources
use Rattle.net_model.specs.Chans.{got_chan}
use Rattle.worked_machine.specs.SwitchSteps.{eight_bytes}
use Rattle.worked_machine.specs.Slots.{start_as, with_three}
use Rattle.worked_machine.specs.Channels.{quiet_slot, after_from, with_network, sent_in_0, header_out, own_id, far_id, far_chan, thread_in_1, chan_in_1, events_in_1, traps_in_1, two_words, two_threads}

-- r0 has channel end 0's identifier, and r1 this word; the channel end sends to node 5, and these tokens wait to go out
abbrev pub to_send : ℕ → List Token → NodeRec
to_send word output = two_words own_id word (far_chan output [])

-- these tokens came to it
abbrev pub to_take : ℕ → List Token → NodeRec
to_take word input = two_words own_id word (far_chan [] input)

-- the output buffer, the input buffer, and what the thread does, after the instruction
abbrev pub output_in_1 : Instr → NodeRec → List Token
output_in_1 ins rec = (chan_in_1 ins rec).output

abbrev pub input_in_1 : Instr → NodeRec → List Token
input_in_1 ins rec = (chan_in_1 ins rec).input

abbrev pub run_in_1 : Instr → NodeRec → Run
run_in_1 ins rec = (thread_in_1 ins rec).run

-- the thread went on to the next instruction, with these words in r0 and r1
abbrev pub went_on : ℕ → ℕ → Thread
went_on a b = record (with_three a b 0) { pc = 0x00040004 }

-- it traps, since the resource is illegal
abbrev pub refused : List Event
refused = traps_in_1 4 own_id

-- a channel end without a destination at which 8 tokens wait
abbrev pub full_without_dest : NodeRec
full_without_dest = two_words own_id 7 (record got_chan { output = eight_bytes })

-- channel end 0 is not in use
abbrev pub none_used : NodeRec
none_used = two_words own_id 7 unused_chan

abbrev pub nines : ℕ → List Token
nines count = replicate count (Byte 9)

-- ---- out res[r0], r1

abbrev pub out_01 : Instr
out_01 = Resources (resources.Out 0 1)

abbrev pub one_to_four : List Token
one_to_four = Byte 1 ∷ Byte 2 ∷ Byte 3 ∷ Byte 4 ∷ []

-- five bytes wait, of which one may go out from slot 4 on
abbrev pub five_wait : NodeRec
five_wait = with_network (two_words own_id 0x01020304 got_chan) (far_chan (nines 5) []) sent_in_0 header_out

pub record WorkedOut : Type 0 where
  -- four bytes, the most significant first
  pub puts : output_in_1 out_01 (to_send 0x01020304 []) ≡ one_to_four
  pub goes_on : thread_in_1 out_01 (to_send 0x01020304 []) ≡ went_on own_id 0x01020304
  pub small : output_in_1 out_01 (to_send 5 []) ≡ Byte 0 ∷ Byte 0 ∷ Byte 0 ∷ Byte 5 ∷ []
  pub greatest : output_in_1 out_01 (to_send 0xffffffff []) ≡ replicate 4 (Byte 255)
  pub its_own_name : output_in_1 (Resources (resources.Out 0 0)) (to_send 7 []) ≡ Byte 0 ∷ Byte 3 ∷ Byte 0 ∷ Byte 2 ∷ []
  -- four wait: there is room for four more; five wait: there is none, and nothing is put
  pub four_wait : output_in_1 out_01 (to_send 0x01020304 (nines 4)) ≡ nines 4 ++ one_to_four
  pub five_waited : run_in_1 out_01 (to_send 0x01020304 (nines 5)) ≡ Paused (Room 0 4)
  pub nothing_put : output_in_1 out_01 (to_send 0x01020304 (nines 5)) ≡ nines 5
  pub stays_at_it : (thread_in_1 out_01 (to_send 0x01020304 (nines 5))).pc ≡ 0x00040000
  -- one goes out in slot 4, and all four are put in slot 5
  pub one_out : (chan_of (after_from (out_01 ∷ []) five_wait 1 4).core 0).output ≡ nines 4
  pub then_put : (chan_of (after_from (out_01 ∷ []) five_wait 1 5).core 0).output ≡ nines 4 ++ one_to_four
  pub then_goes_on : thread_of (after_from (out_01 ∷ []) five_wait 1 5).core 0 ≡ went_on own_id 0x01020304
  -- no destination: it traps, though it would have to wait
  pub no_dest : events_in_1 out_01 full_without_dest ≡ refused
  pub not_in_use : events_in_1 out_01 none_used ≡ refused
  -- another thread waits there for one place; one that waits for tokens is at the other side
  pub waited_at : events_in_1 out_01 (two_threads (Room 0 1) (far_chan (nines 5) [])) ≡ traps_in_1 9 own_id
  pub other_side : run_in_1 out_01 (two_threads (Tokens 0 1) (far_chan (nines 5) [])) ≡ Paused (Room 0 4)
  pub has_room : run_in_1 out_01 (two_threads (Room 0 4) (far_chan (nines 4) [])) ≡ Going

-- ---- outt res[r0], r1 and outct res[r0], r1

abbrev pub outt_01 : Instr
outt_01 = Resources (resources.Outt 0 1)

abbrev pub outct_01 : Instr
outct_01 = Resources (resources.Outct 0 1)

pub record WorkedOutt : Type 0 where
  -- a byte, or a control token, of the word modulo 256
  pub byte : output_in_1 outt_01 (to_send 7 (Byte 9 ∷ [])) ≡ Byte 9 ∷ Byte 7 ∷ []
  pub goes_on : thread_in_1 outt_01 (to_send 7 []) ≡ went_on own_id 7
  pub low_byte : output_in_1 outt_01 (to_send 0x101 []) ≡ Byte 1 ∷ []
  pub byte_255 : output_in_1 outt_01 (to_send 0xffffffff []) ≡ Byte 255 ∷ []
  pub byte_0 : output_in_1 outt_01 (to_send 256 []) ≡ Byte 0 ∷ []
  pub control : output_in_1 outct_01 (to_send 3 (Byte 9 ∷ [])) ≡ Byte 9 ∷ Ctrl 3 ∷ []
  pub control_goes_on : thread_in_1 outct_01 (to_send 3 []) ≡ went_on own_id 3
  pub low_byte_of_control : output_in_1 outct_01 (to_send 0x101 []) ≡ Ctrl 1 ∷ []
  pub control_255 : output_in_1 outct_01 (to_send 255 []) ≡ Ctrl 255 ∷ []
  pub its_own_name : output_in_1 (Resources (resources.Outt 0 0)) (to_send 7 []) ≡ Byte 2 ∷ []
  -- the eighth is put, the ninth waits
  pub eighth : output_in_1 outt_01 (to_send 7 (nines 7)) ≡ nines 7 ++ Byte 7 ∷ []
  pub waits : run_in_1 outt_01 (to_send 7 eight_bytes) ≡ Paused (Room 0 1)
  pub control_waits : run_in_1 outct_01 (to_send 3 eight_bytes) ≡ Paused (Room 0 1)
  pub no_dest : events_in_1 outt_01 full_without_dest ≡ refused
  pub control_no_dest : events_in_1 outct_01 full_without_dest ≡ refused
  pub not_in_use : events_in_1 outt_01 none_used ≡ refused
  pub control_not_in_use : events_in_1 outct_01 none_used ≡ refused
  pub waited_at : events_in_1 outt_01 (two_threads (Room 0 4) (far_chan eight_bytes [])) ≡ traps_in_1 9 own_id
  pub control_waited_at : events_in_1 outct_01 (two_threads (Room 0 4) (far_chan eight_bytes [])) ≡ traps_in_1 9 own_id

-- ---- in r1, res[r0]

abbrev pub in_10 : Instr
in_10 = Resources (resources.In 1 0)

pub record WorkedIn : Type 0 where
  -- four bytes, the first the most significant; what came after them stays
  pub takes : thread_in_1 in_10 (to_take 7 one_to_four) ≡ went_on own_id 0x01020304
  pub none_left : input_in_1 in_10 (to_take 7 one_to_four) ≡ []
  pub fifth_stays : input_in_1 in_10 (to_take 7 (one_to_four ++ Ctrl 1 ∷ [])) ≡ Ctrl 1 ∷ []
  pub before_control : thread_in_1 in_10 (to_take 7 (one_to_four ++ Ctrl 1 ∷ [])) ≡ went_on own_id 0x01020304
  pub greatest : thread_in_1 in_10 (to_take 7 (replicate 4 (Byte 255))) ≡ went_on own_id 0xffffffff
  pub over_its_name : thread_in_1 (Resources (resources.In 0 0)) (to_take 7 one_to_four) ≡ went_on 0x01020304 7
  -- a control token among the first four traps, also where fewer than four came, and all stay
  pub control : events_in_1 in_10 (to_take 7 (Byte 5 ∷ Byte 6 ∷ Ctrl 1 ∷ [])) ≡ refused
  pub control_stays : input_in_1 in_10 (to_take 7 (Byte 5 ∷ Byte 6 ∷ Ctrl 1 ∷ [])) ≡ Byte 5 ∷ Byte 6 ∷ Ctrl 1 ∷ []
  pub control_alone : events_in_1 in_10 (to_take 7 (Ctrl 1 ∷ [])) ≡ refused
  pub control_fourth : events_in_1 in_10 (to_take 7 (Byte 5 ∷ Byte 6 ∷ Byte 7 ∷ Ctrl 4 ∷ Byte 8 ∷ [])) ≡ refused
  -- fewer than four bytes: it waits for four, and they stay
  pub three : run_in_1 in_10 (to_take 7 (Byte 1 ∷ Byte 2 ∷ Byte 3 ∷ [])) ≡ Paused (Tokens 0 4)
  pub three_stay : input_in_1 in_10 (to_take 7 (Byte 1 ∷ Byte 2 ∷ Byte 3 ∷ [])) ≡ Byte 1 ∷ Byte 2 ∷ Byte 3 ∷ []
  pub none : thread_in_1 in_10 (to_take 7 []) ≡ record (with_three own_id 7 0) { run = Paused (Tokens 0 4) }
  pub not_in_use : events_in_1 in_10 none_used ≡ refused
  -- another thread waits there for one token; one that waits for room is at the other side; a control token traps first
  pub waited_at : events_in_1 in_10 (two_threads (Tokens 0 1) (record got_chan { input = Byte 1 ∷ [] })) ≡ traps_in_1 9 own_id
  pub other_side : run_in_1 in_10 (two_threads (Room 0 1) (far_chan eight_bytes [])) ≡ Paused (Tokens 0 4)
  pub refused_first : events_in_1 in_10 (two_threads (Tokens 0 1) (record got_chan { input = Ctrl 1 ∷ [] })) ≡ refused
  pub four_came : run_in_1 in_10 (two_threads (Tokens 0 4) (record got_chan { input = one_to_four })) ≡ Going

-- ---- int r1, res[r0] and inct r1, res[r0]

abbrev pub int_10 : Instr
int_10 = Resources (resources.Int 1 0)

abbrev pub inct_10 : Instr
inct_10 = Resources (resources.Inct 1 0)

pub record WorkedInt : Type 0 where
  pub byte : thread_in_1 int_10 (to_take 7 (Byte 200 ∷ Ctrl 1 ∷ [])) ≡ went_on own_id 200
  pub rest_stays : input_in_1 int_10 (to_take 7 (Byte 200 ∷ Ctrl 1 ∷ [])) ≡ Ctrl 1 ∷ []
  pub control : thread_in_1 inct_10 (to_take 7 (Ctrl 200 ∷ Byte 1 ∷ [])) ≡ went_on own_id 200
  pub rest_of_control : input_in_1 inct_10 (to_take 7 (Ctrl 200 ∷ Byte 1 ∷ [])) ≡ Byte 1 ∷ []
  pub over_its_name : thread_in_1 (Resources (resources.Int 0 0)) (to_take 7 (Byte 5 ∷ [])) ≡ went_on 5 7
  -- the other sort traps and stays
  pub no_byte : events_in_1 int_10 (to_take 7 (Ctrl 1 ∷ [])) ≡ refused
  pub control_stays : input_in_1 int_10 (to_take 7 (Ctrl 1 ∷ [])) ≡ Ctrl 1 ∷ []
  pub no_control : events_in_1 inct_10 (to_take 7 (Byte 1 ∷ [])) ≡ refused
  pub byte_stays : input_in_1 inct_10 (to_take 7 (Byte 1 ∷ [])) ≡ Byte 1 ∷ []
  pub waits : run_in_1 int_10 (to_take 7 []) ≡ Paused (Tokens 0 1)
  pub control_waits : run_in_1 inct_10 (to_take 7 []) ≡ Paused (Tokens 0 1)
  pub not_in_use : events_in_1 int_10 none_used ≡ refused
  pub control_not_in_use : events_in_1 inct_10 none_used ≡ refused
  pub waited_at : events_in_1 int_10 (two_threads (Tokens 0 4) got_chan) ≡ traps_in_1 9 own_id
  pub control_waited_at : events_in_1 inct_10 (two_threads (Tokens 0 4) got_chan) ≡ traps_in_1 9 own_id

-- ---- chkct res[r0], r1

abbrev pub chkct_01 : Instr
chkct_01 = Resources (resources.Chkct 0 1)

pub record WorkedChkctOf : Type 0 where
  pub takes : thread_in_1 chkct_01 (to_take 1 (Ctrl 1 ∷ Byte 5 ∷ [])) ≡ went_on own_id 1
  pub rest_stays : input_in_1 chkct_01 (to_take 1 (Ctrl 1 ∷ Byte 5 ∷ [])) ≡ Byte 5 ∷ []
  pub control_255 : thread_in_1 chkct_01 (to_take 255 (Ctrl 255 ∷ [])) ≡ went_on own_id 255
  -- the whole word counts
  pub high_bits : events_in_1 chkct_01 (to_take 0x101 (Ctrl 1 ∷ [])) ≡ refused
  pub high_bits_stays : input_in_1 chkct_01 (to_take 0x101 (Ctrl 1 ∷ [])) ≡ Ctrl 1 ∷ []
  pub other_control : events_in_1 chkct_01 (to_take 1 (Ctrl 2 ∷ [])) ≡ refused
  pub byte : events_in_1 chkct_01 (to_take 1 (Byte 1 ∷ [])) ≡ refused
  pub byte_stays : input_in_1 chkct_01 (to_take 1 (Byte 1 ∷ [])) ≡ Byte 1 ∷ []
  pub waits : run_in_1 chkct_01 (to_take 1 []) ≡ Paused (Tokens 0 1)
  -- it waits for a token even where none can match
  pub waits_in_vain : run_in_1 chkct_01 (to_take 0x101 []) ≡ Paused (Tokens 0 1)
  pub not_in_use : events_in_1 chkct_01 none_used ≡ refused
  pub waited_at : events_in_1 chkct_01 (two_threads (Tokens 0 4) got_chan) ≡ traps_in_1 9 own_id

-- ---- testct r1, res[r0] and testwct r1, res[r0]

abbrev pub testct_10 : Instr
testct_10 = Resources (resources.Testct 1 0)

abbrev pub testwct_10 : Instr
testwct_10 = Resources (resources.Testwct 1 0)

pub record WorkedTestct : Type 0 where
  pub byte : thread_in_1 testct_10 (to_take 7 (Byte 5 ∷ Ctrl 1 ∷ [])) ≡ went_on own_id 0
  pub control : thread_in_1 testct_10 (to_take 7 (Ctrl 5 ∷ [])) ≡ went_on own_id 1
  -- nothing is taken
  pub byte_stays : input_in_1 testct_10 (to_take 7 (Byte 5 ∷ Ctrl 1 ∷ [])) ≡ Byte 5 ∷ Ctrl 1 ∷ []
  pub control_stays : input_in_1 testct_10 (to_take 7 (Ctrl 5 ∷ [])) ≡ Ctrl 5 ∷ []
  pub waits : run_in_1 testct_10 (to_take 7 []) ≡ Paused (Tokens 0 1)
  pub not_in_use : events_in_1 testct_10 none_used ≡ refused
  pub waited_at : events_in_1 testct_10 (two_threads (Tokens 0 1) got_chan) ≡ traps_in_1 9 own_id

pub record WorkedTestwct : Type 0 where
  -- the place of the first control token among the first four, from 1 on, or 0
  pub none : thread_in_1 testwct_10 (to_take 7 one_to_four) ≡ went_on own_id 0
  pub first_place : thread_in_1 testwct_10 (to_take 7 (Ctrl 1 ∷ [])) ≡ went_on own_id 1
  pub second_place : thread_in_1 testwct_10 (to_take 7 (Byte 5 ∷ Ctrl 1 ∷ Ctrl 2 ∷ [])) ≡ went_on own_id 2
  -- two bytes and END answer at once
  pub third_place : thread_in_1 testwct_10 (to_take 7 (Byte 5 ∷ Byte 6 ∷ Ctrl 1 ∷ [])) ≡ went_on own_id 3
  pub fourth_place : thread_in_1 testwct_10 (to_take 7 (Byte 5 ∷ Byte 6 ∷ Byte 7 ∷ Ctrl 1 ∷ [])) ≡ went_on own_id 4
  pub fifth_place : thread_in_1 testwct_10 (to_take 7 (one_to_four ++ Ctrl 1 ∷ [])) ≡ went_on own_id 0
  -- nothing is taken
  pub all_stay : input_in_1 testwct_10 (to_take 7 (Byte 5 ∷ Byte 6 ∷ Ctrl 1 ∷ [])) ≡ Byte 5 ∷ Byte 6 ∷ Ctrl 1 ∷ []
  pub four_stay : input_in_1 testwct_10 (to_take 7 one_to_four) ≡ one_to_four
  pub three : run_in_1 testwct_10 (to_take 7 (Byte 1 ∷ Byte 2 ∷ Byte 3 ∷ [])) ≡ Paused (Tokens 0 4)
  pub nothing : run_in_1 testwct_10 (to_take 7 []) ≡ Paused (Tokens 0 4)
  pub not_in_use : events_in_1 testwct_10 none_used ≡ refused
  pub waited_at : events_in_1 testwct_10 (two_threads (Tokens 0 1) got_chan) ≡ traps_in_1 9 own_id
  pub other_side : run_in_1 testwct_10 (two_threads (Room 0 1) (far_chan eight_bytes [])) ≡ Paused (Tokens 0 4)

-- ---- getd r1, res[r0]

abbrev pub getd_10 : Instr
getd_10 = Resources (resources.Getd 1 0)

pub record WorkedGetd : Type 0 where
  pub dest : thread_in_1 getd_10 (to_send 7 []) ≡ went_on own_id far_id
  -- 0 where there is none
  pub no_dest : thread_in_1 getd_10 (two_words own_id 7 got_chan) ≡ went_on own_id 0
  pub over_its_name : thread_in_1 (Resources (resources.Getd 0 0)) (to_send 7 []) ≡ went_on far_id 7
  pub stays : chan_in_1 getd_10 (to_send 7 []) ≡ far_chan [] []
  pub not_in_use : events_in_1 getd_10 none_used ≡ refused

-- ---- getr r0, 2 where one channel end is left, and where none is

abbrev pub getr_chan : Instr
getr_chan = Resources (resources.Getr 0 2)

-- these are the channel ends, and r1 has 7
abbrev pub with_chans : List ChanRec → NodeRec
with_chans chans = record (two_words 9 7 got_chan) { core = record (start_as (with_three 9 7 0)).core { chans = chans } }

pub record WorkedLastGetr : Type 0 where
  pub last_name : thread_in_1 getr_chan (with_chans (replicate 31 got_chan ++ unused_chan ∷ [])) ≡ went_on 0x00031f02 7
  pub last_used : (quiet_slot (getr_chan ∷ []) (with_chans (replicate 31 got_chan ++ unused_chan ∷ [])) 1).rec.core.chans ≡ replicate 32 got_chan
  pub none : thread_in_1 getr_chan (with_chans (replicate 32 got_chan)) ≡ went_on 0 7
  pub none_used : (quiet_slot (getr_chan ∷ []) (with_chans (replicate 32 got_chan)) 1).rec.core.chans ≡ replicate 32 got_chan
  -- the lowest one, among those in use
  pub lowest : thread_in_1 getr_chan (with_chans (got_chan ∷ unused_chan ∷ got_chan ∷ replicate 29 unused_chan)) ≡ went_on 0x00030102 7

-- channel end 0 is not in use, and has a destination, network 3 and tokens in both buffers, the first of which may go out from slot
-- 4 on
abbrev pub set_before : ChanRec
set_before = record { used = false; net = 3; dest = Some far_id; output = nines 2; input = Byte 6 ∷ Ctrl 1 ∷ [] }

abbrev pub was_set : NodeRec
was_set = with_network (start_as (with_three 9 7 0)) set_before sent_in_0 header_out

-- then the thread takes a byte from what it got
abbrev pub gets_and_takes : List Instr
gets_and_takes = getr_chan ∷ Resources (resources.Int 1 0) ∷ []

pub record WorkedGetrOfSet : Type 0 where
  -- it is in use, with network 0, and all else stays
  pub got : thread_in_1 getr_chan was_set ≡ went_on own_id 7
  pub stays : chan_in_1 getr_chan was_set ≡ record set_before { used = true; net = 0 }
  -- its first byte goes out in slot 4, and the thread finds what came
  pub goes_out : (chan_of (after_from gets_and_takes was_set 1 4).core 0).output ≡ nines 1
  pub takes : thread_of (after_from gets_and_takes was_set 1 5).core 0 ≡ record (with_three own_id 6 0) { pc = 0x00040008 }
  pub rest : (chan_of (after_from gets_and_takes was_set 1 5).core 0).input ≡ Ctrl 1 ∷ []

-- ---- `in` and `out` on a channel end and on a lock

-- r0 has this name, and r1 a word; lock 0 is free, or thread 0 owns it; four bytes came to channel end 0, which sends to
-- node 5
abbrev pub with_lock_0 : ℕ → LockRec → NodeRec
with_lock_0 name lock = record (two_words name 0x01020304 (far_chan [] one_to_four)) {
  core = record (two_words name 0x01020304 (far_chan [] one_to_four)).core { locks = lock ∷ replicate 3 unused_lock };
}

abbrev pub lock_in_1 : Instr → NodeRec → LockRec
lock_in_1 ins rec = lock_of (quiet_slot (ins ∷ []) rec 1).rec.core 0

abbrev pub free : LockRec
free = record { used = true; owner = None }

abbrev pub owned : LockRec
owned = record { used = true; owner = Some 0 }

-- the name of lock 0
abbrev pub lock_id : ℕ
lock_id = 5

pub record WorkedBoth : Type 0 where
  -- `in` of the lock claims it and takes its name, and leaves the tokens; of the channel end it leaves the lock
  pub claims : lock_in_1 in_10 (with_lock_0 lock_id free) ≡ owned
  pub takes_its_name : thread_in_1 in_10 (with_lock_0 lock_id free) ≡ went_on lock_id lock_id
  pub tokens_stay : chan_in_1 in_10 (with_lock_0 lock_id free) ≡ far_chan [] one_to_four
  pub takes_word : thread_in_1 in_10 (with_lock_0 own_id free) ≡ went_on own_id 0x01020304
  pub lock_stays : lock_in_1 in_10 (with_lock_0 own_id free) ≡ free
  -- `out` likewise
  pub releases : lock_in_1 out_01 (with_lock_0 lock_id owned) ≡ free
  pub nothing_put : chan_in_1 out_01 (with_lock_0 lock_id owned) ≡ far_chan [] one_to_four
  pub puts_word : chan_in_1 out_01 (with_lock_0 own_id owned) ≡ far_chan one_to_four one_to_four
  pub still_owned : lock_in_1 out_01 (with_lock_0 own_id owned) ≡ owned
  -- the other rows take no lock
  pub no_byte_of_a_lock : events_in_1 int_10 (with_lock_0 lock_id free) ≡ traps_in_1 4 lock_id
  pub no_byte_to_a_lock : events_in_1 outt_01 (with_lock_0 lock_id owned) ≡ traps_in_1 4 lock_id
  pub no_dest_of_a_lock : events_in_1 getd_10 (with_lock_0 lock_id free) ≡ traps_in_1 4 lock_id
  -- nor a channel end of another node, nor one whose number is too great
  pub other_node : events_in_1 in_10 (with_lock_0 far_id free) ≡ traps_in_1 4 far_id
  pub number_32 : events_in_1 out_01 (with_lock_0 0x00032002 free) ≡ traps_in_1 4 0x00032002

-- rows on words and tokens
pub record WorkedTokens : Type 0 where
  pub out : WorkedOut
  pub outt : WorkedOutt
  pub in_word : WorkedIn
  pub int : WorkedInt
  pub chkct : WorkedChkctOf
  pub testct : WorkedTestct
  pub testwct : WorkedTestwct
  pub getd : WorkedGetd
  pub last_getr : WorkedLastGetr
  pub getr_of_set : WorkedGetrOfSet
  pub both : WorkedBoth
