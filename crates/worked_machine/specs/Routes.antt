-- Routes over several link ends, worked out by hand: single slots of the switch of node 1, which has link ends 0 to 2.
use Rattle.std.specs.Prelude.{ℕ, ◌≡◌, false, true, Option, Some, None, List, [], ◌∷◌, ◌++◌, replicate}
use Rattle.xs_base.specs.declared.token.Token.{Token}
use Rattle.xs_base.specs.declared.token.Token.TheVariants.{Byte, Ctrl}
use Rattle.xs_base.specs.Ids.{chan_id}
use Rattle.xs_model.specs.declared.event.Happen.TheVariants as happen
use Rattle.xs_model.specs.AtWork.{AtWork}
use Rattle.xs_model.specs.Record.{NodeRec, ChanRec, Idle, Head2, Want, Local, Out, Lost, unused_chan, chan_of, with_chan}
use Rattle.net_model.specs.Chans.{got_chan, freed_chan}
use Rattle.net_model.specs.Links.{fresh_link}
use Rattle.net_model.specs.Ways.{Way, Here, Behind, way_to}
use Rattle.net_model.specs.Switch.{Routes, state_at, with_state, chan_is_busy, free_end}
use Rattle.worked_machine.specs.Pair.{node_of_parts, switched}
use Rattle.worked_machine.specs.SwitchSteps.{to, sends, counted}

-- ---- The way is that of the highest bit in which two ids differ

-- bit k leads to link end k, for the bits 0 to 7
abbrev pub eight_ways : List ℕ
eight_ways = 1 ∷ 2 ∷ 4 ∷ 8 ∷ 16 ∷ 32 ∷ 64 ∷ 128 ∷ replicate 8 0

-- the way from a node to another, where all are of network 0
abbrev pub way_by_0 : ℕ → List ℕ → ℕ → Way
way_by_0 id ways node = way_to id ways (replicate 8 0) 0 node

pub record WorkedWays : Type 0 where
  pub itself : way_by_0 5 eight_ways 5 ≡ Here
  pub bit_0 : way_by_0 5 eight_ways 4 ≡ Behind 1
  -- 6 differs from 5 in the bits 0 and 1, 2 in the bits 0 to 2, and 1 in bit 2 alone
  pub bit_1 : way_by_0 5 eight_ways 6 ≡ Behind 2
  pub bit_2 : way_by_0 5 eight_ways 2 ≡ Behind 4
  pub bit_2_alone : way_by_0 5 eight_ways 1 ≡ Behind 4
  pub bit_7 : way_by_0 5 eight_ways 0xfa ≡ Behind 128
  -- none leads on for bit 15, though one would for bit 0
  pub bit_15 : way_by_0 5 eight_ways 0x8004 ≡ Behind 0
  pub greatest : way_by_0 0xffff eight_ways 0 ≡ Behind 0

-- ---- Node 1: to even ids by link end 0, to ids of which bit 1 differs by link ends 1 and 2

abbrev pub routes : Routes
routes = record { id = 1; ways = 1 ∷ 6 ∷ replicate 14 0; nets = replicate 8 0; gaps = 4 ∷ 4 ∷ 9 ∷ replicate 5 0 }

-- link ends 0 to 2 with these tokens in their buffers; three channel ends
abbrev pub node : List Token → List Token → List Token → List ChanRec → NodeRec
node zeroth first second chans =
    node_of_parts (chans ++ replicate 29 unused_chan)
    (Some (record fresh_link { buffer = zeroth }) ∷ Some (record fresh_link { buffer = first }) ∷ Some (record fresh_link { buffer = second }) ∷ replicate 5 None)

abbrev pub no_chans : List ChanRec
no_chans = replicate 3 unused_chan

-- slot 100 there
abbrev pub in_100 : NodeRec → AtWork
in_100 rec = switched routes 100 rec

-- what leaves by link ends 0 to 2
abbrev pub three_tokens : Option Token → Option Token → Option Token → List (Option Token)
three_tokens zeroth first second = zeroth ∷ first ∷ second ∷ replicate 5 None

-- ---- Several link ends for a bit

-- three channel ends with a byte each to node 3, one after the other
abbrev pub three_to_3 : NodeRec
three_to_3 = node [] [] [] (sends (Byte 7 ∷ []) (chan_id 3 0) ∷ sends (Byte 8 ∷ []) (chan_id 3 1) ∷ sends (Byte 9 ∷ []) (chan_id 3 2) ∷ [])

-- the same, where the first of them has sent a packet by link end 1, up to its END; link end 2 sent last in slot 92
abbrev pub first_at_its_end : NodeRec
first_at_its_end =
    with_state (record (node [] [] [] (sends (Ctrl 1 ∷ []) (chan_id 3 0) ∷ sends (Byte 8 ∷ []) (chan_id 3 1) ∷ sends (Byte 9 ∷ []) (chan_id 3 2) ∷ [])) {
      links = Some fresh_link ∷ Some fresh_link ∷ Some (counted (92 ∷ []) (98 ∷ [])) ∷ replicate 5 None;
    }) 8 (Out 1 3 (to 3 0))

pub record WorkedTwoEnds : Type 0 where
  -- the first takes the lower link end, the second the other one, and the third waits
  pub lower : state_at (in_100 three_to_3).rec 8 ≡ Out 1 1 (to 3 0)
  pub upper : state_at (in_100 three_to_3).rec 9 ≡ Out 2 1 (to 3 1)
  pub third_waits : state_at (in_100 three_to_3).rec 10 ≡ Want (to 3 2) 0
  pub both_headers : (in_100 three_to_3).tokens ≡ three_tokens None (Some (Byte 0)) (Some (Byte 0))
  -- what waits at them is not touched
  pub byte_waits : (chan_of (in_100 three_to_3).rec.core 0).output ≡ Byte 7 ∷ []
  -- link end 1 is given up with END, and the second takes it in the same slot; the header's first byte goes out a gap later.
  -- The third takes link end 2, whose gap of 9 is not over.
  pub given_up : state_at (in_100 first_at_its_end).rec 8 ≡ Idle
  pub taken_up : state_at (in_100 first_at_its_end).rec 9 ≡ Out 1 0 (to 3 1)
  pub the_other : state_at (in_100 first_at_its_end).rec 10 ≡ Out 2 0 (to 3 2)
  pub end_alone : (in_100 first_at_its_end).tokens ≡ three_tokens None (Some (Ctrl 1)) None
  pub next_header : (switched routes 104 (in_100 first_at_its_end).rec).tokens ≡ three_tokens None (Some (Byte 0)) (Some (Byte 0))
  -- the lowest of the mask that is free: others may be free below it
  pub of_mask : free_end (node [] [] [] no_chans) 6 0 8 ≡ Some 1
  pub held : free_end (with_state (with_state (node [] [] [] no_chans) 3 (Out 1 0 (to 3 0))) 39 (Out 2 3 (to 3 0))) 6 0 8 ≡ None

-- ---- A router: what comes by link end 0 goes on by link end 1, and what comes by link end 1 goes on by link end 0

-- both packets want to go on
abbrev pub both_want : NodeRec
both_want = with_state (with_state (node (Byte 7 ∷ []) (Byte 8 ∷ []) [] no_chans) 0 (Want (to 3 5) 0)) 1 (Want (to 0 6) 0)

-- both headers are out; a byte waits at each, and END behind one of them
abbrev pub both_under_way : NodeRec
both_under_way = with_state (with_state (node (Byte 7 ∷ Ctrl 1 ∷ []) (Byte 8 ∷ []) [] no_chans) 0 (Out 1 3 (to 3 5))) 1 (Out 0 3 (to 0 6))

-- a packet to node 0, which came by link end 0
abbrev pub goes_back : NodeRec
goes_back = with_state (node (Byte 7 ∷ []) [] [] no_chans) 0 (Want (to 0 4) 0)

abbrev pub back_under_way : NodeRec
back_under_way = with_state (node (Ctrl 1 ∷ []) [] [] no_chans) 0 (Out 0 3 (to 0 4))

pub record WorkedRouter : Type 0 where
  -- each holds the other's link end, and the first header bytes go out
  pub forth : state_at (in_100 both_want).rec 0 ≡ Out 1 1 (to 3 5)
  pub back : state_at (in_100 both_want).rec 1 ≡ Out 0 1 (to 0 6)
  pub headers : (in_100 both_want).tokens ≡ three_tokens (Some (Byte 0)) (Some (Byte 0)) None
  pub no_credit : (in_100 both_want).credits ≡ replicate 8 false
  -- the low bytes of 3 and 0, and the numbers of the channel ends
  pub low_bytes : (switched routes 104 (in_100 both_want).rec).tokens ≡ three_tokens (Some (Byte 0)) (Some (Byte 3)) None
  pub numbers : (switched routes 108 (switched routes 104 (in_100 both_want).rec).rec).tokens ≡ three_tokens (Some (Byte 6)) (Some (Byte 5)) None
  -- a byte goes on each way, and its credit goes back by the link end that it came by
  pub bytes : (in_100 both_under_way).tokens ≡ three_tokens (Some (Byte 8)) (Some (Byte 7)) None
  pub credits : (in_100 both_under_way).credits ≡ true ∷ true ∷ replicate 6 false
  pub end_next : (switched routes 104 (in_100 both_under_way).rec).tokens ≡ three_tokens None (Some (Ctrl 1)) None
  pub packet_over : state_at (switched routes 104 (in_100 both_under_way).rec).rec 0 ≡ Idle
  pub other_goes_on : state_at (switched routes 104 (in_100 both_under_way).rec).rec 1 ≡ Out 0 3 (to 0 6)
  -- a packet leaves by the link end by which it came: its token and the credit for it leave by the same one
  pub turns : state_at (in_100 goes_back).rec 0 ≡ Out 0 1 (to 0 4)
  pub turns_header : (in_100 goes_back).tokens ≡ three_tokens (Some (Byte 0)) None None
  pub turns_end : (in_100 back_under_way).tokens ≡ three_tokens (Some (Ctrl 1)) None None
  pub turns_credit : (in_100 back_under_way).credits ≡ true ∷ replicate 7 false
  pub turns_over : state_at (in_100 back_under_way).rec 0 ≡ Idle
  -- both want link end 0: the packet by link end 0 is first, and that of link end 1 waits
  pub first_holds : state_at (in_100 (with_state goes_back 1 (Want (to 0 6) 0))).rec 0 ≡ Out 0 1 (to 0 4)
  pub second_waits : state_at (in_100 (with_state goes_back 1 (Want (to 0 6) 0))).rec 1 ≡ Want (to 0 6) 0

-- ---- Channel ends that are held, and ones that are not there

-- a packet by link end 0 wants channel end 0, which channel end 1 holds; PAUSE ends the packet of channel end 1
abbrev pub wants_held : NodeRec
wants_held =
    with_state (with_state (node (Ctrl 1 ∷ []) [] [] (got_chan ∷ sends (Ctrl 2 ∷ []) (chan_id 1 0) ∷ unused_chan ∷ [])) 0 (Want (to 1 0) 0)) 9 (Local 0)

abbrev pub before_freed : NodeRec
before_freed = (in_100 wants_held).rec

-- channel end 0 is freed then
abbrev pub without_chan_0 : NodeRec
without_chan_0 = record before_freed { core = with_chan before_freed.core 0 unused_chan }

abbrev pub in_101 : AtWork
in_101 = switched routes 101 without_chan_0

abbrev pub in_102 : AtWork
in_102 = switched routes 102 in_101.rec

-- a header for channel end 255 is complete with the byte that waits
abbrev pub header_of_255 : NodeRec
header_of_255 = with_state (node (Byte 255 ∷ Byte 1 ∷ Ctrl 1 ∷ []) [] [] no_chans) 0 (Head2 0 1)

abbrev pub want_255 : AtWork
want_255 = switched routes 101 (in_100 header_of_255).rec

pub record WorkedMissing : Type 0 where
  -- it waits in slot 100, in which the packet of the other one ends, after its turn
  pub waits : state_at before_freed 0 ≡ Want (to 1 0) 0
  pub other_over : state_at before_freed 9 ≡ Idle
  pub may_be_freed : freed_chan (chan_is_busy before_freed 0) (chan_of before_freed.core 0) ≡ Some unused_chan
  -- in slot 101 the channel end is not in use any more: the packet is lost, and its END is dropped a slot later
  pub lost : in_101.happened ≡ happen.Lost 0x00010002 ∷ []
  pub lost_from_then : state_at in_101.rec 0 ≡ Lost
  pub nothing_taken : in_101.credits ≡ replicate 8 false
  pub end_dropped : in_102.credits ≡ true ∷ replicate 7 false
  pub told_once : in_102.happened ≡ []
  pub then_idle : state_at in_102.rec 0 ≡ Idle
  -- had it not been freed, END would have come there
  pub else_delivered : (switched routes 101 before_freed).happened ≡ happen.Chan 0 (Ctrl 1) ∷ []
  -- channel end 255: its header is as any other's, and its packet is lost at its node
  pub header_taken : state_at (in_100 header_of_255).rec 0 ≡ Want (to 1 255) 0
  pub no_such_chan : want_255.happened ≡ happen.Lost 0x0001ff02 ∷ []
  pub rest_waits : want_255.credits ≡ replicate 8 false
  -- on its way the number is a byte of the header
  pub number_out : (in_100 (with_state (node [] [] [] no_chans) 0 (Out 1 2 (to 3 255)))).tokens ≡ three_tokens None (Some (Byte 255)) None
  -- a packet for a node to which no link end leads: bit 2 differs
  pub no_way : (in_100 (with_state (node (Byte 7 ∷ []) [] [] no_chans) 0 (Want (to 5 0) 0))).happened ≡ happen.Lost 0x00050002 ∷ []

-- routes over several link ends
pub record WorkedRoutes : Type 0 where
  pub ways : WorkedWays
  pub two_ends : WorkedTwoEnds
  pub router : WorkedRouter
  pub missing : WorkedMissing
