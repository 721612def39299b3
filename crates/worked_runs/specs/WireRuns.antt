-- Runs of nodes whose pins wires join, worked out by hand. A node's only thread executes an instruction in slots 0, 4, 8 and so on, and
-- what a port puts out it drives from the next falling edge on, which is two slots after an instruction.
use Rattle.std.specs.Prelude.{ℕ, ◌≡◌, Option, Some, List, [], ◌∷◌, slice_index_or}
use Rattle.xs_base.specs.declared.entry.Entry.{Entry}
use Rattle.xs_model.specs.declared.event.Event.{Event}
use Rattle.xs_model.specs.declared.event.Happen.TheVariants as happen
use Rattle.xs_model.specs.Memory.{load_word}
use Rattle.xs_model.specs.Outside.{in_slot}
use Rattle.xs_instructions.specs.declared.instr.Instr.{Instr}
use Rattle.xs_instructions.specs.declared.instr.Instr.TheVariants.{Words, Memory, Flow, Threads, Resources}
use Rattle.xs_instructions.specs.declared.instr.WordIns.TheVariants as words
use Rattle.xs_instructions.specs.declared.instr.MemIns.TheVariants as memory
use Rattle.xs_instructions.specs.declared.instr.FlowIns.TheVariants as flow
use Rattle.xs_instructions.specs.declared.instr.ThreadIns.TheVariants as threads
use Rattle.xs_instructions.specs.declared.instr.ResIns.TheVariants as resources
use Rattle.sys_plan.specs.declared.NodePlan.{NodePlan}
use Rattle.sys_plan.specs.declared.WirePlan.{WirePlan}
use Rattle.sys_plan.specs.Plan.{PlanRec}
use Rattle.serial_model.specs.Serial.{node_by, pins_at, serial, history}
use Rattle.worked_runs.specs.Wires.{wired_node, joined_by, level_told}

-- these nodes and wires, and no script
abbrev pub wired : List NodePlan → List WirePlan → PlanRec
wired nodes wires = record { nodes = nodes; links = []; script = []; steps = []; wires = wires }

-- what a run of so many slots leaves: the histories of its wires, and the events of its nodes
abbrev pub told_in : PlanRec → ℕ → List (List Entry)
told_in plan slots = (serial plan slots).histories

abbrev pub events_in : PlanRec → ℕ → List (List Event)
events_in plan slots = (serial plan slots).events

-- the word in the memory of the node at a position after so many slots
abbrev pub word_after : PlanRec → ℕ → ℕ → ℕ → Option ℕ
word_after plan slots node at = load_word (node_by (serial plan slots).nodes node).core.memory at

-- what a pin of the node at a position shows from outside in a slot of a run
abbrev pub comes_at : PlanRec → ℕ → ℕ → ℕ → ℕ
comes_at plan node port slot = slice_index_or (pins_at plan (serial plan slot).histories node slot).level port 77

-- what it shows at the end of the slots of a run, where its port may drive it
abbrev pub noted_after : PlanRec → ℕ → ℕ → ℕ → ℕ
noted_after plan node port slots = slice_index_or (node_by (serial plan slots).nodes node).levels port 77

-- ---- One node drives 10 on its 4A, port 16, from slot 14 on. The other one looks in slots 8, 16, 24, 32 and so on at its 4B, port 17,
-- to which a wire comes from 4A, until it is not 0. It stores what it saw eight slots later, in the second word of its memory.

-- r0 is 4A's identifier: on, and out with a number
abbrev pub puts_out : ℕ → List Instr
puts_out number =
    Memory (memory.LdwDp 0 0) ∷ Resources (resources.SetcImm 0 8) ∷ Words (words.Ldc 1 number) ∷ Resources (resources.Out 0 1)
    ∷ Threads threads.Freet ∷ []

abbrev pub id_of_4a : List ℕ
id_of_4a = 0 ∷ 0 ∷ 4 ∷ 0 ∷ []

abbrev pub id_of_4b : List ℕ
id_of_4b = 0 ∷ 1 ∷ 4 ∷ 0 ∷ []

abbrev pub drives_10 : NodePlan
drives_10 = wired_node 0 (puts_out 10) id_of_4a

abbrev pub looks : NodePlan
looks = wired_node 1 (
    Memory (memory.LdwDp 0 0) ∷ Resources (resources.SetcImm 0 8) ∷ Resources (resources.Peek 1 0) ∷ Flow (flow.Bf 1 2)
    ∷ Memory (memory.StwDp 1 1) ∷ Threads threads.Freet ∷ []
    ) id_of_4b

-- the two with a wire of this delay
abbrev pub one_wire : ℕ → PlanRec
one_wire delay = wired (drives_10 ∷ looks ∷ []) (joined_by 0 16 1 17 delay ∷ [])

pub record WireDelays : Type 0 where
  -- `out` is in slot 12, so the wire is told once, in slot 14, whatever its delay
  pub not_yet_told : told_in (one_wire 7) 14 ≡ [] ∷ []
  pub told : told_in (one_wire 7) 15 ≡ (level_told 14 10 ∷ []) ∷ []
  pub histories : told_in (one_wire 7) 40 ≡ (level_told 14 10 ∷ []) ∷ []
  pub own_slot : history (one_wire 7) 0 14 15 ≡ level_told 14 10 ∷ []
  pub slots_before : history (one_wire 7) 0 0 14 ≡ []
  pub slots_after : history (one_wire 7) 0 15 40 ≡ []
  pub events : events_in (one_wire 7) 40 ≡ (in_slot 14 (happen.Drive 16 10) ∷ []) ∷ [] ∷ []
  pub histories_11 : told_in (one_wire 11) 40 ≡ (level_told 14 10 ∷ []) ∷ []
  -- 10 comes in slot 14 + 7, and in no earlier one
  pub before_7 : comes_at (one_wire 7) 1 17 20 ≡ 0
  pub after_7 : comes_at (one_wire 7) 1 17 21 ≡ 10
  pub stays : comes_at (one_wire 7) 1 17 40 ≡ 10
  pub next_pin : comes_at (one_wire 7) 1 18 40 ≡ 0
  pub not_back : comes_at (one_wire 7) 0 16 40 ≡ 0
  pub before_9 : comes_at (one_wire 9) 1 17 22 ≡ 0
  pub after_9 : comes_at (one_wire 9) 1 17 23 ≡ 10
  pub before_10 : comes_at (one_wire 10) 1 17 23 ≡ 0
  pub after_10 : comes_at (one_wire 10) 1 17 24 ≡ 10
  pub before_11 : comes_at (one_wire 11) 1 17 24 ≡ 0
  pub after_11 : comes_at (one_wire 11) 1 17 25 ≡ 10
  -- The look in slot 24 sees 10 with delays up to 10, and the store is in slot 32. With a delay of 11 the look in slot 32 is the first
  -- one that does, and the store is in slot 40, which is no more among 40 slots.
  pub seen_7 : word_after (one_wire 7) 40 1 0x00010004 ≡ Some 10
  pub seen_9 : word_after (one_wire 9) 40 1 0x00010004 ≡ Some 10
  pub seen_10 : word_after (one_wire 10) 40 1 0x00010004 ≡ Some 10
  pub not_stored_10 : word_after (one_wire 10) 32 1 0x00010004 ≡ Some 0
  pub stored_10 : word_after (one_wire 10) 33 1 0x00010004 ≡ Some 10
  pub not_stored_11 : word_after (one_wire 11) 40 1 0x00010004 ≡ Some 0
  pub stored_11 : word_after (one_wire 11) 41 1 0x00010004 ≡ Some 10
  -- the other words are the ports' identifiers, and nothing is stored at the node that drives
  pub own_word : word_after (one_wire 7) 40 1 0x00010000 ≡ Some 0x00040100
  pub other_word : word_after (one_wire 7) 40 0 0x00010000 ≡ Some 0x00040000
  pub other_none : word_after (one_wire 7) 40 0 0x00010004 ≡ Some 0

-- ---- The same where the script tells 5 to 4B and 6 to 4C of the second node from the first slot on.

abbrev pub one_wire_in_script : PlanRec
one_wire_in_script = record (one_wire 7) {
  script = record { slot = 0; node = 1; port = 17; value = 5 } ∷ record { slot = 0; node = 1; port = 18; value = 6 } ∷ [];
}

-- The wire comes to 4B, so its line has no effect: were it 5 that the look in slot 8 sees, 5 would be stored in slot 16. The one of 4C
-- has its effect.
pub record WireBeforeScript : Type 0 where
  pub at_first : comes_at one_wire_in_script 1 17 0 ≡ 0
  pub before : comes_at one_wire_in_script 1 17 20 ≡ 0
  pub after : comes_at one_wire_in_script 1 17 21 ≡ 10
  pub next_pin : comes_at one_wire_in_script 1 18 20 ≡ 6
  pub not_stored : word_after one_wire_in_script 17 1 0x00010004 ≡ Some 0
  pub stored : word_after one_wire_in_script 40 1 0x00010004 ≡ Some 10

-- ---- What a wire is told: one node with other programs, and one that does nothing

abbrev pub does_nothing : NodePlan
does_nothing = wired_node 1 (Threads threads.Freet ∷ []) []

abbrev pub told_of : List Instr → PlanRec
told_of code = wired (wired_node 0 code id_of_4a ∷ does_nothing ∷ []) (joined_by 0 16 1 17 7 ∷ [])

-- 4A drives 0 from slot 14 on: an event, but no other level than before
abbrev pub drives_0 : PlanRec
drives_0 = told_of (puts_out 0)

-- out with 10, and off in slot 16
abbrev pub drives_then_off : PlanRec
drives_then_off = told_of (
    Memory (memory.LdwDp 0 0) ∷ Resources (resources.SetcImm 0 8) ∷ Words (words.Ldc 1 10) ∷ Resources (resources.Out 0 1)
    ∷ Resources (resources.SetcImm 0 0) ∷ Threads threads.Freet ∷ []
    )

-- out with 10 in slots 12 and 16, with 3 in slot 24, and on again in slot 28, which lets go of the pins too
abbrev pub drives_again : PlanRec
drives_again = told_of (
    Memory (memory.LdwDp 0 0) ∷ Resources (resources.SetcImm 0 8) ∷ Words (words.Ldc 1 10) ∷ Resources (resources.Out 0 1)
    ∷ Resources (resources.Out 0 1) ∷ Words (words.Ldc 1 3) ∷ Resources (resources.Out 0 1) ∷ Resources (resources.SetcImm 0 8)
    ∷ Threads threads.Freet ∷ []
    )

-- Out in slot 16 with a number that is the port time of the output too, and `in` from slot 20 on, which waits until all went out and then
-- lets go of the pins. On since slot 4, the port counts 5 in slot 22 and 6 in slot 26.
abbrev pub drives_in_time : ℕ → PlanRec
drives_in_time time = told_of (
    Memory (memory.LdwDp 0 0) ∷ Resources (resources.SetcImm 0 8) ∷ Words (words.Ldc 1 time) ∷ Resources (resources.Setpt 0 1)
    ∷ Resources (resources.Out 0 1) ∷ Resources (resources.In 2 0) ∷ Threads threads.Freet ∷ []
    )

-- Buffers, and transfers of 8 bits: out in slot 24 with 0xa5, of which the low half leaves first.
abbrev pub drives_two_beats : PlanRec
drives_two_beats = told_of (
    Memory (memory.LdwDp 0 0) ∷ Resources (resources.SetcImm 0 8) ∷ Resources (resources.SetcImm 0 0x200f) ∷ Words (words.Ldc 1 8)
    ∷ Resources (resources.Settw 0 1) ∷ Words (words.Ldc 1 0xa5) ∷ Resources (resources.Out 0 1) ∷ Threads threads.Freet ∷ []
    )

pub record WhatWiresAreTold : Type 0 where
  pub zero : told_in drives_0 20 ≡ [] ∷ []
  pub zero_events : events_in drives_0 20 ≡ (in_slot 14 (happen.Drive 16 0) ∷ []) ∷ [] ∷ []
  -- where nothing is driven any more the level is 0, in the slot of the instruction
  pub off : told_in drives_then_off 24 ≡ (level_told 14 10 ∷ level_told 16 0 ∷ []) ∷ []
  pub off_events : events_in drives_then_off 24 ≡ (in_slot 14 (happen.Drive 16 10) ∷ in_slot 16 (happen.Float 16) ∷ []) ∷ [] ∷ []
  pub off_before : comes_at drives_then_off 1 17 22 ≡ 10
  pub off_comes : comes_at drives_then_off 1 17 23 ≡ 0
  -- the same level is not told twice
  pub again : told_in drives_again 32 ≡ (level_told 14 10 ∷ level_told 26 3 ∷ level_told 28 0 ∷ []) ∷ []
  pub again_events : events_in drives_again 32
      ≡ (in_slot 14 (happen.Drive 16 10) ∷ in_slot 26 (happen.Drive 16 3) ∷ in_slot 28 (happen.Float 16) ∷ []) ∷ [] ∷ []
  -- one beat goes out in slot 26 and one in slot 30
  pub beats : told_in drives_two_beats 40 ≡ (level_told 26 5 ∷ level_told 30 10 ∷ []) ∷ []
  -- 5 goes out in slot 22. The thread issued last in slot 20, so `in` is executed again in slot 24.
  pub let_go_later : told_in (drives_in_time 5) 36 ≡ (level_told 22 5 ∷ level_told 24 0 ∷ []) ∷ []
  pub let_go_later_events : events_in (drives_in_time 5) 36
      ≡ (in_slot 22 (happen.Drive 16 5) ∷ in_slot 24 (happen.Float 16) ∷ []) ∷ [] ∷ []
  -- 6 goes out in slot 26, and `in` is executed again in that very slot: 6 is driven and let go within it, and the wire is told nothing
  pub let_go_at_once : told_in (drives_in_time 6) 36 ≡ [] ∷ []
  pub let_go_at_once_events : events_in (drives_in_time 6) 36
      ≡ (in_slot 26 (happen.Drive 16 6) ∷ in_slot 26 (happen.Float 16) ∷ []) ∷ [] ∷ []

-- ---- What comes to a pin is sampled in the slot in which it comes. The second node waits from slot 12 on for what is not 0 on its 4B, and
-- stores it. Rising edges are in slots 0, 4, 8 and so on.

abbrev pub samples : NodePlan
samples = wired_node 1 (
    Memory (memory.LdwDp 0 0) ∷ Resources (resources.SetcImm 0 8) ∷ Resources (resources.SetcImm 0 0x19) ∷ Resources (resources.In 1 0)
    ∷ Memory (memory.StwDp 1 1) ∷ Threads threads.Freet ∷ []
    ) id_of_4b

abbrev pub sampled_by_wire : ℕ → PlanRec
sampled_by_wire delay = wired (drives_10 ∷ samples ∷ []) (joined_by 0 16 1 17 delay ∷ [])

-- A strobe is as at the end of the slot before. The first node drives 1 on its 1A, port 0, from slot 14 on, from which a wire comes to the
-- second node's 1B, port 1, the strobe of its 4A. There the script tells 6, for which the second node waits from slot 24 on, and which it
-- stores.
abbrev pub strobes : NodePlan
strobes = wired_node 0 (puts_out 1) (0 ∷ 0 ∷ 1 ∷ 0 ∷ [])

abbrev pub is_strobed : NodePlan
is_strobed = wired_node 1 (
    Memory (memory.LdwDp 0 0) ∷ Memory (memory.LdwDp 1 1) ∷ Resources (resources.SetcImm 0 8) ∷ Resources (resources.SetcImm 1 8)
    ∷ Resources (resources.Setrdy 0 1) ∷ Resources (resources.SetcImm 0 0x17) ∷ Resources (resources.In 2 0) ∷ Memory (memory.StwDp 2 2)
    ∷ Threads threads.Freet ∷ []
    ) (0 ∷ 0 ∷ 4 ∷ 0 ∷ 0 ∷ 1 ∷ 1 ∷ 0 ∷ [])

abbrev pub strobed_by_wire : ℕ → PlanRec
strobed_by_wire delay = record (wired (strobes ∷ is_strobed ∷ []) (joined_by 0 0 1 1 delay ∷ [])) {
  script = record { slot = 0; node = 1; port = 16; value = 6 } ∷ [];
}

pub record SampledByWire : Type 0 where
  -- with a delay of 10 the edge in slot 24 samples, `in` is done in the same slot, and the store is in slot 28
  pub not_stored_10 : word_after (sampled_by_wire 10) 28 1 0x00010004 ≡ Some 0
  pub stored_10 : word_after (sampled_by_wire 10) 29 1 0x00010004 ≡ Some 10
  -- with one of 11 it is the edge in slot 28, and the store is in slot 32
  pub not_stored_11 : word_after (sampled_by_wire 11) 32 1 0x00010004 ≡ Some 0
  pub stored_11 : word_after (sampled_by_wire 11) 33 1 0x00010004 ≡ Some 10
  -- with a delay of 21 the strobe is high from the end of slot 35 on, so the edge in slot 36 samples, and the store is in slot 40
  pub not_strobed_21 : word_after (strobed_by_wire 21) 40 1 0x00010008 ≡ Some 0
  pub strobed_21 : word_after (strobed_by_wire 21) 41 1 0x00010008 ≡ Some 6
  -- with one of 22 it is high from the end of slot 36 on, so the edge in slot 40 is the first one that samples
  pub not_strobed_22 : word_after (strobed_by_wire 22) 44 1 0x00010008 ≡ Some 0
  pub strobed_22 : word_after (strobed_by_wire 22) 45 1 0x00010008 ≡ Some 6

-- ---- Two wires from one pin, with delays of 7 and of 11

abbrev pub two_wires : PlanRec
two_wires = wired (drives_10 ∷ does_nothing ∷ []) (joined_by 0 16 1 17 7 ∷ joined_by 0 16 1 18 11 ∷ [])

pub record TwoWiresFromOnePin : Type 0 where
  pub histories : told_in two_wires 20 ≡ (level_told 14 10 ∷ []) ∷ (level_told 14 10 ∷ []) ∷ []
  pub first_before : comes_at two_wires 1 17 20 ≡ 0
  pub first : comes_at two_wires 1 17 21 ≡ 10
  pub second_before : comes_at two_wires 1 18 24 ≡ 0
  pub second : comes_at two_wires 1 18 25 ≡ 10

-- ---- Two wires there and back between two pins, with delays of 7 and of 10. The second node looks as above, and then drives 7 less than
-- it saw on the same pin: out in slot 36. It looks again in slot 40, and stores what it saw in slot 44.

abbrev pub answers : NodePlan
answers = wired_node 1 (
    Memory (memory.LdwDp 0 0) ∷ Resources (resources.SetcImm 0 8) ∷ Resources (resources.Peek 1 0) ∷ Flow (flow.Bf 1 2)
    ∷ Words (words.SubImm 1 1 7) ∷ Resources (resources.Out 0 1) ∷ Resources (resources.Peek 2 0) ∷ Memory (memory.StwDp 2 1)
    ∷ Threads threads.Freet ∷ []
    ) id_of_4b

abbrev pub there_and_back : PlanRec
there_and_back = wired (drives_10 ∷ answers ∷ []) (joined_by 0 16 1 17 7 ∷ joined_by 1 17 0 16 10 ∷ [])

pub record ThereAndBack : Type 0 where
  -- 10 comes to 4B in slot 21. The wire that begins there is told nothing of it, and 4A of the first node is shown nothing.
  pub not_handed_on : told_in there_and_back 38 ≡ (level_told 14 10 ∷ []) ∷ [] ∷ []
  pub shows : noted_after there_and_back 1 17 22 ≡ 10
  pub shown_nothing : comes_at there_and_back 0 16 47 ≡ 0
  -- it is told what the port drives itself, from slot 38 on
  pub own_level : told_in there_and_back 39 ≡ (level_told 14 10 ∷ []) ∷ (level_told 38 3 ∷ []) ∷ []
  pub histories : told_in there_and_back 50 ≡ (level_told 14 10 ∷ []) ∷ (level_told 38 3 ∷ []) ∷ []
  -- a pin that its port drives shows that, here 3, though 10 comes
  pub still_comes : comes_at there_and_back 1 17 40 ≡ 10
  pub shows_own : noted_after there_and_back 1 17 39 ≡ 3
  pub stored : word_after there_and_back 45 1 0x00010004 ≡ Some 3
  -- so does 4A of the first node, to which 3 comes in slot 48
  pub answer : comes_at there_and_back 0 16 48 ≡ 3
  pub first_shows_own : noted_after there_and_back 0 16 49 ≡ 10

-- ---- A loop with an inverter: 1A of each node, port 0, drives 1B of the other one, port 1. Both look at 1B in slots 16, 32, 48 and so on
-- and put out on 1A eight slots later, which is driven from the second slot after that on: the first node the inverse of what it saw, and
-- the other one that itself.

abbrev pub ids_of_1a_1b : List ℕ
ids_of_1a_1b = 0 ∷ 0 ∷ 1 ∷ 0 ∷ 0 ∷ 1 ∷ 1 ∷ 0 ∷ []

abbrev pub hands_on : Instr → List Instr
hands_on between =
    Memory (memory.LdwDp 0 0) ∷ Memory (memory.LdwDp 1 1) ∷ Resources (resources.SetcImm 0 8) ∷ Resources (resources.SetcImm 1 8)
    ∷ Resources (resources.Peek 2 1) ∷ between ∷ Resources (resources.Out 0 2) ∷ Flow (flow.Bu 4) ∷ []

abbrev pub inverter_loop : ℕ → PlanRec
inverter_loop delay = wired
    (wired_node 0 (hands_on (Words (words.Not 2 2))) ids_of_1a_1b ∷ wired_node 1 (hands_on (Words words.Nop)) ids_of_1a_1b ∷ [])
    (joined_by 0 0 1 1 delay ∷ joined_by 1 0 0 1 delay ∷ [])

pub record WireLoop : Type 0 where
  -- With a delay of 6 what is driven from slot 26 on is seen in slot 32, and so on. By rounds of 16 slots the first node drives 1, 1, 0,
  -- 0, .., and the other one 0, 1, 1, 0, ..
  pub next_look : told_in (inverter_loop 6) 80
      ≡ (level_told 26 1 ∷ level_told 58 0 ∷ []) ∷ (level_told 42 1 ∷ level_told 74 0 ∷ []) ∷ []
  -- with one of 7 it is seen one round later, in slot 48: the first node drives 1, 1, 1, 1, .., and the other one 0, 0, 1, 1, ..
  pub look_after : told_in (inverter_loop 7) 80 ≡ (level_told 26 1 ∷ []) ∷ (level_told 58 1 ∷ []) ∷ []
