-- Wires of plans worked out by hand: their arcs, and what they bring to pins.
use Rattle.std.specs.Prelude.{ℕ, ◌≡◌, true, false, Some, None, List, [], ◌∷◌, replicate, slice_index_or}
use Rattle.xs_base.specs.declared.entry.Entry.{Entry}
use Rattle.xs_base.specs.declared.entry.What.TheVariants as what
use Rattle.xs_model.specs.Record.{NodeRec, first_node, with_port, off_port}
use Rattle.sys_plan.specs.declared.NodePlan.{NodePlan}
use Rattle.sys_plan.specs.declared.WirePlan.{WirePlan}
use Rattle.sys_plan.specs.Plan.{PlanRec, arcs, arc_count, outgoing, incoming, wire_to, delay_of, gap_of, gaps_of}
use Rattle.xs_instructions.specs.declared.instr.Instr.{Instr}
use Rattle.serial_model.specs.Serial.{pins_at, arrivals_at, level_entries, driven_level}
use Rattle.worked_runs.specs.Systems.{plain_node}

-- a node of edition 2, which wires need, whose number is its id, with this code and these bytes of data
abbrev pub wired_node : ℕ → List Instr → List ℕ → NodePlan
wired_node id code bytes = record (plain_node id code bytes) { edition = 2 }

-- a wire from a pin of the node at a position to a pin of the one at another, each by its port's number, with a delay
abbrev pub joined_by : ℕ → ℕ → ℕ → ℕ → ℕ → WirePlan
joined_by a a_port b b_port delay = record { a = a; a_port = a_port; b = b; b_port = b_port; delay = delay }

-- a port drives its pins from a slot on with another level than before
abbrev pub level_told : ℕ → ℕ → Entry
level_told slot level = record { slot = slot; what = what.Level level }

-- Three nodes, with the numbers 3, 5 and 7, two links and four wires, by position: 0:4A to 1:4B, 0:4A to 2:4A, 1:4B to 2:4C, which goes
-- on from the pin to which the first one comes, and 2:1A to 1:1B. Ports 4A, 4B and 4C are 16, 17 and 18, and 1A and 1B are 0 and 1. The
-- script tells three pins a level from slot 3 on: 4A of the first node, and 4A and 4B of the second one.
abbrev pub wired_three : PlanRec
wired_three = record {
  nodes = wired_node 3 [] [] ∷ wired_node 5 [] [] ∷ wired_node 7 [] [] ∷ [];
  links = record { a = 0; a_end = 0; b = 1; b_end = 0; delay = 5; gap = 4; net = 0 }
      ∷ record { a = 1; a_end = 1; b = 2; b_end = 3; delay = 6; gap = 5; net = 0 }
      ∷ [];
  script = record { slot = 3; node = 3; port = 16; value = 12 }
      ∷ record { slot = 3; node = 5; port = 16; value = 5 }
      ∷ record { slot = 3; node = 5; port = 17; value = 9 }
      ∷ [];
  steps = [];
  wires = joined_by 0 16 1 17 7 ∷ joined_by 0 16 2 16 9 ∷ joined_by 1 17 2 18 1 ∷ joined_by 2 0 1 1 1000 ∷ [];
}

pub record WorkedWires : Type 0 where
  -- Two links are arcs 0 to 3, so the wires are 4 to 7, in their order. The first two leave node 0 and are its ends 8 and 9, the third
  -- one is end 8 of node 1, and the fourth end 8 of node 2. The first and the fourth come to node 1, by its ends 8 and 9, and so do the
  -- second and the third to node 2. They have no gap.
  pub all : arcs wired_three
      ≡ record { from = 0; from_end = 0; to = 1; to_end = 0; delay = 5; gap = 4; joins = None }
      ∷ record { from = 1; from_end = 0; to = 0; to_end = 0; delay = 5; gap = 4; joins = None }
      ∷ record { from = 1; from_end = 1; to = 2; to_end = 3; delay = 6; gap = 5; joins = None }
      ∷ record { from = 2; from_end = 3; to = 1; to_end = 1; delay = 6; gap = 5; joins = None }
      ∷ record { from = 0; from_end = 8; to = 1; to_end = 8; delay = 7; gap = 0; joins = Some (record { from_port = 16; to_port = 17 }) }
      ∷ record { from = 0; from_end = 9; to = 2; to_end = 8; delay = 9; gap = 0; joins = Some (record { from_port = 16; to_port = 16 }) }
      ∷ record { from = 1; from_end = 8; to = 2; to_end = 9; delay = 1; gap = 0; joins = Some (record { from_port = 17; to_port = 18 }) }
      ∷ record { from = 2; from_end = 8; to = 1; to_end = 9; delay = 1000; gap = 0; joins = Some (record { from_port = 0; to_port = 1 }) }
      ∷ []
  pub count : arc_count wired_three ≡ 8
  -- two wires leave node 0 and none comes to it; an end that is there one way is not there the other way
  pub first_leaves : outgoing wired_three 0 8 ≡ Some 4
  pub second_leaves : outgoing wired_three 0 9 ≡ Some 5
  pub no_third_leaves : outgoing wired_three 0 10 ≡ None
  pub none_comes : incoming wired_three 0 8 ≡ None
  -- one leaves node 1 and two come to it
  pub third_leaves : outgoing wired_three 1 8 ≡ Some 6
  pub no_second_leaves : outgoing wired_three 1 9 ≡ None
  pub first_comes : incoming wired_three 1 8 ≡ Some 4
  pub fourth_comes : incoming wired_three 1 9 ≡ Some 7
  pub no_third_comes : incoming wired_three 1 10 ≡ None
  pub fourth_leaves : outgoing wired_three 2 8 ≡ Some 7
  pub second_comes : incoming wired_three 2 8 ≡ Some 5
  pub third_comes : incoming wired_three 2 9 ≡ Some 6
  -- link ends stay as they are without wires: 0 and 1 of node 1, and 3 of node 2
  pub link_leaves : outgoing wired_three 2 3 ≡ Some 3
  pub link_comes : incoming wired_three 1 0 ≡ Some 0
  pub no_link_leaves : outgoing wired_three 1 2 ≡ None
  pub gaps : gaps_of wired_three 1 ≡ 4 ∷ 5 ∷ replicate 6 0
  pub last_link_delay : delay_of wired_three 3 ≡ 6
  pub first_wire_delay : delay_of wired_three 4 ≡ 7
  pub third_wire_delay : delay_of wired_three 6 ≡ 1
  pub last_wire_delay : delay_of wired_three 7 ≡ 1000
  pub wire_gap : gap_of wired_three 7 ≡ 0
  -- pins to which a wire comes
  pub to_4b : wire_to wired_three 1 17 ≡ Some 4
  pub to_4a : wire_to wired_three 2 16 ≡ Some 5
  pub to_4c : wire_to wired_three 2 18 ≡ Some 6
  pub to_1b : wire_to wired_three 1 1 ≡ Some 7
  -- none comes to the pin at which two begin, to the pin that has its number at node 1, nor to port 0, which a link does not join
  pub not_to_a_source : wire_to wired_three 0 16 ≡ None
  pub not_to_4a : wire_to wired_three 1 16 ≡ None
  pub not_to_1a : wire_to wired_three 1 0 ≡ None

-- The first node's 4A drives 6 from slot 2 on and 3 from slot 5 on, which both of its wires are told. The second node's 4B drives 1 from
-- slot 4 on, and the third node's 1A drives 1 from slot 0 on.
abbrev pub told_before : List (List Entry)
told_before =
    [] ∷ [] ∷ [] ∷ [] ∷ (level_told 2 6 ∷ level_told 5 3 ∷ []) ∷ (level_told 2 6 ∷ level_told 5 3 ∷ []) ∷ (level_told 4 1 ∷ []) ∷ (level_told 0 1 ∷ []) ∷ []

-- what the pin of a port shows from outside, at the node at a position in a slot
abbrev pub shown_at : ℕ → ℕ → ℕ → ℕ
shown_at node port slot = slice_index_or (pins_at wired_three told_before node slot).level port 77

pub record WiredPins : Type 0 where
  -- The delay of the wire to 4B of node 1 is 7: 6 comes in slot 9, and 3 in slot 12. Before, the pin shows 0, and the script's 9 never.
  pub before : shown_at 1 17 8 ≡ 0
  pub first : shown_at 1 17 9 ≡ 6
  pub still_first : shown_at 1 17 11 ≡ 6
  pub second : shown_at 1 17 12 ≡ 3
  pub stays : shown_at 1 17 900 ≡ 3
  -- the other wire from the same pin has a delay of 9: 6 comes in slot 11, and 3 in slot 14
  pub other_before : shown_at 2 16 10 ≡ 0
  pub other_first : shown_at 2 16 11 ≡ 6
  pub other_still_first : shown_at 2 16 13 ≡ 6
  pub other_second : shown_at 2 16 14 ≡ 3
  -- The least delay and the greatest one: 1 comes in slot 5, and in slot 1000. The wire that goes on from 4B of node 1 brings what that
  -- pin's port drives, and not what comes to the pin.
  pub short_before : shown_at 2 18 4 ≡ 0
  pub short : shown_at 2 18 5 ≡ 1
  pub short_stays : shown_at 2 18 900 ≡ 1
  pub long_before : shown_at 1 1 999 ≡ 0
  pub long : shown_at 1 1 1000 ≡ 1
  -- pins to which no wire comes show what the script tells, one at which wires begin too
  pub script_before : shown_at 1 16 2 ≡ 0
  pub script : shown_at 1 16 3 ≡ 5
  pub source_pin : shown_at 0 16 3 ≡ 12
  pub neither : shown_at 2 17 900 ≡ 0
  -- nothing arrives by link ends in slots in which levels come
  pub no_tokens : (arrivals_at wired_three told_before 9 1).tokens ≡ replicate 8 None
  pub no_credits : (arrivals_at wired_three told_before 9 1).credits ≡ replicate 8 false

-- a node whose port 16 drives a level
abbrev pub driving : ℕ → NodeRec
driving level =
    let first = first_node 0 0 [] in record first { core = with_port first.core 16 (record off_port { on = true; output = true; driven = Some level }) }

-- A wire is told of a level that differs from the one before; where nothing is driven it is 0.
pub record ToldLevels : Type 0 where
  pub driven : driven_level (driving 10) 16 ≡ 10
  pub next_port : driven_level (driving 10) 17 ≡ 0
  pub risen : level_entries 14 0 10 ≡ level_told 14 10 ∷ []
  pub fallen : level_entries 16 10 0 ≡ level_told 16 0 ∷ []
  pub another : level_entries 18 10 3 ≡ level_told 18 3 ∷ []
  pub same : level_entries 18 10 10 ≡ []
  pub still_none : level_entries 18 0 0 ≡ []
