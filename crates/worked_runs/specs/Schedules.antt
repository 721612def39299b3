-- Schedules worked out by hand.
use Rattle.std.specs.Prelude.{ℕ, ◌≡◌, List, [], ◌∷◌, ◌++◌, replicate}
use Rattle.sys_plan.specs.declared.NodePlan.{NodePlan}
use Rattle.sys_plan.specs.NodePlans.{plain_plan}
use Rattle.sys_plan.specs.declared.Step.{Step}
use Rattle.sys_plan.specs.declared.Step.TheVariants.{Take, Run, Send}
use Rattle.sys_plan.specs.Plan.{PlanRec}
use Rattle.ahead_limits.specs.Schedule.{numbers}

-- a node with no code and no ways, whose number is its id
abbrev pub idle_node : ℕ → NodePlan
idle_node id = plain_plan id id (record { code = []; bytes = []; cp_at = 0x00010000; symbols = [] }) (replicate 16 0)

-- two nodes, and a link with a delay of 5 between their link ends 0
abbrev pub pair : List Step → PlanRec
pair steps = record {
  nodes = idle_node 0 ∷ idle_node 1 ∷ [];
  links = record { a = 0; a_end = 0; b = 1; b_end = 0; delay = 5; gap = 4; net = 0 } ∷ [];
  script = [];
  steps = steps;
  wires = [];
}

-- Nothing is known of what comes to node 0 before slot 5, and so it runs 5 slots. Node 1 sees these, and runs to slot 10. Node 0 sees
-- that, and runs on to slot 15.
abbrev pub in_turn : List Step
in_turn = Run 0 10 ∷ Send 0 0 ∷ Take 1 0 ∷ Run 1 20 ∷ Send 1 0 ∷ Take 0 0 ∷ Run 0 20 ∷ Send 0 0 ∷ []

-- node 1 takes before anything was sent
abbrev pub alone : List Step
alone = Take 1 0 ∷ Run 1 20 ∷ Send 1 0 ∷ Run 1 20 ∷ []

-- the clock of node 0 and that of node 1; of the links what is told of the one from node 0 to node 1, and then of the way back
pub record PairNumbers : Type 0 where
  pub at_start : numbers (pair []) 40 ≡ record { clocks = 0 ∷ 0 ∷ []; seen = 0 ∷ 0 ∷ []; published = 0 ∷ 0 ∷ [] }
  pub taking_turns : numbers (pair in_turn) 40 ≡ record { clocks = 15 ∷ 10 ∷ []; seen = 5 ∷ 10 ∷ []; published = 15 ∷ 10 ∷ [] }
  -- the run ends before slot 12
  pub cut : numbers (pair in_turn) 12 ≡ record { clocks = 12 ∷ 10 ∷ []; seen = 5 ∷ 10 ∷ []; published = 12 ∷ 10 ∷ [] }
  -- the run ends before slot 3
  pub nothing_heard : numbers (pair alone) 3 ≡ record { clocks = 0 ∷ 3 ∷ []; seen = 0 ∷ 0 ∷ []; published = 0 ∷ 3 ∷ [] }
  -- what is published after a take is not seen
  pub sent_twice : numbers (pair (Run 0 2 ∷ Send 0 0 ∷ Send 0 0 ∷ Take 1 0 ∷ Run 0 1 ∷ Send 0 0 ∷ [])) 40
      ≡ record { clocks = 3 ∷ 0 ∷ []; seen = 2 ∷ 0 ∷ []; published = 3 ∷ 0 ∷ [] }

-- three nodes in a ring: delay 5 between 0 and 1, 2 between 1 and 2, 7 between 2 and 0
abbrev pub ring : List Step → PlanRec
ring steps = record {
  nodes = idle_node 0 ∷ idle_node 1 ∷ idle_node 2 ∷ [];
  links = record { a = 0; a_end = 0; b = 1; b_end = 0; delay = 5; gap = 4; net = 0 }
      ∷ record { a = 1; a_end = 1; b = 2; b_end = 0; delay = 2; gap = 4; net = 0 }
      ∷ record { a = 2; a_end = 1; b = 0; b_end = 1; delay = 7; gap = 4; net = 0 }
      ∷ [];
  script = [];
  steps = steps;
  wires = [];
}

-- The count stops node 0 at slot 3. The link from node 2 stops node 1 at slot 2, and the link from node 1 then node 2 at slot 4.
abbrev pub first_round : List Step
first_round = Run 0 3 ∷ Send 0 0 ∷ Send 0 1 ∷ Run 1 9 ∷ Send 1 1 ∷ Take 2 0 ∷ Run 2 9 ∷ Take 2 1 ∷ Run 2 9 ∷ Send 2 0 ∷ []

-- The count stops node 1 at slot 3. With what it then sees of node 0 too it runs to slot 6, where the link from node 2 stops it: 4 + 2.
abbrev pub second_round : List Step
second_round = Take 1 1 ∷ Run 1 1 ∷ Take 1 0 ∷ Run 1 100 ∷ Send 1 0 ∷ []

-- The link from node 2 stops node 0 at slot 7, and after another take both links stop it at slot 11: 6 + 5, and 4 + 7.
abbrev pub third_round : List Step
third_round = Take 0 0 ∷ Run 0 100 ∷ Send 2 1 ∷ Take 0 1 ∷ Run 0 100 ∷ Send 0 0 ∷ []

-- the links stand in this order: from 0 to 1 and back, from 1 to 2 and back, from 2 to 0 and back
pub record RingNumbers : Type 0 where
  pub first : numbers (ring first_round) 100
      ≡ record { clocks = 3 ∷ 2 ∷ 4 ∷ []; seen = 0 ∷ 0 ∷ 2 ∷ 0 ∷ 0 ∷ 3 ∷ []; published = 3 ∷ 0 ∷ 2 ∷ 4 ∷ 0 ∷ 3 ∷ [] }
  pub second : numbers (ring (first_round ++ second_round)) 100
      ≡ record { clocks = 3 ∷ 6 ∷ 4 ∷ []; seen = 3 ∷ 0 ∷ 2 ∷ 4 ∷ 0 ∷ 3 ∷ []; published = 3 ∷ 6 ∷ 2 ∷ 4 ∷ 0 ∷ 3 ∷ [] }
  pub third : numbers (ring (first_round ++ (second_round ++ third_round))) 100
      ≡ record { clocks = 11 ∷ 6 ∷ 4 ∷ []; seen = 3 ∷ 6 ∷ 2 ∷ 4 ∷ 4 ∷ 3 ∷ []; published = 11 ∷ 6 ∷ 2 ∷ 4 ∷ 4 ∷ 3 ∷ [] }
