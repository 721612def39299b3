-- Rounds worked out by hand.
use Rattle.std.specs.Prelude.{◌≡◌, Some, None, List, [], ◌∷◌, ◌++◌}
use Rattle.sys_plan.specs.declared.NodePlan.{NodePlan}
use Rattle.sys_plan.specs.declared.LinkPlan.{LinkPlan}
use Rattle.sys_plan.specs.declared.Step.{Step}
use Rattle.sys_plan.specs.declared.Step.TheVariants.{Take, Run, Send}
use Rattle.sys_plan.specs.Plan.{PlanRec, arcs}
use Rattle.ahead_limits.specs.Schedule.{numbers}
use Rattle.round_laws.specs.Rounds.{round_clocks, rounds, least_delay}
use Rattle.worked_runs.specs.Schedules.{idle_node, pair}

-- nodes without code, and links between them
abbrev pub of_nodes : List NodePlan → List LinkPlan → PlanRec
of_nodes nodes links = record { nodes = nodes; links = links; script = []; steps = []; wires = [] }

-- nothing comes to a node without links, and so it runs to the limit at once
pub record LoneRounds : Type 0 where
  pub no_slots : rounds (of_nodes (idle_node 0 ∷ []) []) 0 ≡ 0
  pub one_slot : rounds (of_nodes (idle_node 0 ∷ []) []) 1 ≡ 1
  pub many : rounds (of_nodes (idle_node 0 ∷ []) []) 1000 ≡ 1
  pub both_at_once : round_clocks (of_nodes (idle_node 0 ∷ idle_node 1 ∷ []) []) 7 1 ≡ 7 ∷ 7 ∷ []
  pub no_delay : least_delay [] ≡ None

-- two nodes, and a link with a delay of 5
pub record PairRounds : Type 0 where
  pub before : round_clocks (pair []) 40 0 ≡ 0 ∷ 0 ∷ []
  pub first : round_clocks (pair []) 40 1 ≡ 5 ∷ 5 ∷ []
  pub seventh : round_clocks (pair []) 40 7 ≡ 35 ∷ 35 ∷ []
  pub eighth : round_clocks (pair []) 40 8 ≡ 40 ∷ 40 ∷ []
  pub ninth : round_clocks (pair []) 40 9 ≡ 40 ∷ 40 ∷ []
  pub to_40 : rounds (pair []) 40 ≡ 8
  -- 5 does not go into 41 and 44 without a rest
  pub to_41 : rounds (pair []) 41 ≡ 9
  pub to_44 : rounds (pair []) 44 ≡ 9
  pub to_45 : rounds (pair []) 45 ≡ 9
  -- a run that is shorter than the delay, as long, and a slot longer
  pub to_1 : rounds (pair []) 1 ≡ 1
  pub to_5 : rounds (pair []) 5 ≡ 1
  pub to_6 : rounds (pair []) 6 ≡ 2
  pub to_0 : rounds (pair []) 0 ≡ 0

-- both run as far as they may, then both publish, then both take
abbrev pub in_step : List Step
in_step = Run 0 1000 ∷ Run 1 1000 ∷ Send 0 0 ∷ Send 1 0 ∷ Take 0 0 ∷ Take 1 0 ∷ []

-- a schedule that does so goes by rounds
pub record StepRounds : Type 0 where
  pub first : (numbers (pair in_step) 23).clocks ≡ round_clocks (pair []) 23 1
  pub third : (numbers (pair (in_step ++ (in_step ++ in_step))) 23).clocks ≡ round_clocks (pair []) 23 3
  pub fifth : (numbers (pair (in_step ++ (in_step ++ (in_step ++ (in_step ++ in_step))))) 23).clocks ≡ round_clocks (pair []) 23 5
  pub five : rounds (pair []) 23 ≡ 5

-- three nodes in a ring: delay 3 between 0 and 1, 7 between 1 and 2 and between 2 and 0
abbrev pub slow_third : PlanRec
slow_third = of_nodes (idle_node 0 ∷ idle_node 1 ∷ idle_node 2 ∷ [])
    (record { a = 0; a_end = 0; b = 1; b_end = 0; delay = 3; gap = 4; net = 0 }
    ∷ record { a = 1; a_end = 1; b = 2; b_end = 0; delay = 7; gap = 4; net = 0 }
    ∷ record { a = 2; a_end = 1; b = 0; b_end = 1; delay = 7; gap = 4; net = 0 }
    ∷ [])

-- Nodes 0 and 1 wait for each other, 3 slots a round; node 2 is 7 slots ahead of where they were, which is 4 ahead of where they are.
pub record RingRounds : Type 0 where
  pub first : round_clocks slow_third 20 1 ≡ 3 ∷ 3 ∷ 7 ∷ []
  pub second : round_clocks slow_third 20 2 ≡ 6 ∷ 6 ∷ 10 ∷ []
  pub fifth : round_clocks slow_third 20 5 ≡ 15 ∷ 15 ∷ 19 ∷ []
  pub sixth : round_clocks slow_third 20 6 ≡ 18 ∷ 18 ∷ 20 ∷ []
  pub seventh : round_clocks slow_third 20 7 ≡ 20 ∷ 20 ∷ 20 ∷ []
  pub to_20 : rounds slow_third 20 ≡ 7
  pub to_21 : rounds slow_third 21 ≡ 7
  pub to_22 : rounds slow_third 22 ≡ 8
  pub least : least_delay (arcs slow_third) ≡ Some 3

-- Nodes 0 and 1 with a delay of 6, two links between 1 and 2 with delays of 4 and 9, and node 3 alone. The shorter of the two links counts.
abbrev pub two_ways : PlanRec
two_ways = of_nodes (idle_node 0 ∷ idle_node 1 ∷ idle_node 2 ∷ idle_node 3 ∷ [])
    (record { a = 0; a_end = 0; b = 1; b_end = 0; delay = 6; gap = 4; net = 0 }
    ∷ record { a = 2; a_end = 3; b = 1; b_end = 1; delay = 9; gap = 4; net = 0 }
    ∷ record { a = 1; a_end = 2; b = 2; b_end = 5; delay = 4; gap = 4; net = 0 }
    ∷ [])

pub record TwoWays : Type 0 where
  pub first : round_clocks two_ways 10 1 ≡ 6 ∷ 4 ∷ 4 ∷ 10 ∷ []
  pub second : round_clocks two_ways 10 2 ≡ 10 ∷ 8 ∷ 8 ∷ 10 ∷ []
  pub third : round_clocks two_ways 10 3 ≡ 10 ∷ 10 ∷ 10 ∷ 10 ∷ []
  pub to_10 : rounds two_ways 10 ≡ 3
