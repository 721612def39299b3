-- Rounds of a run. In a round every node runs as far as it may by what the others had run after the round before.
use Rattle.std.specs.Prelude.{ℕ, zero, suc, ◌+◌, min, Bool, true, false, ◌==◌, Option, Some, None, List, [], ◌∷◌, length, map, filter, replicate, slice_index}
use Rattle.std.specs.List.{list_all}
use Rattle.xs_base.specs.Numbers.{Slot, Position}
use Rattle.sys_plan.specs.declared.NodePlan.{NodePlan}
use Rattle.sys_plan.specs.Plan.{PlanRec, Arc, arcs}

-- how far an arc lets its receiver run, where all is known that its sender has run: the sender's clock and the delay
abbrev pub reach : List Slot → Arc → Slot
reach clocks d = slice_index clocks d.from + d.delay

-- the arcs that come to the node at a position
abbrev pub arcs_to : PlanRec → Position → List Arc
arcs_to plan n = filter (λ (d : Arc). d.to == n) (arcs plan)

-- the least of a limit and of some slots
abbrev pub least : Slot → List Slot → Slot
least limit [] = limit
least limit (slot ∷ slots) = min slot (least limit slots)

-- the clock of the node at a position after a round, by the clocks of all nodes before it
abbrev pub next_clock : PlanRec → Slot → List Slot → Position → Slot
next_clock plan limit clocks n = least limit (map (reach clocks) (arcs_to plan n))

-- the positions of some nodes, of which the first stands at position n
abbrev pub positions_from : Position → List NodePlan → List Position
positions_from n [] = []
positions_from n (node ∷ nodes) = n ∷ positions_from (n + 1) nodes

abbrev pub next_clocks : PlanRec → Slot → List Slot → List Slot
next_clocks plan limit clocks = map (next_clock plan limit clocks) (positions_from 0 plan.nodes)

-- the clocks of all nodes by position after so many rounds, in a run of so many slots
unfoldable pub round_clocks : PlanRec → Slot → ℕ → List Slot
round_clocks plan limit zero = replicate (length plan.nodes) 0
round_clocks plan limit (suc k) = next_clocks plan limit (round_clocks plan limit k)

-- the clock of the node at a position after so many rounds
abbrev pub round_clock : PlanRec → Slot → Position → ℕ → Slot
round_clock plan limit n k = slice_index (round_clocks plan limit k) n

-- whether all nodes are at the limit after so many rounds
abbrev pub all_at_limit : PlanRec → Slot → ℕ → Bool
all_at_limit plan limit k = list_all (λ clock. clock == limit) (round_clocks plan limit k)

-- the least number of rounds from k on after which all nodes are at the limit, where it is told whether they are after k; as many more
-- as are left are tried
unfoldable pub rounds_from : PlanRec → Slot → ℕ → ℕ → Bool → ℕ
rounds_from plan limit left k true = k
rounds_from plan limit zero k false = k
rounds_from plan limit (suc left) k false = rounds_from plan limit left (k + 1) (all_at_limit plan limit (k + 1))

-- the least number of rounds after which all nodes are at the limit. No more are needed than the run has slots: each delay is a slot at least
abbrev pub rounds : PlanRec → Slot → ℕ
rounds plan limit = rounds_from plan limit limit 0 (all_at_limit plan limit 0)

abbrev pub lesser : Slot → Option Slot → Slot
lesser delay None = delay
lesser delay (Some other) = min delay other

-- the least delay of some arcs, where there is one
abbrev pub least_delay : List Arc → Option Slot
least_delay [] = None
least_delay (d ∷ ds) = Some (lesser d.delay (least_delay ds))
