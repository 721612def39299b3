-- Arcs worked out by hand.
use Rattle.std.specs.Prelude.{◌≡◌, Some, None, [], ◌∷◌, replicate}
use Rattle.sys_plan.specs.declared.LinkPlan.{LinkPlan}
use Rattle.sys_plan.specs.Plan.{PlanRec, arcs, outgoing, incoming, delay_of, gap_of, gaps_of}

-- from link end 2 of the second node to link end 7 of the first one
abbrev pub first_link_plan : LinkPlan
first_link_plan = record { a = 1; a_end = 2; b = 0; b_end = 7; delay = 5; gap = 4; net = 0 }

-- from link end 0 of the first node to link end 1 of the third one
abbrev pub second_link_plan : LinkPlan
second_link_plan = record { a = 0; a_end = 0; b = 2; b_end = 1; delay = 9; gap = 6; net = 0 }

-- links alone matter here
abbrev pub one_link : PlanRec
one_link = record { nodes = []; links = first_link_plan ∷ []; script = []; steps = []; wires = [] }

abbrev pub two_links : PlanRec
two_links = record { nodes = []; links = first_link_plan ∷ second_link_plan ∷ []; script = []; steps = []; wires = [] }

pub record WorkedDirections : Type 0 where
  -- a link's first end is where arc 0 leaves, and where arc 1 comes to
  pub forth_leaves : outgoing one_link 1 2 ≡ Some 0
  pub forth_comes : incoming one_link 0 7 ≡ Some 0
  pub back_leaves : outgoing one_link 0 7 ≡ Some 1
  pub back_comes : incoming one_link 1 2 ≡ Some 1
  -- no link is at link ends 0 and 2 of the first node
  pub none_leaves : outgoing one_link 0 0 ≡ None
  pub none_comes : incoming one_link 0 0 ≡ None
  pub none_leaves_by_2 : outgoing one_link 0 2 ≡ None
  -- a link end with a link has its gap, in both directions
  pub gaps_of_second : gaps_of one_link 1 ≡ 0 ∷ 0 ∷ 4 ∷ 0 ∷ 0 ∷ 0 ∷ 0 ∷ 0 ∷ []
  pub gaps_of_first : gaps_of one_link 0 ≡ 0 ∷ 0 ∷ 0 ∷ 0 ∷ 0 ∷ 0 ∷ 0 ∷ 4 ∷ []
  pub gaps_of_third : gaps_of one_link 2 ≡ replicate 8 0
  -- the second link's arcs have the numbers 2 and 3, and those of the first one stay
  pub all : arcs two_links
      ≡ record { from = 1; from_end = 2; to = 0; to_end = 7; delay = 5; gap = 4; joins = None }
      ∷ record { from = 0; from_end = 7; to = 1; to_end = 2; delay = 5; gap = 4; joins = None }
      ∷ record { from = 0; from_end = 0; to = 2; to_end = 1; delay = 9; gap = 6; joins = None }
      ∷ record { from = 2; from_end = 1; to = 0; to_end = 0; delay = 9; gap = 6; joins = None }
      ∷ []
  pub second_forth_leaves : outgoing two_links 0 0 ≡ Some 2
  pub second_forth_comes : incoming two_links 2 1 ≡ Some 2
  pub second_back_leaves : outgoing two_links 2 1 ≡ Some 3
  pub second_back_comes : incoming two_links 0 0 ≡ Some 3
  pub first_stays : outgoing two_links 0 7 ≡ Some 1
  pub delay : delay_of two_links 1 ≡ 5
  pub second_delay : delay_of two_links 2 ≡ 9
  pub second_gap : gap_of two_links 3 ≡ 6
  pub both_gaps : gaps_of two_links 0 ≡ 6 ∷ 0 ∷ 0 ∷ 0 ∷ 0 ∷ 0 ∷ 0 ∷ 4 ∷ []
