-- Ranks of plans worked out by hand.
use Rattle.std.specs.Prelude.{ℕ, ◌≡◌, true, false, Bool, Some, None, List, [], ◌∷◌, map, replicate}
use Rattle.sys_plan.specs.declared.NodePlan.{NodePlan}
use Rattle.sys_plan.specs.declared.LinkPlan.{LinkPlan}
use Rattle.sys_plan.specs.Plan.{PlanRec, numbers_from}
use Rattle.rank_model.specs.declared.rank_kind.RankKind.TheVariants.{NoSuchLinkEnd, GivenTwice, RankMissing}
use Rattle.rank_model.specs.declared.rank_line.RankLine.{RankLine}
use Rattle.rank_model.specs.declared.verdict.Verdict.TheVariants.{Yes, NoWay, NoRank}
use Rattle.rank_model.specs.Next.{link_count, id_at, net_of, is_next, has_next}
use Rattle.rank_model.specs.Verdicts.{has_net, number_at, is_cut_off, no_way_in, no_way_to, no_way, goes_on, no_rank_between, verdict_of}
use Rattle.rank_model.specs.Checks.{Checked, Refused, Judged, ranks_by_link, is_missing, checked}
use Rattle.worked_runs.specs.Systems.{plain_node}

-- Three nodes in a line, with the numbers 3, 5 and 7, and the ids 0, 1 and 3. The first link joins link end 0 of the first node and 2 of the
-- second, and the second link 1 of the second node and 0 of the third. So directed link 0 leaves 3:0, 1 leaves 5:2, 2 leaves 5:1 and 3
-- leaves 7:0.

-- a node with a number and an id, whose link ends lead on for the bits 0 and 1 of an id as in these masks, with the networks of its link ends
abbrev pub routing_node : ℕ → ℕ → ℕ → ℕ → List ℕ → NodePlan
routing_node number id zeroth first nets = record (plain_node number [] []) { edition = 2; id = id; ways = zeroth ∷ first ∷ replicate 14 0; nets = nets }

abbrev pub link_of : ℕ → ℕ → ℕ → ℕ → ℕ → LinkPlan
link_of a a_end b b_end net = record { a = a; a_end = a_end; b = b; b_end = b_end; delay = 5; gap = 4; net = net }

-- the line, the network of whose second link is given
abbrev pub line_of : ℕ → PlanRec
line_of net = record {
  nodes =
      routing_node 3 0 1 1 (replicate 8 0)
      ∷ routing_node 5 1 4 2 (0 ∷ net ∷ replicate 6 0)
      ∷ routing_node 7 3 0 1 (net ∷ replicate 7 0)
      ∷ [];
  links = link_of 0 0 1 2 0 ∷ link_of 1 1 2 0 net ∷ [];
  script = [];
  steps = [];
  wires = [];
}

-- both links are of network 0, or the second one is of network 1
abbrev pub one_net : PlanRec
one_net = line_of 0

abbrev pub two_nets : PlanRec
two_nets = line_of 1

-- ---- The way on

-- for each directed link, whether it is one by which the node at a position sends on what is for an id
abbrev pub next_of : PlanRec → ℕ → ℕ → ℕ → List Bool
next_of plan v net dest = map (is_next plan v net dest) (numbers_from 0 (link_count plan))

pub record WorkedNext : Type 0 where
  pub count : link_count two_nets ≡ 4
  pub numbers : map (number_at two_nets) (0 ∷ 1 ∷ 2 ∷ []) ≡ 3 ∷ 5 ∷ 7 ∷ []
  pub ids : map (id_at two_nets) (0 ∷ 1 ∷ 2 ∷ []) ≡ 0 ∷ 1 ∷ 3 ∷ []
  pub networks : map (net_of two_nets) (0 ∷ 1 ∷ 2 ∷ 3 ∷ []) ≡ 0 ∷ 0 ∷ 1 ∷ 1 ∷ []
  -- the first node sends to 1, and also to 2 and 3, by its one link end, in network 0 alone, and what is for bit 2 by none
  pub first_to_1 : next_of one_net 0 0 1 ≡ true ∷ false ∷ false ∷ false ∷ []
  pub first_to_2 : next_of one_net 0 0 2 ≡ true ∷ false ∷ false ∷ false ∷ []
  pub first_to_3 : next_of one_net 0 0 3 ≡ true ∷ false ∷ false ∷ false ∷ []
  pub first_by_net_1 : next_of two_nets 0 1 3 ≡ replicate 4 false
  pub first_to_4 : next_of one_net 0 0 4 ≡ replicate 4 false
  -- what is for the node itself is not sent on
  pub first_to_0 : next_of one_net 0 0 0 ≡ replicate 4 false
  pub second_to_1 : next_of one_net 1 0 1 ≡ replicate 4 false
  -- the second node has another link end for each of the two bits
  pub second_to_0 : next_of one_net 1 0 0 ≡ false ∷ true ∷ false ∷ false ∷ []
  pub second_to_2 : next_of one_net 1 0 2 ≡ false ∷ false ∷ true ∷ false ∷ []
  pub second_to_3 : next_of one_net 1 0 3 ≡ false ∷ false ∷ true ∷ false ∷ []
  -- and with two networks each in one of them
  pub back_by_net_0 : next_of two_nets 1 0 0 ≡ false ∷ true ∷ false ∷ false ∷ []
  pub back_by_net_1 : next_of two_nets 1 1 0 ≡ replicate 4 false
  pub on_by_net_0 : next_of two_nets 1 0 3 ≡ replicate 4 false
  pub on_by_net_1 : next_of two_nets 1 1 3 ≡ false ∷ false ∷ true ∷ false ∷ []
  -- the third node sends to 0 and 1 by bit 1, and to 2 by none
  pub third_to_0 : next_of one_net 2 0 0 ≡ false ∷ false ∷ false ∷ true ∷ []
  pub third_to_1 : next_of one_net 2 0 1 ≡ false ∷ false ∷ false ∷ true ∷ []
  pub third_to_2 : next_of one_net 2 0 2 ≡ replicate 4 false
  -- whether there is one
  pub has_1 : has_next one_net 0 0 1 ≡ true
  pub has_3 : has_next one_net 1 0 3 ≡ true
  pub has_none_to_2 : has_next one_net 2 0 2 ≡ false
  pub has_none_to_itself : has_next one_net 1 0 1 ≡ false
  pub has_in_net_1 : has_next two_nets 1 1 3 ≡ true
  pub has_none_in_net_0 : has_next two_nets 1 0 3 ≡ false

-- ---- Is there a way on?

-- a node without a link, and two of them
abbrev pub lone : PlanRec
lone = record { nodes = routing_node 3 0 0 0 (replicate 8 0) ∷ []; links = []; script = []; steps = []; wires = [] }

abbrev pub unjoined : PlanRec
unjoined = record lone { nodes = routing_node 3 0 0 0 (replicate 8 0) ∷ routing_node 5 1 0 0 (replicate 8 0) ∷ [] }

-- two nodes and a link of network 3
abbrev pub third_net : PlanRec
third_net = record {
  nodes = routing_node 3 0 1 0 (3 ∷ replicate 7 0) ∷ routing_node 5 1 1 0 (3 ∷ replicate 7 0) ∷ [];
  links = link_of 0 0 1 0 3 ∷ [];
  script = [];
  steps = [];
  wires = [];
}

pub record WorkedNoWay : Type 0 where
  -- the networks that some link has, and network 0 where there is no link
  pub networks : map (has_net two_nets.links) (0 ∷ 1 ∷ 2 ∷ 3 ∷ []) ≡ true ∷ true ∷ false ∷ false ∷ []
  pub network_3 : map (has_net third_net.links) (0 ∷ 1 ∷ 2 ∷ 3 ∷ []) ≡ false ∷ false ∷ false ∷ true ∷ []
  pub no_link : map (has_net []) (0 ∷ 1 ∷ 2 ∷ 3 ∷ []) ≡ true ∷ false ∷ false ∷ false ∷ []
  -- the first node has no way on in network 1, which is told by the numbers of the nodes; networks of no link do not matter
  pub not_by_0 : is_cut_off two_nets 0 1 0 ≡ false
  pub by_1 : is_cut_off two_nets 0 1 1 ≡ true
  pub not_by_2 : is_cut_off two_nets 0 1 2 ≡ false
  pub not_from_itself : is_cut_off two_nets 1 1 1 ≡ false
  pub on_by_0 : is_cut_off two_nets 1 2 0 ≡ true
  pub not_on_by_1 : is_cut_off two_nets 1 2 1 ≡ false
  pub told : no_way_in two_nets 0 1 1 ≡ Some (NoWay 3 5 1)
  pub to_second : no_way_to two_nets 0 1 ≡ Some (NoWay 3 5 1)
  pub to_third : no_way_to two_nets 1 2 ≡ Some (NoWay 5 7 0)
  pub to_itself : no_way_to two_nets 2 2 ≡ None
  -- the first of them all
  pub first : no_way two_nets ≡ Some (NoWay 3 5 1)
  pub none : no_way one_net ≡ None
  pub in_network_3 : no_way third_net ≡ None
  pub of_lone : no_way lone ≡ None
  pub of_unjoined : no_way unjoined ≡ Some (NoWay 3 5 0)
  -- the ways of the ranks' verdict come first, whatever the ranks are
  pub verdict_first : verdict_of two_nets (replicate 4 0) ≡ NoWay 3 5 1
  pub verdict_unjoined : verdict_of unjoined [] ≡ NoWay 3 5 0
  pub verdict_lone : verdict_of lone [] ≡ Yes

-- ---- Do ranks rise?

-- for the ids 0 to 5, whether a packet may go on from a directed link to another
abbrev pub goes_on_for : PlanRec → ℕ → ℕ → List Bool
goes_on_for plan l k = map (goes_on plan l k) (numbers_from 0 6)

pub record WorkedGoesOn : Type 0 where
  -- from the first node over the second one to the third one, for the ids 2 and 3, and back for the id 0
  pub forth : goes_on_for one_net 0 2 ≡ false ∷ false ∷ true ∷ true ∷ false ∷ false ∷ []
  pub back : goes_on_for one_net 3 1 ≡ true ∷ false ∷ false ∷ false ∷ false ∷ false ∷ []
  -- no packet turns back, and none goes on from a link to one that does not leave where it ends
  pub no_turn : goes_on_for one_net 0 1 ≡ replicate 6 false
  pub no_turn_back : goes_on_for one_net 2 3 ≡ replicate 6 false
  pub not_there : goes_on_for one_net 0 3 ≡ replicate 6 false
  pub not_itself : goes_on_for one_net 2 2 ≡ replicate 6 false
  -- it stays in its network
  pub not_forth : goes_on_for two_nets 0 2 ≡ replicate 6 false
  pub not_back : goes_on_for two_nets 3 1 ≡ replicate 6 false
  -- ranks that rise from the one link to the other, and equal ones: the least id is told, which no node has
  pub rises : no_rank_between one_net (1 ∷ 2 ∷ 2 ∷ 1 ∷ []) 0 2 ≡ None
  pub equal : no_rank_between one_net (2 ∷ 2 ∷ 2 ∷ 1 ∷ []) 0 2 ≡ Some (NoRank 0 2 2)
  pub falls : no_rank_between one_net (1 ∷ 1 ∷ 2 ∷ 9 ∷ []) 3 1 ≡ Some (NoRank 3 1 0)

-- ---- Verdicts, which look at all 65,536 ids

-- two nodes and a link, by which both may send on what is for bit 1 as well, as the mask says, though no node has such an id
abbrev pub pair_of : ℕ → PlanRec
pair_of first = record {
  nodes = routing_node 3 0 1 first (replicate 8 0) ∷ routing_node 5 1 1 first (replicate 8 0) ∷ [];
  links = link_of 0 0 1 0 0 ∷ [];
  script = [];
  steps = [];
  wires = [];
}

pub record WorkedVerdicts : Type 0 where
  -- the link's two directions may have one rank
  pub pair : verdict_of (pair_of 0) (1 ∷ 1 ∷ []) ≡ Yes
  -- but no ranks are right where a packet may turn back
  pub turns : verdict_of (pair_of 1) (1 ∷ 2 ∷ []) ≡ NoRank 1 0 2
  -- equal ranks along the line: the first pair of links is told, and the least id
  pub equal : verdict_of one_net (2 ∷ 3 ∷ 2 ∷ 3 ∷ []) ≡ NoRank 0 2 2

-- ---- Lines and ranks

-- the rank of link end E of node N in a line
abbrev pub rank_in : ℕ → ℕ → ℕ → ℕ → RankLine
rank_in line node end rank = record { line = line; node = node; end = end; rank = rank }

-- what these lines come to for two networks, where the line `system` is line 9
abbrev pub checked_by : List RankLine → Checked
checked_by lines = checked two_nets (record { lines = lines; system = 9; rest = 99 })

-- of all directed links, in another order than theirs
abbrev pub all_ranks : List RankLine
all_ranks = rank_in 2 7 0 40 ∷ rank_in 3 5 1 30 ∷ rank_in 5 3 0 10 ∷ rank_in 6 5 2 20 ∷ []

pub record WorkedChecks : Type 0 where
  pub by_link : ranks_by_link two_nets all_ranks ≡ 10 ∷ 20 ∷ 30 ∷ 40 ∷ []
  pub complete : is_missing two_nets all_ranks ≡ false
  pub judged : checked_by all_ranks ≡ Judged (NoWay 3 5 1)
  -- K2: a node that is not there, as its position would be, and a link end without a link, also one that another node's link has
  pub no_node : checked_by (rank_in 1 0 0 1 ∷ all_ranks) ≡ Refused 1 NoSuchLinkEnd
  pub no_end : checked_by (rank_in 1 5 0 1 ∷ all_ranks) ≡ Refused 1 NoSuchLinkEnd
  pub no_other_end : checked_by (rank_in 2 7 0 1 ∷ rank_in 4 3 2 1 ∷ []) ≡ Refused 4 NoSuchLinkEnd
  -- what is given twice is not there: that it is not there decides
  pub not_there_twice : checked_by (rank_in 1 3 7 1 ∷ rank_in 2 3 7 1 ∷ []) ≡ Refused 1 NoSuchLinkEnd
  -- K3: the second line is refused, also one of the same rank
  pub twice : checked_by (rank_in 1 3 0 1 ∷ rank_in 3 3 0 2 ∷ []) ≡ Refused 3 GivenTwice
  pub same_twice : checked_by (rank_in 1 3 0 1 ∷ rank_in 3 5 2 1 ∷ rank_in 4 3 0 1 ∷ []) ≡ Refused 4 GivenTwice
  -- the least line decides
  pub twice_first : checked_by (rank_in 1 3 0 1 ∷ rank_in 2 3 0 1 ∷ rank_in 3 3 1 1 ∷ []) ≡ Refused 2 GivenTwice
  pub not_there_first : checked_by (rank_in 1 3 0 1 ∷ rank_in 2 3 1 1 ∷ rank_in 3 3 0 1 ∷ []) ≡ Refused 2 NoSuchLinkEnd
  -- K4: at the line `system`, before a way that is missing
  pub one_missing : checked_by (rank_in 1 7 0 1 ∷ rank_in 2 5 1 1 ∷ rank_in 3 3 0 1 ∷ []) ≡ Refused 9 RankMissing
  pub all_missing : checked_by [] ≡ Refused 9 RankMissing
  pub missing_last : checked_by (rank_in 1 7 0 1 ∷ rank_in 2 7 0 1 ∷ []) ≡ Refused 2 GivenTwice
  -- a system without links has no ranks
  pub none : checked lone (record { lines = []; system = 1; rest = 7 }) ≡ Judged Yes
  pub none_there : checked lone (record { lines = rank_in 1 3 0 1 ∷ []; system = 2; rest = 18 }) ≡ Refused 1 NoSuchLinkEnd
