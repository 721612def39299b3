-- What ranks come to: whether packets have a way on wherever they are, and whether ranks rise along it.
use Rattle.std.specs.Prelude.{ℕ, Bool, not, ◌&&◌, ◌==◌, nat_le, if◌then◌else◌, Option, Some, None, List, [], ◌∷◌, length, slice_index}
use Rattle.std.specs.List.{list_any}
use Rattle.xs_base.specs.Numbers.{NodeId, Position, LinkNumber}
use Rattle.sys_plan.specs.declared.LinkPlan.{LinkPlan}
use Rattle.sys_plan.specs.Plan.{PlanRec, node_numbers}
use Rattle.rank_model.specs.declared.verdict.Verdict.{Verdict}
use Rattle.rank_model.specs.declared.verdict.Verdict.TheVariants.{Yes, NoWay, NoRank}
use Rattle.rank_model.specs.Next.{link_count, arc_at, id_at, net_of, is_next, has_next, or_first, first_from}

-- ---- Is there a way on?

-- whether a network is one of a plan: some link is of it, or there is no link and it is network 0
abbrev pub has_net : List LinkPlan → ℕ → Bool
has_net [] net = net == 0
has_net (link ∷ links) net = list_any (λ (some : LinkPlan). some.net == net) (link ∷ links)

-- the number of the node at a position
abbrev pub number_at : PlanRec → Position → ℕ
number_at plan v = slice_index (node_numbers plan) v

-- from the node at position v no link of the network leads on towards the other at position m
abbrev pub is_cut_off : PlanRec → Position → Position → ℕ → Bool
is_cut_off plan v m net = has_net plan.links net && (not (v == m) && not (has_next plan v net (id_at plan m)))

abbrev pub no_way_in : PlanRec → Position → Position → ℕ → Option Verdict
no_way_in plan v m net = if is_cut_off plan v m net then Some (NoWay (number_at plan v) (number_at plan m) net) else None

abbrev pub no_way_to : PlanRec → Position → Position → Option Verdict
no_way_to plan v m = first_from (no_way_in plan v m) 0 4

abbrev pub no_way_from : PlanRec → Position → Option Verdict
no_way_from plan v = first_from (no_way_to plan v) 0 (length plan.nodes)

-- the first by the number of the one node, then by that of the other, and then by the network: nodes stand by ascending number
abbrev pub no_way : PlanRec → Option Verdict
no_way plan = first_from (no_way_from plan) 0 (length plan.nodes)

-- ---- Do ranks rise?

-- for which ids a packet may go on from directed link l to directed link k
abbrev pub goes_on : PlanRec → LinkNumber → LinkNumber → NodeId → Bool
goes_on plan l k dest = is_next plan (arc_at plan l).from (net_of plan l) dest l && is_next plan (arc_at plan l).to (net_of plan l) dest k

abbrev pub dest_if : PlanRec → LinkNumber → LinkNumber → NodeId → Option NodeId
dest_if plan l k dest = if goes_on plan l k dest then Some dest else None

-- the first of all ids, also of those that no node has
abbrev pub first_dest : PlanRec → LinkNumber → LinkNumber → Option NodeId
first_dest plan l k = first_from (dest_if plan l k) 0 65536

-- whether the rank of k is not above that of l, by the ranks of all directed links by number
abbrev pub does_not_rise : List ℕ → LinkNumber → LinkNumber → Bool
does_not_rise ranks l k = nat_le (slice_index ranks k) (slice_index ranks l)

abbrev pub no_rank_for : LinkNumber → LinkNumber → Option NodeId → Option Verdict
no_rank_for l k None = None
no_rank_for l k (Some dest) = Some (NoRank l k dest)

-- the rank does not rise from l to k, and for this id a packet may go on from the one to the other
abbrev pub no_rank_between : PlanRec → List ℕ → LinkNumber → LinkNumber → Option Verdict
no_rank_between plan ranks l k = if does_not_rise ranks l k then no_rank_for l k (first_dest plan l k) else None

abbrev pub no_rank_after : PlanRec → List ℕ → LinkNumber → Option Verdict
no_rank_after plan ranks l = first_from (no_rank_between plan ranks l) 0 (link_count plan)

-- the first by the one directed link, then by the other, and then by the id
abbrev pub no_rank : PlanRec → List ℕ → Option Verdict
no_rank plan ranks = first_from (no_rank_after plan ranks) 0 (link_count plan)

-- ---- Both

abbrev pub yes_unless : Option Verdict → Verdict
yes_unless None = Yes
yes_unless (Some verdict) = verdict

-- the verdict on a plan with the ranks of all its directed links, by number
abbrev pub verdict_of : PlanRec → List ℕ → Verdict
verdict_of plan ranks = yes_unless (or_first (no_way plan) (no_rank plan ranks))
