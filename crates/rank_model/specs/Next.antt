-- Where a packet goes on: the directed links that lead towards an id, and the first of something among numbers.
use Rattle.std.specs.Prelude.{ℕ, zero, suc, ◌+◌, ◌*◌, Bool, false, ◌&&◌, ◌==◌, Option, Some, None, List, [], map, length, slice_index, slice_index_or}
use Rattle.std.specs.List.{list_any}
use Rattle.std.specs.Int.{bit_at}
use Rattle.xs_base.specs.Numbers.{NodeId, Position, EndNumber, LinkNumber}
use Rattle.net_model.specs.Ways.{Way, Here, Behind, way_to}
use Rattle.sys_plan.specs.declared.NodePlan.{NodePlan}
use Rattle.sys_plan.specs.Plan.{PlanRec, Arc, link_arcs, numbers_from}

-- ---- Directed links

-- how many directed links there are, two for each link
abbrev pub link_count : PlanRec → ℕ
link_count plan = 2 * length plan.links

abbrev pub no_arc : Arc
no_arc = record { from = 0; from_end = 0; to = 0; to_end = 0; delay = 0; gap = 0; joins = None }

-- the directed link with a number
abbrev pub arc_at : PlanRec → LinkNumber → Arc
arc_at plan l = slice_index_or (link_arcs plan.links) l no_arc

-- ---- What a node knows of its links

abbrev pub id_at : PlanRec → Position → NodeId
id_at plan v = slice_index (map (λ (node : NodePlan). node.id) plan.nodes) v

abbrev pub ways_at : PlanRec → Position → List ℕ
ways_at plan v = slice_index_or (map (λ (node : NodePlan). node.ways) plan.nodes) v []

abbrev pub nets_at : PlanRec → Position → List ℕ
nets_at plan v = slice_index_or (map (λ (node : NodePlan). node.nets) plan.nodes) v []

-- the network of a directed link
abbrev pub net_of : PlanRec → LinkNumber → ℕ
net_of plan l = slice_index (nets_at plan (arc_at plan l).from) (arc_at plan l).from_end

-- ---- The way on

abbrev pub is_behind : EndNumber → Way → Bool
is_behind end Here = false
is_behind end (Behind ends) = bit_at ends end == 1

-- whether a link end is one by which the node at a position sends on, in a network, what is for an id
abbrev pub leads_by : PlanRec → Position → ℕ → NodeId → EndNumber → Bool
leads_by plan v net dest end = is_behind end (way_to (id_at plan v) (ways_at plan v) (nets_at plan v) net dest)

-- whether a directed link is: it leaves the node by such a link end
abbrev pub is_next : PlanRec → Position → ℕ → NodeId → LinkNumber → Bool
is_next plan v net dest l = ((arc_at plan l).from == v) && leads_by plan v net dest (arc_at plan l).from_end

-- whether there is one
abbrev pub has_next : PlanRec → Position → ℕ → NodeId → Bool
has_next plan v net dest = list_any (is_next plan v net dest) (numbers_from 0 (link_count plan))

-- ---- The first of so many

abbrev pub or_first : {A : Type 0} → Option A → Option A → Option A
or_first (Some a) other = Some a
or_first None other = other

-- the first that is found at a number, of so many numbers from n on
unfoldable pub first_from : {A : Type 0} → (ℕ → Option A) → ℕ → ℕ → Option A
first_from look n zero = None
first_from look n (suc count) = or_first (look n) (first_from look (n + 1) count)
