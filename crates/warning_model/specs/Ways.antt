-- What may be wrong in a line of the frame: the ways from node to node.
use Rattle.std.specs.Prelude.{ℕ, zero, suc, ◌+◌, Bool, false, ◌==◌, if◌then◌else◌, Option, Some, None, List, [], ◌∷◌, ◌++◌, length, slice_index, codes}
use Rattle.std.specs.List.{list_any}
use Rattle.xs_text.specs.Numbers.{number_of, at_most}
use Rattle.xs_instructions.specs.Image.{same_name}
use Rattle.net_model.specs.Ways.{first_difference}
use Rattle.sys_plan.specs.Plan.{PlanRec}
use Rattle.sys_plan.specs.declared.LinkPlan.{LinkPlan}
use Rattle.sys_plan.specs.declared.NodePlan.{NodePlan}
use Rattle.warning_model.specs.Warning.{Site, Doubt, NoDifference, NoWay, Warning, warn}

-- ---- To which nodes links lead

-- Nodes are named by position here.
abbrev pub is_among : List ℕ → ℕ → Bool
is_among places place = list_any (λ p. p == place) places

abbrev pub put_place : List ℕ → ℕ → List ℕ
put_place places place = if is_among places place then places else places ++ place ∷ []

-- with the other end of a link of which one end is there
abbrev pub with_link : List ℕ → LinkPlan → List ℕ
with_link places link =
    if is_among places link.a then put_place places link.b
    else (if is_among places link.b then put_place places link.a else places)

unfoldable pub with_links : List ℕ → List LinkPlan → List ℕ
with_links places [] = places
with_links places (link ∷ links) = with_links (with_link places link) links

-- all links so many times
unfoldable pub with_links_often : ℕ → List ℕ → List LinkPlan → List ℕ
with_links_often zero places links = places
with_links_often (suc k) places links = with_links_often k (with_links places links) links

-- where links lead from a node, over other nodes or not; each time but the last brings a node at least
abbrev pub led_to : PlanRec → ℕ → List ℕ
led_to plan place = with_links_often (length plan.nodes) (place ∷ []) plan.links

-- ---- A line `bit N B ..`

abbrev pub is_bit : ℕ → Option ℕ → Bool
is_bit bit None = false
is_bit bit (Some b) = b == bit

-- whether an id differs first in a bit from that of one of these nodes
abbrev pub differs_first : ℕ → ℕ → List NodePlan → Bool
differs_first id bit nodes = list_any (λ (node : NodePlan). is_bit bit (first_difference 16 id node.id)) nodes

abbrev pub doubt_of_bit : List NodePlan → NodePlan → ℕ → Option Doubt
doubt_of_bit nodes node bit = if differs_first node.id bit nodes then None else Some (NoDifference node.number bit)

-- of the node with a number, which is one of these
unfoldable pub doubt_of_bit_with : List NodePlan → ℕ → ℕ → List NodePlan → Option Doubt
doubt_of_bit_with all number bit [] = None
doubt_of_bit_with all number bit (node ∷ nodes) = if node.number == number then doubt_of_bit all node bit else doubt_of_bit_with all number bit nodes

abbrev pub doubt_of_bit_line : PlanRec → Option ℕ → Option ℕ → Option Doubt
doubt_of_bit_line plan (Some number) (Some bit) = doubt_of_bit_with plan.nodes number bit plan.nodes
doubt_of_bit_line plan _ _ = None

-- ---- A line `node N ..`

-- by the bit in which the ids differ first
abbrev pub doubt_of_difference : NodePlan → ℕ → Option ℕ → Option Doubt
doubt_of_difference node other None = None
doubt_of_difference node other (Some bit) = if slice_index node.ways bit == 0 then Some (NoWay node.number other bit) else None

-- of another node, where links lead to these places
abbrev pub doubt_of_way : NodePlan → List ℕ → ℕ → NodePlan → Option Doubt
doubt_of_way node places place other =
    if is_among places place then doubt_of_difference node other.number (first_difference 16 node.id other.id) else None

-- of each of these nodes, the first of which stands at a place
unfoldable pub warnings_of_ways : Site → NodePlan → List ℕ → ℕ → List NodePlan → List Warning
warnings_of_ways site node places place [] = []
warnings_of_ways site node places place (other ∷ others) =
    warn site (doubt_of_way node places place other) ++ warnings_of_ways site node places (place + 1) others

-- of the node with a number, which is one of these, the first of which stands at a place
unfoldable pub warnings_of_node_with : Site → PlanRec → ℕ → ℕ → List NodePlan → List Warning
warnings_of_node_with site plan number place [] = []
warnings_of_node_with site plan number place (node ∷ nodes) =
    if node.number == number
    then warnings_of_ways site node (led_to plan place) 0 plan.nodes
    else warnings_of_node_with site plan number (place + 1) nodes

abbrev pub warnings_of_node_line : Site → PlanRec → Option ℕ → List Warning
warnings_of_node_line site plan None = []
warnings_of_node_line site plan (Some number) = warnings_of_node_with site plan number 0 plan.nodes

-- ---- By the words of a line

-- the number of a node is at most 99, and that of a bit at most 15
abbrev pub warnings_of_words : PlanRec → Site → List (List ℕ) → List Warning
warnings_of_words plan site (name ∷ n ∷ b ∷ words) =
    if same_name (codes "bit") name then warn site (doubt_of_bit_line plan (at_most 99 (number_of n)) (at_most 15 (number_of b)))
    else (if same_name (codes "node") name then warnings_of_node_line site plan (at_most 99 (number_of n)) else [])
warnings_of_words plan site _ = []
