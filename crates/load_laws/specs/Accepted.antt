-- That loads, and their sources, are accepted, and what they stand for.
use Rattle.std.specs.Prelude.{ℕ, ◌≡◌, [], ◌∷◌, map, slice_index}
use Rattle.std.specs.List.{AllZip, flat_map}
use Rattle.xs_instructions.specs.Image.{ImageRec}
use Rattle.source_model.specs.declared.layout.Width.TheVariants.{Word}
use Rattle.source_model.specs.Values.{little_endian}
use Rattle.source_model.specs.Source.{Image, assembled_lines}
use Rattle.sys_plan.specs.declared.NodePlan.{NodePlan}
use Rattle.sys_plan.specs.declared.LinkPlan.{LinkPlan}
use Rattle.sys_plan.specs.Plan.{PlanRec}
use Rattle.system_model.specs.System.{Plan, system_of}
use Rattle.load_model.specs.Load.{node_numbers, next_node, delay_at, gap_at, route_bit_at, destination_at, first_word_at, source_lines, load_text}

-- a source with these two words has no fault, and its data are its five words
pub record IsAcceptedSource (destination first : ℕ) : Type 0 where
  pub image : ImageRec
  pub accepted : assembled_lines (source_lines destination first) ≡ Image image
  pub bytes : image.bytes ≡ flat_map (little_endian Word) (destination ∷ first ∷ 200 ∷ 1664525 ∷ 1013904223 ∷ [])

-- the link from node i to the node after it
abbrev pub load_link : ℕ → ℕ → LinkPlan
load_link n i = record { a = i; a_end = 0; b = next_node n i; b_end = 1; delay = delay_at n i; gap = gap_at i; net = 0 }

-- the plan of node i: the number is its id too, its source is that of the load, and by the bit in which the id of the node after it differs
-- link end 0 leads on, and no other
pub record IsRingNode (n i : ℕ) (node : NodePlan) : Type 0 where
  pub number : node.number ≡ i
  pub id : node.id ≡ i
  pub source : assembled_lines (source_lines (destination_at n i) (first_word_at n i)) ≡ Image node.image
  pub way : slice_index node.ways (route_bit_at n i) ≡ 1

-- a plan is the ring of the load: its nodes and links, and neither a pin script, nor a schedule, nor wires
pub record IsRing (n : ℕ) (plan : PlanRec) : Type 0 where
  pub nodes : AllZip (IsRingNode n) (node_numbers n) plan.nodes
  pub links : plan.links ≡ map (load_link n) (node_numbers n)
  pub no_script : plan.script ≡ []
  pub no_steps : plan.steps ≡ []
  pub no_wires : plan.wires ≡ []

-- the load of a number is no text that is refused: it stands for a plan
pub record IsAccepted (n : ℕ) : Type 0 where
  pub plan : PlanRec
  pub accepted : system_of (load_text n) ≡ Plan plan
  pub ring : IsRing n plan
