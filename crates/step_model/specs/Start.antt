-- A node as its plan starts it.
use Rattle.std.specs.Prelude.{ℕ, ◌≡◌, ◌<◌, ◌==◌, if◌then◌else◌, Option, Some, None, List, map, slice_index}
use Rattle.std.specs.Int.{bit_at}
use Rattle.xs_base.specs.declared.numbers.TheConstants.{LINK_ENDS}
use Rattle.xs_model.specs.Record.{NodeRec, LinkRec, first_node}
use Rattle.xs_instructions.specs.Image.{entry_of}
use Rattle.net_model.specs.Links.{fresh_link}
use Rattle.sys_plan.specs.declared.NodePlan.{NodePlan}
use Rattle.step_model.specs.Fixed.{Fixed}

-- what a step uses of a node's plan, with the gaps of its link ends
abbrev pub fixed_of : NodePlan → List ℕ → Fixed
fixed_of plan gaps = record {
  edition = plan.edition;
  code = plan.image.code;
  routes = record { id = plan.id; ways = plan.ways; nets = plan.nets; gaps = gaps };
}

-- the link end with this gap as it starts; a gap of 0 says that it is not there
abbrev pub link_with_gap : ℕ → Option LinkRec
link_with_gap gap = if gap == 0 then None else Some fresh_link

-- the node as it starts, with the gaps of its link ends
abbrev pub node_of : NodePlan → List ℕ → NodeRec
node_of plan gaps = record (first_node (entry_of plan.image) plan.image.cp_at plan.image.bytes) { links = map link_with_gap gaps }

-- each link end that some bit of an id leads to is there: it has a gap
abbrev pub WaysHaveGaps : List ℕ → List ℕ → Type 0
WaysHaveGaps ways gaps = (bit end : ℕ) → bit < 16 → end < LINK_ENDS → bit_at (slice_index ways bit) end ≡ 1 → 0 < slice_index gaps end
