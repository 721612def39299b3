-- What every frame keeps that is accepted.
use Rattle.std.specs.Prelude.{ℕ, ◌≡◌, ◌≢◌, ◌≤◌, ◌<◌, true, List, [], ◌∷◌, length, map}
use Rattle.std.specs.List.{AllByRecursion}
use Rattle.xs_base.specs.Ids.{port_width}
use Rattle.sys_plan.specs.Plan.{AreAscending, AreDistinct}
use Rattle.system_model.specs.declared.frame_line.EndName.{EndName}
use Rattle.system_model.specs.declared.frame_line.GivenNode.{GivenNode}
use Rattle.system_model.specs.declared.frame_line.LinkLine.{LinkLine}
use Rattle.system_model.specs.declared.frame_line.PlayLine.{PlayLine}
use Rattle.system_model.specs.declared.frame_line.WireLine.{WireLine}
use Rattle.system_model.specs.Bits.{BitRec}
use Rattle.system_model.specs.Frame.{Given, has_node, has_link_ends, is_step_of}
use Rattle.system_model.specs.System.{edition_given}

-- a link joins link ends of two of the nodes, and its delay, its gap and its network are within their ranges
pub record IsLinkOf (nodes : List GivenNode) (link : LinkLine) : Type 0 where
  pub a : has_node nodes link.a.node ≡ true
  pub b : has_node nodes link.b.node ≡ true
  pub apart : link.a.node ≢ link.b.node
  pub a_end : link.a.end ≤ 7
  pub b_end : link.b.end ≤ 7
  pub least_delay : 1 ≤ link.delay
  pub most_delay : link.delay ≤ 1000
  pub least_gap : 4 ≤ link.gap
  pub most_gap : link.gap ≤ 1000
  pub most_net : link.net ≤ 3

-- the link ends of links
abbrev pub ends_of : List LinkLine → List EndName
ends_of [] = []
ends_of (link ∷ links) = link.a ∷ (link.b ∷ ends_of links)

-- a wire joins pins of two of the nodes, which are equally many, and its delay is within its range
pub record IsWireOf (nodes : List GivenNode) (wire : WireLine) : Type 0 where
  pub a : has_node nodes wire.a.node ≡ true
  pub b : has_node nodes wire.b.node ≡ true
  pub apart : wire.a.node ≢ wire.b.node
  pub a_port : wire.a.port < 29
  pub b_port : wire.b.port < 29
  pub widths : port_width wire.a.port ≡ port_width wire.b.port
  pub least_delay : 1 ≤ wire.delay
  pub most_delay : wire.delay ≤ 1000

-- the nodes, the links, the bits, the wires and the steps of a frame
pub record AreAccepted (ns : List GivenNode) (ls : List LinkLine) (bs : List BitRec) (ws : List WireLine) (ps : List PlayLine) : Type 0 where
  pub few_nodes : length ns ≤ 16
  pub few_links : length ls ≤ 48
  pub numbers : AllByRecursion (λ (node : GivenNode). node.number ≤ 99) ns
  pub order : AreAscending (map (λ (node : GivenNode). node.number) ns)
  pub ids : AreDistinct (map (λ (node : GivenNode). node.id) ns)
  pub links : AllByRecursion (IsLinkOf ns) ls
  -- no link end is in two links
  pub ends : AreDistinct (ends_of ls)
  -- the link ends of a bit are in links
  pub bits : AllByRecursion (λ (bit : BitRec). has_link_ends ls bit.node bit.ends ≡ true) bs
  pub few_wires : length ws ≤ 32
  pub wires : AllByRecursion (IsWireOf ns) ws
  -- no two lead to one pin
  pub targets : AreDistinct (map (λ (wire : WireLine). wire.b) ws)
  -- the nodes and ends of a step are given
  pub steps : AllByRecursion (λ (step : PlayLine). is_step_of ns ls ws step ≡ true) ps

-- an edition that there is
pub record IsEdition (edition : ℕ) : Type 0 where
  pub least : 1 ≤ edition
  pub most : edition ≤ 2

-- in edition 1 each link is of network 0
abbrev pub AreOfOneNetwork : ℕ → List LinkLine → Type 0
AreOfOneNetwork edition links = edition ≡ 1 → AllByRecursion (λ (link : LinkLine). link.net ≡ 0) links

-- what the edition asks of the links and the wires: in edition 1 there are no wires
pub record IsOfEdition (edition : ℕ) (links : List LinkLine) (wires : List WireLine) : Type 0 where
  pub one_network : AreOfOneNetwork edition links
  pub no_wires : edition ≡ 1 → wires ≡ []

pub record IsAccepted (given : Given) : Type 0 where
  pub edition : IsEdition (edition_given given.edition)
  pub lines : AreAccepted given.nodes given.links given.bits given.wires given.steps
  pub of_edition : IsOfEdition (edition_given given.edition) given.links given.wires
