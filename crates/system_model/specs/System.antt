-- What a system text stands for.
use Rattle.std.specs.Prelude.{ℕ, zero, suc, ◌+◌, ◌^◌, Bool, ◌&&◌, ◌||◌, ◌==◌, nat_lt, if◌then◌else◌, Option, Some, None, Result, Ok, Err, List, [], ◌∷◌, map, filter, length}
use Rattle.std.specs.List.{list_any}
use Rattle.xs_base.specs.declared.numbers.TheConstants.{LINK_ENDS}
use Rattle.xs_text.specs.Lines.{lines_of}
use Rattle.source_model.specs.Source.{Assembled, Image, Fault, assembled_lines}
use Rattle.source_model.specs.declared.AsmKind.{AsmKind}
use Rattle.pin_scripts.specs.declared.pin_error.PinKind.{PinKind}
use Rattle.pin_scripts.specs.Pins.{PinsRead, pins_of}
use Rattle.pin_scripts.specs.Pins as pins
use Rattle.sys_plan.specs.Plan.{PlanRec, link_ends}
use Rattle.sys_plan.specs.declared.LinkPlan.{LinkPlan}
use Rattle.sys_plan.specs.declared.NodePlan.{NodePlan}
use Rattle.sys_plan.specs.declared.Step.{Step}
use Rattle.sys_plan.specs.declared.WirePlan.{WirePlan}
use Rattle.sys_plan.specs.declared.Step.TheVariants as step
use Rattle.system_model.specs.declared.SysKind.{SysKind}
use Rattle.system_model.specs.declared.SysKind.TheVariants.{TooLong}
use Rattle.system_model.specs.declared.frame_line.EndName.{EndName}
use Rattle.system_model.specs.declared.frame_line.GivenNode.{GivenNode}
use Rattle.system_model.specs.declared.frame_line.LinkLine.{LinkLine}
use Rattle.system_model.specs.declared.frame_line.PlayLine.{PlayLine}
use Rattle.system_model.specs.declared.frame_line.PlayLine.TheVariants.{Take, Run, Send}
use Rattle.system_model.specs.declared.frame_line.SectionKind.{SectionKind}
use Rattle.system_model.specs.declared.frame_line.SectionKind.TheVariants as section
use Rattle.system_model.specs.declared.frame_line.WireLine.{WireLine}
use Rattle.system_model.specs.Bits.{BitRec}
use Rattle.system_model.specs.Frame.{SectionText, Given, Framed, Whole, Refused, framed, is_same_end, is_same_kind}

-- what a system text stands for
pub data System : Type 0 where
  Plan : (plan : PlanRec) → System
  -- the frame is refused: the line and why
  Frame : (line : ℕ) (kind : SysKind) → System
  -- the source of a node is refused: the node's number, the line of its source, counted from 1, and why
  Source : (node line : ℕ) (kind : AsmKind) → System
  -- the pin script is refused: its line, counted from 1, and why
  Pins : (line : ℕ) (kind : PinKind) → System

-- the link ends by which a node sends what differs from its id at a bit first: those of the line of the bit
abbrev pub ends_for : List BitRec → ℕ → ℕ → List ℕ
ends_for [] number bit = []
ends_for (b ∷ bits) number bit = if (b.node == number) && (b.bit == bit) then b.ends else ends_for bits number bit

-- the numbers below count that pass a test, as a mask: number k is bit k
unfoldable pub mask_where : (ℕ → Bool) → ℕ → ℕ
mask_where test zero = 0
mask_where test (suc k) = (if test k then 2 ^ k else 0) + mask_where test k

-- those link ends as a mask: 1 is link end 0 alone, 0 none
abbrev pub way : List BitRec → ℕ → ℕ → ℕ
way bits number bit = mask_where (λ end. list_any (λ e. e == end) (ends_for bits number bit)) LINK_ENDS

abbrev pub id_bits : List ℕ
id_bits = 0 ∷ 1 ∷ 2 ∷ 3 ∷ 4 ∷ 5 ∷ 6 ∷ 7 ∷ 8 ∷ 9 ∷ 10 ∷ 11 ∷ 12 ∷ 13 ∷ 14 ∷ 15 ∷ []

abbrev pub ways_of : List BitRec → ℕ → List ℕ
ways_of bits number = map (way bits number) id_bits

-- the network of the link at a link end, 0 where no link is
abbrev pub net_of_end : List LinkLine → EndName → ℕ
net_of_end [] name = 0
net_of_end (link ∷ links) name = if is_same_end link.a name || is_same_end link.b name then link.net else net_of_end links name

-- that of each link end of a node
abbrev pub nets_of : List LinkLine → ℕ → List ℕ
nets_of links number = map (λ end. net_of_end links (record { node = number; end = end })) link_ends

-- the lines of the section that holds this, none where there is no such section
abbrev pub section_lines : List SectionText → SectionKind → List (List ℕ)
section_lines [] kind = []
section_lines (s ∷ sections) kind = if is_same_kind s.kind kind then s.lines else section_lines sections kind

-- the refusal of a node's source
pub record SourceFault : Type 0 where
  pub node : ℕ
  pub line : ℕ
  pub kind : AsmKind

-- a node's plan by the edition, the links and the bits, and by what its source stands for, or the refusal of its source
abbrev pub planned : ℕ → List LinkLine → List BitRec → GivenNode → Assembled → Result NodePlan SourceFault
planned edition links bits node (Image image) = Ok (record {
  number = node.number;
  edition = edition;
  id = node.id;
  image = image;
  ways = ways_of bits node.number;
  nets = nets_of links node.number;
})
planned edition links bits node (Fault line kind) = Err (record { node = node.number; line = line; kind = kind })

-- a node's plan before those of the nodes after it, or the first refusal
abbrev pub plan_before : Result NodePlan SourceFault → Result (List NodePlan) SourceFault → Result (List NodePlan) SourceFault
plan_before (Err fault) after = Err fault
plan_before (Ok plan) (Err fault) = Err fault
plan_before (Ok plan) (Ok plans) = Ok (plan ∷ plans)

-- the plans of nodes, or the refusal of the first source that is refused
unfoldable pub node_plans : ℕ → List LinkLine → List BitRec → List SectionText → List GivenNode → Result (List NodePlan) SourceFault
node_plans edition links bits sections [] = Ok []
node_plans edition links bits sections (node ∷ nodes) =
    plan_before (planned edition links bits node (assembled_lines (section_lines sections (section.Source node.number))))
    (node_plans edition links bits sections nodes)

-- where a node stands among nodes by ascending number: so many have a lesser one
abbrev pub position_by_number : List GivenNode → ℕ → ℕ
position_by_number nodes number = length (filter (λ (node : GivenNode). nat_lt node.number number) nodes)

abbrev pub link_plan : List GivenNode → LinkLine → LinkPlan
link_plan nodes link = record {
  a = position_by_number nodes link.a.node;
  a_end = link.a.end;
  b = position_by_number nodes link.b.node;
  b_end = link.b.end;
  delay = link.delay;
  gap = link.gap;
  net = link.net;
}

abbrev pub wire_plan : List GivenNode → WireLine → WirePlan
wire_plan nodes wire = record {
  a = position_by_number nodes wire.a.node;
  a_port = wire.a.port;
  b = position_by_number nodes wire.b.node;
  b_port = wire.b.port;
  delay = wire.delay;
}

-- a step with its node by position
abbrev pub step_plan : List GivenNode → PlayLine → Step
step_plan nodes (Take name) = step.Take (position_by_number nodes name.node) name.end
step_plan nodes (Run node count) = step.Run (position_by_number nodes node) count
step_plan nodes (Send name) = step.Send (position_by_number nodes name.node) name.end

-- what the pin script stands for, over the numbers of all nodes; where there is none it has no line
abbrev pub script_of : Given → PinsRead
script_of given = pins_of (map (λ (node : GivenNode). node.number) given.nodes) (section_lines given.sections section.Pins)

-- the plan with a script, or the refusal of the script
abbrev pub plan_by : List NodePlan → List LinkPlan → List WirePlan → List Step → PinsRead → System
plan_by nodes links wires steps (pins.Script script) =
    Plan (record { nodes = nodes; links = links; script = script; steps = steps; wires = wires })
plan_by nodes links wires steps (pins.Fault line kind) = Pins line kind

-- a source that is refused comes before the script
abbrev pub plan_with : List LinkPlan → List WirePlan → List Step → PinsRead → Result (List NodePlan) SourceFault → System
plan_with links wires steps script (Err fault) = Source fault.node fault.line fault.kind
plan_with links wires steps script (Ok plans) = plan_by plans links wires steps script

-- The edition of the nodes. A text without words is refused, so each frame that is whole has had a first line; what is said here of one
-- that has had none is said of no text.
abbrev pub edition_given : Option ℕ → ℕ
edition_given None = 1
edition_given (Some edition) = edition

-- the plan of a frame
abbrev pub plan_of_frame : Given → System
plan_of_frame given =
    plan_with (map (link_plan given.nodes) given.links) (map (wire_plan given.nodes) given.wires) (map (step_plan given.nodes) given.steps)
    (script_of given)
    (node_plans (edition_given given.edition) given.links given.bits given.sections given.nodes)

abbrev pub plan_of : Framed → System
plan_of (Refused line kind) = Frame line kind
plan_of (Whole given) = plan_of_frame given

-- the input may have so many bytes
abbrev pub longest_input : ℕ
longest_input = 4194304

-- what the bytes stand for
unfoldable pub system_of : List ℕ → System
system_of bytes = if nat_lt longest_input (length bytes) then Frame 0 TooLong else plan_of (framed (lines_of bytes))
