-- Systems with wires, read by hand.
use Rattle.std.specs.Prelude.{ℕ, ◌≡◌, List, [], ◌∷◌, ◌++◌, codes, replicate}
use Rattle.std.specs.List.{flat_map}
use Rattle.xs_instructions.specs.declared.instr.Instr.TheVariants.{Words, Memory, Flow, Threads, Resources}
use Rattle.xs_instructions.specs.declared.instr.WordIns.TheVariants as words
use Rattle.xs_instructions.specs.declared.instr.MemIns.TheVariants as memory
use Rattle.xs_instructions.specs.declared.instr.FlowIns.TheVariants as flow
use Rattle.xs_instructions.specs.declared.instr.ThreadIns.TheVariants as threads
use Rattle.xs_instructions.specs.declared.instr.ResIns.TheVariants as resources
use Rattle.xs_instructions.specs.Image.{ImageRec}
use Rattle.sys_plan.specs.declared.NodePlan.{NodePlan}
use Rattle.sys_plan.specs.declared.Step.TheVariants.{Take, Run, Send}
use Rattle.sys_plan.specs.declared.WirePlan.{WirePlan}
use Rattle.sys_plan.specs.NodePlans.{plain_plan}
use Rattle.sys_plan.specs.Plan.{PlanRec}
use Rattle.system_model.specs.declared.SysKind.TheVariants.{BadLine, LinkEndTwice, NumberOutOfRange, NodeWithoutSource, SectionNotEnded, NoSuchNode, WireWithinNode, WidthsDiffer, PinWiredTwice, TooManyWires}
use Rattle.system_model.specs.System.{Plan, system_of}
use Rattle.worked_texts.specs.SystemsRead.{Refusals, AreRefused, two_nodes, two_of_edition_2, empty_image, in_edition_2}

-- Refusals. In edition 2 nodes 7 and 3 stand first, so that line 4 is the first of those that follow.

-- lines of no form
abbrev pub bad_wires : Refusals
bad_wires =
    -- words that are too few, too many or others
    (two_of_edition_2 (codes "wire\n"), 4, BadLine)
    ∷ (two_of_edition_2 (codes "wire 7:4A\n"), 4, BadLine)
    ∷ (two_of_edition_2 (codes "wire 7:4A 3:4B\n"), 4, BadLine)
    ∷ (two_of_edition_2 (codes "wire 7:4A 3:4B delay\n"), 4, BadLine)
    ∷ (two_of_edition_2 (codes "wire 7:4A 3:4B 7\n"), 4, BadLine)
    ∷ (two_of_edition_2 (codes "wire 7:4A 3:4B delay 7 gap 4\n"), 4, BadLine)
    ∷ (two_of_edition_2 (codes "wire 7:4A 3:4B delay 7 7\n"), 4, BadLine)
    ∷ (two_of_edition_2 (codes "wire 7:4A 3:4B gap 7\n"), 4, BadLine)
    ∷ (two_of_edition_2 (codes "wire 7:4A 3:4B Delay 7\n"), 4, BadLine)
    ∷ (two_of_edition_2 (codes "Wire 7:4A 3:4B delay 7\n"), 4, BadLine)
    ∷ (two_of_edition_2 (codes "wires 7:4A 3:4B delay 7\n"), 4, BadLine)
    ∷ (two_of_edition_2 (codes "wire 7:4A > 3:4B delay 7\n"), 4, BadLine)
    -- words that are no numbers
    ∷ (two_of_edition_2 (codes "wire x:4A 3:4B delay 7\n"), 4, BadLine)
    ∷ (two_of_edition_2 (codes "wire -7:4A 3:4B delay 7\n"), 4, BadLine)
    ∷ (two_of_edition_2 (codes "wire 7:4A 3:4B delay x\n"), 4, BadLine)
    ∷ (two_of_edition_2 (codes "wire 7:4A 3:4B delay -7\n"), 4, BadLine)
    -- node and port are one word with one colon
    ∷ (two_of_edition_2 (codes "wire 7 4A 3:4B delay 7\n"), 4, BadLine)
    ∷ (two_of_edition_2 (codes "wire 7: 4A 3:4B delay 7\n"), 4, BadLine)
    ∷ (two_of_edition_2 (codes "wire 7: 3:4B delay 7\n"), 4, BadLine)
    ∷ (two_of_edition_2 (codes "wire :4A 3:4B delay 7\n"), 4, BadLine)
    ∷ (two_of_edition_2 (codes "wire 7:4A:4A 3:4B delay 7\n"), 4, BadLine)
    ∷ (two_of_edition_2 (codes "wire 74A 3:4B delay 7\n"), 4, BadLine)
    -- words that name no port, also of the shape of a name, at either end
    ∷ (two_of_edition_2 (codes "wire 7:4a 3:4B delay 7\n"), 4, BadLine)
    ∷ (two_of_edition_2 (codes "wire 7:04A 3:4B delay 7\n"), 4, BadLine)
    ∷ (two_of_edition_2 (codes "wire 7:0x4A 3:4B delay 7\n"), 4, BadLine)
    ∷ (two_of_edition_2 (codes "wire 7:4 3:4B delay 7\n"), 4, BadLine)
    ∷ (two_of_edition_2 (codes "wire 7:16 3:4B delay 7\n"), 4, BadLine)
    ∷ (two_of_edition_2 (codes "wire 7:A4 3:4B delay 7\n"), 4, BadLine)
    ∷ (two_of_edition_2 (codes "wire 7:4A 3:4G delay 7\n"), 4, BadLine)
    ∷ (two_of_edition_2 (codes "wire 7:4A 3:2A delay 7\n"), 4, BadLine)
    ∷ (two_of_edition_2 (codes "wire 7:1Q 3:1A delay 7\n"), 4, BadLine)
    ∷ (two_of_edition_2 (codes "wire 7:32B 3:32A delay 7\n"), 4, BadLine)
    -- bytes that are not allowed
    ∷ (two_of_edition_2 (codes "wire 7:4A 3:4B delay 7 # " ++ 1 ∷ []), 4, BadLine)
    -- edition 1 has none, whatever the line says
    ∷ (two_nodes (codes "wire 7:4A 3:4B delay 7\n"), 4, BadLine)
    ∷ (two_nodes (codes "wire 7:4A 3:4B delay 0\n"), 4, BadLine)
    ∷ (two_nodes (codes "wire 7:4A 7:4A delay 7\n"), 4, BadLine)
    ∷ (two_nodes (codes "wire\n"), 4, BadLine)
    -- in the schedule it is no step
    ∷ (two_of_edition_2 (codes "play\nwire 7:4A 3:4B delay 7\nend\n"), 5, BadLine)
    -- these come before a number out of range
    ∷ (two_of_edition_2 (codes "wire 7:4a 3:4B delay 0\n"), 4, BadLine)
    ∷ (two_of_edition_2 (codes "wire 100:4A 3:4G delay 7\n"), 4, BadLine)
    ∷ (two_of_edition_2 (codes "wire 100:4A 3:4B delay x\n"), 4, BadLine)
    ∷ (two_of_edition_2 (codes "wire 7:4A 3:4B delay 0 # " ++ 1 ∷ []), 4, BadLine)
    ∷ []

-- numbers out of range
abbrev pub wide_wires : Refusals
wide_wires =
    (two_of_edition_2 (codes "wire 7:4A 3:4B delay 0\n"), 4, NumberOutOfRange)
    ∷ (two_of_edition_2 (codes "wire 7:4A 3:4B delay 1001\n"), 4, NumberOutOfRange)
    ∷ (two_of_edition_2 (codes "wire 7:4A 3:4B delay 0x3e9\n"), 4, NumberOutOfRange)
    ∷ (two_of_edition_2 (codes "wire 7:4A 3:4B delay 4294967303\n"), 4, NumberOutOfRange)
    ∷ (two_of_edition_2 (codes "wire 100:4A 3:4B delay 7\n"), 4, NumberOutOfRange)
    ∷ (two_of_edition_2 (codes "wire 7:4A 0x64:4B delay 7\n"), 4, NumberOutOfRange)
    ∷ (two_of_edition_2 (codes "wire 7:4A 259:4B delay 7\n"), 4, NumberOutOfRange)
    -- they come before a node that is not given, and before what a wire is refused for
    ∷ (two_of_edition_2 (codes "wire 4:4A 3:4B delay 0\n"), 4, NumberOutOfRange)
    ∷ (two_of_edition_2 (codes "wire 7:4A 7:4B delay 0\n"), 4, NumberOutOfRange)
    ∷ (two_of_edition_2 (codes "wire 7:4A 3:1A delay 0\n"), 4, NumberOutOfRange)
    ∷ (two_of_edition_2 (codes "wire 7:4A 3:4B delay 7\nwire 7:4C 3:4B delay 0\n"), 5, NumberOutOfRange)
    ∷ []

-- nodes that no earlier line gives
abbrev pub missing_wires : Refusals
missing_wires =
    (two_of_edition_2 (codes "wire 4:4A 3:4B delay 7\n"), 4, NoSuchNode)
    ∷ (two_of_edition_2 (codes "wire 7:4A 4:4B delay 7\n"), 4, NoSuchNode)
    ∷ (two_of_edition_2 (codes "wire 7:4A 9:4B delay 7\nnode 9 id 9\n"), 4, NoSuchNode)
    ∷ (codes "xs1 2\nwire 0:4A 1:4B delay 7\nnode 0 id 0\nnode 1 id 1\n", 2, NoSuchNode)
    -- this comes before what a wire is refused for
    ∷ (two_of_edition_2 (codes "wire 4:4A 4:4A delay 7\n"), 4, NoSuchNode)
    ∷ (two_of_edition_2 (codes "wire 4:4A 3:1A delay 7\n"), 4, NoSuchNode)
    ∷ (two_of_edition_2 (codes "wire 7:4A 3:4B delay 7\nwire 4:4A 3:4B delay 7\n"), 5, NoSuchNode)
    ∷ []

-- what a wire is refused for, each with what comes after it
abbrev pub faulty_wires : Refusals
faulty_wires =
    (two_of_edition_2 (codes "wire 7:4A 7:4B delay 7\n"), 4, WireWithinNode)
    ∷ (two_of_edition_2 (codes "wire 7:4A 7:4A delay 7\n"), 4, WireWithinNode)
    ∷ (two_of_edition_2 (codes "wire 7:4A 7:1A delay 7\n"), 4, WireWithinNode)
    ∷ (two_of_edition_2 (codes "wire 7:4A 3:4B delay 7\nwire 3:4A 3:4B delay 7\n"), 5, WireWithinNode)
    ∷ (two_of_edition_2 (codes "wire 7:4A 3:1A delay 7\n"), 4, WidthsDiffer)
    ∷ (two_of_edition_2 (codes "wire 7:1A 3:4A delay 7\n"), 4, WidthsDiffer)
    ∷ (two_of_edition_2 (codes "wire 7:16B 3:32A delay 7\n"), 4, WidthsDiffer)
    ∷ (two_of_edition_2 (codes "wire 7:4A 3:4B delay 7\nwire 7:1A 3:4B delay 7\n"), 5, WidthsDiffer)
    ∷ (two_of_edition_2 (codes "wire 7:4A 3:4B delay 7\nwire 7:4C 3:4B delay 9\n"), 5, PinWiredTwice)
    ∷ (two_of_edition_2 (codes "wire 7:4A 3:4B delay 7\nwire 7:4A 3:4B delay 7\n"), 5, PinWiredTwice)
    -- the lesser line decides
    ∷ (two_of_edition_2 (codes "wire 7:4A 3:1A delay 7\nwire 7:4A 7:4A delay 7\n"), 4, WidthsDiffer)
    ∷ (two_of_edition_2 (codes "wire 7:4A 3:4B delay 7\nfoo\nwire 7:4A 3:4B delay 7\n"), 5, BadLine)
    -- the end of the text comes after all of them
    ∷ (two_of_edition_2 (codes "source 7\nend\nwire 7:4A 7:4B delay 7\nsource 3\n"), 6, WireWithinNode)
    ∷ (two_of_edition_2 (codes "wire 7:4A 3:4B delay 7\n"), 3, NodeWithoutSource)
    ∷ (two_of_edition_2 (codes "wire 7:4A 3:4B delay 7\nsource 7\n"), 5, SectionNotEnded)
    ∷ []

-- wires from one pin to each of these ports of node 3
abbrev pub wires_to : List (List ℕ) → List ℕ
wires_to ports = flat_map (λ port. codes "wire 7:1A 3:" ++ (port ++ codes " delay 7\n")) ports

-- and to each of these of node 9
abbrev pub more_wires_to : List (List ℕ) → List ℕ
more_wires_to ports = flat_map (λ port. codes "wire 7:1A 9:" ++ (port ++ codes " delay 7\n")) ports

abbrev pub narrow_ports : List (List ℕ)
narrow_ports =
    codes "1A" ∷ codes "1B" ∷ codes "1C" ∷ codes "1D" ∷ codes "1E" ∷ codes "1F" ∷ codes "1G" ∷ codes "1H" ∷ codes "1I" ∷ codes "1J" ∷ codes "1K"
    ∷ codes "1L" ∷ codes "1M" ∷ codes "1N" ∷ codes "1O" ∷ codes "1P" ∷ []

-- three nodes and 32 wires, up to line 36
abbrev pub wired_32 : List ℕ
wired_32 = two_of_edition_2 (codes "node 9 id 9\n" ++ (wires_to narrow_ports ++ more_wires_to narrow_ports))

-- the 33rd wire: that it is one too many is tested last
abbrev pub many_wires : Refusals
many_wires =
    (wired_32 ++ codes "wire 3:1A 7:1B delay 7\n", 37, TooManyWires)
    ∷ (wired_32 ++ codes "wire 3:1A 9:1P delay 7\n", 37, PinWiredTwice)
    ∷ (wired_32 ++ codes "wire 3:1A 7:4A delay 7\n", 37, WidthsDiffer)
    ∷ (wired_32 ++ codes "wire 3:1A 3:1B delay 7\n", 37, WireWithinNode)
    ∷ (wired_32 ++ codes "wire 3:1A 8:1B delay 7\n", 37, NoSuchNode)
    -- the 32nd is none too many, and links have a limit of their own
    ∷ (wired_32, 3, NodeWithoutSource)
    ∷ (wired_32 ++ codes "link 7:0 3:0 delay 5 gap 4\nlink 7:0 9:0 delay 5 gap 4\n", 38, LinkEndTwice)
    ∷ []

-- Steps name the ends of wires, which for a node are 8 and so on, in the order of the lines: those of wires that leave it in `send`, and
-- those of wires that come to it in `take`.

-- two wires from node 7 to node 3, one back, and then the section `play`, which begins at line 7, with these lines, from line 8 on
abbrev pub wired : List ℕ → List ℕ
wired lines = two_of_edition_2 (codes "wire 7:4A 3:4B delay 7\nwire 3:1A 7:1A delay 1\nwire 7:1B 3:1C delay 1000\nplay\n" ++ lines)

abbrev pub wired_steps : Refusals
wired_steps =
    (wired (codes "take 7:9\nend\n"), 8, NoSuchNode)
    ∷ (wired (codes "take 3:10\nend\n"), 8, NoSuchNode)
    ∷ (wired (codes "send 3:9\nend\n"), 8, NoSuchNode)
    ∷ (wired (codes "send 7:10\nend\n"), 8, NoSuchNode)
    ∷ (wired (codes "send 7:264\nend\n"), 8, NoSuchNode)
    ∷ (wired (codes "take 3:99999999999\nend\n"), 8, NoSuchNode)
    ∷ (wired (codes "take 4:8\nend\n"), 8, NoSuchNode)
    -- no link is at link end 0
    ∷ (wired (codes "take 7:0\nend\n"), 8, NoSuchNode)
    -- a number of a node out of range comes before an end that is not there
    ∷ (wired (codes "take 100:8\nend\n"), 8, NumberOutOfRange)
    -- one that a later line gives
    ∷ (two_of_edition_2 (codes "play\nsend 7:8\nend\nwire 7:4A 3:4B delay 7\n"), 5, NoSuchNode)
    -- and none of the other direction
    ∷ (two_of_edition_2 (codes "wire 7:4A 3:4B delay 7\nplay\nsend 7:8\ntake 3:8\ntake 7:8\nend\n"), 8, NoSuchNode)
    ∷ (two_of_edition_2 (codes "wire 7:4A 3:4B delay 7\nplay\ntake 3:8\nsend 3:8\nend\n"), 7, NoSuchNode)
    ∷ []

pub record WorkedWireRefusals : Type 0 where
  pub bad : AreRefused bad_wires
  pub wide : AreRefused wide_wires
  pub none : AreRefused missing_wires
  pub faulty : AreRefused faulty_wires
  pub too_many : AreRefused many_wires
  pub steps : AreRefused wired_steps

-- Systems

abbrev pub empty_node : ℕ → ℕ → NodePlan
empty_node number id = in_edition_2 (plain_plan number id empty_image (replicate 16 0))

-- node 3 stands first, and node 7 second
abbrev pub wired_plan : List WirePlan → PlanRec
wired_plan wires = record { nodes = empty_node 3 0 ∷ empty_node 7 1 ∷ []; links = []; script = []; steps = []; wires = wires }

abbrev pub sources : List ℕ
sources = codes "source 7\nend\nsource 3\nend\n"

-- one pin that is a source twice and a target once, blanks, comments and numbers of both forms; wires stand in the order of their lines
abbrev pub mixed_wires : List ℕ
mixed_wires = codes "\twire 0x7:32A  003:32A delay 0x3e8 # the slowest\nwire 3:16B 7:16A delay 1//\nwire 7:16A 3:16A delay 0007\r\nwire 7:16A 3:16B delay 8\n"

abbrev pub mixed_plans : List WirePlan
mixed_plans =
    record { a = 1; a_port = 28; b = 0; b_port = 28; delay = 1000 }
    ∷ record { a = 0; a_port = 27; b = 1; b_port = 26; delay = 1 }
    ∷ record { a = 1; a_port = 26; b = 0; b_port = 26; delay = 7 }
    ∷ record { a = 1; a_port = 26; b = 0; b_port = 27; delay = 8 }
    ∷ []

-- wires and a link side by side, and steps that name the ends of both: link end 0, and the ends of wires from 8 on, counted apart for those
-- that leave a node and those that come to it
abbrev pub side_by_side : List ℕ
side_by_side =
    two_of_edition_2 (codes "wire 7:4A 3:4B delay 7\nlink 7:0 3:0 delay 5 gap 4\nwire 3:1A 7:1A delay 1\nwire 7:1B 3:1C delay 1000\nplay\n"
    ++ (codes "take 3:8\nsend 7:0x9\ntake 3:009\nsend 3:8\ntake 7:8\nsend 7:8\ntake 3:0\nsend 7:0\nrun 3 2\nend\n" ++ sources))

abbrev pub plan_side_by_side : PlanRec
plan_side_by_side = record {
  nodes = empty_node 3 0 ∷ empty_node 7 1 ∷ [];
  links = record { a = 1; a_end = 0; b = 0; b_end = 0; delay = 5; gap = 4; net = 0 } ∷ [];
  script = [];
  steps = Take 0 8 ∷ Send 1 9 ∷ Take 0 9 ∷ Send 0 8 ∷ Take 1 8 ∷ Send 1 8 ∷ Take 0 0 ∷ Send 1 0 ∷ Run 0 2 ∷ [];
  wires =
      record { a = 1; a_port = 16; b = 0; b_port = 17; delay = 7 }
      ∷ record { a = 0; a_port = 0; b = 1; b_port = 0; delay = 1 }
      ∷ record { a = 1; a_port = 1; b = 0; b_port = 2; delay = 1000 }
      ∷ [];
}

-- Two nodes with their sources: the first drives 10 at its pins 4A, and the second waits until its pins 4B show it, seven slots later.
abbrev pub driver_and_reader : List ℕ
driver_and_reader =
    codes "xs1 2\nnode 0 id 0\nnode 1 id 1\nwire 0:4A 1:4B delay 7\n"
    ++ (codes "source 0\nldw r0, dp[0]\nsetc res[r0], 8\nldc r1, 10\nout res[r0], r1\nfreet\n.data\n.word 0x00040000\nend\n"
    ++ codes "source 1\nldw r0, dp[0]\nsetc res[r0], 8\nloop: peek r1, res[r0]\nbf r1, loop\nstw r1, dp[1]\nfreet\n.data\n.word 0x00040100\nend\n")

abbrev pub driver_image : ImageRec
driver_image = record {
  code =
      Memory (memory.LdwDp 0 0)
      ∷ Resources (resources.SetcImm 0 8)
      ∷ Words (words.Ldc 1 10)
      ∷ Resources (resources.Out 0 1)
      ∷ Threads threads.Freet
      ∷ [];
  bytes = 0 ∷ 0 ∷ 4 ∷ 0 ∷ [];
  cp_at = 0x00010004;
  symbols = [];
}

abbrev pub reader_image : ImageRec
reader_image = record {
  code =
      Memory (memory.LdwDp 0 0)
      ∷ Resources (resources.SetcImm 0 8)
      ∷ Resources (resources.Peek 1 0)
      ∷ Flow (flow.Bf 1 2)
      ∷ Memory (memory.StwDp 1 1)
      ∷ Threads threads.Freet
      ∷ [];
  bytes = 0 ∷ 1 ∷ 4 ∷ 0 ∷ [];
  cp_at = 0x00010004;
  symbols = (codes "loop", 0x00040008) ∷ [];
}

abbrev pub plan_of_driver_and_reader : PlanRec
plan_of_driver_and_reader = record {
  nodes =
      in_edition_2 (plain_plan 0 0 driver_image (replicate 16 0))
      ∷ in_edition_2 (plain_plan 1 1 reader_image (replicate 16 0))
      ∷ [];
  links = [];
  script = [];
  steps = [];
  wires = record { a = 0; a_port = 16; b = 1; b_port = 17; delay = 7 } ∷ [];
}

pub record WorkedWires : Type 0 where
  pub one : system_of (two_of_edition_2 (codes "wire 7:4A 3:4B delay 7\n" ++ sources)) ≡ Plan (wired_plan (record { a = 1; a_port = 16; b = 0; b_port = 17; delay = 7 } ∷ []))
  pub none : system_of (two_of_edition_2 sources) ≡ Plan (wired_plan [])
  -- a line may follow the sections
  pub behind : system_of (two_of_edition_2 (sources ++ mixed_wires)) ≡ Plan (wired_plan mixed_plans)
  pub before : system_of (two_of_edition_2 (mixed_wires ++ sources)) ≡ Plan (wired_plan mixed_plans)
  pub links_and_wires : system_of side_by_side ≡ Plan plan_side_by_side
  -- script lines for a pin to which a wire leads are tested like all others
  pub scripted : system_of (two_of_edition_2 (codes "wire 7:4A 3:4B delay 7\npins\n5 3:4B 15\nend\n" ++ sources))
      ≡ Plan (record (wired_plan (record { a = 1; a_port = 16; b = 0; b_port = 17; delay = 7 } ∷ [])) { script = record { slot = 5; node = 3; port = 17; value = 15 } ∷ [] })
  pub driven : system_of driver_and_reader ≡ Plan plan_of_driver_and_reader
