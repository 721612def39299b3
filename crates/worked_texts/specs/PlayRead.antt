-- Systems with a schedule, read by hand.
use Rattle.std.specs.Prelude.{ℕ, ◌≡◌, List, [], ◌∷◌, ◌++◌, codes, replicate}
use Rattle.source_model.specs.declared.AsmKind.TheVariants as asm
use Rattle.pin_scripts.specs.declared.pin_error.PinKind.TheVariants as pins
use Rattle.sys_plan.specs.NodePlans.{plain_plan}
use Rattle.sys_plan.specs.Plan.{PlanRec}
use Rattle.sys_plan.specs.declared.Step.{Step}
use Rattle.sys_plan.specs.declared.Step.TheVariants.{Take, Run, Send}
use Rattle.system_model.specs.declared.SysKind.TheVariants.{BadLine, GivenTwice, NumberOutOfRange, NodeWithoutSource, SectionNotEnded, NoSuchNode}
use Rattle.system_model.specs.System.{Plan, Source, Pins, system_of}
use Rattle.worked_texts.specs.SystemsRead.{Refusals, AreRefused, two_nodes, linked, empty_image}

-- nodes 7 and 3, which link end 0 of both joins, and then the section `play`, which begins at line 5, with these lines, from line 6 on
abbrev pub played : List ℕ → List ℕ
played lines = linked (codes "play\n" ++ lines)

-- lines that are no step
abbrev pub bad_steps : Refusals
bad_steps =
    (played (codes "foo\nend\n"), 6, BadLine)
    ∷ (played (codes "\n# x\n  foo // x\nend\n"), 8, BadLine)
    ∷ (played (codes "run 3\nrun 7\nfoo\n"), 8, BadLine)
    -- lines of other sections, of the frame, and the word that begins this one
    ∷ (played (codes "pins\nend\n"), 6, BadLine)
    ∷ (played (codes "xs1 1\nend\n"), 6, BadLine)
    ∷ (played (codes "source 3\nend\n"), 6, BadLine)
    ∷ (played (codes "node 9 id 9\nend\n"), 6, BadLine)
    ∷ (played (codes "link 7:1 3:1 delay 5 gap 4\nend\n"), 6, BadLine)
    ∷ (played (codes "play\nend\n"), 6, BadLine)
    ∷ (played (codes "end 0\nend\n"), 6, BadLine)
    ∷ (played (codes "end:\nend\n"), 6, BadLine)
    ∷ (played (codes "end\r"), 6, BadLine)
    -- words that are too few, too many or others
    ∷ (played (codes "take\nend\n"), 6, BadLine)
    ∷ (played (codes "take 3\nend\n"), 6, BadLine)
    ∷ (played (codes "take 3 0\nend\n"), 6, BadLine)
    ∷ (played (codes "take 3:0 1\nend\n"), 6, BadLine)
    ∷ (played (codes "take 3: 0\nend\n"), 6, BadLine)
    ∷ (played (codes "take 3:\nend\n"), 6, BadLine)
    ∷ (played (codes "take :0\nend\n"), 6, BadLine)
    ∷ (played (codes "take 3:0:0\nend\n"), 6, BadLine)
    ∷ (played (codes "take x:0\nend\n"), 6, BadLine)
    ∷ (played (codes "Take 3:0\nend\n"), 6, BadLine)
    ∷ (played (codes "send\nend\n"), 6, BadLine)
    ∷ (played (codes "send 3\nend\n"), 6, BadLine)
    ∷ (played (codes "send 3:x\nend\n"), 6, BadLine)
    ∷ (played (codes "send 3:0 3:0\nend\n"), 6, BadLine)
    ∷ (played (codes "run\nend\n"), 6, BadLine)
    ∷ (played (codes "run x\nend\n"), 6, BadLine)
    ∷ (played (codes "run -3\nend\n"), 6, BadLine)
    ∷ (played (codes "run 3:0\nend\n"), 6, BadLine)
    ∷ (played (codes "run 3 x\nend\n"), 6, BadLine)
    ∷ (played (codes "run 3 +1\nend\n"), 6, BadLine)
    ∷ (played (codes "run 3 0b1\nend\n"), 6, BadLine)
    ∷ (played (codes "run 3 1 1\nend\n"), 6, BadLine)
    ∷ (played (codes "run 3 take 3:0\nend\n"), 6, BadLine)
    -- `play` stands alone, and steps stand in it
    ∷ (codes "xs1 1\nplay x\n", 2, BadLine)
    ∷ (codes "xs1 1\nplay 0\nend\n", 2, BadLine)
    ∷ (codes "xs1 1\nPlay\nend\n", 2, BadLine)
    ∷ (linked (codes "take 3:0\n"), 5, BadLine)
    ∷ (linked (codes "run 3\n"), 5, BadLine)
    ∷ (played (codes "end\nsend 3:0\n"), 7, BadLine)
    ∷ (played (codes "end\nend\n"), 7, BadLine)
    ∷ []

-- bytes that are not allowed: on a line of nothing else, in a comment, behind a step, and on the lines that begin and end the section
abbrev pub bad_step_bytes : Refusals
bad_step_bytes =
    (played (1 ∷ codes "\nend\n"), 6, BadLine)
    ∷ (played (codes "# " ++ (1 ∷ codes "\nend\n")), 6, BadLine)
    ∷ (played (codes "run 3 # " ++ (1 ∷ codes "\nend\n")), 6, BadLine)
    ∷ (played (codes "run 3\r\r\nend\n"), 6, BadLine)
    ∷ (played (codes "run 3\nend # " ++ (1 ∷ codes "\nfoo\n")), 7, BadLine)
    ∷ (codes "xs1 1\nplay # " ++ (1 ∷ codes "\nend\n"), 2, BadLine)
    -- they come before a number out of range
    ∷ (played (codes "run 100 # " ++ (1 ∷ codes "\nend\n")), 6, BadLine)
    ∷ []

-- numbers out of range
abbrev pub wide_steps : Refusals
wide_steps =
    (played (codes "run 100\nend\n"), 6, NumberOutOfRange)
    ∷ (played (codes "run 0x64 5\nend\n"), 6, NumberOutOfRange)
    ∷ (played (codes "take 100:0\nend\n"), 6, NumberOutOfRange)
    ∷ (played (codes "take 259:0\nend\n"), 6, NumberOutOfRange)
    ∷ (played (codes "send 100:0\nend\n"), 6, NumberOutOfRange)
    ∷ (played (codes "run 3 0\nend\n"), 6, NumberOutOfRange)
    ∷ (played (codes "run 3 000\nend\n"), 6, NumberOutOfRange)
    ∷ (played (codes "run 3 0x0\nend\n"), 6, NumberOutOfRange)
    ∷ (played (codes "run 3 1000001\nend\n"), 6, NumberOutOfRange)
    ∷ (played (codes "run 3 0xF4241\nend\n"), 6, NumberOutOfRange)
    ∷ (played (codes "run 3 4294967297\nend\n"), 6, NumberOutOfRange)
    ∷ (played (codes "run 3 99999999999999999999999999999999999999999999\nend\n"), 6, NumberOutOfRange)
    -- they come before a node or an end that is not given, and a line of no form comes before them
    ∷ (played (codes "run 4 0\nend\n"), 6, NumberOutOfRange)
    ∷ (played (codes "take 100:8\nend\n"), 6, NumberOutOfRange)
    ∷ (played (codes "send 100:99999999999\nend\n"), 6, NumberOutOfRange)
    ∷ (played (codes "run 100 x\nend\n"), 6, BadLine)
    ∷ (played (codes "take 100:8 0\nend\n"), 6, BadLine)
    ∷ (played (codes "run 3 0 0\nend\n"), 6, BadLine)
    ∷ []

-- nodes and link ends that no earlier line gives
abbrev pub missing_steps : Refusals
missing_steps =
    (played (codes "run 4\nend\n"), 6, NoSuchNode)
    ∷ (played (codes "run 4 5\nend\n"), 6, NoSuchNode)
    ∷ (played (codes "take 4:0\nend\n"), 6, NoSuchNode)
    ∷ (played (codes "send 4:0\nend\n"), 6, NoSuchNode)
    -- a link end that no link has, alone and where the other node of the link has it
    ∷ (played (codes "take 3:1\nend\n"), 6, NoSuchNode)
    ∷ (played (codes "send 7:7\nend\n"), 6, NoSuchNode)
    -- an end that no node has here, however great, also of a node that is not there
    ∷ (played (codes "take 3:8\nend\n"), 6, NoSuchNode)
    ∷ (played (codes "send 3:8\nend\n"), 6, NoSuchNode)
    ∷ (played (codes "take 3:255\nend\n"), 6, NoSuchNode)
    ∷ (played (codes "send 3:256\nend\n"), 6, NoSuchNode)
    ∷ (played (codes "send 3:0x100\nend\n"), 6, NoSuchNode)
    ∷ (played (codes "take 3:99999999999\nend\n"), 6, NoSuchNode)
    ∷ (played (codes "take 4:8\nend\n"), 6, NoSuchNode)
    ∷ (played (codes "send 4:8\nend\n"), 6, NoSuchNode)
    ∷ (two_nodes (codes "link 7:0 3:1 delay 5 gap 4\nplay\ntake 3:1\nsend 3:0\nend\n"), 7, NoSuchNode)
    ∷ (two_nodes (codes "link 7:0 3:1 delay 5 gap 4\nplay\nsend 7:0\ntake 7:1\nend\n"), 7, NoSuchNode)
    -- one that a later line gives
    ∷ (two_nodes (codes "play\ntake 7:0\nend\nlink 7:0 3:0 delay 5 gap 4\n"), 5, NoSuchNode)
    ∷ (two_nodes (codes "play\nsend 3:0\nend\nlink 7:0 3:0 delay 5 gap 4\n"), 5, NoSuchNode)
    ∷ (codes "xs1 1\nplay\nrun 0\nend\nnode 0 id 0\n", 3, NoSuchNode)
    -- the lesser line decides
    ∷ (played (codes "run 4\nfoo\nend\n"), 6, NoSuchNode)
    ∷ (played (codes "run 3 0\nrun 4\nend\n"), 6, NumberOutOfRange)
    ∷ []

-- the second section, at its own first line, and the end of the text
abbrev pub whole_plays : Refusals
whole_plays =
    (played (codes "end\nplay\nend\n"), 7, GivenTwice)
    ∷ (played (codes "run 3\nend\npins\nend\n  play # x\nfoo\nend\n"), 10, GivenTwice)
    ∷ (played (codes "end\nplay x\nend\n"), 7, BadLine)
    -- what stands in a source or a script is its own, so the third one here is the second
    ∷ (codes "xs1 1\nnode 0 id 0\nsource 0\nplay\nend\npins\nplay\nend\nplay\nend\nplay\n", 11, GivenTwice)
    -- it has no end, which comes before a node without a source
    ∷ (codes "xs1 1\nplay\n", 2, SectionNotEnded)
    ∷ (played (codes "run 3\n# end\n"), 5, SectionNotEnded)
    ∷ (linked (codes "source 7\nend\nsource 3\nend\nplay\ntake 3:0"), 9, SectionNotEnded)
    ∷ (played (codes "end\n"), 3, NodeWithoutSource)
    -- but a faulty line comes before it, also one of its own
    ∷ (played (codes "foo\n"), 6, BadLine)
    ∷ (played (codes "run 3\nsend 3:8\n"), 7, NoSuchNode)
    ∷ (played (codes "run 3\n# " ++ 1 ∷ []), 7, BadLine)
    -- and the frame before a source or a script that is refused
    ∷ (linked (codes "source 7\nfoo\nend\npins\nfoo\nend\nsource 3\nend\nplay\nrun 4\nend\n"), 14, NoSuchNode)
    ∷ []

pub record WorkedPlayRefusals : Type 0 where
  pub bad : AreRefused bad_steps
  pub bytes : AreRefused bad_step_bytes
  pub wide : AreRefused wide_steps
  pub none : AreRefused missing_steps
  pub whole : AreRefused whole_plays
  -- in a source and in the script `play` is no line of the frame
  pub in_source : system_of (codes "xs1 1\nnode 0 id 0\nsource 0\nplay\nend\n") ≡ Source 0 1 asm.UnknownName
  pub in_pins : system_of (codes "xs1 1\npins\nplay\nend\n") ≡ Pins 1 pins.BadLine

-- Schedules

-- the sources of both nodes
abbrev pub sources : List ℕ
sources = codes "source 7\nend\nsource 3\nend\n"

-- steps in all their forms, with lines that mean nothing between them
abbrev pub schedule : List ℕ
schedule =
    codes "play # it\n\n take 007:0x0 // all of it\nrun 0x3 0x10\nrun 7\n\t# end\nsend\t3:00\nrun 3 1000000//\r\nrun 07 00000000000000000000000000000000001\ntake 3:0\nsend 7:0\n end # x\n"

-- node 3 stands first, and node 7 second
abbrev pub steps_of_schedule : List Step
steps_of_schedule = Take 1 0 ∷ Run 0 16 ∷ Run 1 1 ∷ Send 0 0 ∷ Run 0 1000000 ∷ Run 1 1 ∷ Take 0 0 ∷ Send 1 0 ∷ []

abbrev pub scheduled : List Step → PlanRec
scheduled steps = record {
  nodes =
      plain_plan 3 0 empty_image (replicate 16 0)
      ∷ plain_plan 7 1 empty_image (replicate 16 0)
      ∷ [];
  links = record { a = 1; a_end = 0; b = 0; b_end = 0; delay = 5; gap = 4; net = 0 } ∷ [];
  script = [];
  steps = steps;
  wires = [];
}

abbrev pub with_script : PlanRec → PlanRec
with_script plan = record plan { script = record { slot = 5; node = 3; port = 16; value = 15 } ∷ [] }

-- a section that names a node before another one is given, which stands before it
abbrev pub early : List ℕ
early = codes "xs1 1\nnode 7 id 1\nplay\nrun 7 2\nend\nnode 3 id 0\nlink 7:0 3:0 delay 5 gap 4\n" ++ sources

pub record WorkedSchedules : Type 0 where
  pub before : system_of (linked (schedule ++ sources)) ≡ Plan (scheduled steps_of_schedule)
  pub behind : system_of (linked (sources ++ schedule)) ≡ Plan (scheduled steps_of_schedule)
  pub before_pins : system_of (linked (schedule ++ (codes "pins\n5 3:4A 15\nend\n" ++ sources))) ≡ Plan (with_script (scheduled steps_of_schedule))
  pub behind_pins : system_of (linked (codes "pins\n5 3:4A 15\nend\n" ++ (sources ++ schedule))) ≡ Plan (with_script (scheduled steps_of_schedule))
  pub early_node : system_of early ≡ Plan (scheduled (Run 1 2 ∷ []))
  pub empty : system_of (played (codes "end\n" ++ sources)) ≡ Plan (scheduled [])
  pub without : system_of (linked sources) ≡ Plan (scheduled [])
  pub no_node : system_of (codes "xs1 1\nplay\n# none\nend") ≡ Plan (record { nodes = []; links = []; script = []; steps = []; wires = [] })
