-- Frames of systems, read by hand.
use Rattle.std.specs.Prelude.{ℕ, ◌≡◌, Some, None, List, [], ◌∷◌, ◌++◌, length, map, codes, replicate}
use Rattle.std.specs.List.{flat_map}
use Rattle.xs_text.specs.Lines.{lines_of}
use Rattle.xs_instructions.specs.Image.{ImageRec}
use Rattle.sys_plan.specs.declared.NodePlan.{NodePlan}
use Rattle.sys_plan.specs.NodePlans.{plain_plan}
use Rattle.sys_plan.specs.Plan.{PlanRec}
use Rattle.system_model.specs.declared.SysKind.{SysKind}
use Rattle.system_model.specs.declared.SysKind.TheVariants.{FirstLine, BadLine, GivenTwice, IdTwice, LinkEndTwice, LinkToItself, NumberOutOfRange, NodeWithoutSource, SectionNotEnded, TooLong, BitTwice, NoSuchNode, TooMany}
use Rattle.system_model.specs.declared.frame_line.SectionKind.TheVariants as section
use Rattle.system_model.specs.Frame.{Framed, Whole, framed}
use Rattle.system_model.specs.System.{Plan, Frame, plan_of, system_of}

-- Refusals

-- texts, and the line and the kind of the refusal of each
abbrev pub Refusals : Type 0
Refusals = List (List ℕ × ℕ × SysKind)

-- each text is refused so
abbrev pub AreRefused : Refusals → Type 0
AreRefused rows =
    map (λ (row : List ℕ × ℕ × SysKind). system_of row.0) rows ≡ map (λ (row : List ℕ × ℕ × SysKind). Frame row.1 row.2) rows

-- the header and two nodes in falling order, and then these lines, from line 4 on
abbrev pub two_nodes : List ℕ → List ℕ
two_nodes lines = codes "xs1 1\nnode 7 id 1\nnode 3 id 0\n" ++ lines

-- the same with a link, and then these lines, from line 5 on
abbrev pub linked : List ℕ → List ℕ
linked lines = two_nodes (codes "link 7:0 3:0 delay 5 gap 4\n" ++ lines)

-- the first line with words
abbrev pub first_lines : Refusals
first_lines =
    ([], 1, FirstLine)
    ∷ (codes "\n\n", 1, FirstLine)
    ∷ (codes "  # nothing\n// here", 1, FirstLine)
    ∷ (codes "# " ++ 1 ∷ [], 1, FirstLine)
    ∷ (codes "\n# " ++ (1 ∷ codes "\n\n"), 1, FirstLine)
    ∷ (codes "xs1 3\n", 1, FirstLine)
    ∷ (codes "\n # x\nxs1 3\nnode 0 id 0\n", 3, FirstLine)
    ∷ (codes "xs1 0\n", 1, FirstLine)
    ∷ (codes "xs1 02\n", 1, FirstLine)
    ∷ (codes "xs1 0x2\n", 1, FirstLine)
    ∷ (codes "xs1 2 x\n", 1, FirstLine)
    ∷ (codes "xs1 2 2\n", 1, FirstLine)
    ∷ (codes "xs1 1 2\n", 1, FirstLine)
    ∷ (codes "xs1 12\n", 1, FirstLine)
    ∷ (codes "XS1 2\n", 1, FirstLine)
    ∷ (codes "xs2 2\n", 1, FirstLine)
    ∷ (codes "2 xs1\n", 1, FirstLine)
    ∷ (codes "xs1 01\n", 1, FirstLine)
    ∷ (codes "xs1 0x1\n", 1, FirstLine)
    ∷ (codes "xs1\n", 1, FirstLine)
    ∷ (codes "xs1 1 1\n", 1, FirstLine)
    ∷ (codes "XS1 1\n", 1, FirstLine)
    ∷ (codes "node 0 id 0\nxs1 1\n", 1, FirstLine)
    ∷ (codes "end\n", 1, FirstLine)
    ∷ (1 ∷ [], 1, FirstLine)
    ∷ (codes "xs1 3 # " ++ 1 ∷ [], 1, FirstLine)
    -- a carriage return that does not end the line is a part of its word
    ∷ (codes "xs1 1\r\r\n", 1, FirstLine)
    ∷ (codes "xs1 1\r", 1, FirstLine)
    ∷ []

-- lines of a text of edition 2 that it refuses as one of edition 1 does: a first line once more, of either edition
abbrev pub of_edition_2 : Refusals
of_edition_2 =
    (codes "xs1 2 # " ++ 1 ∷ [], 1, BadLine)
    ∷ (codes "xs1 2\nxs1 2\n", 2, BadLine)
    ∷ (codes "xs1 2\nxs1 1\n", 2, BadLine)
    ∷ (codes "xs1 1\nxs1 2\n", 2, BadLine)
    ∷ (codes "xs1 2\nnode 0 id 0\n", 2, NodeWithoutSource)
    ∷ []

-- the header of edition 2 and two nodes in falling order, and then these lines, from line 4 on
abbrev pub two_of_edition_2 : List ℕ → List ℕ
two_of_edition_2 lines = codes "xs1 2\nnode 7 id 1\nnode 3 id 0\n" ++ lines

-- link lines with a network, which in edition 2 is 0 to 3
abbrev pub of_networks : Refusals
of_networks =
    (two_of_edition_2 (codes "link 7:0 3:0 delay 5 gap 4 net 4\n"), 4, NumberOutOfRange)
    ∷ (two_of_edition_2 (codes "link 7:0 3:0 delay 5 gap 4 net 0x4\n"), 4, NumberOutOfRange)
    ∷ (two_of_edition_2 (codes "link 7:0 3:0 delay 5 gap 4 net 256\n"), 4, NumberOutOfRange)
    ∷ (two_of_edition_2 (codes "link 7:0 3:0 delay 5 gap 4 net 99999999999999999999999999999999999999999999\n"), 4, NumberOutOfRange)
    ∷ (two_of_edition_2 (codes "link 7:0 3:0 delay 5 gap 4 net x\n"), 4, BadLine)
    ∷ (two_of_edition_2 (codes "link 7:0 3:0 delay 5 gap 4 net -1\n"), 4, BadLine)
    ∷ (two_of_edition_2 (codes "link 7:0 3:0 delay 5 gap 4 net 0x\n"), 4, BadLine)
    ∷ (two_of_edition_2 (codes "link 7:0 3:0 delay 5 gap 4 net\n"), 4, BadLine)
    ∷ (two_of_edition_2 (codes "link 7:0 3:0 delay 5 gap 4 1\n"), 4, BadLine)
    ∷ (two_of_edition_2 (codes "link 7:0 3:0 delay 5 gap 4 net 1 1\n"), 4, BadLine)
    ∷ (two_of_edition_2 (codes "link 7:0 3:0 delay 5 gap 4 net 1 net 1\n"), 4, BadLine)
    ∷ (two_of_edition_2 (codes "link 7:0 3:0 delay 5 gap 4 Net 1\n"), 4, BadLine)
    ∷ (two_of_edition_2 (codes "link 7:0 3:0 delay 5 gap 4 gap 1\n"), 4, BadLine)
    ∷ (two_of_edition_2 (codes "link 7:0 3:0 net 1 delay 5 gap 4\n"), 4, BadLine)
    ∷ (two_of_edition_2 (codes "link 7:0 3:0 delay 5 net 1\n"), 4, BadLine)
    -- a line of no form comes before a number out of range, and that before the other faults
    ∷ (two_of_edition_2 (codes "link 7:0 3:0 delay 0 gap 4 net x\n"), 4, BadLine)
    ∷ (two_of_edition_2 (codes "link 7:0 3:0 delay x gap 4 net 4\n"), 4, BadLine)
    ∷ (two_of_edition_2 (codes "link 7:0 4:0 delay 5 gap 4 net 4\n"), 4, NumberOutOfRange)
    ∷ (two_of_edition_2 (codes "link 7:0 7:1 delay 5 gap 4 net 4\n"), 4, NumberOutOfRange)
    -- a network leaves them as they are
    ∷ (two_of_edition_2 (codes "link 7:0 4:0 delay 5 gap 4 net 3\n"), 4, NoSuchNode)
    ∷ (two_of_edition_2 (codes "link 7:0 7:1 delay 5 gap 4 net 3\n"), 4, LinkToItself)
    ∷ (two_of_edition_2 (codes "link 7:0 3:0 delay 5 gap 4 net 1\nlink 7:1 3:0 delay 5 gap 4 net 2\n"), 5, LinkEndTwice)
    ∷ (two_of_edition_2 (codes "link 7:0 3:0 delay 5 gap 4 net 3\n"), 3, NodeWithoutSource)
    -- edition 1 has none, whatever its number
    ∷ (two_nodes (codes "link 7:0 3:0 delay 5 gap 4 net 0\n"), 4, BadLine)
    ∷ (two_nodes (codes "link 7:0 3:0 delay 5 gap 4 net 1\n"), 4, BadLine)
    ∷ (two_nodes (codes "link 7:0 3:0 delay 5 gap 4 net 4\n"), 4, BadLine)
    ∷ (two_nodes (codes "link 7:0 3:0 delay 0 gap 4 net 1\n"), 4, BadLine)
    ∷ []

-- bytes that are not allowed, and lines of no form
abbrev pub bad_lines : Refusals
bad_lines =
    (codes "# " ++ (1 ∷ codes "\nxs1 1\n"), 1, BadLine)
    ∷ (codes "xs1 1 # " ++ (1 ∷ codes "\n"), 1, BadLine)
    ∷ (codes "xs1 1\n" ++ (1 ∷ codes "\n"), 2, BadLine)
    ∷ (codes "xs1 1\n\n# " ++ (127 ∷ codes "\n"), 3, BadLine)
    ∷ (codes "xs1 1\nxs1 1\n", 2, BadLine)
    ∷ (codes "xs1 1\nend\n", 2, BadLine)
    ∷ (codes "xs1 1\nnode\n", 2, BadLine)
    ∷ (codes "xs1 1\nnode 0 id\n", 2, BadLine)
    ∷ (codes "xs1 1\nnode 0 id 0 0\n", 2, BadLine)
    ∷ (codes "xs1 1\nNode 0 id 0\n", 2, BadLine)
    ∷ (codes "xs1 1\nnode 0 ID 0\n", 2, BadLine)
    ∷ (codes "xs1 1\nnode x id 0\n", 2, BadLine)
    ∷ (codes "xs1 1\nnode -5 id 0\n", 2, BadLine)
    ∷ (codes "xs1 1\nnode +5 id 0\n", 2, BadLine)
    ∷ (codes "xs1 1\nnode 0b0 id 0\n", 2, BadLine)
    ∷ (codes "xs1 1\nnode 0X0 id 0\n", 2, BadLine)
    ∷ (codes "xs1 1\nnode 0x id 0\n", 2, BadLine)
    ∷ (codes "xs1 1\nnode 0 id 0/x\n", 2, BadLine)
    ∷ (codes "xs1 1\nnode 0 id 0\r", 2, BadLine)
    -- a line of no form comes before a number out of range
    ∷ (codes "xs1 1\nnode 100 id x\n", 2, BadLine)
    ∷ (codes "xs1 1\nnode 100 id 0 # " ++ (1 ∷ codes "\n"), 2, BadLine)
    ∷ (codes "xs1 1\nsource\n", 2, BadLine)
    ∷ (codes "xs1 1\nsource x\n", 2, BadLine)
    ∷ (codes "xs1 1\nsource 0 0\n", 2, BadLine)
    -- the line that ends a source
    ∷ (codes "xs1 1\nnode 0 id 0\nsource 0\nfoo\nend # " ++ (1 ∷ codes "\n"), 5, BadLine)
    ∷ (codes "xs1 1\nnode 0 id 0\nsource 0\nend\n# " ++ 0 ∷ [], 5, BadLine)
    ∷ (codes "xs1 1\nnode 0 id 0\nsource 0\nend\nend\n", 5, BadLine)
    ∷ []

-- lines of no form
abbrev pub bad_pair_lines : Refusals
bad_pair_lines =
    (two_nodes (codes "link 7 :0 3:0 delay 5 gap 4\n"), 4, BadLine)
    ∷ (two_nodes (codes "link 7: 3:0 delay 5 gap 4\n"), 4, BadLine)
    ∷ (two_nodes (codes "link :0 3:0 delay 5 gap 4\n"), 4, BadLine)
    ∷ (two_nodes (codes "link 7:0:0 3:0 delay 5 gap 4\n"), 4, BadLine)
    ∷ (two_nodes (codes "link 7:x 3:0 delay 5 gap 4\n"), 4, BadLine)
    ∷ (two_nodes (codes "link 7 3 delay 5 gap 4\n"), 4, BadLine)
    ∷ (two_nodes (codes "link 7:0 3:0 gap 4 delay 5\n"), 4, BadLine)
    ∷ (two_nodes (codes "link 7:0 3:0 delay 5\n"), 4, BadLine)
    ∷ (two_nodes (codes "link 100:8 3:0 delay 0 gap x\n"), 4, BadLine)
    ∷ (linked (codes "bit 7 0\n"), 5, BadLine)
    ∷ (linked (codes "bit 7 0 x\n"), 5, BadLine)
    ∷ (linked (codes "bit 7 0 0 0x\n"), 5, BadLine)
    ∷ (linked (codes "bit 7 x 0\n"), 5, BadLine)
    -- nine link ends, which are out of range too
    ∷ (linked (codes "bit 7 0 0 1 2 3 4 5 6 7 0\n"), 5, BadLine)
    ∷ (linked (codes "bit 7 0 8 8 8 8 8 8 8 8 8\n"), 5, BadLine)
    ∷ []

-- numbers out of range
abbrev pub wide_numbers : Refusals
wide_numbers =
    (codes "xs1 1\nnode 100 id 0\n", 2, NumberOutOfRange)
    ∷ (codes "xs1 1\nnode 0x64 id 0\n", 2, NumberOutOfRange)
    ∷ (codes "xs1 1\nnode 0 id 65536\n", 2, NumberOutOfRange)
    ∷ (codes "xs1 1\nnode 99999999999999999999999999999999999999999999 id 0\n", 2, NumberOutOfRange)
    ∷ (codes "xs1 1\nnode 0 id 0x100000000000000000000000000000000000000000000\n", 2, NumberOutOfRange)
    ∷ (codes "xs1 1\nsource 100\n", 2, NumberOutOfRange)
    ∷ (two_nodes (codes "link 100:0 3:0 delay 5 gap 4\n"), 4, NumberOutOfRange)
    ∷ (two_nodes (codes "link 7:0 256:0 delay 5 gap 4\n"), 4, NumberOutOfRange)
    ∷ (two_nodes (codes "link 7:0 3:0 delay 0 gap 4\n"), 4, NumberOutOfRange)
    ∷ (two_nodes (codes "link 7:0 3:0 delay 1001 gap 4\n"), 4, NumberOutOfRange)
    ∷ (two_nodes (codes "link 7:0 3:0 delay 5 gap 3\n"), 4, NumberOutOfRange)
    ∷ (two_nodes (codes "link 7:0 3:0 delay 5 gap 1001\n"), 4, NumberOutOfRange)
    ∷ (two_nodes (codes "link 7:8 3:0 delay 5 gap 4\n"), 4, NumberOutOfRange)
    ∷ (two_nodes (codes "link 7:0 3:8 delay 5 gap 4\n"), 4, NumberOutOfRange)
    ∷ (linked (codes "bit 100 0 0\n"), 5, NumberOutOfRange)
    ∷ (linked (codes "bit 7 16 0\n"), 5, NumberOutOfRange)
    ∷ (linked (codes "bit 7 0 8\n"), 5, NumberOutOfRange)
    ∷ (linked (codes "bit 7 0 0 1 2 3 4 5 6 8\n"), 5, NumberOutOfRange)
    -- they come before a node that is not given, a number given twice, and a link to itself
    ∷ (two_nodes (codes "link 4:0 3:0 delay 0 gap 4\n"), 4, NumberOutOfRange)
    ∷ (two_nodes (codes "link 7:0 7:0 delay 5 gap 0\n"), 4, NumberOutOfRange)
    ∷ (linked (codes "link 7:0 3:8 delay 5 gap 4\n"), 5, NumberOutOfRange)
    ∷ (linked (codes "bit 4 0 8 8\n"), 5, NumberOutOfRange)
    ∷ (linked (codes "bit 7 0 0\nbit 7 0 8\n"), 6, NumberOutOfRange)
    ∷ (codes "xs1 1\nnode 7 id 1\nnode 7 id 65536\n", 3, NumberOutOfRange)
    ∷ []

-- nodes and link ends that no earlier line gives
abbrev pub missing : Refusals
missing =
    (two_nodes (codes "link 4:0 3:0 delay 5 gap 4\n"), 4, NoSuchNode)
    ∷ (two_nodes (codes "link 7:0 4:0 delay 5 gap 4\n"), 4, NoSuchNode)
    -- before a link to itself
    ∷ (two_nodes (codes "link 4:0 4:0 delay 5 gap 4\n"), 4, NoSuchNode)
    ∷ (codes "xs1 1\nnode 7 id 1\nlink 7:0 3:0 delay 5 gap 4\nnode 3 id 0\n", 3, NoSuchNode)
    ∷ (two_nodes (codes "bit 7 0 0\nlink 7:0 3:0 delay 5 gap 4\n"), 4, NoSuchNode)
    ∷ (linked (codes "bit 4 0 0\n"), 5, NoSuchNode)
    -- a link end that no link has at that node, alone and beside one that a link has; before one that is given twice
    ∷ (linked (codes "bit 7 0 1\n"), 5, NoSuchNode)
    ∷ (linked (codes "bit 7 0 0 1\n"), 5, NoSuchNode)
    ∷ (linked (codes "bit 7 0 1 1\n"), 5, NoSuchNode)
    ∷ (linked (codes "bit 7 0 0\nbit 7 0 0 1\n"), 6, NoSuchNode)
    ∷ (two_nodes (codes "link 7:0 3:1 delay 5 gap 4\nbit 7 0 1\n"), 5, NoSuchNode)
    ∷ (two_nodes (codes "link 7:0 3:1 delay 5 gap 4\nbit 3 0 0\n"), 5, NoSuchNode)
    ∷ (linked (codes "link 4:0 3:0 delay 5 gap 4\n"), 5, NoSuchNode)
    ∷ (codes "xs1 1\nsource 0\nend\nnode 0 id 0\n", 2, NoSuchNode)
    ∷ (two_nodes (codes "source 99\nend\n"), 4, NoSuchNode)
    ∷ []

-- what is given twice
abbrev pub twice : Refusals
twice =
    (codes "xs1 1\nnode 7 id 1\nnode 7 id 0\n", 3, GivenTwice)
    ∷ (codes "xs1 1\nnode 7 id 1\nnode 0x07 id 1\n", 3, GivenTwice)
    ∷ (two_nodes (codes "source 7\nend\nsource 7\nend\n"), 6, GivenTwice)
    ∷ (codes "xs1 1\nnode 7 id 1\nnode 3 id 0x1\n", 3, IdTwice)
    ∷ (two_nodes (codes "link 7:0 7:0 delay 5 gap 4\n"), 4, LinkToItself)
    ∷ (codes "xs1 1\nnode 0 id 0\nlink 0:0 0:0 delay 5 gap 4\n", 3, LinkToItself)
    ∷ (codes "xs1 1\nnode 0 id 0\nlink 0:0 0:1 delay 5 gap 4\n", 3, LinkToItself)
    ∷ (linked (codes "link 7:0 7:1 delay 5 gap 4\n"), 5, LinkToItself)
    -- a link end that a link has, as the first one and as the second one; and one that a bit's line gives twice
    ∷ (linked (codes "link 7:0 3:1 delay 5 gap 4\n"), 5, LinkEndTwice)
    ∷ (linked (codes "link 7:1 3:0 delay 5 gap 4\n"), 5, LinkEndTwice)
    ∷ (linked (codes "link 3:0 7:1 delay 5 gap 4\n"), 5, LinkEndTwice)
    ∷ (linked (codes "bit 7 0 0 0\n"), 5, LinkEndTwice)
    ∷ (linked (codes "bit 7 0 0 0 0 0 0 0 0 0\n"), 5, LinkEndTwice)
    ∷ (linked (codes "link 7:1 3:1 delay 5 gap 4\nbit 7 0 0 1 0\n"), 6, LinkEndTwice)
    ∷ (linked (codes "bit 7 0 0\nbit 7 0 0 0\n"), 6, LinkEndTwice)
    ∷ (linked (codes "bit 7 0 0\nbit 3 0 0\nbit 0x7 0x0 0\n"), 7, BitTwice)
    ∷ []

-- the section of the pin script
abbrev pub of_pins : Refusals
of_pins =
    (codes "xs1 1\npins 0\nend\n", 2, BadLine)
    ∷ (codes "xs1 1\npins x\nend\n", 2, BadLine)
    ∷ (codes "xs1 1\nPins\nend\n", 2, BadLine)
    ∷ (codes "xs1 1\npins # " ++ (1 ∷ codes "\nend\n"), 2, BadLine)
    -- the line that ends it, and those after it
    ∷ (codes "xs1 1\npins\nfoo\nend # " ++ (1 ∷ codes "\n"), 4, BadLine)
    ∷ (codes "xs1 1\npins\nend\nend\n", 4, BadLine)
    -- the second one, at its first line, whatever the lines of the first one and of its own are
    ∷ (codes "xs1 1\npins\nend\npins\nend\n", 4, GivenTwice)
    ∷ (codes "xs1 1\npins\nfoo\n" ++ (1 ∷ codes "\nend # x\n  pins//\n"), 6, GivenTwice)
    -- what stands in a source is the source's own, so the third one here is the second
    ∷ (codes "xs1 1\nnode 0 id 0\nsource 0\npins\nend\npins\nend\npins\n", 8, GivenTwice)
    -- it has no end
    ∷ (codes "xs1 1\npins\n", 2, SectionNotEnded)
    ∷ (codes "xs1 1\nnode 0 id 0\npins\nend:\nend 0\n5 0:4A 1\n", 3, SectionNotEnded)
    ∷ (codes "xs1 1\npins\nend\r", 2, SectionNotEnded)
    -- what stands in it is its own, also `source 0`
    ∷ (codes "xs1 1\nnode 0 id 0\npins\nsource 0\nend\n", 2, NodeWithoutSource)
    ∷ (codes "xs1 1\nnode 0 id 0\npins\npins\nxs1 1\n" ++ (1 ∷ codes "\nend\nfoo\n"), 8, BadLine)
    ∷ []

-- sixteen nodes
abbrev pub sixteen : List ℕ
sixteen =
    codes "xs1 1\nnode 0 id 0\nnode 1 id 1\nnode 2 id 2\nnode 3 id 3\nnode 4 id 4\nnode 5 id 5\nnode 6 id 6\nnode 7 id 7\n"
    ++ codes "node 8 id 8\nnode 9 id 9\nnode 10 id 10\nnode 11 id 11\nnode 12 id 12\nnode 13 id 13\nnode 14 id 14\nnode 15 id 15\n"

-- the 17th node: that it is one too many is tested last
abbrev pub many : Refusals
many =
    (sixteen ++ codes "node 16 id 16\n", 18, TooMany)
    ∷ (sixteen ++ codes "node 3 id 16\n", 18, GivenTwice)
    ∷ (sixteen ++ codes "node 16 id 3\n", 18, IdTwice)
    ∷ (sixteen ++ codes "node 100 id 3\n", 18, NumberOutOfRange)
    -- the 16th is none too many
    ∷ (sixteen, 2, NodeWithoutSource)
    ∷ []

-- a link of two nodes by their numbers, at both by the link end with a number
abbrev pub one_link : List ℕ → List ℕ → List ℕ → List ℕ
one_link a b end =
    codes "link " ++ (a ++ (codes ":" ++ (end ++ (codes " " ++ (b ++ (codes ":" ++ (end ++ codes " delay 5 gap 4\n")))))))

-- as many of them as they have link ends
abbrev pub eight_links : List ℕ → List ℕ → List ℕ
eight_links a b =
    flat_map (one_link a b) (codes "0" ∷ codes "1" ∷ codes "2" ∷ codes "3" ∷ codes "4" ∷ codes "5" ∷ codes "6" ∷ codes "7" ∷ [])

-- sixteen nodes, of which twelve have eight link ends each: 48 links, up to line 65
abbrev pub linked_48 : List ℕ
linked_48 =
    sixteen
    ++ (eight_links (codes "0") (codes "1") ++ (eight_links (codes "2") (codes "3") ++ (eight_links (codes "4") (codes "5")
    ++ (eight_links (codes "6") (codes "7") ++ (eight_links (codes "8") (codes "9") ++ eight_links (codes "10") (codes "11"))))))

-- the 49th link: that it is one too many is tested last
abbrev pub many_links : Refusals
many_links =
    (linked_48 ++ codes "link 12:0 13:0 delay 5 gap 4\n", 66, TooMany)
    ∷ (linked_48 ++ codes "link 12:0 11:7 delay 5 gap 4\n", 66, LinkEndTwice)
    ∷ (linked_48 ++ codes "link 12:0 12:1 delay 5 gap 4\n", 66, LinkToItself)
    ∷ (linked_48 ++ codes "link 12:0 16:0 delay 5 gap 4\n", 66, NoSuchNode)
    ∷ (linked_48 ++ codes "link 12:0 13:0 delay 5 gap 3\n", 66, NumberOutOfRange)
    -- the 48th is none too many
    ∷ (linked_48, 2, NodeWithoutSource)
    ∷ []

-- the end of the text
abbrev pub ends : Refusals
ends =
    (codes "xs1 1\nnode 0 id 0\nsource 0\n", 3, SectionNotEnded)
    ∷ (codes "xs1 1\nnode 0 id 0\nsource 0\nend:\nend nop\n" ++ 1 ∷ [], 3, SectionNotEnded)
    ∷ (codes "xs1 1\nnode 0 id 0\nsource 0\nend\r", 3, SectionNotEnded)
    ∷ (two_nodes (codes "source 7\nnop\n"), 4, SectionNotEnded)
    ∷ (codes "xs1 1\nnode 0 id 0\n", 2, NodeWithoutSource)
    ∷ (codes "\nxs1 1\n\nnode 5 id 0\nnode 3 id 1\n", 5, NodeWithoutSource)
    ∷ (two_nodes (codes "source 3\nend\n"), 2, NodeWithoutSource)
    ∷ (two_nodes (codes "source 7\nend\n"), 3, NodeWithoutSource)
    -- the least faulty line comes before all of these
    ∷ (two_nodes (codes "source 7\nend\nfoo\nsource 3\n"), 6, BadLine)
    ∷ (two_nodes (codes "bit 7 0 0\nfoo\n"), 4, NoSuchNode)
    ∷ []

pub record WorkedRefusals : Type 0 where
  pub first : AreRefused first_lines
  pub second_edition : AreRefused of_edition_2
  pub networks : AreRefused of_networks
  pub bad : AreRefused bad_lines
  pub bad_in_a_pair : AreRefused bad_pair_lines
  pub wide : AreRefused wide_numbers
  pub none : AreRefused missing
  pub again : AreRefused twice
  pub pins : AreRefused of_pins
  pub too_many : AreRefused many
  pub too_many_links : AreRefused many_links
  pub at_the_end : AreRefused ends

-- Systems

abbrev pub frame : List ℕ → Framed
frame text = framed (lines_of text)

-- lines in another order than usual, with blanks, comments and numbers of both forms
abbrev pub mixed : List ℕ
mixed =
    codes "# a pair\r\n\n  xs1\t1 // edition\nnode 007 id 0x1\nsource 0x7//x\nend:\n pins\nxs1 1\nend # of it\nnode 3 id 00\n"
    ++ codes "link 0x3:0x0 07:00 delay 0x3e8 gap 1000\nbit 7 0xf 0x0#\nsource 3\nend\nlink 7:7 3:1 delay 1 gap 4\nbit 7 0 7 0x0\nbit 3 15 0"

abbrev pub mixed_frame : Framed
mixed_frame = Whole (record {
  edition = Some 1;
  nodes = record { line = 10; number = 3; id = 0 } ∷ record { line = 4; number = 7; id = 1 } ∷ [];
  links =
      record { a = record { node = 3; end = 0 }; b = record { node = 7; end = 0 }; delay = 1000; gap = 1000; net = 0 }
      ∷ record { a = record { node = 7; end = 7 }; b = record { node = 3; end = 1 }; delay = 1; gap = 4; net = 0 }
      ∷ [];
  bits =
      record { node = 7; bit = 15; ends = 0 ∷ [] }
      ∷ record { node = 7; bit = 0; ends = 7 ∷ 0 ∷ [] }
      ∷ record { node = 3; bit = 15; ends = 0 ∷ [] }
      ∷ [];
  wires = [];
  steps = [];
  sections =
      record { kind = section.Source 7; line = 5; lines = codes "end:" ∷ codes " pins" ∷ codes "xs1 1" ∷ [] }
      ∷ record { kind = section.Source 3; line = 13; lines = [] }
      ∷ [];
  reading = None;
})

-- these nodes with a link that the greater number's line names first, and a bit each
abbrev pub linked_7_and_3 : List ℕ
linked_7_and_3 = linked (codes "bit 3 0 0\nbit 7 15 0\nsource 7\nend\nsource 3\nend\n")

-- what an empty source stands for: its constants begin where memory does
abbrev pub empty_image : ImageRec
empty_image = record { code = []; bytes = []; cp_at = 65536; symbols = [] }

-- the least number comes first, so that the link leads from the second node to the first
abbrev pub plan_of_3_and_7 : PlanRec
plan_of_3_and_7 = record {
  nodes =
      plain_plan 3 0 empty_image (1 ∷ replicate 15 0)
      ∷ plain_plan 7 1 empty_image (replicate 15 0 ++ 1 ∷ [])
      ∷ [];
  links = record { a = 1; a_end = 0; b = 0; b_end = 0; delay = 5; gap = 4; net = 0 } ∷ [];
  script = [];
  steps = [];
  wires = [];
}

-- a line of three nodes whose numbers do not rise with their place in it; node 5 has two ways for bit 1
abbrev pub line_of_three : List ℕ
line_of_three =
    codes "xs1 1\nnode 9 id 0\nnode 2 id 3\nnode 5 id 1\nlink 5:1 2:6 delay 7 gap 4\nlink 9:0 5:3 delay 5 gap 9\nlink 5:4 2:0 delay 6 gap 5\n"
    ++ codes "bit 5 1 4 1\nbit 9 1 0\nbit 5 0 3\nsource 2\nend\nsource 5\nend\nsource 9\nend\n"

abbrev pub plan_of_three : PlanRec
plan_of_three = record {
  nodes =
      plain_plan 2 3 empty_image (replicate 16 0)
      ∷ plain_plan 5 1 empty_image (8 ∷ 18 ∷ replicate 14 0)
      ∷ plain_plan 9 0 empty_image (0 ∷ 1 ∷ replicate 14 0)
      ∷ [];
  links =
      record { a = 1; a_end = 1; b = 0; b_end = 6; delay = 7; gap = 4; net = 0 }
      ∷ record { a = 2; a_end = 0; b = 1; b_end = 3; delay = 5; gap = 9; net = 0 }
      ∷ record { a = 1; a_end = 4; b = 0; b_end = 0; delay = 6; gap = 5; net = 0 }
      ∷ [];
  script = [];
  steps = [];
  wires = [];
}

-- two nodes with eight links between them, all of them for a bit at one and one for each of two bits at the other
abbrev pub eight_between : List ℕ
eight_between =
    two_nodes (eight_links (codes "3") (codes "7") ++ codes "bit 7 0 7 6 5 4 3 2 1 0\nbit 3 0 7\nbit 3 8 3\nsource 7\nend\nsource 3\nend\n")

abbrev pub plan_of_eight : PlanRec
plan_of_eight = record {
  nodes =
      plain_plan 3 0 empty_image (128 ∷ replicate 7 0 ++ 8 ∷ replicate 7 0)
      ∷ plain_plan 7 1 empty_image (255 ∷ replicate 15 0)
      ∷ [];
  links =
      map (λ end. record { a = 0; a_end = end; b = 1; b_end = end; delay = 5; gap = 4; net = 0 }) (0 ∷ 1 ∷ 2 ∷ 3 ∷ 4 ∷ 5 ∷ 6 ∷ 7 ∷ []);
  script = [];
  steps = [];
  wires = [];
}

-- two nodes that no link joins, at the edges of their numbers
abbrev pub plan_of_0_and_99 : PlanRec
plan_of_0_and_99 = record {
  nodes =
      plain_plan 0 65535 empty_image (replicate 16 0)
      ∷ plain_plan 99 0 empty_image (replicate 16 0)
      ∷ [];
  links = [];
  script = [];
  steps = [];
  wires = [];
}

-- nodes of edition 2, with all that they have in edition 1
abbrev pub in_edition_2 : NodePlan → NodePlan
in_edition_2 node = record node { edition = 2 }

-- the text of two nodes, but for its first line, which has blanks and a comment
abbrev pub second_7_and_3 : List ℕ
second_7_and_3 =
    codes "# a\n xs1\t2 // the second\nnode 7 id 1\nnode 3 id 0\nlink 7:0 3:0 delay 5 gap 4\nbit 3 0 0\nbit 7 15 0\nsource 7\nend\nsource 3\nend\n"

-- the same line of three nodes with links of networks: each of the four, and one without, which is of network 0; node 5 has two ways for bit 1, of
-- networks 3 and 1
abbrev pub three_with_networks : List ℕ
three_with_networks =
    codes "xs1 2\nnode 9 id 0\nnode 2 id 3\nnode 5 id 1\nlink 5:1 2:6 delay 7 gap 4 net 0x1\nlink 9:0 5:3 delay 5 gap 9 net 0\n"
    ++ (codes "link 5:4 2:0 delay 6 gap 5 net 3\nlink 9:5 2:2 delay 8 gap 4\nlink 2:7 9:7 delay 1 gap 4\tnet 002# two\n"
    ++ codes "bit 5 1 4 1\nbit 9 1 0\nbit 5 0 3\nsource 2\nend\nsource 5\nend\nsource 9\nend\n")

-- each node has the network of the link at each of its link ends, 0 where no link is
abbrev pub plan_with_networks : PlanRec
plan_with_networks = record {
  nodes =
      record (in_edition_2 (plain_plan 2 3 empty_image (replicate 16 0))) { nets = 3 ∷ 0 ∷ 0 ∷ 0 ∷ 0 ∷ 0 ∷ 1 ∷ 2 ∷ [] }
      ∷ record (in_edition_2 (plain_plan 5 1 empty_image (8 ∷ 18 ∷ replicate 14 0))) { nets = 0 ∷ 1 ∷ 0 ∷ 0 ∷ 3 ∷ 0 ∷ 0 ∷ 0 ∷ [] }
      ∷ record (in_edition_2 (plain_plan 9 0 empty_image (0 ∷ 1 ∷ replicate 14 0))) { nets = 0 ∷ 0 ∷ 0 ∷ 0 ∷ 0 ∷ 0 ∷ 0 ∷ 2 ∷ [] }
      ∷ [];
  links =
      record { a = 1; a_end = 1; b = 0; b_end = 6; delay = 7; gap = 4; net = 1 }
      ∷ record { a = 2; a_end = 0; b = 1; b_end = 3; delay = 5; gap = 9; net = 0 }
      ∷ record { a = 1; a_end = 4; b = 0; b_end = 0; delay = 6; gap = 5; net = 3 }
      ∷ record { a = 2; a_end = 5; b = 0; b_end = 2; delay = 8; gap = 4; net = 0 }
      ∷ record { a = 0; a_end = 7; b = 2; b_end = 7; delay = 1; gap = 4; net = 2 }
      ∷ [];
  script = [];
  steps = [];
  wires = [];
}

pub record WorkedPlans : Type 0 where
  pub any_order : frame mixed ≡ mixed_frame
  -- nodes by number, and the link and the bits by their places
  pub plan : system_of linked_7_and_3 ≡ Plan plan_of_3_and_7
  pub three : system_of line_of_three ≡ Plan plan_of_three
  pub eight : system_of eight_between ≡ Plan plan_of_eight
  pub edges : system_of (codes "xs1 1\nnode 99 id 0\nnode 0 id 65535\nsource 99\nend\nsource 0\nend\n") ≡ Plan plan_of_0_and_99
  pub no_node : system_of (codes "xs1 1") ≡ Plan (record { nodes = []; links = []; script = []; steps = []; wires = [] })
  pub second : system_of second_7_and_3 ≡ Plan (record plan_of_3_and_7 { nodes = map in_edition_2 plan_of_3_and_7.nodes })
  pub second_edges : system_of (codes "xs1 2\nnode 99 id 0\nnode 0 id 65535\nsource 99\nend\nsource 0\nend\n") ≡ Plan (record plan_of_0_and_99 { nodes = map in_edition_2 plan_of_0_and_99.nodes })
  pub second_no_node : system_of (codes "xs1 2") ≡ Plan (record { nodes = []; links = []; script = []; steps = []; wires = [] })
  pub networks : system_of three_with_networks ≡ Plan plan_with_networks

-- the longest input stands for what its lines say, and one byte more is too long, whatever the bytes
pub record WorkedLength : Type 0 where
  pub longest : (bytes : List ℕ) → length bytes ≡ 4194304 → system_of bytes ≡ plan_of (frame bytes)
  pub longer : (bytes : List ℕ) → length bytes ≡ 4194305 → system_of bytes ≡ Frame 0 TooLong
