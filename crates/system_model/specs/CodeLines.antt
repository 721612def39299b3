-- The lines of the sources that the instructions of a system's nodes come from.
use Rattle.std.specs.Prelude.{ℕ, List, [], map}
use Rattle.xs_text.specs.Lines.{lines_of}
use Rattle.source_model.specs.CodeLines.{code_lines}
use Rattle.system_model.specs.declared.frame_line.GivenNode.{GivenNode}
use Rattle.system_model.specs.declared.frame_line.SectionKind.TheVariants.{Source}
use Rattle.system_model.specs.Frame.{Given, Framed, Whole, Refused, framed}
use Rattle.system_model.specs.System.{System, Plan, section_lines}

-- of a node, the line of its source that each of its instructions comes from: the lines of a source count from 1
abbrev pub node_code_lines : Given → GivenNode → List ℕ
node_code_lines given node = code_lines (section_lines given.sections (Source node.number))

-- those of each node of a frame, by position: the nodes stand by ascending number
abbrev pub code_lines_of_frame : Framed → List (List ℕ)
code_lines_of_frame (Whole given) = map (node_code_lines given) given.nodes
code_lines_of_frame (Refused line kind) = []

-- the same of a text
abbrev pub code_lines_of_text : List ℕ → List (List ℕ)
code_lines_of_text bytes = code_lines_of_frame (framed (lines_of bytes))

-- whether a text stands for a plan, by what it stands for
abbrev pub IsOfPlan : System → Type 0
IsOfPlan (Plan plan) = Unit {0}
IsOfPlan _ = ⊥
