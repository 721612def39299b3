-- What is warned of in a system text that is accepted, by its plan and its lines.
use Rattle.std.specs.Prelude.{ℕ, ◌+◌, Bool, true, false, not, is_some, ◌==◌, if◌then◌else◌, Option, Some, None, List, [], ◌∷◌, ◌++◌, flat_map}
use Rattle.xs_text.specs.Words.{words_of_line}
use Rattle.sys_plan.specs.Plan.{PlanRec}
use Rattle.sys_plan.specs.declared.NodePlan.{NodePlan}
use Rattle.system_model.specs.declared.frame_line.SectionKind.{SectionKind}
use Rattle.system_model.specs.declared.frame_line.SectionKind.TheVariants.{Source}
use Rattle.system_model.specs.FrameLines.{section_line, is_end}
use Rattle.warning_model.specs.Warning.{Site, Warning}
use Rattle.warning_model.specs.Ways.{warnings_of_words}
use Rattle.warning_model.specs.Source.{warnings_of_source}

-- whether a line outside of the sections begins one
abbrev pub begins_section : List ℕ → Bool
begins_section l = is_some (section_line (words_of_line l))

-- ---- The frame

abbrev pub site_of_frame : ℕ → List ℕ → Site
site_of_frame n l = record { source = None; number = n; bytes = l }

-- of the lines of the frame outside of the sections, from line n on: within a section a line can only end it
unfoldable pub warnings_of_frame : PlanRec → ℕ → Bool → List (List ℕ) → List Warning
warnings_of_frame plan n inside [] = []
warnings_of_frame plan n true (l ∷ ls) = warnings_of_frame plan (n + 1) (not (is_end l)) ls
warnings_of_frame plan n false (l ∷ ls) =
    warnings_of_words plan (site_of_frame n l) (words_of_line l) ++ warnings_of_frame plan (n + 1) (begins_section l) ls

-- ---- The sources

abbrev pub is_source_of : ℕ → Option SectionKind → Bool
is_source_of node (Some (Source n)) = n == node
is_source_of node _ = false

-- whether a line outside of the sections begins the source of the node with a number
abbrev pub begins_source : ℕ → List ℕ → Bool
begins_source node l = is_source_of node (section_line (words_of_line l))

-- the lines before the one that ends a section
unfoldable pub lines_to_end : List (List ℕ) → List (List ℕ)
lines_to_end [] = []
lines_to_end (l ∷ ls) = if is_end l then [] else l ∷ lines_to_end ls

-- of the source of a node, from line n on
unfoldable pub warnings_of_source_of : PlanRec → ℕ → ℕ → Bool → List (List ℕ) → List Warning
warnings_of_source_of plan node n inside [] = []
warnings_of_source_of plan node n true (l ∷ ls) = warnings_of_source_of plan node (n + 1) (not (is_end l)) ls
warnings_of_source_of plan node n false (l ∷ ls) =
    if begins_source node l then warnings_of_source plan.nodes node n (lines_to_end ls)
    else warnings_of_source_of plan node (n + 1) (begins_section l) ls

-- ---- All of them

-- first those of the frame, then those of the sources, by ascending number of the node
abbrev pub warnings : PlanRec → List (List ℕ) → List Warning
warnings plan ls =
    warnings_of_frame plan 1 false ls ++ flat_map (λ (node : NodePlan). warnings_of_source_of plan node.number 1 false ls) plan.nodes
