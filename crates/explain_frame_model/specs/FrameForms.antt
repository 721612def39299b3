-- The forms of the lines of a frame: what stands at each place of a line, one after another.
use Rattle.std.specs.Prelude.{ℕ, ◌==◌, if◌then◌else◌, Option, Some, None, List, [], ◌∷◌, ◌++◌, map, replicate}
use Rattle.explain_model.specs.declared.FixedWord.{FixedWord}
use Rattle.explain_model.specs.declared.FixedWord.TheVariants as fixed
use Rattle.explain_model.specs.declared.Want.{Want}
use Rattle.explain_model.specs.declared.Want.TheVariants.{Number, Word, LinkEnd, StepEnd, WirePin}
use Rattle.explain_frame_model.specs.declared.frame.Inside.{Inside}
use Rattle.explain_frame_model.specs.declared.frame.Inside.TheVariants.{Frame, Text, Schedule}

-- ---- Of the first line with words

abbrev pub header_forms : List (List Want)
header_forms = (Word fixed.Xs1 ∷ Word fixed.One ∷ []) ∷ (Word fixed.Xs1 ∷ Word fixed.Two ∷ []) ∷ []

-- ---- Outside of the sections

abbrev pub node_form : List Want
node_form = Word fixed.Node ∷ Number 0 99 ∷ Word fixed.Id ∷ Number 0 65535 ∷ []

abbrev pub link_form : List Want
link_form = Word fixed.Link ∷ LinkEnd ∷ LinkEnd ∷ Word fixed.Delay ∷ Number 1 1000 ∷ Word fixed.Gap ∷ Number 4 1000 ∷ []

-- with so many link ends
abbrev pub bit_form : ℕ → List Want
bit_form ends = Word fixed.Bit ∷ Number 0 99 ∷ Number 0 15 ∷ replicate ends (Number 0 7)

abbrev pub bit_forms : List (List Want)
bit_forms = map bit_form (1 ∷ 2 ∷ 3 ∷ 4 ∷ 5 ∷ 6 ∷ 7 ∷ 8 ∷ [])

abbrev pub section_forms : List (List Want)
section_forms = (Word fixed.Source ∷ Number 0 99 ∷ []) ∷ (Word fixed.Pins ∷ []) ∷ (Word fixed.Play ∷ []) ∷ []

-- of edition 2 alone: a link with its network, and a wire
abbrev pub net_form : List Want
net_form = link_form ++ Word fixed.Net ∷ Number 0 3 ∷ []

abbrev pub wire_form : List Want
wire_form = Word fixed.Wire ∷ WirePin ∷ WirePin ∷ Word fixed.Delay ∷ Number 1 1000 ∷ []

abbrev pub forms_of_1 : List (List Want)
forms_of_1 = node_form ∷ link_form ∷ (bit_forms ++ section_forms)

abbrev pub forms_of_2 : List (List Want)
forms_of_2 = node_form ∷ link_form ∷ net_form ∷ (bit_forms ++ wire_form ∷ section_forms)

-- ---- In the section `play`

abbrev pub step_forms : List (List Want)
step_forms =
    (Word fixed.Take ∷ StepEnd ∷ []) ∷ (Word fixed.Run ∷ Number 0 99 ∷ []) ∷ (Word fixed.Run ∷ Number 0 99 ∷ Number 1 1000000 ∷ [])
    ∷ (Word fixed.Send ∷ StepEnd ∷ []) ∷ (Word fixed.End ∷ []) ∷ []

-- ---- Of any line

-- by the edition, None before the first line with words
abbrev pub frame_forms : Option ℕ → List (List Want)
frame_forms None = header_forms
frame_forms (Some edition) = if edition == 2 then forms_of_2 else forms_of_1

-- by what the line is read as; the lines of a source and of the script are not the frame's
abbrev pub forms_in : Inside → Option ℕ → List (List Want)
forms_in Frame edition = frame_forms edition
forms_in Text edition = []
forms_in Schedule edition = step_forms

-- ---- The words that begin these forms

abbrev pub frame_names : Option ℕ → List FixedWord
frame_names None = fixed.Xs1 ∷ []
frame_names (Some edition) =
    if edition == 2
    then fixed.Node ∷ fixed.Link ∷ fixed.Bit ∷ fixed.Wire ∷ fixed.Source ∷ fixed.Pins ∷ fixed.Play ∷ []
    else fixed.Node ∷ fixed.Link ∷ fixed.Bit ∷ fixed.Source ∷ fixed.Pins ∷ fixed.Play ∷ []

abbrev pub names_in : Inside → Option ℕ → List FixedWord
names_in Frame edition = frame_names edition
names_in Text edition = []
names_in Schedule edition = fixed.Take ∷ fixed.Run ∷ fixed.Send ∷ fixed.End ∷ []
