-- Where a section of a system text stands.
use Rattle.std.specs.Prelude.{ℕ, ◌+◌, Bool, true, false, not, if◌then◌else◌, Option, Some, None, option_map, List, [], ◌∷◌}
use Rattle.xs_text.specs.Words.{words_of_line}
use Rattle.system_model.specs.declared.frame_line.SectionKind.{SectionKind}
use Rattle.system_model.specs.FrameLines.{section_line, is_end}
use Rattle.system_model.specs.Frame.{is_same_kind}
use Rattle.system_text.specs.Sections.{section_of}

-- the number of the line that begins a section, and the section's own lines
pub record Opened : Type 0 where
  pub opening : ℕ
  pub lines : List (List ℕ)

-- the section that line n begins, where these come after it
abbrev pub opened_at : ℕ → List (List ℕ) → Option Opened
opened_at n ls = option_map (λ s. record { opening = n; lines = s.lines }) (section_of ls)

abbrev pub opened_by : SectionKind → Option SectionKind → Option Opened → (Bool → Option Opened) → Option Opened
opened_by kind None here on = on false
opened_by kind (Some k) here on = if is_same_kind k kind then here else on true

-- The first section of this kind, from line n on: within a section a line can only end it, and outside of the sections it begins one by its words.
unfoldable pub opened_from : SectionKind → ℕ → Bool → List (List ℕ) → Option Opened
opened_from kind n inside [] = None
opened_from kind n true (l ∷ ls) = opened_from kind (n + 1) (not (is_end l)) ls
opened_from kind n false (l ∷ ls) = opened_by kind (section_line (words_of_line l)) (opened_at n ls) (λ inside. opened_from kind (n + 1) inside ls)

-- that of a text
abbrev pub opened_in : SectionKind → List (List ℕ) → Option Opened
opened_in kind ls = opened_from kind 1 false ls
