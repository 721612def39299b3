-- A section's part of the text.
use Rattle.std.specs.Prelude.{ℕ, if◌then◌else◌, Option, Some, None, option_map, List, [], ◌∷◌}
use Rattle.system_model.specs.declared.frame_line.SectionKind.{SectionKind}
use Rattle.system_model.specs.declared.frame_line.SectionKind.TheVariants.{Source, Pins, Play}
use Rattle.system_model.specs.FrameLines.{is_end}
use Rattle.system_model.specs.Frame.{SectionText, Given}

-- the lines of a section, the line that ends it, and the lines after that
pub record Section : Type 0 where
  pub lines : List (List ℕ)
  pub end : List ℕ
  pub rest : List (List ℕ)

abbrev pub with_line : List ℕ → Section → Section
with_line l section = record section { lines = l ∷ section.lines }

-- the section that begins with the first of the lines, or none where no line ends it
unfoldable pub section_of : List (List ℕ) → Option Section
section_of [] = None
section_of (l ∷ ls) = if is_end l then Some (record { lines = []; end = l; rest = ls }) else option_map (with_line l) (section_of ls)

-- the lines of such a section are its own: the frame passes them by
abbrev pub IsTextKind : SectionKind → Type 0
IsTextKind (Source n) = Unit {0}
IsTextKind Pins = Unit {0}
IsTextKind Play = ⊥

-- the section `play` that begins with this line: its lines are not kept
abbrev pub play_from : ℕ → SectionText
play_from line = record { kind = Play; line = line; lines = [] }

-- after the line that begins a section
abbrev pub with_reading : SectionKind → ℕ → Given → Given
with_reading kind line given = record given { reading = Some (record { kind = kind; line = line; lines = [] }) }
