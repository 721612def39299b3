-- A system text that is cut inside a source or a script.
use Rattle.std.specs.Prelude.{ℕ, ◌≡◌, ◌≢◌, ◌+◌, true, false, List, [], ◌∷◌, ◌++◌, length, codes}
use Rattle.std.specs.List.{list_any}
use Rattle.xs_text.specs.Lines.{lines_of}
use Rattle.xs_text.specs.Words.{words_of_line}
use Rattle.system_model.specs.declared.frame_line.FrameLine.TheVariants.{Section}
use Rattle.system_model.specs.declared.frame_line.SectionKind.{SectionKind}
use Rattle.system_model.specs.declared.frame_line.SectionKind.TheVariants.{Play}
use Rattle.system_model.specs.FrameLines.{is_end}
use Rattle.system_model.specs.Frame.{Form, says}
use Rattle.system_model.specs.FirstFault.{given_by}

-- These first bytes of a text end with the line feed (10) of a line `source N` or `pins`, and that is the line with this
-- number.
pub record EndWithOpening (front : List ℕ) (line : ℕ) : Type 0 where
  pub up : List ℕ
  pub feed : front ≡ up ++ 10 ∷ []
  pub before : List (List ℕ)
  pub opening : List ℕ
  pub lines : lines_of front ≡ before ++ opening ∷ []
  pub number : line ≡ length before + 1
  pub kind : SectionKind
  pub begins : says (given_by before) opening ≡ Form (Section kind)
  pub no_schedule : kind ≢ Play

-- From its first byte on a section has these bytes, then the `d` (100) of the line that ends it, and then the others.
pub record EndAtD (inside others : List ℕ) : Type 0 where
  -- the lines of the section, of which none ends it, and then the line that does
  pub own : List (List ℕ)
  pub none_ends : list_any is_end own ≡ false
  pub ending : List ℕ
  pub ends : is_end ending ≡ true
  pub after : List (List ℕ)
  pub lines : lines_of (inside ++ 100 ∷ others) ≡ own ++ ending ∷ after
  -- what that line has before the `d`: its one word so far is `en`
  pub begun : List ℕ
  pub word : words_of_line begun ≡ codes "en" ∷ []
  pub up_to_d : lines_of inside ≡ own ++ begun ∷ []

-- The part is what is left of the text where it is cut after the line feed of a line `source N` or `pins`, which is the
-- line with this number, and before the `d` of the `end` of that section. The last line that is left is not itself `end`,
-- as it would be of a line `endin` that is cut after its first three letters.
pub record IsCutInside (text part : List ℕ) (line : ℕ) : Type 0 where
  pub front : List ℕ
  pub opening : EndWithOpening front line
  -- the bytes of the section before that `d`: those that are left, and those that are cut off
  pub left : List ℕ
  pub lost : List ℕ
  pub others : List ℕ
  pub ending : EndAtD (left ++ lost) others
  pub whole : text ≡ front ++ ((left ++ lost) ++ 100 ∷ others)
  pub cut : part ≡ front ++ left
  pub before_last : List (List ℕ)
  pub last : List ℕ
  pub lines : lines_of part ≡ before_last ++ last ∷ []
  pub no_end : is_end last ≡ false
