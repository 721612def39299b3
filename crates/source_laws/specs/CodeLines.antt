-- Which line of a source an instruction of its image comes from.
use Rattle.std.specs.Prelude.{ℕ, ◌≡◌, ◌+◌, ◌<◌, List, ◌∷◌, ◌++◌, length, map, slice_get}
use Rattle.xs_instructions.specs.Image.{ImageRec}
use Rattle.xs_instructions.specs.declared.instr.Instr.{Instr}
use Rattle.source_model.specs.Statement.{line_of}
use Rattle.source_model.specs.Layout.{nothing_yet, after_lines, whole_of}
use Rattle.source_model.specs.Source.{code_of_line, code_of_lines}

-- the code of a line of a source, after the lines before it
abbrev pub own_code : List (List ℕ) → List (List ℕ) → List ℕ → List Instr
own_code ls before line = code_of_line (whole_of (map line_of ls)) (after_lines nothing_yet (map line_of before)) (line_of line)

-- the code of the first lines of a source
abbrev pub code_before : List (List ℕ) → List (List ℕ) → List Instr
code_before ls before = code_of_lines (whole_of (map line_of ls)) nothing_yet (map line_of before)

-- The instruction at a place of the image is one of the own code of the source's line with a number, from 1: the code of the
-- lines before it stands before that.
pub record ComesFromLine (ls : List (List ℕ)) (image : ImageRec) (place number : ℕ) : Type 0 where
  pub before : List (List ℕ)
  pub line : List ℕ
  pub after : List (List ℕ)
  pub offset : ℕ
  pub lines : ls ≡ before ++ line ∷ after
  pub numbered : number ≡ length before + 1
  pub placed : place ≡ length (code_before ls before) + offset
  pub within : offset < length (own_code ls before line)
  pub instruction : slice_get image.code place ≡ slice_get (own_code ls before line) offset
