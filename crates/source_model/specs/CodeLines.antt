-- The line of the source that each instruction of its code comes from.
use Rattle.std.specs.Prelude.{ℕ, ◌+◌, ◌-◌, List, [], ◌∷◌, ◌++◌, map, replicate}
use Rattle.source_model.specs.Statement.{Line, line_of}
use Rattle.source_model.specs.Layout.{Sofar, nothing_yet, after_line}

-- how many instructions a line adds to those of the lines before it: several where it aligns the code
abbrev pub instructions_added : Sofar → Line → ℕ
instructions_added before line = (after_line before line).layout.instructions - before.layout.instructions

-- of each instruction that lines add after others, the number of its line, where the first of the lines has this number
unfoldable pub code_lines_from : Sofar → ℕ → List Line → List ℕ
code_lines_from before number [] = []
code_lines_from before number (line ∷ lines) =
    replicate (instructions_added before line) number ++ code_lines_from (after_line before line) (number + 1) lines

-- the same of all lines of a source, which count from 1
abbrev pub code_lines : List (List ℕ) → List ℕ
code_lines ls = code_lines_from nothing_yet 1 (map line_of ls)
