-- The sizes of sections.
use Rattle.std.specs.Prelude.{ℕ, ◌<◌, ◌^◌, List, length}

-- the assembler takes a source of so many bytes, and the reader of pin scripts a script
abbrev pub IsShortSource : List ℕ → Type 0
IsShortSource bytes = length bytes < 2 ^ 32
