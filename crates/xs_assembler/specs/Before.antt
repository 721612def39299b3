-- What the lines before one say together, as the second pass keeps it, and what it found of the line.
use Rattle.std.specs.Prelude.{◌≡◌, true, false, Option, Some, None, List, take}
use Rattle.std.specs.List.{list_any}
use Rattle.xs_instructions.specs.Image.{is_reserved}
use Rattle.source_model.specs.Statement.{Line}
use Rattle.source_model.specs.Layout as model
use Rattle.source_model.specs.Layout.{here}
use Rattle.source_model.specs.Source.{defines_twice}
use Rattle.xs_assembler.specs.declared.before.Before.{Before}
use Rattle.xs_assembler.specs.declared.before.Noted.{Noted}
use Rattle.xs_assembler.specs.Statements.{statement_of}

-- the lines before one, by the labels of all lines
abbrev pub before_of : List model.Label → Before → model.Sofar
before_of labels before = record { layout = before.layout; labels = take before.labels labels }

-- It was found of the line after the lines before it; nothing is found of a line with a bad byte.
abbrev pub IsNoted : model.Sofar → Line → Option Noted → Type 0
IsNoted before line None = line.bad_byte ≡ true
IsNoted before line (Some noted) =
    (line.bad_byte ≡ false)
    × (noted.label_twice ≡ defines_twice (here before.layout) before.labels line.labels)
    × (noted.label_reserved ≡ list_any is_reserved line.labels)
    × (statement_of noted.statement ≡ line.statement)
