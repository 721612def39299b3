-- Where a label stands, with no table of labels: by the layout of the lines that come before.
use Rattle.std.specs.Prelude.{ℕ, ◌-◌, Bool, not, ◌&&◌, if◌then◌else◌, Option, option_map, List, take, fold}
use Rattle.std.specs.List.{list_any, position_from}
use Rattle.xs_instructions.specs.Image.{same_name, is_reserved}
use Rattle.source_model.specs.declared.layout.Layout.{Layout}
use Rattle.source_model.specs.declared.layout.Place.{Place}
use Rattle.source_model.specs.Statement.{Line}
use Rattle.source_model.specs.Layout.{nothing_yet, moved, here}

-- whether a name is a label of the line: one with a bad byte says nothing, and a reserved name is no label
abbrev pub has_label : List ℕ → Line → Bool
has_label name line = not line.bad_byte && (not (is_reserved name) && list_any (λ own. same_name own name) line.labels)

-- the layout with one line more
abbrev pub moved_by_line : Layout → Line → Layout
moved_by_line layout line = if line.bad_byte then layout else moved layout line.statement

-- the layout of lines, from the first line of the source on
abbrev pub layout_of_lines : List Line → Layout
layout_of_lines lines = fold moved_by_line nothing_yet.layout lines

-- the layout of the lines before the line with a number, from 1
abbrev pub layout_before : List Line → ℕ → Layout
layout_before lines number = layout_of_lines (take (number - 1) lines)

-- the number, from 1, of the first line that has the label, if one has it
abbrev pub first_line_with : List ℕ → List Line → Option ℕ
first_line_with name lines = position_from (has_label name) 1 lines

-- where that line's labels stand: after all that comes before it
abbrev pub label_place : List Line → List ℕ → Option Place
label_place lines name = option_map (λ number. here (layout_before lines number)) (first_line_with name lines)
