-- What the owners of a script share.
use Rattle.std.specs.Prelude.{Option, Some, None, List, []}
use Rattle.std.specs.Arc.{arc_value}
use Rattle.std.specs.declared.sync.Arc.{Arc}
use Rattle.pin_scripts.specs.declared.line.PinLine.{PinLine}

-- the lines behind an owner, none where there is none
abbrev pub shared_lines : {Z : Type 0} → Option (Arc (List PinLine) Z) → List PinLine
shared_lines None = []
shared_lines (Some owner) = arc_value owner
