-- What a line begins, as it is kept.
use Rattle.std.specs.Prelude.{ℕ, ◌≡◌, ◌<◌, Option, Some, None}
use Rattle.system_model.specs.declared.frame_line.SectionKind.{SectionKind}
use Rattle.system_model.specs.declared.frame_line.SectionKind.TheVariants.{Source}
use Rattle.frame_lines.specs.declared.openings.Opening.{Opening}
use Rattle.frame_lines.specs.declared.openings.Opening.TheVariants as opening

-- what the words of a line begin
abbrev pub IsOpening : Option SectionKind → Opening → Type 0
IsOpening begun opening.Nothing = begun ≡ None
IsOpening begun (opening.Section kind) = begun ≡ Some kind
IsOpening begun opening.Other = (n : ℕ) × (begun ≡ Some (Source n)) × (255 < n)
