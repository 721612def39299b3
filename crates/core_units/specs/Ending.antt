-- How the issue of an instruction ends, by what happens.
use Rattle.xs_model.specs.Events.{NamesWhatIsThere}
use Rattle.core_units.specs.declared.ending.Ending.{Ending}
use Rattle.core_units.specs.declared.ending.Ending.TheVariants.{Quietly, Done, Pause}

-- it names a port that is there
abbrev pub IsEnding : Ending → Type 0
IsEnding (Quietly o) = Unit {0}
IsEnding (Done what) = NamesWhatIsThere what
IsEnding (Pause wait what) = NamesWhatIsThere what
