-- How a row at a port ends, by what happens.
use Rattle.std.specs.Prelude.{List, [], ◌∷◌}
use Rattle.xs_model.specs.declared.event.Happen.{Happen}
use Rattle.xs_model.specs.declared.thread.Outcome.TheVariants as outcome
use Rattle.xs_model.specs.declared.thread.Wait.{Wait}
use Rattle.core_units.specs.declared.ending.Ending.{Ending}
use Rattle.core_units.specs.declared.ending.Ending.TheVariants.{Quietly, Done, Pause}

-- by at most one happening
abbrev pub ended_done : List Happen → Ending
ended_done [] = Quietly outcome.Done
ended_done (what ∷ more) = Done what

abbrev pub ended_pause : Wait → List Happen → Ending
ended_pause wait [] = Quietly (outcome.Pause wait)
ended_pause wait (what ∷ more) = Pause wait what
