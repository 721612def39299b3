-- What rows change of what a resource gives.
use Rattle.std.specs.Prelude.{◌<◌}
use Rattle.xs_base.specs.declared.numbers.TheConstants.{THREADS}
use Rattle.xs_model.specs.Record.{EnablingRec}
use Rattle.xs_model.specs.Enabling.{with_vector, with_environment, in_mode, enabled_for}
use Rattle.resource_rows.specs.declared.events.Change.{Change}
use Rattle.resource_rows.specs.declared.events.Change.TheVariants.{Vector, Environment, Interrupts, Enabled}

abbrev pub makes : Change → EnablingRec → EnablingRec
makes (Vector vector) = with_vector vector
makes (Environment environment) = with_environment environment
makes (Interrupts is_on) = in_mode is_on
makes (Enabled k is_on) = enabled_for k is_on

-- it is for a thread that a core has
abbrev pub IsChange : Change → Type 0
IsChange (Enabled k is_on) = k < THREADS
IsChange _ = Unit {0}
