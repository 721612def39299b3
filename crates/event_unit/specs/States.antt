-- What a snapshot keeps of what a resource gives, the record that it stands for, and what holds of it.
use Rattle.std.specs.Prelude.{◌<◌, IfSome, List}
use Rattle.std.specs.List.{All}
use Rattle.xs_base.specs.declared.numbers.TheConstants.{THREADS}
use Rattle.xs_model.specs.Record.{EnablingRec}
use Rattle.event_unit.specs.declared.state.EnableState.{EnableState}

abbrev pub enable_state : EnablingRec → EnableState
enable_state e = record { vector = e.vector; env = e.environment; interrupt = e.interrupt; by = e.thread }

abbrev pub enable_of : EnableState → EnablingRec
enable_of state = record { vector = state.vector; environment = state.env; interrupt = state.interrupt; thread = state.by }

-- who enabled it is a thread
abbrev pub IsEnableState : EnableState → Type 0
IsEnableState state = IfSome state.by (λ k. k < THREADS)

abbrev pub AreEnableStates : List EnableState → Type 0
AreEnableStates states = All IsEnableState states
