-- What threads take of the rows on ports.
use Rattle.std.specs.Prelude.{◌<◌, Bool, false, Option, Some, None, List, slice_index_or}
use Rattle.xs_base.specs.Numbers.{Word, PortNumber}
use Rattle.xs_model.specs.declared.thread.Thread.{Thread}
use Rattle.xs_model.specs.declared.thread.Wait.{Wait}
use Rattle.xs_model.specs.Record.{CoreRec, PortRec}
use Rattle.xs_model.specs.Waits.{is_waited_at}
use Rattle.xs_model.specs.PortActions.{Acted}
use Rattle.step_model.specs.PortRows.{takes_no_word, takes_word, shifts_in_from_above, shifts_out_below}
use Rattle.buffered_ports.specs.answers.Ask.{Ask}
use Rattle.buffered_ports.specs.Asks.{asked}
use Rattle.resource_rows.specs.declared.ports.Takes.{Takes}
use Rattle.resource_rows.specs.declared.ports.Takes.TheVariants.{Nothing, Into, ShiftedIn, ShiftedOut}

abbrev pub taking : Takes → PortRec → Word → Thread → Thread
taking Nothing = takes_no_word
taking (Into d) = takes_word d
taking (ShiftedIn d) = shifts_in_from_above d
taking (ShiftedOut d) = shifts_out_below d

-- the register is one of r0 to r11
abbrev pub IsTakes : Takes → Type 0
IsTakes Nothing = Unit {0}
IsTakes (Into d) = d < 12
IsTakes (ShiftedIn d) = d < 12
IsTakes (ShiftedOut d) = d < 12

-- what a row does at a port p of a core, whose pins show these levels from outside
abbrev pub acts : CoreRec → List Word → Ask → PortNumber → PortRec → Acted
acts core outside ask p port = asked ask core.ports p (slice_index_or outside p 0) port

-- whether another thread is paused where one would be with this wait, if there is one
abbrev pub would_wait : CoreRec → Option Wait → Bool
would_wait core None = false
would_wait core (Some wait) = is_waited_at core wait
