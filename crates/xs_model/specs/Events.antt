-- The numbers that an event names.
use Rattle.std.specs.Prelude.{◌<◌}
use Rattle.xs_base.specs.declared.numbers.TheConstants.{PORTS, CHAN_ENDS, THREADS}
use Rattle.xs_model.specs.declared.event.Event.{Event}
use Rattle.xs_model.specs.declared.event.Happen.{Happen}
use Rattle.xs_model.specs.declared.event.Happen.TheVariants as happen

-- a port, a channel end or a thread that every core has
abbrev pub NamesWhatIsThere : Happen → Type 0
NamesWhatIsThere (happen.Drive port value) = port < PORTS
NamesWhatIsThere (happen.Float port) = port < PORTS
NamesWhatIsThere (happen.Chan chan token) = chan < CHAN_ENDS
NamesWhatIsThere (happen.Lost id) = Unit {0}
NamesWhatIsThere (happen.Trap thread et pc ed) = thread < THREADS
NamesWhatIsThere (happen.Halt thread) = thread < THREADS

-- each number in the event is below its count
abbrev pub IsWithinCounts : Event → Type 0
IsWithinCounts e = NamesWhatIsThere e.what
