-- The row `setc`: what a resource of each kind does in a mode. A pair that the table leaves empty is refused.
--
-- | mode         | channel end | timer        | clock block | port                    |
-- |--------------|-------------|--------------|-------------|-------------------------|
-- | EVENT        | events      | events       |             | events                  |
-- | INTERRUPT    | interrupts  | interrupts   |             | interrupts              |
-- | NO_CONDITION |             | none         |             | none                    |
-- | AFTER        |             | after a time |             |                         |
-- | EQUAL        |             |              |             | its value               |
-- | NOT_EQUAL    |             |              |             | another than its value  |
-- | ON           |             |              | on          | on                      |
-- | OFF          |             |              | off         | off                     |
-- | START        |             |              | starts      |                         |
-- | STOP         |             |              | stops       |                         |
-- | CLEAR        |             |              |             | its registers are empty |
-- | NO_BUFFERS   |             |              |             | no buffers              |
-- | BUFFERS      |             |              |             | buffers                 |
--
-- What a port does is in `PortActions`.
use Rattle.std.specs.Prelude.{ℕ, true, false, ◌||◌, ◌==◌, if◌then◌else◌, Option, Some, None, option_map, map}
use Rattle.xs_base.specs.Numbers.{Word, ThreadNumber, PortNumber, Identifier}
use Rattle.xs_base.specs.Ids.{port_width}
use Rattle.xs_model.specs.declared.modes.TheConstants.{OFF, ON, NO_CONDITION, AFTER, EVENT, INTERRUPT, STOP, START}
use Rattle.xs_model.specs.declared.resource.Res.{Res}
use Rattle.xs_model.specs.declared.resource.Res.TheVariants as res
use Rattle.xs_model.specs.declared.resource.Resource.{Resource}
use Rattle.xs_model.specs.declared.resource.Resource.TheVariants as resource
use Rattle.xs_model.specs.declared.traps.TheConstants.{ILLEGAL_RESOURCE}
use Rattle.xs_model.specs.Record.{CoreRec, timer_of, clock_of, port_of, with_enabled}
use Rattle.xs_model.specs.Time.{with_after, on_clock, turned_off, started, stopped}
use Rattle.xs_model.specs.Enabling.{forgotten}
use Rattle.xs_model.specs.Enabling.{in_mode as giving}
use Rattle.xs_model.specs.PortActions.{in_mode, restarted}
use Rattle.xs_model.specs.Waits.{is_paused_on}
use Rattle.step_model.specs.Effect.{Effect, Trap, goes_on_in}
use Rattle.step_model.specs.TimeRows.{timer_becomes, clock_becomes}
use Rattle.step_model.specs.PortRows.{ends_at_port, at_port, takes_no_word}
use Rattle.step_model.specs.EventRows.{eventful, with_changed}

-- to give events, or interrupts
abbrev pub in_event_mode : CoreRec → Word → Option Res → Option CoreRec
in_event_mode core mode r =
    if mode == EVENT then with_changed core (giving false) r
    else (if mode == INTERRUPT then with_changed core (giving true) r
    else None)

-- a timer has its condition or none, or is in one of those modes
abbrev pub timer_in_mode : CoreRec → ℕ → Word → Option CoreRec
timer_in_mode core n mode =
    if mode == NO_CONDITION then timer_becomes core n (with_after false (timer_of core n))
    else (if mode == AFTER then timer_becomes core n (with_after true (timer_of core n))
    else in_event_mode core mode (eventful core (Some (resource.Timer n))))

-- a clock block that starts restarts the counters of the ports that go by it
abbrev pub with_restarted : ℕ → CoreRec → CoreRec
with_restarted n core = record core { ports = map (restarted n) core.ports }

-- a clock block is turned on or off, starts or stops
abbrev pub clock_in_mode : CoreRec → ℕ → Word → Option CoreRec
clock_in_mode core n mode =
    if mode == ON then clock_becomes core n (Some on_clock)
    else (if mode == OFF then clock_becomes core n (turned_off (clock_of core n))
    else (if mode == START then option_map (with_restarted n) (clock_becomes core n (started (clock_of core n)))
    else (if mode == STOP then clock_becomes core n (stopped (clock_of core n))
    else None)))

-- what is no port is in a mode
abbrev pub resource_in_mode : CoreRec → Word → Option Resource → Option CoreRec
resource_in_mode core mode (Some (resource.Chan c)) = in_event_mode core mode (eventful core (Some (resource.Chan c)))
resource_in_mode core mode (Some (resource.Timer n)) = timer_in_mode core n mode
resource_in_mode core mode (Some (resource.Clock n)) = clock_in_mode core n mode
resource_in_mode core mode _ = None

-- a port is turned on or off, which is refused while a thread is paused on it; off, what was set of its events is forgotten
abbrev pub without_events : Word → CoreRec → PortNumber → CoreRec
without_events mode core p = if mode == OFF then with_enabled core (forgotten core.enabled (res.Port p)) else core

abbrev pub turns_port : CoreRec → ThreadNumber → Identifier → PortNumber → Word → Effect
turns_port core k name p mode =
    if is_paused_on core (resource.Port p) then Trap ILLEGAL_RESOURCE name
    else ends_at_port (without_events mode core p) k name p (takes_no_word (port_of core p)) (in_mode (port_width p) mode (port_of core p))

abbrev pub port_in_mode : CoreRec → ThreadNumber → Identifier → PortNumber → Word → Effect
port_in_mode core k name p mode =
    if (mode == EVENT) || (mode == INTERRUPT)
    then goes_on_in k name (in_event_mode core mode (eventful core (Some (resource.Port p))))
    else (if (mode == OFF) || (mode == ON) then turns_port core k name p mode
    else at_port core k name p takes_no_word (in_mode (port_width p) mode))

abbrev pub sets_mode : CoreRec → ThreadNumber → Identifier → Word → Option Resource → Effect
sets_mode core k name mode (Some (resource.Port p)) = port_in_mode core k name p mode
sets_mode core k name mode named = goes_on_in k name (resource_in_mode core mode named)
