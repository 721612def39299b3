-- Which event or interrupt a thread takes.
use Rattle.std.specs.Prelude.{ℕ, ◌+◌, Bool, true, false, ◌&&◌, not, if◌then◌else◌, Option, Some, None, is_some, List, [], ◌∷◌}
use Rattle.xs_base.specs.Numbers.{Slot, ThreadNumber}
use Rattle.xs_base.specs.declared.token.Token.{Token}
use Rattle.xs_model.specs.declared.status.Status.{Status}
use Rattle.xs_model.specs.declared.status.TheConstants.{EEBLE, IEBLE}
use Rattle.xs_model.specs.Status.{has_bits}
use Rattle.xs_model.specs.Record.{CoreRec, ChanRec, PortRec, EnablingRec, EnabledRec, thread_of, chan_of, timer_of, port_of}
use Rattle.xs_model.specs.Time.{timer_holds}
use Rattle.xs_model.specs.Enabling.{gives_to}

-- ---- What is ready

-- whether tokens wait in a buffer
abbrev pub waits_in : List Token → Bool
waits_in [] = false
waits_in (t ∷ tokens) = true

-- A channel end in whose input buffer tokens wait, and a port with direction input whose transfer register is full; a timer
-- by its condition. Whether they are in use does not matter.
abbrev pub chan_is_ready : ChanRec → Bool
chan_is_ready chan = waits_in chan.input

abbrev pub port_is_ready : PortRec → Bool
port_is_ready port = not port.output && is_some port.transfer

-- which channel ends, timers and ports are ready, by their numbers
pub record ReadyRec : Type 0 where
  pub chans : ℕ → Bool
  pub timers : ℕ → Bool
  pub ports : ℕ → Bool

abbrev pub ready_in : CoreRec → Slot → ReadyRec
ready_in core slot = record {
  chans = λ c. chan_is_ready (chan_of core c);
  timers = λ n. timer_holds slot (timer_of core n);
  ports = λ p. port_is_ready (port_of core p);
}

-- ---- The choice

abbrev pub first_of : Option EnablingRec → Option EnablingRec → Option EnablingRec
first_of (Some e) other = Some e
first_of None other = other

-- the first of some, whose first has number n, that is ready and gives something
unfoldable pub first_ready : (EnablingRec → Bool) → (ℕ → Bool) → ℕ → List EnablingRec → Option EnablingRec
first_ready gives is_ready n [] = None
first_ready gives is_ready n (e ∷ rest) = if gives e && is_ready n then Some e else first_ready gives is_ready (n + 1) rest

-- what gives interrupts to thread k, or events: channel ends come before timers, and those before ports
abbrev pub choice_in_mode : ThreadNumber → ReadyRec → EnabledRec → Bool → Option EnablingRec
choice_in_mode k ready events interrupt =
    first_of (first_ready (gives_to k interrupt) ready.chans 0 events.chans)
    (first_of (first_ready (gives_to k interrupt) ready.timers 0 events.timers)
    (first_ready (gives_to k interrupt) ready.ports 0 events.ports))

abbrev pub allowed_choice : Bool → Option EnablingRec → Option EnablingRec
allowed_choice true choice = choice
allowed_choice false choice = None

-- what thread k takes, whose status is this: interrupts come before events, and each needs its status bit
abbrev pub choice_by : ThreadNumber → Status → ReadyRec → EnabledRec → Option EnablingRec
choice_by k sr ready events =
    first_of (allowed_choice (has_bits sr IEBLE) (choice_in_mode k ready events true))
    (allowed_choice (has_bits sr EEBLE) (choice_in_mode k ready events false))

-- what thread k takes in a slot
abbrev pub choice : CoreRec → Slot → ThreadNumber → Option EnablingRec
choice core slot k = choice_by k (thread_of core k).sr (ready_in core slot) core.enabled
