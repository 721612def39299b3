-- The rows on ports.
use Rattle.std.specs.Prelude.{ℕ, ◌-◌, ◌==◌, if◌then◌else◌, Option, Some, None, List, [], slice_index_or}
use Rattle.xs_base.specs.Numbers.{Word, Register, ThreadNumber, PortNumber, NodeId, Identifier}
use Rattle.xs_base.specs.Ids.{port_with, port_width}
use Rattle.xs_base.specs.Words.{word_sum, shl, shr}
use Rattle.xs_model.specs.declared.clock.Clock.{Clock}
use Rattle.xs_model.specs.declared.clock.Clock.TheVariants.{Reference, Block}
use Rattle.xs_model.specs.declared.resource.Resource.{Resource}
use Rattle.xs_model.specs.declared.resource.Resource.TheVariants as resource
use Rattle.xs_model.specs.declared.thread.Thread.{Thread}
use Rattle.xs_model.specs.declared.traps.TheConstants.{ILLEGAL_RESOURCE, RESOURCE_DEPENDENCY}
use Rattle.xs_model.specs.Threads.{register, with_register}
use Rattle.xs_model.specs.Record.{CoreRec, PortRec, thread_of, clock_of, port_of, with_thread, with_port}
use Rattle.xs_model.specs.Ports.{pin_happens}
use Rattle.xs_model.specs.PortActions.{Acted, Did, Got, Waits, Refused, set_clock, set_strobe, may_strobe, set_transfer_width, peek, put_out, put_part}
use Rattle.xs_model.specs.Waits.{is_waited_at}
use Rattle.step_model.specs.Effect.{Effect, Done, Pause, Trap, after_it, reg}
use Rattle.step_model.specs.Named.{resource_named}

-- ---- How a row ends at a port

-- What a thread does with the word that a row at this port gives, which is 0 where it gives none: nothing, or it takes it into
-- register d
abbrev pub takes_no_word : PortRec → Word → Thread → Thread
takes_no_word port word th = th

abbrev pub takes_word : Register → PortRec → Word → Thread → Thread
takes_word d port word th = with_register th d word

-- or it shifts register d down by the width of a transfer: what came in stands above, and what went out is gone
abbrev pub shifts_in_from_above : Register → PortRec → Word → Thread → Thread
shifts_in_from_above d port word th =
    let bits = port.transfer_width in with_register th d (word_sum (shr (register th d) bits) (shl word (32 - bits)))

abbrev pub shifts_out_below : Register → PortRec → Word → Thread → Thread
shifts_out_below d port word th = with_register th d (shr (register th d) port.transfer_width)

-- the thread goes on with what it takes
abbrev pub goes_on_taking : CoreRec → ThreadNumber → (Word → Thread → Thread) → Word → CoreRec
goes_on_taking core k takes word = with_thread core k (after_it (takes word (thread_of core k)))

-- the thread goes on; or it pauses, and traps where another one is paused at the port; or it is refused what a word names
abbrev pub ends_at_port : CoreRec → ThreadNumber → Identifier → PortNumber → (Word → Thread → Thread) → Acted → Effect
ends_at_port core k name p takes (Did port change) = Done (goes_on_taking (with_port core p port) k takes 0) (pin_happens p change)
ends_at_port core k name p takes (Got port word) = Done (goes_on_taking (with_port core p port) k takes word) []
ends_at_port core k name p takes (Waits port wait change) =
    if is_waited_at core wait then Trap RESOURCE_DEPENDENCY name
    else Pause (with_port core p port) wait (pin_happens p change)
ends_at_port core k name p takes Refused = Trap ILLEGAL_RESOURCE name

-- what a row does at port p, which the word `name` names
abbrev pub at_port : CoreRec → ThreadNumber → Identifier → PortNumber → (PortRec → Word → Thread → Thread) → (PortRec → Acted) → Effect
at_port core k name p takes acts = ends_at_port core k name p (takes (port_of core p)) (acts (port_of core p))

abbrev pub at_named_port : CoreRec → ThreadNumber → Identifier → (PortRec → Word → Thread → Thread) → (PortNumber → PortRec → Acted) → Option PortNumber → Effect
at_named_port core k name takes acts None = Trap ILLEGAL_RESOURCE name
at_named_port core k name takes acts (Some p) = at_port core k name p takes (acts p)

-- a row on the port that register s names
abbrev pub on_port : CoreRec → ThreadNumber → Register → (PortRec → Word → Thread → Thread) → (PortNumber → PortRec → Acted) → Effect
on_port core k s takes acts = at_named_port core k (reg core k s) takes acts (port_with (reg core k s))

-- ---- A port's clock and its strobe

abbrev pub clock_if_on : CoreRec → Option Resource → Option Clock
clock_if_on core (Some (resource.Clock n)) = if (clock_of core n).on then Some (Block n) else None
clock_if_on core _ = None

-- the clock that a word names: 1 is the reference clock, and a clock block must be on
abbrev pub clock_named : NodeId → CoreRec → Word → Option Clock
clock_named id core x = if x == 1 then Some Reference else clock_if_on core (resource_named id x)

-- a port is set to what a word names, where it names something; else its row is refused
abbrev pub sets_where : {A : Type 0} → (A → PortRec → Acted) → Option A → PortRec → Acted
sets_where sets None port = Refused
sets_where sets (Some x) port = sets x port

abbrev pub strobe_if_allowed : CoreRec → PortNumber → Option PortNumber → Option (Option PortNumber)
strobe_if_allowed core p None = None
strobe_if_allowed core p (Some strobe) = if may_strobe p strobe (port_of core strobe) then Some (Some strobe) else None

-- the strobe that a word names for port p: 0 is none
abbrev pub strobe_named : CoreRec → PortNumber → Word → Option (Option PortNumber)
strobe_named core p x = if x == 0 then Some None else strobe_if_allowed core p (port_with x)

-- ---- What rows on ports alone do there, as actions at port p

abbrev pub sets_clock : NodeId → CoreRec → Word → PortNumber → PortRec → Acted
sets_clock id core x p port = sets_where set_clock (clock_named id core x) port

abbrev pub sets_strobe : CoreRec → Word → PortNumber → PortRec → Acted
sets_strobe core x p port = sets_where set_strobe (strobe_named core p x) port

abbrev pub sets_transfer_width : Word → PortNumber → PortRec → Acted
sets_transfer_width x p port = set_transfer_width (port_width p) x port

abbrev pub puts_word : Register → CoreRec → ThreadNumber → PortNumber → PortRec → Acted
puts_word x core k p port = put_out p (reg core k x) port

abbrev pub puts_part : Register → ℕ → CoreRec → ThreadNumber → PortNumber → PortRec → Acted
puts_part x bits core k p port = put_part p bits (reg core k x) port

abbrev pub peeks : List Word → PortNumber → PortRec → Acted
peeks outside p port = peek (slice_index_or outside p 0) port

-- what a row does at any port in the same way
abbrev pub at_any : (PortRec → Acted) → PortNumber → PortRec → Acted
at_any acts p port = acts port
