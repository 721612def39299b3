-- The rows on events and interrupts.
use Rattle.std.specs.Prelude.{◌+◌, Bool, true, false, if◌then◌else◌, Option, Some, None, []}
use Rattle.xs_base.specs.Numbers.{ThreadNumber, Identifier}
use Rattle.xs_model.specs.declared.status.TheConstants.{EEBLE, INENB, WAITING}
use Rattle.xs_model.specs.declared.thread.Thread.{Thread}
use Rattle.xs_model.specs.declared.thread.Wait.TheVariants.{Choice}
use Rattle.xs_model.specs.declared.resource.Res.{Res}
use Rattle.xs_model.specs.declared.resource.Res.TheVariants as res
use Rattle.xs_model.specs.declared.resource.Resource.{Resource}
use Rattle.xs_model.specs.declared.resource.Resource.TheVariants as resource
use Rattle.xs_model.specs.Status.{with_bits, without_bits}
use Rattle.xs_model.specs.Record.{CoreRec, EnablingRec, thread_of, chan_of, timer_of, port_of, with_thread, with_enabled}
use Rattle.xs_model.specs.Enabling.{changed, enabled_for, cleared_by}
use Rattle.step_model.specs.Effect.{Effect, Done, Pause, goes_on, goes_on_in}

-- ---- What a resource gives

abbrev pub if_used : Bool → Res → Option Res
if_used is_used r = if is_used then Some r else None

-- what may give events and interrupts, where it is in use: a channel end, a timer or a port
abbrev pub eventful : CoreRec → Option Resource → Option Res
eventful core (Some (resource.Chan c)) = if_used (chan_of core c).used (res.Chan c)
eventful core (Some (resource.Timer n)) = if_used (timer_of core n).used (res.Timer n)
eventful core (Some (resource.Port p)) = if_used (port_of core p).on (res.Port p)
eventful core _ = None

-- the core with this change of what it gives, or nothing where it gives none
abbrev pub with_changed : CoreRec → (EnablingRec → EnablingRec) → Option Res → Option CoreRec
with_changed core change None = None
with_changed core change (Some r) = Some (with_enabled core (changed core.enabled r change))

abbrev pub sets_events : CoreRec → ThreadNumber → Identifier → (EnablingRec → EnablingRec) → Option Resource → Effect
sets_events core k name change named = goes_on_in k name (with_changed core change (eventful core named))

-- the thread enables it for itself, or disables it
abbrev pub enables : CoreRec → ThreadNumber → Identifier → Bool → Option Resource → Effect
enables core k name is_on named = sets_events core k name (enabled_for k is_on) named

-- ---- The thread's own events

-- the thread takes no more events, and disables what it enabled and gives events
abbrev pub clears : CoreRec → ThreadNumber → CoreRec
clears core k =
    let th = thread_of core k in
    with_enabled (with_thread core k (record th { sr = without_bits th.sr (EEBLE + INENB) })) (cleared_by k core.enabled)

-- the thread takes events, and waits for one
abbrev pub waits_for_event : Thread → Thread
waits_for_event th = record th { sr = with_bits th.sr (EEBLE + WAITING) }

-- the thread waits for an event where something holds, and else goes on
abbrev pub waits_where : CoreRec → ThreadNumber → Bool → Effect
waits_where core k true = Pause (with_thread core k (waits_for_event (thread_of core k))) Choice []
waits_where core k false = Done (goes_on core k) []
