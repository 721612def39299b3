-- What a paused thread waits for, and whether it holds.
use Rattle.std.specs.Prelude.{ℕ, ◌+◌, Bool, true, false, ◌||◌, ◌==◌, nat_le, Option, Some, None, is_some, is_none, List, length, take}
use Rattle.std.specs.List.{list_any, list_all}
use Rattle.xs_base.specs.Numbers.{Slot}
use Rattle.xs_base.specs.declared.numbers.TheConstants.{BUFFER_TOKENS}
use Rattle.xs_base.specs.declared.token.Token.{Token}
use Rattle.xs_base.specs.declared.token.Token.TheVariants.{Byte, Ctrl}
use Rattle.xs_model.specs.declared.thread.Run.{Run}
use Rattle.xs_model.specs.declared.thread.Run.TheVariants.{Unstarted, AtSync, Paused}
use Rattle.xs_model.specs.declared.thread.Thing.{Thing}
use Rattle.xs_model.specs.declared.thread.Thing.TheVariants as thing
use Rattle.xs_model.specs.declared.thread.TheConstants.{DIVISION_SLOTS}
use Rattle.xs_model.specs.declared.thread.Wait.{Wait}
use Rattle.xs_model.specs.declared.thread.Wait.TheVariants.{Room, Tokens, PortFull, PortEmpty, PortIdle, Timer, Lock, Slaves, Choice, Divider}
use Rattle.xs_model.specs.declared.resource.Resource.{Resource}
use Rattle.xs_model.specs.declared.resource.Resource.TheVariants as resource
use Rattle.xs_model.specs.Time.{timer_holds}
use Rattle.xs_model.specs.PortActions.{is_idle}
use Rattle.xs_model.specs.Record.{CoreRec, thread_of, chan_of, timer_of, sync_of, lock_of, port_of}

-- whether so many tokens more fit into a buffer
abbrev pub has_room : ℕ → List Token → Bool
has_room count tokens = nat_le (length tokens + count) BUFFER_TOKENS

abbrev pub is_control : Token → Bool
is_control (Byte b) = false
is_control (Ctrl c) = true

-- whether there are so many tokens, or a control token among the first of them
abbrev pub has_tokens : ℕ → List Token → Bool
has_tokens count tokens = nat_le count (length tokens) || list_any is_control (take count tokens)

-- whether a slave is where its synchroniser waits for it
abbrev pub is_in : Run → Bool
is_in Unstarted = true
is_in AtSync = true
is_in _ = false

-- whether all slaves of a synchroniser are
abbrev pub all_in : CoreRec → ℕ → Bool
all_in core n = list_all (λ k. is_in (thread_of core k).run) (sync_of core n).slaves

-- whether the core's divider is free in a slot, by the slot of the core's last division: it was 32 slots before or earlier, or
-- never
abbrev pub division_is_over : Option Slot → Slot → Bool
division_is_over None slot = true
division_is_over (Some division) slot = nat_le (division + DIVISION_SLOTS) slot

-- whether what pauses a thread holds
abbrev pub holds : CoreRec → Slot → Wait → Bool
holds core slot (Room chan count) = has_room count (chan_of core chan).output
holds core slot (Tokens chan count) = has_tokens count (chan_of core chan).input
holds core slot (PortFull port) = is_some (port_of core port).transfer
holds core slot (PortEmpty port) = is_none (port_of core port).transfer
holds core slot (PortIdle port) = is_idle (port_of core port)
holds core slot (Timer timer) = timer_holds slot (timer_of core timer)
holds core slot (Lock lock) = is_none (lock_of core lock).owner
holds core slot (Slaves sync) = all_in core sync
holds core slot Choice = false
holds core slot Divider = division_is_over core.slots.division slot

-- at which thing a thread waits, where at most one may wait there: the three waits on a port are at one thing
abbrev pub thing_of : Wait → Option Thing
thing_of (Room chan count) = Some (thing.Output chan)
thing_of (Tokens chan count) = Some (thing.Input chan)
thing_of (PortFull port) = Some (thing.Port port)
thing_of (PortEmpty port) = Some (thing.Port port)
thing_of (PortIdle port) = Some (thing.Port port)
thing_of (Timer timer) = Some (thing.Timer timer)
thing_of (Lock lock) = None
thing_of (Slaves sync) = None
thing_of Choice = None
thing_of Divider = None

abbrev pub is_same_thing : Thing → Thing → Bool
is_same_thing (thing.Output a) (thing.Output b) = a == b
is_same_thing (thing.Input a) (thing.Input b) = a == b
is_same_thing (thing.Port a) (thing.Port b) = a == b
is_same_thing (thing.Timer a) (thing.Timer b) = a == b
is_same_thing _ _ = false

abbrev pub are_same : Option Thing → Option Thing → Bool
are_same (Some a) (Some b) = is_same_thing a b
are_same _ _ = false

abbrev pub waits_at : Option Thing → Run → Bool
waits_at thing (Paused wait) = are_same thing (thing_of wait)
waits_at thing _ = false

-- Whether a thread is paused where one would be with this wait. The thread that issues is no such one: its pause is
-- over.
abbrev pub is_waited_at : CoreRec → Wait → Bool
is_waited_at core wait = list_any (λ th. waits_at (thing_of wait) th.run) core.threads

-- whether a wait names a resource
abbrev pub is_on : Resource → Wait → Bool
is_on (resource.Chan c) (Room chan count) = chan == c
is_on (resource.Chan c) (Tokens chan count) = chan == c
is_on (resource.Timer n) (Timer timer) = timer == n
is_on (resource.Port p) (PortFull port) = port == p
is_on (resource.Port p) (PortEmpty port) = port == p
is_on (resource.Port p) (PortIdle port) = port == p
is_on (resource.Sync n) (Slaves sync) = sync == n
is_on (resource.Lock n) (Lock lock) = lock == n
is_on _ _ = false

abbrev pub pauses_on : Resource → Run → Bool
pauses_on r (Paused wait) = is_on r wait
pauses_on r _ = false

-- whether a thread is paused on a resource
abbrev pub is_paused_on : CoreRec → Resource → Bool
is_paused_on core r = list_any (λ th. pauses_on r th.run) core.threads
