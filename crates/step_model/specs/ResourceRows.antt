-- The rows on resources.
use Rattle.std.specs.Prelude.{ℕ, ◌%◌, true, false, not, ◌==◌, if◌then◌else◌, Option, Some, None, []}
use Rattle.xs_base.specs.Numbers.{Slot, Word, Register, ThreadNumber, ChanNumber, NodeId, Kind, Identifier}
use Rattle.xs_base.specs.Ids.{chan_id, res_id, port_width}
use Rattle.xs_base.specs.declared.numbers.TheConstants.{TIMER_KIND, CHAN_END_KIND, SYNCHRONISER_KIND, THREAD_KIND, LOCK_KIND}
use Rattle.xs_base.specs.declared.token.Token.{Token}
use Rattle.xs_base.specs.declared.token.Token.TheVariants.{Byte, Ctrl}
use Rattle.xs_model.specs.declared.thread.Thread.{Thread}
use Rattle.xs_model.specs.declared.thread.Wait.{Wait}
use Rattle.xs_model.specs.declared.thread.Wait.TheVariants.{Room, Tokens, Choice}
use Rattle.xs_model.specs.declared.thread.Wait.TheVariants as wait
use Rattle.xs_model.specs.declared.traps.TheConstants.{ILLEGAL_RESOURCE}
use Rattle.xs_model.specs.declared.resource.Resource.{Resource}
use Rattle.xs_model.specs.declared.resource.Resource.TheVariants as resource
use Rattle.xs_model.specs.declared.resource.Res.TheVariants as res
use Rattle.xs_model.specs.Threads.{with_register}
use Rattle.xs_model.specs.Record.{CoreRec, ChanRec, TimerRec, SyncRec, LockRec, thread_of, chan_of, timer_of}
use Rattle.xs_model.specs.Record.{clock_of, sync_of, lock_of, with_thread, with_chan, with_timer, with_sync, with_lock, with_enabled}
use Rattle.xs_model.specs.Free.{lowest_free}
use Rattle.xs_model.specs.Syncs.{is_sync_used, got_sync, freed_sync, got_lock, Claimed, Owns, IsHeld, IsRefused, claimed, released, freed_lock}
use Rattle.xs_model.specs.Time.{got_timer, freed_timer, with_value, divided_by}
use Rattle.xs_model.specs.Enabling.{with_vector, with_environment, forgotten}
use Rattle.xs_model.specs.PortActions.{set_value, tell_value, take_in, take_part, put_out, end_in, sync, tell_stamp, set_time, clear_time}
use Rattle.xs_model.specs.Waits.{is_paused_on}
use Rattle.xs_instructions.specs.declared.instr.ResIns.{ResIns}
use Rattle.xs_instructions.specs.declared.instr.ResIns.TheVariants as resources
use Rattle.net_model.specs.Chans.{Found, Got, Waits, Refused, put_in_use, free_chan, freed_chan, chan_named, found_at}
use Rattle.net_model.specs.Chans.{put_token, put_word, take_word, take_byte, take_ctrl, check_token, look, look_word, take_dest, tell_dest, take_net, tell_net}
use Rattle.step_model.specs.Effect.{Setting, Effect, Done, Pause, Trap, reg, after_it, goes_on, goes_on_with, goes_on_in, pauses_at}
use Rattle.step_model.specs.Named.{resource_named}
use Rattle.step_model.specs.TimeRows.{timer_becomes, clock_becomes, tells, takes_time}
use Rattle.step_model.specs.EventRows.{sets_events, enables, clears, waits_where}
use Rattle.step_model.specs.ModeRows.{sets_mode}
use Rattle.step_model.specs.PortRows.{at_port, on_port, takes_no_word, takes_word, shifts_in_from_above, shifts_out_below}
use Rattle.step_model.specs.PortRows.{sets_clock, sets_strobe, sets_transfer_width, puts_word, puts_part, peeks, at_any}
use Rattle.step_model.specs.ThreadRows.{thread_id, thread_to_get, with_got_thread}

-- ---- Getting a resource

-- register d takes the identifier of the channel end that was got, or 0 where none is free
abbrev pub chan_was_got : NodeId → CoreRec → ThreadNumber → Register → Option ChanNumber → CoreRec
chan_was_got id core k d None = goes_on_with core k d 0
chan_was_got id core k d (Some c) = goes_on_with (with_chan core c (put_in_use (chan_of core c))) k d (chan_id id c)

-- the same for a synchroniser, whose master is the thread; for a thread, whose last issue is the slot; for a timer; and for a
-- lock
abbrev pub sync_was_got : CoreRec → ThreadNumber → Register → Option ℕ → CoreRec
sync_was_got core k d None = goes_on_with core k d 0
sync_was_got core k d (Some n) = goes_on_with (with_sync core n (got_sync k)) k d (res_id n SYNCHRONISER_KIND)

abbrev pub thread_was_got : Slot → CoreRec → ThreadNumber → Register → Option ThreadNumber → CoreRec
thread_was_got slot core k d None = goes_on_with core k d 0
thread_was_got slot core k d (Some j) = goes_on_with (with_got_thread core j slot) k d (thread_id j)

abbrev pub timer_was_got : CoreRec → ThreadNumber → Register → Option ℕ → CoreRec
timer_was_got core k d None = goes_on_with core k d 0
timer_was_got core k d (Some n) = goes_on_with (with_timer core n (got_timer (timer_of core n))) k d (res_id n TIMER_KIND)

abbrev pub lock_was_got : CoreRec → ThreadNumber → Register → Option ℕ → CoreRec
lock_was_got core k d None = goes_on_with core k d 0
lock_was_got core k d (Some n) = goes_on_with (with_lock core n (got_lock (lock_of core n))) k d (res_id n LOCK_KIND)

-- the lowest free resource of a kind is got, where there is one: ports and clock blocks are not got, but turned on
abbrev pub resource_got : Setting → CoreRec → ThreadNumber → Register → Kind → CoreRec
resource_got here core k d kind =
    if kind == TIMER_KIND then timer_was_got core k d (lowest_free (λ timer. timer.used) core.timers 0)
    else (if kind == CHAN_END_KIND then chan_was_got here.id core k d (free_chan core.chans 0)
    else (if kind == SYNCHRONISER_KIND then sync_was_got core k d (lowest_free is_sync_used core.syncs 0)
    else (if kind == THREAD_KIND then thread_was_got here.slot core k d (thread_to_get core)
    else (if kind == LOCK_KIND then lock_was_got core k d (lowest_free (λ lock. lock.used) core.locks 0)
    else goes_on_with core k d 0))))

-- ---- Freeing a resource, which is refused while a thread is paused on it. What was set of its events is forgotten.

-- the core without a resource: None where it may not be freed by thread k
abbrev pub without_chan : CoreRec → ChanNumber → Option ChanRec → Option CoreRec
without_chan core c None = None
without_chan core c (Some chan) = Some (with_enabled (with_chan core c chan) (forgotten core.enabled (res.Chan c)))

abbrev pub without_timer : CoreRec → ℕ → Option TimerRec → Option CoreRec
without_timer core n None = None
without_timer core n (Some timer) = Some (with_enabled (with_timer core n timer) (forgotten core.enabled (res.Timer n)))

abbrev pub without_sync : CoreRec → ℕ → Option SyncRec → Option CoreRec
without_sync core n None = None
without_sync core n (Some sync) = Some (with_sync core n sync)

abbrev pub without_lock : CoreRec → ℕ → Option LockRec → Option CoreRec
without_lock core n None = None
without_lock core n (Some lock) = Some (with_lock core n lock)

abbrev pub without : Setting → CoreRec → ThreadNumber → Resource → Option CoreRec
without here core k (resource.Chan c) = without_chan core c (freed_chan (here.is_busy c) (chan_of core c))
without here core k (resource.Timer n) = without_timer core n (freed_timer (timer_of core n))
without here core k (resource.Sync n) = without_sync core n (freed_sync k (sync_of core n))
without here core k (resource.Lock n) = without_lock core n (freed_lock (lock_of core n))
without here core k (resource.Thread j) = None
without here core k (resource.Clock n) = None
without here core k (resource.Port p) = None

abbrev pub freed : Setting → CoreRec → ThreadNumber → Identifier → Option Resource → Effect
freed here core k name None = Trap ILLEGAL_RESOURCE name
freed here core k name (Some r) = if is_paused_on core r then Trap ILLEGAL_RESOURCE name else goes_on_in k name (without here core k r)

-- ---- Rows on a channel end

-- where a thread waits at a channel end that has no room for so many tokens, or that so many have not come to; and
-- for a row that never waits, where nobody looks
abbrev pub room : ℕ → ChanNumber → Wait
room count c = Room c count

abbrev pub tokens : ℕ → ChanNumber → Wait
tokens count c = Tokens c count

abbrev pub no_wait : ChanNumber → Wait
no_wait c = Choice

-- what a thread does with the word that it found: nothing, or it takes it into register d
abbrev pub takes_nothing : Word → Thread → Thread
takes_nothing word th = th

abbrev pub takes_into : Register → Word → Thread → Thread
takes_into d word th = with_register th d word

-- what is found at channel end c, which the word `name` names: the thread takes the word and goes on; or it pauses,
-- and traps where another one is paused there; or it is refused
abbrev pub found_there : CoreRec → ThreadNumber → Identifier → ChanNumber → Wait → (Word → Thread → Thread) → Found → Effect
found_there core k name c wait takes (Got chan word) = Done (with_thread (with_chan core c chan) k (after_it (takes word (thread_of core k)))) []
found_there core k name c wait takes Waits = pauses_at core name wait
found_there core k name c wait takes Refused = Trap ILLEGAL_RESOURCE name

-- what a row does at channel end c: where its thread would wait, what it does there, and what the thread takes of it
abbrev pub at_chan : CoreRec → ThreadNumber → Identifier → (ChanNumber → Wait) → (ChanRec → Found) → (Word → Thread → Thread) → ChanNumber → Effect
at_chan core k name wait does takes c = found_there core k name c (wait c) takes (found_at does (chan_of core c))

abbrev pub on_named : CoreRec → ThreadNumber → Identifier → (ChanNumber → Wait) → (ChanRec → Found) → (Word → Thread → Thread) → Option ChanNumber → Effect
on_named core k name wait does takes None = Trap ILLEGAL_RESOURCE name
on_named core k name wait does takes (Some c) = at_chan core k name wait does takes c

-- a row on the channel end that register s names
abbrev pub on_chan : Setting → CoreRec → ThreadNumber → Register → (ChanNumber → Wait) → (ChanRec → Found) → (Word → Thread → Thread) → Effect
on_chan here core k s wait does takes = on_named core k (reg core k s) wait does takes (chan_named here.id (reg core k s))

-- a row that puts a token there, and one that takes one or looks for it
abbrev pub puts : Setting → CoreRec → ThreadNumber → Register → Token → Effect
puts here core k s t = on_chan here core k s (room 1) (put_token t) takes_nothing

abbrev pub checks : Setting → CoreRec → ThreadNumber → Register → Word → Effect
checks here core k s value = on_chan here core k s (tokens 1) (check_token value) takes_nothing

abbrev pub finds : Setting → CoreRec → ThreadNumber → Register → Register → ℕ → (ChanRec → Found) → Effect
finds here core k d s count does = on_chan here core k s (tokens count) does (takes_into d)

-- ---- `in`, `out`, `setd` and `getd`, which are rows on several kinds

-- the thread owns the lock and takes its identifier, or waits until nobody owns it
abbrev pub claimed_there : CoreRec → ThreadNumber → Register → Identifier → ℕ → Claimed → Effect
claimed_there core k d name n (Owns lock) = Done (goes_on_with (with_lock core n lock) k d name) []
claimed_there core k d name n IsHeld = Pause core (wait.Lock n) []
claimed_there core k d name n IsRefused = Trap ILLEGAL_RESOURCE name

abbrev pub takes_in : Slot → CoreRec → ThreadNumber → Register → Identifier → Option Resource → Effect
takes_in slot core k d name (Some (resource.Chan c)) = at_chan core k name (tokens 4) take_word (takes_into d) c
takes_in slot core k d name (Some (resource.Timer n)) = takes_time slot core k d name n
takes_in slot core k d name (Some (resource.Lock n)) = claimed_there core k d name n (claimed k (lock_of core n))
takes_in slot core k d name (Some (resource.Port p)) = at_port core k name p (takes_word d) (take_in p None)
takes_in slot core k d name _ = Trap ILLEGAL_RESOURCE name

-- the thread puts a word, or gives the lock up
abbrev pub puts_out : CoreRec → ThreadNumber → Identifier → Word → Option Resource → Effect
puts_out core k name word (Some (resource.Chan c)) = at_chan core k name (room 4) (put_word word) takes_nothing c
puts_out core k name word (Some (resource.Lock n)) = goes_on_in k name (without_lock core n (released k (lock_of core n)))
puts_out core k name word (Some (resource.Port p)) = at_port core k name p takes_no_word (put_out p word)
puts_out core k name word _ = Trap ILLEGAL_RESOURCE name

-- a channel end takes a destination, a timer or a port the value of its condition, a clock block its divider
abbrev pub sets_data : CoreRec → ThreadNumber → Identifier → Word → Option Resource → Effect
sets_data core k name x (Some (resource.Chan c)) = at_chan core k name no_wait (take_dest x) takes_nothing c
sets_data core k name x (Some (resource.Timer n)) = goes_on_in k name (timer_becomes core n (with_value x (timer_of core n)))
sets_data core k name x (Some (resource.Clock n)) = goes_on_in k name (clock_becomes core n (divided_by x (clock_of core n)))
sets_data core k name x (Some (resource.Port p)) = at_port core k name p takes_no_word (set_value (port_width p) x)
sets_data core k name x _ = Trap ILLEGAL_RESOURCE name

-- the thread takes what is set
abbrev pub tells_data : CoreRec → ThreadNumber → Register → Identifier → Option Resource → Effect
tells_data core k d name (Some (resource.Chan c)) = at_chan core k name no_wait tell_dest (takes_into d) c
tells_data core k d name (Some (resource.Timer n)) = tells core k d name (timer_of core n).used (timer_of core n).value
tells_data core k d name (Some (resource.Clock n)) = tells core k d name (clock_of core n).on (clock_of core n).divider
tells_data core k d name (Some (resource.Port p)) = at_port core k name p (takes_word d) tell_value
tells_data core k d name _ = Trap ILLEGAL_RESOURCE name

-- what register s names
abbrev pub named_in : Setting → CoreRec → ThreadNumber → Register → Option Resource
named_in here core k s = resource_named here.id (reg core k s)

-- ---- The rows

abbrev pub resources_row : Setting → CoreRec → ThreadNumber → ResIns → Effect
resources_row here core k (resources.Getr d i) = Done (resource_got here core k d i) []
resources_row here core k (resources.Freer s) = freed here core k (reg core k s) (named_in here core k s)
resources_row here core k (resources.Out s x) = puts_out core k (reg core k s) (reg core k x) (named_in here core k s)
resources_row here core k (resources.Outt s x) = puts here core k s (Byte (reg core k x % 256))
resources_row here core k (resources.Outct s x) = puts here core k s (Ctrl (reg core k x % 256))
resources_row here core k (resources.OutctImm s i) = puts here core k s (Ctrl i)
resources_row here core k (resources.In d s) = takes_in here.slot core k d (reg core k s) (named_in here core k s)
resources_row here core k (resources.Int d s) = finds here core k d s 1 take_byte
resources_row here core k (resources.Inct d s) = finds here core k d s 1 take_ctrl
resources_row here core k (resources.Chkct s x) = checks here core k s (reg core k x)
resources_row here core k (resources.ChkctImm s i) = checks here core k s i
resources_row here core k (resources.Testct d s) = finds here core k d s 1 look
resources_row here core k (resources.Testwct d s) = finds here core k d s 4 look_word
resources_row here core k (resources.Setd s x) = sets_data core k (reg core k s) (reg core k x) (named_in here core k s)
resources_row here core k (resources.Getd d s) = tells_data core k d (reg core k s) (named_in here core k s)
resources_row here core k (resources.Setn s x) = on_chan here core k s no_wait (take_net (reg core k x)) takes_nothing
resources_row here core k (resources.Getn d s) = on_chan here core k s no_wait tell_net (takes_into d)
resources_row here core k (resources.SetcImm s u) = sets_mode core k (reg core k s) u (named_in here core k s)
resources_row here core k (resources.Setc s x) = sets_mode core k (reg core k s) (reg core k x) (named_in here core k s)
resources_row here core k (resources.Setv s) = sets_events core k (reg core k s) (with_vector (reg core k 11)) (named_in here core k s)
resources_row here core k (resources.Setev s) = sets_events core k (reg core k s) (with_environment (reg core k 11)) (named_in here core k s)
resources_row here core k (resources.Eeu s) = enables core k (reg core k s) true (named_in here core k s)
resources_row here core k (resources.Edu s) = enables core k (reg core k s) false (named_in here core k s)
resources_row here core k (resources.Eet x s) = enables core k (reg core k s) (not (reg core k x == 0)) (named_in here core k s)
resources_row here core k (resources.Eef x s) = enables core k (reg core k s) (reg core k x == 0) (named_in here core k s)
resources_row here core k resources.Clre = Done (goes_on (clears core k) k) []
resources_row here core k resources.Waiteu = waits_where core k true
resources_row here core k (resources.Waitet x) = waits_where core k (not (reg core k x == 0))
resources_row here core k (resources.Waitef x) = waits_where core k (reg core k x == 0)
resources_row here core k (resources.Inpw d s b) = on_port core k s (takes_word d) (λ p. take_part p b)
resources_row here core k (resources.Outpw s x b) = on_port core k s takes_no_word (puts_part x b core k)
resources_row here core k (resources.Inshr d s) = on_port core k s (shifts_in_from_above d) (λ p. take_in p None)
resources_row here core k (resources.Outshr s d) = on_port core k s (shifts_out_below d) (puts_word d core k)
resources_row here core k (resources.Peek d s) = on_port core k s (takes_word d) (peeks here.outside)
resources_row here core k (resources.Endin d s) = on_port core k s (takes_word d) (at_any end_in)
resources_row here core k (resources.Syncr s) = on_port core k s takes_no_word sync
resources_row here core k (resources.Getts d s) = on_port core k s (takes_word d) (at_any tell_stamp)
resources_row here core k (resources.Setpt s x) = on_port core k s takes_no_word (at_any (set_time (reg core k x)))
resources_row here core k (resources.Clrpt s) = on_port core k s takes_no_word (at_any clear_time)
resources_row here core k (resources.Setclk s x) = on_port core k s takes_no_word (sets_clock here.id core (reg core k x))
resources_row here core k (resources.Setrdy s x) = on_port core k s takes_no_word (sets_strobe core (reg core k x))
resources_row here core k (resources.Settw s x) = on_port core k s takes_no_word (sets_transfer_width (reg core k x))
