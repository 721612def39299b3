-- What is true of the numbers of a core, and what changes of a part keep.
use Rattle.std.proofs.Common.{◌≡◌, ℕ, ◌<◌, ◌^◌, Bool, true, false, if◌then◌else◌, Some, None, List, [], ◌∷◌, length, get_or, slice_set, ◌∙◌, length-set, arith}
use Rattle.std.specs.Prelude.{IfSome}
use Rattle.std.specs.List.{AllByRecursion}
use Rattle.xs_base.specs.Numbers.{ThreadNumber, ChanNumber}
use Rattle.xs_model.specs.declared.resource.Res.{Res}
use Rattle.xs_model.specs.declared.resource.Res.TheVariants.{Chan, Timer, Port}
use Rattle.xs_model.specs.declared.thread.Thread.{Thread}
use Rattle.xs_model.specs.declared.thread.Run.{Run}
use Rattle.xs_model.specs.Threads.{fresh_thread}
use Rattle.xs_model.specs.Record.{CoreRec, SlotsRec, ChanRec, TimerRec, ClockRec, SyncRec, LockRec, PortRec, EnablingRec, EnabledRec, unused_chan, unused_timer, off_clock, not_enabled, thread_of, chan_of, timer_of, clock_of, with_thread, with_chan, with_timer, with_clock, with_last}
use Rattle.xs_model.specs.Enabling.{enabling_of, with_enabling, changed, forgotten, disabled_where, all_disabled_where, without_thread, without_threads}
use Rattle.step_model.specs.ThreadRows.{with_runs}
use Rattle.state_forms.specs.Buffers.{buffer_of, BufferFits}
use Rattle.state_bridge.specs.Fits.{AreSuch, ThreadFits}
use Rattle.range_laws.proofs.Words.{IsWord}
use Rattle.range_laws.proofs.Lists.{all_at, such_set, such_changed}
use Rattle.range_laws.proofs.Threads.{fresh_fits, set_run}

abbrev pub IsByte : ℕ → Type 0
IsByte n = n < 256

-- the memory's bytes
pub record MemoryFits (memory : List ℕ) : Type 0 where
  pub bytes : AllByRecursion IsByte memory
  pub size : length memory ≡ 65536

-- a channel end's destination is a word, and its tokens are bytes; and its network, which programs read, is 0 to 3
pub record ChanWords (chan : ChanRec) : Type 0 where
  pub net : chan.net < 4
  pub dest : IfSome chan.dest IsWord
  pub output : BufferFits (buffer_of chan.output)
  pub input : BufferFits (buffer_of chan.input)

abbrev pub TimerWord : TimerRec → Type 0
TimerWord timer = IsWord timer.value

abbrev pub ClockByte : ClockRec → Type 0
ClockByte clock = clock.divider < 2 ^ 8

abbrev pub EnablingWords : EnablingRec → Type 0
EnablingWords e = IsWord e.vector × IsWord e.environment

pub record EnabledWords (enabled : EnabledRec) : Type 0 where
  pub chans : AreSuch EnablingWords 32 enabled.chans
  pub timers : AreSuch EnablingWords 10 enabled.timers
  pub ports : AreSuch EnablingWords 29 enabled.ports

-- all that is asked of a core but of its ports and its synchronisers
pub record CoreFits (core : CoreRec) : Type 0 where
  pub threads : AreSuch ThreadFits 8 core.threads
  pub last : length core.slots.last ≡ 8
  pub memory : MemoryFits core.memory
  pub chans : AreSuch ChanWords 32 core.chans
  pub timers : AreSuch TimerWord 10 core.timers
  pub clocks : AreSuch ClockByte 6 core.clocks
  pub syncs : length core.syncs ≡ 7
  pub locks : length core.locks ≡ 4
  pub ports : length core.ports ≡ 29
  pub enabled : EnabledWords core.enabled

-- ---- One of its parts

pub set_threads : (core : CoreRec) (threads : List Thread) → CoreFits core → AreSuch ThreadFits 8 threads → CoreFits (record core { threads = threads })
set_threads core threads h all = record { threads = all; last = h.last; memory = h.memory; chans = h.chans; timers = h.timers; clocks = h.clocks; syncs = h.syncs; locks = h.locks; ports = h.ports; enabled = h.enabled }

pub set_slots : (core : CoreRec) (slots : SlotsRec) → CoreFits core → length slots.last ≡ 8 → CoreFits (record core { slots = slots })
set_slots core slots h all = record { threads = h.threads; last = all; memory = h.memory; chans = h.chans; timers = h.timers; clocks = h.clocks; syncs = h.syncs; locks = h.locks; ports = h.ports; enabled = h.enabled }

pub set_memory : (core : CoreRec) (memory : List ℕ) → CoreFits core → MemoryFits memory → CoreFits (record core { memory = memory })
set_memory core memory h all = record { threads = h.threads; last = h.last; memory = all; chans = h.chans; timers = h.timers; clocks = h.clocks; syncs = h.syncs; locks = h.locks; ports = h.ports; enabled = h.enabled }

pub set_chans : (core : CoreRec) (chans : List ChanRec) → CoreFits core → AreSuch ChanWords 32 chans → CoreFits (record core { chans = chans })
set_chans core chans h all = record { threads = h.threads; last = h.last; memory = h.memory; chans = all; timers = h.timers; clocks = h.clocks; syncs = h.syncs; locks = h.locks; ports = h.ports; enabled = h.enabled }

pub set_timers : (core : CoreRec) (timers : List TimerRec) → CoreFits core → AreSuch TimerWord 10 timers → CoreFits (record core { timers = timers })
set_timers core timers h all = record { threads = h.threads; last = h.last; memory = h.memory; chans = h.chans; timers = all; clocks = h.clocks; syncs = h.syncs; locks = h.locks; ports = h.ports; enabled = h.enabled }

pub set_clocks : (core : CoreRec) (clocks : List ClockRec) → CoreFits core → AreSuch ClockByte 6 clocks → CoreFits (record core { clocks = clocks })
set_clocks core clocks h all = record { threads = h.threads; last = h.last; memory = h.memory; chans = h.chans; timers = h.timers; clocks = all; syncs = h.syncs; locks = h.locks; ports = h.ports; enabled = h.enabled }

pub set_syncs : (core : CoreRec) (syncs : List SyncRec) → CoreFits core → length syncs ≡ 7 → CoreFits (record core { syncs = syncs })
set_syncs core syncs h all = record { threads = h.threads; last = h.last; memory = h.memory; chans = h.chans; timers = h.timers; clocks = h.clocks; syncs = all; locks = h.locks; ports = h.ports; enabled = h.enabled }

pub set_locks : (core : CoreRec) (locks : List LockRec) → CoreFits core → length locks ≡ 4 → CoreFits (record core { locks = locks })
set_locks core locks h all = record { threads = h.threads; last = h.last; memory = h.memory; chans = h.chans; timers = h.timers; clocks = h.clocks; syncs = h.syncs; locks = all; ports = h.ports; enabled = h.enabled }

pub set_ports : (core : CoreRec) (ports : List PortRec) → CoreFits core → length ports ≡ 29 → CoreFits (record core { ports = ports })
set_ports core ports h all = record { threads = h.threads; last = h.last; memory = h.memory; chans = h.chans; timers = h.timers; clocks = h.clocks; syncs = h.syncs; locks = h.locks; ports = all; enabled = h.enabled }

pub set_enabled : (core : CoreRec) (enabled : EnabledRec) → CoreFits core → EnabledWords enabled → CoreFits (record core { enabled = enabled })
set_enabled core enabled h all = record { threads = h.threads; last = h.last; memory = h.memory; chans = h.chans; timers = h.timers; clocks = h.clocks; syncs = h.syncs; locks = h.locks; ports = h.ports; enabled = all }

-- ---- One of a row

pub thread_fits : (core : CoreRec) (k : ThreadNumber) → CoreFits core → ThreadFits (thread_of core k)
thread_fits core k h = all_at ThreadFits fresh_thread fresh_fits core.threads k h.threads.each

no_chan : ChanWords unused_chan
no_chan = record { net = omega arith; dest = tt; output = record { count = omega arith; tokens = tt }; input = record { count = omega arith; tokens = tt } }

pub unused_fits : ChanWords unused_chan
unused_fits = no_chan

pub chan_fits : (core : CoreRec) (c : ChanNumber) → CoreFits core → ChanWords (chan_of core c)
chan_fits core c h = all_at ChanWords unused_chan no_chan core.chans c h.chans.each

pub timer_fits : (core : CoreRec) (n : ℕ) → CoreFits core → TimerWord (timer_of core n)
timer_fits core n h = all_at TimerWord unused_timer (omega arith) core.timers n h.timers.each

pub clock_fits : (core : CoreRec) (n : ℕ) → CoreFits core → ClockByte (clock_of core n)
clock_fits core n h = all_at ClockByte off_clock (omega arith) core.clocks n h.clocks.each

pub thread_set : (core : CoreRec) (k : ThreadNumber) (th : Thread) → CoreFits core → ThreadFits th → CoreFits (with_thread core k th)
thread_set core k th h new = set_threads core (slice_set core.threads k th) h (such_set ThreadFits 8 core.threads k th new h.threads)

pub chan_set : (core : CoreRec) (c : ChanNumber) (chan : ChanRec) → CoreFits core → ChanWords chan → CoreFits (with_chan core c chan)
chan_set core c chan h new = set_chans core (slice_set core.chans c chan) h (such_set ChanWords 32 core.chans c chan new h.chans)

pub timer_set : (core : CoreRec) (n : ℕ) (timer : TimerRec) → CoreFits core → TimerWord timer → CoreFits (with_timer core n timer)
timer_set core n timer h new = set_timers core (slice_set core.timers n timer) h (such_set TimerWord 10 core.timers n timer new h.timers)

pub clock_set : (core : CoreRec) (n : ℕ) (clock : ClockRec) → CoreFits core → ClockByte clock → CoreFits (with_clock core n clock)
clock_set core n clock h new = set_clocks core (slice_set core.clocks n clock) h (such_set ClockByte 6 core.clocks n clock new h.clocks)

pub runs_fit : (run : Run) (js : List ThreadNumber) (threads : List Thread) → AreSuch ThreadFits 8 threads → AreSuch ThreadFits 8 (with_runs run js threads)
unfolding with_runs
runs_fit run [] threads all = all
runs_fit run (j ∷ js) threads all =
    let th = get_or threads j fresh_thread in
    runs_fit run js _ (such_set ThreadFits 8 threads j (record th { run = run }) (set_run th run (all_at ThreadFits fresh_thread fresh_fits threads j all.each)) all)

-- another slot is kept of a thread
pub last_set : (core : CoreRec) (k : ThreadNumber) (slot : ℕ) → CoreFits core → CoreFits (with_last core k slot)
last_set core k slot h = set_slots core _ h (length-set core.slots.last k (Some slot) ∙ h.last)

-- ---- What gives events

pub never_gives : EnablingWords not_enabled
never_gives = (omega arith, omega arith)

enabling_fits : (enabled : EnabledRec) (r : Res) → EnabledWords enabled → EnablingWords (enabling_of enabled r)
enabling_fits enabled (Chan c) h = all_at EnablingWords not_enabled never_gives enabled.chans c h.chans.each
enabling_fits enabled (Timer n) h = all_at EnablingWords not_enabled never_gives enabled.timers n h.timers.each
enabling_fits enabled (Port p) h = all_at EnablingWords not_enabled never_gives enabled.ports p h.ports.each

enabling_set : (enabled : EnabledRec) (r : Res) (e : EnablingRec) → EnabledWords enabled → EnablingWords e → EnabledWords (with_enabling enabled r e)
enabling_set enabled (Chan c) e h new = record { chans = such_set EnablingWords 32 enabled.chans c e new h.chans; timers = h.timers; ports = h.ports }
enabling_set enabled (Timer n) e h new = record { chans = h.chans; timers = such_set EnablingWords 10 enabled.timers n e new h.timers; ports = h.ports }
enabling_set enabled (Port p) e h new = record { chans = h.chans; timers = h.timers; ports = such_set EnablingWords 29 enabled.ports p e new h.ports }

pub changed_fits : (enabled : EnabledRec) (r : Res) (change : EnablingRec → EnablingRec) → ((e : EnablingRec) → EnablingWords e → EnablingWords (change e)) → EnabledWords enabled → EnabledWords (changed enabled r change)
changed_fits enabled r change so h = enabling_set enabled r _ h (so _ (enabling_fits enabled r h))

pub forgotten_fits : (enabled : EnabledRec) (r : Res) → EnabledWords enabled → EnabledWords (forgotten enabled r)
forgotten_fits enabled r h = enabling_set enabled r not_enabled h never_gives

disabled_fits : (test : EnablingRec → Bool) (e : EnablingRec) → EnablingWords e → EnablingWords (disabled_where test e)
disabled_fits test e h = by (test e)
  where
    by : (holds : Bool) → EnablingWords (if holds then record e { thread = None } else e)
    by true = h
    by false = h

pub all_disabled_fit : (test : EnablingRec → Bool) (enabled : EnabledRec) → EnabledWords enabled → EnabledWords (all_disabled_where test enabled)
all_disabled_fit test enabled h = record {
  chans = such_changed EnablingWords 32 (disabled_where test) (disabled_fits test) enabled.chans h.chans;
  timers = such_changed EnablingWords 10 (disabled_where test) (disabled_fits test) enabled.timers h.timers;
  ports = such_changed EnablingWords 29 (disabled_where test) (disabled_fits test) enabled.ports h.ports;
}

pub without_all_fit : (ks : List ThreadNumber) (enabled : EnabledRec) → EnabledWords enabled → EnabledWords (without_threads ks enabled)
unfolding without_threads
without_all_fit [] enabled h = h
without_all_fit (k ∷ ks) enabled h = without_all_fit ks (without_thread k enabled) (all_disabled_fit _ enabled h)
