-- Who enabled what gives events stays a thread.
use Rattle.std.proofs.Common.{◌<◌, Bool, true, false, if◌then◌else◌, List, [], ◌∷◌}
use Rattle.xs_base.specs.Numbers.{ThreadNumber}
use Rattle.xs_base.specs.declared.numbers.TheConstants.{THREADS}
use Rattle.xs_model.specs.declared.resource.Res.{Res}
use Rattle.xs_model.specs.declared.resource.Res.TheVariants as res
use Rattle.xs_model.specs.Record.{EnablingRec, EnabledRec, not_enabled, none_enabled}
use Rattle.xs_model.specs.Syncs.{is_thread}
use Rattle.xs_model.specs.Enabling.{enabling_of, with_enabling, enabled_for, changed, forgotten, disabled, disabled_where, all_disabled_where, gives_to, cleared_by, without_thread, without_threads}
use Rattle.state_laws.specs.Facts.{IsThread, AreByThreads}
use Rattle.state_laws.proofs.Lists.{each_set, map_at, many_at}

abbrev pub IsByThread : EnablingRec → Type 0
IsByThread e = IsThread e.thread

pub first_by : AreByThreads none_enabled
first_by = record {
  chans = λ i. many_at IsByThread not_enabled 32 not_enabled i tt tt;
  timers = λ i. many_at IsByThread not_enabled 10 not_enabled i tt tt;
  ports = λ i. many_at IsByThread not_enabled 29 not_enabled i tt tt;
}

of_by : (events : EnabledRec) (r : Res) → AreByThreads events → IsByThread (enabling_of events r)
of_by events (res.Chan c) all = all.chans c
of_by events (res.Timer n) all = all.timers n
of_by events (res.Port p) all = all.ports p

with_by : (events : EnabledRec) (r : Res) (e : EnablingRec) → AreByThreads events → IsByThread e → AreByThreads (with_enabling events r e)
with_by events (res.Chan c) e all new = record { chans = each_set IsByThread not_enabled events.chans c e all.chans new; timers = all.timers; ports = all.ports }
with_by events (res.Timer n) e all new = record { chans = all.chans; timers = each_set IsByThread not_enabled events.timers n e all.timers new; ports = all.ports }
with_by events (res.Port p) e all new = record { chans = all.chans; timers = all.timers; ports = each_set IsByThread not_enabled events.ports p e all.ports new }

pub changed_by : (events : EnabledRec) (r : Res) (change : EnablingRec → EnablingRec) → ((e : EnablingRec) → IsByThread e → IsByThread (change e)) → AreByThreads events → AreByThreads (changed events r change)
changed_by events r change so all = with_by events r _ all (so (enabling_of events r) (of_by events r all))

pub forgotten_by : (events : EnabledRec) (r : Res) → AreByThreads events → AreByThreads (forgotten events r)
forgotten_by events r all = with_by events r not_enabled all tt

pub enabled_by : (k : ThreadNumber) (is_on : Bool) (e : EnablingRec) → k < THREADS → IsByThread e → IsByThread (enabled_for k is_on e)
enabled_by k true e thread h = thread
enabled_by k false e thread h = tt

one_by : (test : EnablingRec → Bool) (e : EnablingRec) → IsByThread e → IsByThread (disabled_where test e)
one_by test e h = either (test e)
  where
    either : (holds : Bool) → IsByThread (if holds then disabled e else e)
    either true = tt
    either false = h

where_by : (test : EnablingRec → Bool) (events : EnabledRec) → AreByThreads events → AreByThreads (all_disabled_where test events)
where_by test events all = record {
  chans = λ i. map_at IsByThread not_enabled (disabled_where test) events.chans i (one_by test) (all.chans i);
  timers = λ i. map_at IsByThread not_enabled (disabled_where test) events.timers i (one_by test) (all.timers i);
  ports = λ i. map_at IsByThread not_enabled (disabled_where test) events.ports i (one_by test) (all.ports i);
}

pub cleared_stays : (k : ThreadNumber) (events : EnabledRec) → AreByThreads events → AreByThreads (cleared_by k events)
cleared_stays k events all = where_by (gives_to k false) events all

pub without_by : (k : ThreadNumber) (events : EnabledRec) → AreByThreads events → AreByThreads (without_thread k events)
without_by k events all = where_by (λ e. is_thread k e.thread) events all

pub without_all_by : (threads : List ThreadNumber) (events : EnabledRec) → AreByThreads events → AreByThreads (without_threads threads events)
unfolding without_threads
without_all_by [] events all = all
without_all_by (k ∷ rest) events all = without_all_by rest (without_thread k events) (without_by k events all)
