-- What threads enable: events and interrupts of channel ends, timers and ports.
use Rattle.std.specs.Prelude.{Bool, true, false, ◌&&◌, not, if◌then◌else◌, Some, None, List, [], ◌∷◌, map, slice_index_or, slice_set}
use Rattle.xs_base.specs.Numbers.{Word, ThreadNumber}
use Rattle.xs_model.specs.declared.resource.Res.{Res}
use Rattle.xs_model.specs.declared.resource.Res.TheVariants.{Chan, Timer, Port}
use Rattle.xs_model.specs.Record.{EnablingRec, EnabledRec, not_enabled}
use Rattle.xs_model.specs.Syncs.{is_thread}

abbrev pub enabling_of : EnabledRec → Res → EnablingRec
enabling_of events (Chan c) = slice_index_or events.chans c not_enabled
enabling_of events (Timer n) = slice_index_or events.timers n not_enabled
enabling_of events (Port p) = slice_index_or events.ports p not_enabled

abbrev pub with_enabling : EnabledRec → Res → EnablingRec → EnabledRec
with_enabling events (Chan c) e = record events { chans = slice_set events.chans c e }
with_enabling events (Timer n) e = record events { timers = slice_set events.timers n e }
with_enabling events (Port p) e = record events { ports = slice_set events.ports p e }

-- ---- One of them. What one thread enabled another may set, enable for itself, or disable.

abbrev pub with_vector : Word → EnablingRec → EnablingRec
with_vector vector e = record e { vector = vector }

abbrev pub with_environment : Word → EnablingRec → EnablingRec
with_environment environment e = record e { environment = environment }

-- it gives interrupts, or events
abbrev pub in_mode : Bool → EnablingRec → EnablingRec
in_mode interrupt e = record e { interrupt = interrupt }

-- it gives nothing to anybody; what it would give stays set
abbrev pub disabled : EnablingRec → EnablingRec
disabled e = record e { thread = None }

-- it is enabled for thread k, or disabled
abbrev pub enabled_for : ThreadNumber → Bool → EnablingRec → EnablingRec
enabled_for k true e = record e { thread = Some k }
enabled_for k false e = disabled e

-- one of them is changed so
abbrev pub changed : EnabledRec → Res → (EnablingRec → EnablingRec) → EnabledRec
changed events r change = with_enabling events r (change (enabling_of events r))

-- all that was set is forgotten
abbrev pub forgotten : EnabledRec → Res → EnabledRec
forgotten events r = with_enabling events r not_enabled

-- ---- All that a thread enabled

abbrev pub disabled_where : (EnablingRec → Bool) → EnablingRec → EnablingRec
disabled_where test e = if test e then disabled e else e

-- those that pass a test are disabled
abbrev pub all_disabled_where : (EnablingRec → Bool) → EnabledRec → EnabledRec
all_disabled_where test events = record {
  chans = map (disabled_where test) events.chans;
  timers = map (disabled_where test) events.timers;
  ports = map (disabled_where test) events.ports;
}

-- whether what is asked for, interrupts or else events, is what is given
abbrev pub is_mode : Bool → Bool → Bool
is_mode true interrupt = interrupt
is_mode false interrupt = not interrupt

-- whether it gives interrupts, or events, to thread k
abbrev pub gives_to : ThreadNumber → Bool → EnablingRec → Bool
gives_to k interrupt e = is_thread k e.thread && is_mode interrupt e.interrupt

-- thread k disables what it enabled and gives events; what gives interrupts stays
abbrev pub cleared_by : ThreadNumber → EnabledRec → EnabledRec
cleared_by k events = all_disabled_where (gives_to k false) events

-- thread k is freed: what it enabled is disabled
abbrev pub without_thread : ThreadNumber → EnabledRec → EnabledRec
without_thread k events = all_disabled_where (λ e. is_thread k e.thread) events

-- so are some threads
unfoldable pub without_threads : List ThreadNumber → EnabledRec → EnabledRec
without_threads [] events = events
without_threads (k ∷ rest) events = without_threads rest (without_thread k events)
