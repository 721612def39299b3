-- Which threads, resources, inputs and link ends have their forms: those that a node may have, with numbers of their types.
use Rattle.std.proofs.Common.{◌≡◌, ℕ, ◌<◌, Bool, true, false, ltb, List, [], ◌∷◌, length, Option, Some, None, refl, sym, ◌∙◌, subst, arith, inl, inr}
use Rattle.std.proofs.lemmas.Bool.{lt-ltb, le-ltb, cases_lt, true≢false}
use Rattle.std.proofs.lemmas.List.{get_or-map}
use Rattle.std.proofs.lemmas.List.Elements.{All-from_recursion}
use Rattle.std.specs.Prelude.{IfSome, map, nat_lt, slice_index, slice_index_or, zip, ◌↔◌}
use Rattle.std.specs.List.{AllByRecursion}
use Rattle.xs_model.specs.declared.thread.Thread.{Thread}
use Rattle.xs_model.specs.Threads.{fresh_thread}
use Rattle.xs_model.specs.Masks.{in_mask}
use Rattle.step_model.specs.ThreadRows.{is_taken}
use Rattle.chan_ends.specs.declared.state.ChanState.{ChanState}
use Rattle.chan_ends.specs.States.{IsChanState}
use Rattle.timers_clocks.specs.declared.state.TimerState.{TimerState}
use Rattle.timers_clocks.specs.declared.state.ClockState.{ClockState}
use Rattle.sync_locks.specs.declared.state.SyncState.{SyncState}
use Rattle.sync_locks.specs.States.{AreSyncStates, unused_state}
use Rattle.single_port.specs.declared.state.PortState.{PortState}
use Rattle.single_port.specs.States.{off_state}
use Rattle.buffered_ports.specs.States.{ArePortStates}
use Rattle.event_unit.specs.declared.state.EnableState.{EnableState}
use Rattle.event_unit.specs.States.{AreEnableStates}
use Rattle.link_ends.specs.declared.state.EndState.{EndState}
use Rattle.link_ends.specs.States.{absent_end, IsEndState}
use Rattle.core_step.specs.Network.{EndsHaveGaps}
use Rattle.core_step.specs.ThreadStates.{IsThreadState}
use Rattle.byte_forms.specs.Forms.{repeat}
use Rattle.state_forms.specs.Threads.{thread_state, thread}
use Rattle.state_forms.specs.Chans.{chan, ChanFits}
use Rattle.state_forms.specs.Timers.{timer, clock}
use Rattle.state_forms.specs.Syncs.{syncs}
use Rattle.state_forms.specs.Enables.{enable}
use Rattle.state_forms.proofs.Holding.{each_as, repeat_of}
use Rattle.state_forms.proofs.Chains.{each_at}
use Rattle.state_forms.proofs.ThreadStates.{run_of_fact, thread_state_of, threads_of}
use Rattle.state_forms.proofs.ChanFacts.{chan_of}
use Rattle.state_forms.proofs.Timers.{timer_of, clock_of}
use Rattle.state_forms.proofs.SyncFacts.{syncs_of, slaves_by}
use Rattle.state_forms.proofs.Enables.{enables_of}
use Rattle.port_forms.specs.Ports.{ports, FitsHalves}
use Rattle.port_forms.proofs.PortFacts.{ports_have}
use Rattle.switch_forms.specs.Ends.{link_ends}
use Rattle.switch_forms.proofs.EndFacts.{ends_of}
use Rattle.node_forms.specs.Nodes.{taken_of}
use Rattle.node_forms.proofs.Facts.{tells}
use Rattle.node_forms.proofs.Threads.{taken_alone}
use Rattle.state_bridge.specs.Fits.{AreSuch, ThreadFits, TimerFits, ClockFits, SyncFits, EnableFits, EndFits}

-- what two facts of each element say together
module _ {A : Type 0} {P Q R : A → Type 0} (so : (a : A) → P a → Q a → R a) where
  pub each_by : (xs : List A) → AllByRecursion P xs → AllByRecursion Q xs → AllByRecursion R xs
  each_by [] h k = tt
  each_by (x ∷ xs) h k = (so x h.0 k.0, each_by xs h.1 k.1)

-- a slot before one that is a word is a word
abbrev IsBefore : ℕ → Option ℕ → Type 0
IsBefore slot last = IfSome last (λ s. s < slot)

pub before_word : (slot : ℕ) → slot < 4294967296 → (last : Option ℕ) → IsBefore slot last → IsBefore 4294967296 last × IsBefore slot last
before_word slot early None h = (tt, tt)
before_word slot early (Some s) h = (omega (arith, early, h), h)

-- ---- Threads

thread_has : (th : Thread) → ThreadFits th → IsThreadState th → thread_state.Holds th
thread_has th fits is =
    thread_state_of th (record {
      len = fits.r.count;
      r = fits.r.each;
      cp = fits.cp;
      dp = fits.dp;
      sp = fits.sp;
      lr = fits.lr;
      pc = fits.pc;
      spc = fits.spc;
      et = fits.et;
      ed = fits.ed;
      sed = fits.sed;
      kep = fits.kep;
      ksp = fits.ksp;
    }) (record { sr = is.sr; ssr = is.ssr; run = run_of_fact tells th.run is.run })

pub threads_have : (slot : ℕ) (threads : List Thread) (last : List (Option ℕ)) → slot < 4294967296 → AreSuch ThreadFits 8 threads → length last ≡ 8
    → AllByRecursion IsThreadState threads → AllByRecursion (IsBefore slot) last → (repeat 8 (thread slot)).Holds (zip threads last)
threads_have slot threads last early fits many are before =
    threads_of slot threads last fits.count many (each_by thread_has threads fits.each are) (each_as (before_word slot early) last before)

-- ---- Resources

pub chans_have : (states : List ChanState) → AreSuch ChanFits 32 states → AllByRecursion IsChanState states → (repeat 32 chan).Holds states
chans_have states fits are = repeat_of chan 32 states fits.count (each_by chan_of states fits.each are)

pub timers_have : (states : List TimerState) → AreSuch TimerFits 10 states → (repeat 10 timer).Holds states
timers_have states fits = repeat_of timer 10 states fits.count (each_as timer_of states fits.each)

pub clocks_have : (states : List ClockState) → AreSuch ClockFits 6 states → (repeat 6 clock).Holds states
clocks_have states fits = repeat_of clock 6 states fits.count (each_as clock_of states fits.each)

abbrev is_not_free : Thread → Bool
is_not_free th = is_taken th.run

-- slaves are not free
abbrev SlavesTaken : List Thread → List SyncState → Type 0
SlavesTaken threads states =
    (k n : ℕ) → in_mask (slice_index_or states n unused_state).slaves k ≡ true → is_not_free (slice_index_or threads k fresh_thread) ≡ true

pub syncs_have : (threads : List Thread) (last : List (Option ℕ)) (states : List SyncState) → length threads ≡ 8 → length last ≡ 8 → AreSuch SyncFits 7 states
    → AreSyncStates states → SlavesTaken threads states → (syncs (taken_of (zip threads last))).Holds states
syncs_have threads last states eight many fits are taken =
    let not_free = slaves_by is_not_free threads states fresh_thread eight fits.each taken in
    subst (λ (k : List Bool). (syncs k).Holds states) (taken_alone threads last (eight ∙ sym many))
    (syncs_of (map is_not_free threads) states fits.count fits.each (record { are = are; not_free = not_free }))

pub ports_all_have : (states : List PortState) → AreSuch FitsHalves 29 states → ArePortStates states → ports.Holds states
ports_all_have states fits are =
    let many = fits.count in
    ports_have states many are (λ p lt. each_at FitsHalves states fits.each p off_state (omega (arith, lt, many)))

pub enables_have : (n : ℕ) (states : List EnableState) → AreSuch EnableFits n states → AreEnableStates states → (repeat n enable).Holds states
enables_have n states fits are = enables_of n states fits.count (All-from_recursion EnableFits states fits.each) are

-- ---- Link ends

same_test : (b : Bool) (some : ℕ) → b ≡ true ↔ (0 < some) → b ≡ ltb 0 some
same_test true some h = sym (lt-ltb 0 some (h.0 refl))
same_test false some h =
    elim (cases_lt 0 some) [
      | inl lt ↦ absurd (true≢false (sym (h.1 lt)))
      | inr le ↦ sym (le-ltb 0 some le)
    ]

module _ (gaps : List ℕ) (slot : ℕ) (states : List EndState) where
  abbrev there : List Bool
  there = map (λ gap. nat_lt 0 gap) gaps

  pub ends_there : length gaps ≡ 8 → EndsHaveGaps gaps states → (end : ℕ) → end < 8 → (slice_index_or states end absent_end).present ≡ slice_index_or there end false
  ends_there eight have end lt =
      same_test (slice_index_or states end absent_end).present (slice_index gaps end) (have end lt)
      ∙ sym (get_or-map (λ gap. ltb 0 gap) gaps end 0 false (omega (arith, eight, lt)))

  pub ends_have : length gaps ≡ 8 → slot < 4294967296 → AreSuch EndFits 8 states → AllByRecursion IsEndState states → EndsHaveGaps gaps states
      → AllByRecursion (λ (state : EndState). IfSome state.last (λ s. s < slot)) states → (link_ends there slot).Holds states
  ends_have eight early fits are have before =
      ends_of there slot states fits.count (omega (arith, early)) fits.each (record { each = are; present = ends_there eight have; last = before })
