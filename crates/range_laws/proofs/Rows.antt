-- What each row of the instruction table leaves: words, bytes and small numbers; and so is what a trap tells.
use Rattle.std.proofs.Common.{◌≡◌, ℕ, zero, suc, ◌+◌, ◌<◌, ◌%◌, Bool, true, false, not, ◌==◌, ◌&&◌, ◌||◌, length, slice_set, if◌then◌else◌, Option, Some, None, [], option_map, arith}
use Rattle.std.proofs.lemmas.Bool.{cond_both, and_parts}
use Rattle.std.specs.Prelude.{IfSome}
use Rattle.xs_base.specs.Numbers.{Word, Register, ThreadNumber, ChanNumber, PortNumber, Kind, Identifier}
use Rattle.xs_base.specs.Ids.{port_with, port_width}
use Rattle.xs_base.specs.declared.token.Token.TheVariants.{Byte, Ctrl}
use Rattle.xs_base.specs.declared.numbers.TheConstants.{TIMER_KIND, CHAN_END_KIND, SYNCHRONISER_KIND, THREAD_KIND, LOCK_KIND}
use Rattle.xs_model.specs.declared.modes.TheConstants.{OFF, ON, NO_CONDITION, AFTER, EVENT, INTERRUPT, STOP, START}
use Rattle.xs_model.specs.declared.traps.TheConstants.{ILLEGAL_RESOURCE, RESOURCE_DEPENDENCY}
use Rattle.xs_model.specs.declared.status.TheConstants.{EEBLE, INENB}
use Rattle.xs_model.specs.declared.thread.Thread.{Thread}
use Rattle.xs_model.specs.declared.thread.Run.{Run}
use Rattle.xs_model.specs.declared.thread.Run.TheVariants.{Going, Free, AtSync}
use Rattle.xs_model.specs.declared.thread.Wait.{Wait}
use Rattle.xs_model.specs.declared.thread.Wait.TheVariants as wait
use Rattle.xs_model.specs.declared.resource.Res.{Res}
use Rattle.xs_model.specs.declared.resource.Res.TheVariants as res
use Rattle.xs_model.specs.declared.resource.Resource.{Resource}
use Rattle.xs_model.specs.declared.resource.Resource.TheVariants as resource
use Rattle.xs_model.specs.Status.{without_bits}
use Rattle.xs_model.specs.Threads.{register, with_register}
use Rattle.xs_model.specs.Record.{CoreRec, ChanRec, TimerRec, ClockRec, SyncRec, LockRec, PortRec, EnablingRec, thread_of, chan_of, timer_of, clock_of, sync_of, lock_of, port_of, with_thread, with_run, with_chan, with_port, with_enabled}
use Rattle.xs_model.specs.Syncs.{is_thread, freed_sync, Claimed, Owns, IsHeld, IsRefused, free_lock, got_lock, claimed, released, freed_lock}
use Rattle.xs_model.specs.Time.{time_at, with_after, timer_holds, with_value, divided_by, on_clock, turned_off, started, stopped, freed_timer, got_timer}
use Rattle.xs_model.specs.Enabling.{with_vector, with_environment, in_mode as giving, enabled_for, forgotten}
use Rattle.xs_model.specs.Ports.{pin_happens}
use Rattle.xs_base.specs.Words.{shr}
use Rattle.xs_model.specs.PortActions.{Acted, Did, Got as Gives, Waits as PausesAt, Refused as Refuses, in_mode, set_value, tell_value, take_in, take_part, put_out, end_in, sync, tell_stamp, set_time, clear_time}
use Rattle.xs_model.specs.Waits.{is_in, all_in, division_is_over, is_waited_at, is_paused_on}
use Rattle.xs_instructions.specs.Instr.{InRange}
use Rattle.xs_instructions.specs.declared.instr.Instr.{Instr}
use Rattle.xs_instructions.specs.declared.instr.Instr.TheVariants.{Words, Memory, Flow, Kernel, Threads, Resources}
use Rattle.xs_instructions.specs.declared.instr.WordIns.{WordIns}
use Rattle.xs_instructions.specs.declared.instr.ThreadIns.{ThreadIns}
use Rattle.xs_instructions.specs.declared.instr.ThreadIns.TheVariants as threads
use Rattle.xs_instructions.specs.declared.instr.ResIns.{ResIns}
use Rattle.xs_instructions.specs.declared.instr.ResIns.TheVariants as resources
use Rattle.net_model.specs.Chans.{Found, Got, Waits, Refused, chan_named, freed_chan, found_at, put_token, put_word, take_word, take_byte, take_ctrl, check_token, look, look_word, take_dest, tell_dest, take_net, tell_net}
use Rattle.step_model.specs.Effect.{Setting, Effect, Done, Pause, Trap, Gone, Leaving, Leaves, Traps, Own, own_of, on_own, on_registers, reg, after_it, goes_on, goes_on_with, goes_on_in, pauses_at}
use Rattle.step_model.specs.DividerRows.{shares_divider, on_divider, words_effect}
use Rattle.step_model.specs.Named.{resource_named}
use Rattle.step_model.specs.ThreadRows.{thread_to_get, slave_got, by_master, as_master, slaves_go, slaves_are_freed, thread_is_freed, when_all_in, on_named_thread, on_thread, is_slave, may_start, sets_other, threads_row}
use Rattle.step_model.specs.TimeRows.{timer_becomes, clock_becomes, tells, takes_time}
use Rattle.step_model.specs.EventRows.{eventful, with_changed, sets_events, clears, waits_for_event, waits_where}
use Rattle.step_model.specs.ModeRows.{in_event_mode, timer_in_mode, with_restarted, clock_in_mode, resource_in_mode, turns_port, port_in_mode, sets_mode}
use Rattle.step_model.specs.PortRows.{goes_on_taking, ends_at_port, at_port, at_named_port, on_port, takes_no_word, takes_word, shifts_in_from_above, shifts_out_below, sets_clock, sets_strobe, sets_transfer_width, puts_word, puts_part, peeks, at_any}
use Rattle.step_model.specs.ResourceRows.{resources_row, resource_got, chan_was_got, sync_was_got, thread_was_got, timer_was_got, lock_was_got, without_chan, without_timer, without_sync, without_lock, without, freed, claimed_there, takes_in, puts_out, sets_data, tells_data, named_in, found_there, at_chan, on_named, on_chan, room, tokens, no_wait, takes_nothing, takes_into}
use Rattle.step_model.specs.Rows.{effect}
use Rattle.std.proofs.Common.{nat_le, ◌^◌, List, ◌∷◌, get_or, length-set, ◌∙◌}
use Rattle.std.proofs.lemmas.List.{length-map}
use Rattle.std.proofs.lemmas.Bool.{leb-true}
use Rattle.xs_base.specs.Ids.{chan_id, res_id}
use Rattle.xs_model.specs.Free.{lowest_free}
use Rattle.xs_model.specs.Outside.{LevelsFit, LevelsFitFrom}
use Rattle.xs_model.specs.Syncs.{is_sync_used, got_sync, with_bound, unbound}
use Rattle.xs_model.specs.Enabling.{cleared_by, without_threads, without_thread}
use Rattle.xs_model.specs.Threads.{fresh_thread}
use Rattle.xs_model.specs.Record.{with_sync, with_lock, with_timer, with_clock}
use Rattle.net_model.specs.Chans.{put_in_use, free_chan}
use Rattle.step_model.specs.DividerRows.{with_division}
use Rattle.step_model.specs.ThreadRows.{is_taken, with_got_thread, with_slaves_run, thread_id}
use Rattle.step_model.specs.WordRows.{words_row}
use Rattle.step_model.specs.Rows.{own_row}
use Rattle.port_laws.specs.Facts.{HasFacts}
use Rattle.state_bridge.specs.Fits.{ThreadFits}
use Rattle.range_laws.proofs.Words.{IsWord, below_word, low_word, shr_word}
use Rattle.range_laws.proofs.Threads.{fresh_fits, set_cp, set_dp, set_sp, set_lr, set_pc, set_sr, set_run, register_fits, register_word, goes_fits}
use Rattle.range_laws.proofs.Core.{CoreFits, ChanWords, TimerWord, ClockByte, EnablingWords, set_threads, set_memory, set_slots, set_syncs, set_locks, set_ports, set_enabled, thread_fits, chan_fits, timer_fits, clock_fits, thread_set, chan_set, timer_set, clock_set, last_set, runs_fit, changed_fits, forgotten_fits, all_disabled_fit, without_all_fit}
use Rattle.range_laws.proofs.OwnRows.{LeftWords, words_left, OwnFits, OwnLeft, memory_left, flow_left, kernel_left}
use Rattle.range_laws.proofs.Found.{FoundFits, put_token_fits, put_word_fits, take_word_fits, take_byte_fits, take_ctrl_fits, check_fits, look_fits, look_word_fits, take_dest_fits, tell_dest_fits, take_net_fits, tell_net_fits, at_fits, got_fits, freed_fits, low_byte, GivesGood, AnyWord, any_given, value_given, stamp_given, level_given, taken_given, part_given, end_given}

-- ---- What is left of a timer or a clock block

timer_if : (holds : Bool) (timer : TimerRec) → TimerWord timer → IfSome (if holds then Some timer else None) TimerWord
timer_if true timer is = is
timer_if false timer is = tt

clock_if : (holds : Bool) (clock : ClockRec) → ClockByte clock → IfSome (if holds then Some clock else None) ClockByte
clock_if true clock is = is
clock_if false clock is = tt

divided_fits : (divider : ℕ) (clock : ClockRec) → IfSome (divided_by divider clock) ClockByte
divided_fits divider clock =
    cond_both (clock.on && not clock.running && nat_le divider 255) (Some (record clock { divider = divider })) None (λ left. IfSome left ClockByte)
    (λ yes. let most = leb-true divider 255 (and_parts (clock.on && not clock.running) (nat_le divider 255) yes).1 in omega (arith, most)) (λ no. tt)

-- the lowest that is free of some is one of them
lowest_low : {A : Type 0} (is_taken : A → Bool) (list : List A) (n many : ℕ) → n + length list ≡ many → IfSome (lowest_free is_taken list n) (λ j. j < many)
unfolding lowest_free
lowest_low is_taken [] n many e = tt
lowest_low is_taken (a ∷ rest) n many e = by (is_taken a) (lowest_free is_taken rest (n + 1)) (lowest_low is_taken rest (n + 1) many (omega (arith, e)))
  where
    by : (taken : Bool) (found : Option ℕ) → IfSome found (λ j. j < many) → IfSome (if taken then found else Some n) (λ j. j < many)
    by true found low = low
    by false found low = omega (arith, e)

lowest_of : {A : Type 0} (is_taken : A → Bool) (list : List A) (many : ℕ) → length list ≡ many → IfSome (lowest_free is_taken list 0) (λ j. j < many)
lowest_of is_taken list many e = lowest_low is_taken list 0 many (omega (arith, e))

-- what the pins show are words
pub shown_word : (n : PortNumber) (levels : List Word) (p : ℕ) → LevelsFitFrom n levels → IsWord (get_or levels p 0)
shown_word n [] p fit = omega arith
shown_word n (level ∷ levels) zero fit = below_word level (port_width n) fit.0 (grind arith)
shown_word n (level ∷ levels) (suc p) fit = shown_word (n + 1) levels p fit.1

-- ---- The rows

abbrev pub LeftCore : Option CoreRec → Type 0
LeftCore left = IfSome left CoreFits

-- where an effect has a core
abbrev pub EffectFits : Effect → Type 0
EffectFits (Done after happened) = CoreFits after
EffectFits (Pause after wait happened) = CoreFits after
EffectFits (Trap number value) = IsWord number × IsWord value
EffectFits (Gone after happened) = CoreFits after

module _ (here : Setting) (core : CoreRec) (k : ThreadNumber) (few : k < 8) (id : here.id < 2 ^ 16) (shown : LevelsFit here.outside) (h : CoreFits core) (facts : (p : PortNumber) → HasFacts (port_width p) (port_of core p)) where
  either : (holds : Bool) (x y : Effect) → EffectFits x → EffectFits y → EffectFits (if holds then x else y)
  either true x y this that = this
  either false x y this that = that

  its : (g : Register) → IsWord (reg core k g)
  its g = register_word (thread_of core k) g (thread_fits core k h)

  refused : (name : Identifier) → IsWord name → EffectFits (Trap ILLEGAL_RESOURCE name)
  refused name is = (omega arith, is)

  on_with : (mid : CoreRec) (th : Thread) → CoreFits mid → ThreadFits th → CoreFits (with_thread mid k th)
  on_with mid th fits new = thread_set mid k th fits new

  goes : (mid : CoreRec) → CoreFits mid → CoreFits (goes_on mid k)
  goes mid fits = on_with mid (after_it (thread_of mid k)) fits (goes_fits (thread_of mid k) (thread_fits mid k fits))

  goes_with : (mid : CoreRec) (d : Register) (word : Word) → CoreFits mid → IsWord word → CoreFits (goes_on_with mid k d word)
  goes_with mid d word fits is =
      on_with mid (after_it (with_register (thread_of mid k) d word)) fits
      (goes_fits (with_register (thread_of mid k) d word) (register_fits (thread_of mid k) d word (thread_fits mid k fits) is))

  -- ---- Rows on the thread and the memory

  registers_fit : (left : Leaving Thread) → LeftWords left → EffectFits (on_registers core k left)
  registers_fit (Leaves th) new = on_with core (after_it th) h (goes_fits th new)
  registers_fit (Traps number value) are = are

  divider_fits : (left : Leaving Thread) → LeftWords left → EffectFits (on_divider here.slot core k left)
  divider_fits (Leaves th) new =
      let set = on_with core (after_it th) h (goes_fits th new) in
      either (division_is_over core.slots.division here.slot) (Done (with_division (with_thread core k (after_it th)) here.slot) []) (Pause core wait.Divider [])
      (set_slots (with_thread core k (after_it th)) (record core.slots { division = Some here.slot }) set set.last) h
  divider_fits (Traps number value) are = are

  words_fit : (ins : WordIns) → InRange (Words ins) → EffectFits (words_effect here core k ins)
  words_fit ins fits =
      let left = words_left (thread_of core k) (thread_fits core k h) ins fits in
      either (shares_divider here.edition ins) (on_divider here.slot core k (words_row (thread_of core k) ins)) (on_registers core k (words_row (thread_of core k) ins)) (divider_fits _ left) (registers_fit _ left)

  own_fits : OwnFits (own_of core k)
  own_fits = record { thread = thread_fits core k h; memory = h.memory }

  on_own_fits : (left : Leaving Own) → OwnLeft left → EffectFits (on_own core k left)
  on_own_fits (Leaves l) new = set_memory (with_thread core k l.thread) l.memory (on_with core l.thread h new.thread) new.memory
  on_own_fits (Traps number value) are = are

  -- ---- The rows on threads

  thread_id_word : (j : ThreadNumber) → j < 8 → IsWord (thread_id j)
  thread_id_word j low = omega (arith, low)

  to_get : IfSome (thread_to_get core) (λ j. j < 8)
  to_get = lowest_of (λ th. is_taken th.run) core.threads 8 h.threads.count

  got_thread : (j : ThreadNumber) → CoreFits (with_got_thread core j here.slot)
  got_thread j = last_set (with_thread core j fresh_thread) j here.slot (thread_set core j fresh_thread h fresh_fits)

  slave_got_fits : (d : Register) (n : ℕ) (got : Option ThreadNumber) → IfSome got (λ j. j < 8) → CoreFits (slave_got here core k d n got)
  slave_got_fits d n None low = goes_with core d 0 h (omega arith)
  slave_got_fits d n (Some j) low =
      let mid = with_got_thread core j here.slot in
      goes_with (with_sync mid n (with_bound j (sync_of core n))) d (thread_id j)
      (set_syncs mid (slice_set mid.syncs n (with_bound j (sync_of core n))) (got_thread j) (length-set core.syncs n _ ∙ h.syncs)) (thread_id_word j low)

  by_master_fits : (name : Identifier) (does : ℕ → Effect) → IsWord name → ((n : ℕ) → EffectFits (does n)) → (named : Option Resource) → EffectFits (by_master core k name does named)
  by_master_fits name does is so (Some (resource.Sync n)) = either (is_thread k (sync_of core n).master) (does n) (Trap ILLEGAL_RESOURCE name) (so n) (refused name is)
  by_master_fits name does is so _ = refused name is

  as_master_fits : (s : Register) (does : ℕ → Effect) → ((n : ℕ) → EffectFits (does n)) → EffectFits (as_master here core k s does)
  as_master_fits s does so = by_master_fits (reg core k s) does (its s) so (resource_named here.id (reg core k s))

  when_in_fits : (becomes : CoreRec → ℕ → CoreRec) (n : ℕ) → CoreFits (becomes core n) → EffectFits (when_all_in core k becomes n)
  when_in_fits becomes n fits = either (all_in core n) (Done (goes_on (becomes core n) k) []) (Pause core (wait.Slaves n) []) (goes (becomes core n) fits) h

  named_thread_fits : (name : Identifier) (allowed : ThreadNumber → Bool) (after : ThreadNumber → CoreRec) → IsWord name → ((j : ThreadNumber) → CoreFits (after j)) → (named : Option Resource) → EffectFits (on_named_thread core k name allowed after named)
  named_thread_fits name allowed after is so (Some (resource.Thread j)) = either (allowed j) (Done (goes_on (after j) k) []) (Trap ILLEGAL_RESOURCE name) (goes (after j) (so j)) (refused name is)
  named_thread_fits name allowed after is so _ = refused name is

  on_thread_fits : (s : Register) (allowed : ThreadNumber → Bool) (after : ThreadNumber → CoreRec) → ((j : ThreadNumber) → CoreFits (after j)) → EffectFits (on_thread here core k s allowed after)
  on_thread_fits s allowed after so = named_thread_fits (reg core k s) allowed after (its s) so (resource_named here.id (reg core k s))

  sets_other_fits : (s : Register) (sets : Thread → Thread) → ((th : Thread) → ThreadFits th → ThreadFits (sets th)) → EffectFits (sets_other here core k s sets)
  sets_other_fits s sets so =
      on_thread_fits s (λ j. is_in (thread_of core j).run) (λ j. with_thread core j (sets (thread_of core j)))
      (λ j. thread_set core j (sets (thread_of core j)) h (so (thread_of core j) (thread_fits core j h)))

  run_set : (mid : CoreRec) (j : ThreadNumber) (run : Run) → CoreFits mid → CoreFits (with_run mid j run)
  run_set mid j run fits = thread_set mid j (record (thread_of mid j) { run = run }) fits (set_run (thread_of mid j) run (thread_fits mid j fits))

  slaves_run : (n : ℕ) (run : Run) → CoreFits (with_slaves_run core n run)
  slaves_run n run = set_threads core _ h (runs_fit run (sync_of core n).slaves core.threads h.threads)

  slaves_freed : (n : ℕ) → CoreFits (slaves_are_freed core n)
  slaves_freed n =
      let mid = with_slaves_run core n Free in
      let unbinds = set_syncs mid (slice_set mid.syncs n (unbound (sync_of core n))) (slaves_run n Free) (length-set core.syncs n _ ∙ h.syncs) in
      set_enabled (with_sync mid n (unbound (sync_of core n))) (without_threads (sync_of core n).slaves core.enabled) unbinds (without_all_fit (sync_of core n).slaves core.enabled h.enabled)

  itself_freed : (mid : CoreRec) → CoreFits mid → CoreFits (thread_is_freed mid k)
  itself_freed mid fits = set_enabled (with_run mid k Free) (without_thread k mid.enabled) (run_set mid k Free fits) (all_disabled_fit _ mid.enabled fits.enabled)

  zero_word : IsWord 0
  zero_word = omega arith

  threads_fit : (ins : ThreadIns) → EffectFits (threads_row here core k ins)
  threads_fit (threads.Getst d s) =
      as_master_fits s (λ n. Done (slave_got here core k d n (thread_to_get core)) []) (λ n. slave_got_fits d n (thread_to_get core) to_get)
  threads_fit (threads.InitPc s x) = sets_other_fits s (λ th. record th { pc = reg core k x }) (λ th fits. set_pc th (reg core k x) fits (its x))
  threads_fit (threads.InitSp s x) = sets_other_fits s (λ th. record th { sp = reg core k x }) (λ th fits. set_sp th (reg core k x) fits (its x))
  threads_fit (threads.InitDp s x) = sets_other_fits s (λ th. record th { dp = reg core k x }) (λ th fits. set_dp th (reg core k x) fits (its x))
  threads_fit (threads.InitCp s x) = sets_other_fits s (λ th. record th { cp = reg core k x }) (λ th fits. set_cp th (reg core k x) fits (its x))
  threads_fit (threads.InitLr s x) = sets_other_fits s (λ th. record th { lr = reg core k x }) (λ th fits. set_lr th (reg core k x) fits (its x))
  threads_fit (threads.SetOther s d x) = sets_other_fits s (λ th. with_register th d (reg core k x)) (λ th fits. register_fits th d (reg core k x) fits (its x))
  threads_fit (threads.Start s) = on_thread_fits s (may_start core) (λ j. with_run core j Going) (λ j. run_set core j Going h)
  threads_fit (threads.Msync s) = as_master_fits s (when_all_in core k slaves_go) (λ n. when_in_fits slaves_go n (slaves_run n Going))
  threads_fit (threads.Mjoin s) = as_master_fits s (when_all_in core k slaves_are_freed) (λ n. when_in_fits slaves_are_freed n (slaves_freed n))
  threads_fit threads.Ssync = either (is_slave core k) (Done (with_run (goes_on core k) k AtSync) []) (Trap ILLEGAL_RESOURCE 0) (run_set (goes_on core k) k AtSync (goes core h)) (refused 0 zero_word)
  threads_fit threads.Freet =
      either (is_slave core k) (Trap ILLEGAL_RESOURCE 0) (Gone (thread_is_freed (goes_on core k) k) []) (refused 0 zero_word) (itself_freed (goes_on core k) (goes core h))

  -- ---- Getting a resource

  or_fits : (holds : Bool) (x y : CoreRec) → CoreFits x → CoreFits y → CoreFits (if holds then x else y)
  or_fits true x y this that = this
  or_fits false x y this that = that

  nothing_got : (d : Register) → CoreFits (goes_on_with core k d 0)
  nothing_got d = goes_with core d 0 h zero_word

  chan_got_fits : (d : Register) (got : Option ChanNumber) → IfSome got (λ c. c < 32) → CoreFits (chan_was_got here.id core k d got)
  chan_got_fits d None low = nothing_got d
  chan_got_fits d (Some c) low = goes_with (with_chan core c (put_in_use (chan_of core c))) d (chan_id here.id c) (chan_set core c (put_in_use (chan_of core c)) h (got_fits (chan_of core c) (chan_fits core c h))) (omega (arith, low, id))

  sync_got_fits : (d : Register) (got : Option ℕ) → IfSome got (λ n. n < 7) → CoreFits (sync_was_got core k d got)
  sync_got_fits d None low = nothing_got d
  sync_got_fits d (Some n) low =
      goes_with (with_sync core n (got_sync k)) d (res_id n SYNCHRONISER_KIND) (set_syncs core (slice_set core.syncs n (got_sync k)) h (length-set core.syncs n (got_sync k) ∙ h.syncs)) (omega (arith, low))

  thread_got_fits : (d : Register) (got : Option ThreadNumber) → IfSome got (λ j. j < 8) → CoreFits (thread_was_got here.slot core k d got)
  thread_got_fits d None low = nothing_got d
  thread_got_fits d (Some j) low = goes_with (with_got_thread core j here.slot) d (thread_id j) (got_thread j) (thread_id_word j low)

  timer_got_fits : (d : Register) (got : Option ℕ) → IfSome got (λ n. n < 10) → CoreFits (timer_was_got core k d got)
  timer_got_fits d None low = nothing_got d
  timer_got_fits d (Some n) low = goes_with (with_timer core n (got_timer (timer_of core n))) d (res_id n TIMER_KIND) (timer_set core n (got_timer (timer_of core n)) h (timer_fits core n h)) (omega (arith, low))

  lock_set : (n : ℕ) (lock : LockRec) → CoreFits (with_lock core n lock)
  lock_set n lock = set_locks core (slice_set core.locks n lock) h (length-set core.locks n lock ∙ h.locks)

  lock_got_fits : (d : Register) (got : Option ℕ) → IfSome got (λ n. n < 4) → CoreFits (lock_was_got core k d got)
  lock_got_fits d None low = nothing_got d
  lock_got_fits d (Some n) low = goes_with (with_lock core n (got_lock (lock_of core n))) d (res_id n LOCK_KIND) (lock_set n (got_lock (lock_of core n))) (omega (arith, low))

  got_fits_all : (d : Register) (kind : Kind) → CoreFits (resource_got here core k d kind)
  got_fits_all d kind =
      let timer = lowest_free (λ (timer : TimerRec). timer.used) core.timers 0 in
      let chan = free_chan core.chans 0 in
      let sync = lowest_free is_sync_used core.syncs 0 in
      let lock = lowest_free (λ (lock : LockRec). lock.used) core.locks 0 in
      or_fits (kind == TIMER_KIND) (timer_was_got core k d timer) _ (timer_got_fits d timer (lowest_of (λ (timer : TimerRec). timer.used) core.timers 10 h.timers.count))
      (or_fits (kind == CHAN_END_KIND) (chan_was_got here.id core k d chan) _ (chan_got_fits d chan (lowest_of (λ (chan : ChanRec). chan.used) core.chans 32 h.chans.count))
      (or_fits (kind == SYNCHRONISER_KIND) (sync_was_got core k d sync) _ (sync_got_fits d sync (lowest_of is_sync_used core.syncs 7 h.syncs))
      (or_fits (kind == THREAD_KIND) (thread_was_got here.slot core k d (thread_to_get core)) _ (thread_got_fits d (thread_to_get core) to_get)
      (or_fits (kind == LOCK_KIND) (lock_was_got core k d lock) (goes_on_with core k d 0) (lock_got_fits d lock (lowest_of (λ (lock : LockRec). lock.used) core.locks 4 h.locks)) (nothing_got d)))))

  -- ---- What is freed and set, where it is not refused

  or_left : (holds : Bool) (x y : Option CoreRec) → LeftCore x → LeftCore y → LeftCore (if holds then x else y)
  or_left true x y this that = this
  or_left false x y this that = that

  goes_in : (name : Identifier) (left : Option CoreRec) → IsWord name → LeftCore left → EffectFits (goes_on_in k name left)
  goes_in name None is fits = refused name is
  goes_in name (Some after) is fits = goes after fits

  forgets : (mid : CoreRec) (r : Res) → CoreFits mid → CoreFits (with_enabled mid (forgotten mid.enabled r))
  forgets mid r fits = set_enabled mid (forgotten mid.enabled r) fits (forgotten_fits mid.enabled r fits.enabled)

  chan_left : (c : ChanNumber) (left : Option ChanRec) → IfSome left ChanWords → LeftCore (without_chan core c left)
  chan_left c None fits = tt
  chan_left c (Some chan) fits = forgets (with_chan core c chan) (res.Chan c) (chan_set core c chan h fits)

  timer_left : (n : ℕ) (left : Option TimerRec) → IfSome left TimerWord → LeftCore (without_timer core n left)
  timer_left n None fits = tt
  timer_left n (Some timer) fits = forgets (with_timer core n timer) (res.Timer n) (timer_set core n timer h fits)

  sync_left : (n : ℕ) (left : Option SyncRec) → LeftCore (without_sync core n left)
  sync_left n None = tt
  sync_left n (Some sync) = set_syncs core (slice_set core.syncs n sync) h (length-set core.syncs n sync ∙ h.syncs)

  lock_left : (n : ℕ) (left : Option LockRec) → LeftCore (without_lock core n left)
  lock_left n None = tt
  lock_left n (Some lock) = lock_set n lock

  without_fits : (r : Resource) → LeftCore (without here core k r)
  without_fits (resource.Chan c) = chan_left c (freed_chan (here.is_busy c) (chan_of core c)) (freed_fits (here.is_busy c) (chan_of core c) (chan_fits core c h))
  without_fits (resource.Timer n) = timer_left n (freed_timer (timer_of core n)) (timer_if (timer_of core n).used _ zero_word)
  without_fits (resource.Sync n) = sync_left n (freed_sync k (sync_of core n))
  without_fits (resource.Lock n) = lock_left n (freed_lock (lock_of core n))
  without_fits (resource.Thread j) = tt
  without_fits (resource.Clock n) = tt
  without_fits (resource.Port p) = tt

  freed_all_fit : (name : Identifier) (named : Option Resource) → IsWord name → EffectFits (freed here core k name named)
  freed_all_fit name None is = refused name is
  freed_all_fit name (Some r) is = either (is_paused_on core r) (Trap ILLEGAL_RESOURCE name) (goes_on_in k name (without here core k r)) (refused name is) (goes_in name (without here core k r) is (without_fits r))

  timer_becomes_fits : (n : ℕ) (becomes : Option TimerRec) → IfSome becomes TimerWord → LeftCore (timer_becomes core n becomes)
  timer_becomes_fits n None fits = tt
  timer_becomes_fits n (Some timer) fits = timer_set core n timer h fits

  clock_becomes_fits : (n : ℕ) (becomes : Option ClockRec) → IfSome becomes ClockByte → LeftCore (clock_becomes core n becomes)
  clock_becomes_fits n None fits = tt
  clock_becomes_fits n (Some clock) fits = clock_set core n clock h fits

  restarted_fits : (n : ℕ) (becomes : Option ClockRec) → IfSome becomes ClockByte → LeftCore (option_map (with_restarted n) (clock_becomes core n becomes))
  restarted_fits n None fits = tt
  restarted_fits n (Some clock) fits = set_ports (with_clock core n clock) _ (clock_set core n clock h fits) (length-map core.ports _ ∙ h.ports)

  abbrev KeepsWords : (EnablingRec → EnablingRec) → Type 0
  KeepsWords changes = (e : EnablingRec) → EnablingWords e → EnablingWords (changes e)

  changed_left : (changes : EnablingRec → EnablingRec) → KeepsWords changes → (r : Option Res) → LeftCore (with_changed core changes r)
  changed_left changes so None = tt
  changed_left changes so (Some r) = set_enabled core _ h (changed_fits core.enabled r changes so h.enabled)

  event_mode_left : (x : Word) (r : Option Res) → LeftCore (in_event_mode core x r)
  event_mode_left x r =
      or_left (x == EVENT) (with_changed core (giving false) r) _ (changed_left (giving false) (λ e fits. fits) r)
      (or_left (x == INTERRUPT) (with_changed core (giving true) r) None (changed_left (giving true) (λ e fits. fits) r) tt)

  timer_mode_left : (n : ℕ) (x : Word) → LeftCore (timer_in_mode core n x)
  timer_mode_left n x =
      let timer = timer_of core n in
      or_left (x == NO_CONDITION) (timer_becomes core n (with_after false timer)) _ (timer_becomes_fits n (with_after false timer) (timer_if timer.used (record timer { after = false }) (timer_fits core n h)))
      (or_left (x == AFTER) (timer_becomes core n (with_after true timer)) _ (timer_becomes_fits n (with_after true timer) (timer_if timer.used (record timer { after = true }) (timer_fits core n h)))
      (event_mode_left x (eventful core (Some (resource.Timer n)))))

  clock_mode_left : (n : ℕ) (x : Word) → LeftCore (clock_in_mode core n x)
  clock_mode_left n x =
      let clock = clock_of core n in
      or_left (x == ON) (clock_becomes core n (Some on_clock)) _ (clock_becomes_fits n (Some on_clock) (omega arith))
      (or_left (x == OFF) (clock_becomes core n (turned_off clock)) _ (clock_becomes_fits n (turned_off clock) (clock_if clock.on _ (omega arith)))
      (or_left (x == START) (option_map (with_restarted n) (clock_becomes core n (started clock))) _ (restarted_fits n (started clock) (clock_if clock.on (record clock { running = true }) (clock_fits core n h)))
      (or_left (x == STOP) (clock_becomes core n (stopped clock)) None (clock_becomes_fits n (stopped clock) (clock_if clock.on (record clock { running = false }) (clock_fits core n h))) tt)))

  mode_left : (x : Word) (named : Option Resource) → LeftCore (resource_in_mode core x named)
  mode_left x (Some (resource.Chan c)) = event_mode_left x (eventful core (Some (resource.Chan c)))
  mode_left x (Some (resource.Timer n)) = timer_mode_left n x
  mode_left x (Some (resource.Clock n)) = clock_mode_left n x
  mode_left x _ = tt

  -- ---- Rows on a channel end

  pauses : (name : Identifier) (wait : Wait) → IsWord name → EffectFits (pauses_at core name wait)
  pauses name wait is = either (is_waited_at core wait) (Trap RESOURCE_DEPENDENCY name) (Pause core wait []) (omega arith, is) h

  abbrev TakesOn : (Word → Type 0) → (Word → Thread → Thread) → Type 0
  TakesOn Good takes = (word : Word) (th : Thread) → Good word → ThreadFits th → ThreadFits (takes word th)

  nothing_on : TakesOn IsWord takes_nothing
  nothing_on word th is fits = fits

  into_on : (d : Register) → TakesOn IsWord (takes_into d)
  into_on d word th is fits = register_fits th d word fits is

  there_fits : (name : Identifier) (c : ChanNumber) (wait : Wait) (takes : Word → Thread → Thread) → IsWord name → TakesOn IsWord takes → (found : Found) → FoundFits found → EffectFits (found_there core k name c wait takes found)
  there_fits name c wait takes is on (Got chan word) fits =
      on_with (with_chan core c chan) (after_it (takes word (thread_of core k))) (chan_set core c chan h fits.0) (goes_fits _ (on word (thread_of core k) fits.1 (thread_fits core k h)))
  there_fits name c wait takes is on Waits fits = pauses name wait is
  there_fits name c wait takes is on Refused fits = refused name is

  abbrev AtChan : (ChanRec → Found) → Type 0
  AtChan does = (chan : ChanRec) → ChanWords chan → FoundFits (does chan)

  at_chan_fits : (name : Identifier) (wait : ChanNumber → Wait) (does : ChanRec → Found) (takes : Word → Thread → Thread) → IsWord name → AtChan does → TakesOn IsWord takes → (c : ChanNumber) → EffectFits (at_chan core k name wait does takes c)
  at_chan_fits name wait does takes is so on c =
      there_fits name c (wait c) takes is on (found_at does (chan_of core c)) (at_fits (chan_of core c) (chan_fits core c h) does (so (chan_of core c) (chan_fits core c h)))

  on_named_fits : (name : Identifier) (wait : ChanNumber → Wait) (does : ChanRec → Found) (takes : Word → Thread → Thread) → IsWord name → AtChan does → TakesOn IsWord takes → (named : Option ChanNumber) → EffectFits (on_named core k name wait does takes named)
  on_named_fits name wait does takes is so on None = refused name is
  on_named_fits name wait does takes is so on (Some c) = at_chan_fits name wait does takes is so on c

  named_fits : (s : Register) (wait : ChanNumber → Wait) (does : ChanRec → Found) (takes : Word → Thread → Thread) → AtChan does → TakesOn IsWord takes → EffectFits (on_chan here core k s wait does takes)
  named_fits s wait does takes so on = on_named_fits (reg core k s) wait does takes (its s) so on (chan_named here.id (reg core k s))

  -- ---- Rows on a port

  port_set : (mid : CoreRec) (p : PortNumber) (port : PortRec) → CoreFits mid → CoreFits (with_port mid p port)
  port_set mid p port fits = set_ports mid (slice_set mid.ports p port) fits (length-set mid.ports p port ∙ fits.ports)

  taking_fits : (mid : CoreRec) (takes : Word → Thread → Thread) (Good : Word → Type 0) (word : Word) → CoreFits mid → TakesOn Good takes → Good word → CoreFits (goes_on_taking mid k takes word)
  taking_fits mid takes Good word fits on good = on_with mid (after_it (takes word (thread_of mid k))) fits (goes_fits _ (on word (thread_of mid k) good (thread_fits mid k fits)))

  ends_fit : (mid : CoreRec) (name : Identifier) (p : PortNumber) (takes : Word → Thread → Thread) (Good : Word → Type 0) → IsWord name → CoreFits mid → TakesOn Good takes → (acted : Acted) → GivesGood Good acted → EffectFits (ends_at_port mid k name p takes acted)
  ends_fit mid name p takes Good is fits on (Did port change) good = taking_fits (with_port mid p port) takes Good 0 (port_set mid p port fits) on good
  ends_fit mid name p takes Good is fits on (Gives port word) good = taking_fits (with_port mid p port) takes Good word (port_set mid p port fits) on good
  ends_fit mid name p takes Good is fits on (PausesAt port wait change) good =
      either (is_waited_at mid wait) (Trap RESOURCE_DEPENDENCY name) (Pause (with_port mid p port) wait (pin_happens p change)) (omega arith, is) (port_set mid p port fits)
  ends_fit mid name p takes Good is fits on Refuses good = refused name is

  abbrev PortTakes : (Word → Type 0) → (PortRec → Word → Thread → Thread) → Type 0
  PortTakes Good takes = (port : PortRec) → TakesOn Good (takes port)

  no_word_on : PortTakes AnyWord takes_no_word
  no_word_on port word th any fits = fits

  word_on : (d : Register) → PortTakes IsWord (takes_word d)
  word_on d port word th is fits = register_fits th d word fits is

  from_above_on : (d : Register) → PortTakes AnyWord (shifts_in_from_above d)
  from_above_on d port word th any fits = register_fits th d _ fits (low_word _)

  below_on : (d : Register) → PortTakes AnyWord (shifts_out_below d)
  below_on d port word th any fits = register_fits th d (shr (register th d) port.transfer_width) fits (shr_word (register th d) port.transfer_width (register_word th d fits))

  at_port_fits : (name : Identifier) (p : PortNumber) (takes : PortRec → Word → Thread → Thread) (does : PortRec → Acted) (Good : Word → Type 0) → IsWord name → PortTakes Good takes → GivesGood Good (does (port_of core p)) → EffectFits (at_port core k name p takes does)
  at_port_fits name p takes does Good is on good = ends_fit core name p (takes (port_of core p)) Good is h (on (port_of core p)) (does (port_of core p)) good

  at_named_port_fits : (name : Identifier) (takes : PortRec → Word → Thread → Thread) (does : PortNumber → PortRec → Acted) (Good : Word → Type 0) → IsWord name → PortTakes Good takes → ((p : PortNumber) → GivesGood Good (does p (port_of core p))) → (named : Option PortNumber) → EffectFits (at_named_port core k name takes does named)
  at_named_port_fits name takes does Good is on good None = refused name is
  at_named_port_fits name takes does Good is on good (Some p) = at_port_fits name p takes (does p) Good is on (good p)

  on_port_fits : (s : Register) (takes : PortRec → Word → Thread → Thread) (does : PortNumber → PortRec → Acted) (Good : Word → Type 0) → PortTakes Good takes → ((p : PortNumber) → GivesGood Good (does p (port_of core p))) → EffectFits (on_port core k s takes does)
  on_port_fits s takes does Good on good = at_named_port_fits (reg core k s) takes does Good (its s) on good (port_with (reg core k s))

  -- a row whose thread takes no word
  quiet_port : (s : Register) (takes : PortRec → Word → Thread → Thread) (does : PortNumber → PortRec → Acted) → PortTakes AnyWord takes → EffectFits (on_port core k s takes does)
  quiet_port s takes does on = on_port_fits s takes does AnyWord on (λ p. any_given (does p (port_of core p)))

  quiet_at : (name : Identifier) (p : PortNumber) (does : PortRec → Acted) → IsWord name → EffectFits (at_port core k name p takes_no_word does)
  quiet_at name p does is = at_port_fits name p takes_no_word does AnyWord is no_word_on (any_given (does (port_of core p)))

  -- ---- Rows on several kinds

  puts_out_fits : (name : Identifier) (word : Word) → IsWord name → (named : Option Resource) → EffectFits (puts_out core k name word named)
  puts_out_fits name word is (Some (resource.Chan c)) = at_chan_fits name (room 4) (put_word word) takes_nothing is (λ chan fits. put_word_fits chan fits word) nothing_on c
  puts_out_fits name word is (Some (resource.Lock n)) = goes_in name (without_lock core n (released k (lock_of core n))) is (lock_left n (released k (lock_of core n)))
  puts_out_fits name word is (Some (resource.Port p)) = quiet_at name p (put_out p word) is
  puts_out_fits name word is _ = refused name is

  claimed_fits : (d : Register) (name : Identifier) (n : ℕ) → IsWord name → (found : Claimed) → EffectFits (claimed_there core k d name n found)
  claimed_fits d name n is (Owns lock) = goes_with (with_lock core n lock) d name (lock_set n lock) is
  claimed_fits d name n is IsHeld = h
  claimed_fits d name n is IsRefused = refused name is

  time_fits : (d : Register) (name : Identifier) (n : ℕ) → IsWord name → EffectFits (takes_time here.slot core k d name n)
  time_fits d name n is =
      either (not (timer_of core n).used) (Trap ILLEGAL_RESOURCE name) _ (refused name is)
      (either (timer_holds here.slot (timer_of core n)) (Done (goes_on_with core k d (time_at here.slot)) []) (pauses_at core name (wait.Timer n)) (goes_with core d (time_at here.slot) h (low_word _)) (pauses name (wait.Timer n) is))

  takes_in_fits : (d : Register) (name : Identifier) → IsWord name → (named : Option Resource) → EffectFits (takes_in here.slot core k d name named)
  takes_in_fits d name is (Some (resource.Chan c)) = at_chan_fits name (tokens 4) take_word (takes_into d) is take_word_fits (into_on d) c
  takes_in_fits d name is (Some (resource.Timer n)) = time_fits d name n is
  takes_in_fits d name is (Some (resource.Lock n)) = claimed_fits d name n is (claimed k (lock_of core n))
  takes_in_fits d name is (Some (resource.Port p)) = at_port_fits name p (takes_word d) (take_in p None) IsWord is (word_on d) (taken_given p (port_of core p) (facts p) None)
  takes_in_fits d name is _ = refused name is

  sets_data_fits : (name : Identifier) (x : Word) → IsWord name → IsWord x → (named : Option Resource) → EffectFits (sets_data core k name x named)
  sets_data_fits name x is new (Some (resource.Chan c)) = at_chan_fits name no_wait (take_dest x) takes_nothing is (λ chan fits. take_dest_fits chan fits x new) nothing_on c
  sets_data_fits name x is new (Some (resource.Timer n)) =
      let timer = timer_of core n in goes_in name (timer_becomes core n (with_value x timer)) is (timer_becomes_fits n (with_value x timer) (timer_if timer.used (record timer { value = x }) new))
  sets_data_fits name x is new (Some (resource.Clock n)) =
      let clock = clock_of core n in goes_in name (clock_becomes core n (divided_by x clock)) is (clock_becomes_fits n (divided_by x clock) (divided_fits x clock))
  sets_data_fits name x is new (Some (resource.Port p)) = quiet_at name p (set_value (port_width p) x) is
  sets_data_fits name x is new _ = refused name is

  tells_fits : (d : Register) (name : Identifier) (used : Bool) (word : Word) → IsWord name → IsWord word → EffectFits (tells core k d name used word)
  tells_fits d name used word is told = either used (Done (goes_on_with core k d word) []) (Trap ILLEGAL_RESOURCE name) (goes_with core d word h told) (refused name is)

  tells_data_fits : (d : Register) (name : Identifier) → IsWord name → (named : Option Resource) → EffectFits (tells_data core k d name named)
  tells_data_fits d name is (Some (resource.Chan c)) = at_chan_fits name no_wait tell_dest (takes_into d) is tell_dest_fits (into_on d) c
  tells_data_fits d name is (Some (resource.Timer n)) = tells_fits d name (timer_of core n).used (timer_of core n).value is (timer_fits core n h)
  tells_data_fits d name is (Some (resource.Clock n)) = let byte = clock_fits core n h in tells_fits d name (clock_of core n).on (clock_of core n).divider is (omega (arith, byte))
  tells_data_fits d name is (Some (resource.Port p)) = at_port_fits name p (takes_word d) tell_value IsWord is (word_on d) (value_given p (port_of core p) (facts p))
  tells_data_fits d name is _ = refused name is

  -- ---- Modes and events

  turned_fits : (name : Identifier) (p : PortNumber) (x : Word) (is_off : Bool) → IsWord name
      → EffectFits (ends_at_port (if is_off then with_enabled core (forgotten core.enabled (res.Port p)) else core) k name p (takes_no_word (port_of core p)) (in_mode (port_width p) x (port_of core p)))
  turned_fits name p x true is =
      let acted = in_mode (port_width p) x (port_of core p) in
      ends_fit (with_enabled core (forgotten core.enabled (res.Port p))) name p (takes_no_word (port_of core p)) AnyWord is (forgets core (res.Port p) h) (no_word_on (port_of core p)) acted (any_given acted)
  turned_fits name p x false is =
      let acted = in_mode (port_width p) x (port_of core p) in ends_fit core name p (takes_no_word (port_of core p)) AnyWord is h (no_word_on (port_of core p)) acted (any_given acted)

  port_mode_fits : (name : Identifier) (p : PortNumber) (x : Word) → IsWord name → EffectFits (port_in_mode core k name p x)
  port_mode_fits name p x is =
      let named = eventful core (Some (resource.Port p)) in
      let turns : EffectFits (turns_port core k name p x) = either (is_paused_on core (resource.Port p)) (Trap ILLEGAL_RESOURCE name) _ (refused name is) (turned_fits name p x (x == OFF) is) in
      either ((x == EVENT) || (x == INTERRUPT)) (goes_on_in k name (in_event_mode core x named)) _ (goes_in name (in_event_mode core x named) is (event_mode_left x named))
      (either ((x == OFF) || (x == ON)) (turns_port core k name p x) (at_port core k name p takes_no_word (in_mode (port_width p) x)) turns (quiet_at name p (in_mode (port_width p) x) is))

  mode_fits : (name : Identifier) (x : Word) → IsWord name → (named : Option Resource) → EffectFits (sets_mode core k name x named)
  mode_fits name x is (Some (resource.Port p)) = port_mode_fits name p x is
  mode_fits name x is named = goes_in name (resource_in_mode core x named) is (mode_left x named)

  events_fit : (s : Register) (changes : EnablingRec → EnablingRec) → KeepsWords changes → EffectFits (sets_events core k (reg core k s) changes (named_in here core k s))
  events_fit s changes so = goes_in (reg core k s) (with_changed core changes (eventful core (named_in here core k s))) (its s) (changed_left changes so (eventful core (named_in here core k s)))

  enables_on : (is_on : Bool) → KeepsWords (enabled_for k is_on)
  enables_on true e fits = fits
  enables_on false e fits = fits

  clears_fits : CoreFits (clears core k)
  clears_fits =
      let th = thread_of core k in
      let cleared = record th { sr = without_bits th.sr (EEBLE + INENB) } in
      set_enabled (with_thread core k cleared) (cleared_by k core.enabled) (on_with core cleared h (set_sr th (without_bits th.sr (EEBLE + INENB)) (thread_fits core k h))) (all_disabled_fit _ core.enabled h.enabled)

  waits_fit : (holds : Bool) → EffectFits (waits_where core k holds)
  waits_fit true = let th = thread_of core k in on_with core (waits_for_event th) h (set_sr th _ (thread_fits core k h))
  waits_fit false = goes core h

  resources_fit : (ins : ResIns) → InRange (Resources ins) → EffectFits (resources_row here core k ins)
  resources_fit (resources.Getr d i) fits = got_fits_all d i
  resources_fit (resources.Freer s) fits = freed_all_fit (reg core k s) (named_in here core k s) (its s)
  resources_fit (resources.Out s x) fits = puts_out_fits (reg core k s) (reg core k x) (its s) (named_in here core k s)
  resources_fit (resources.Outt s x) fits = named_fits s (room 1) (put_token (Byte (reg core k x % 256))) takes_nothing (λ chan good. put_token_fits chan good (Byte (reg core k x % 256)) (low_byte (reg core k x))) nothing_on
  resources_fit (resources.Outct s x) fits = named_fits s (room 1) (put_token (Ctrl (reg core k x % 256))) takes_nothing (λ chan good. put_token_fits chan good (Ctrl (reg core k x % 256)) (low_byte (reg core k x))) nothing_on
  resources_fit (resources.OutctImm s i) fits = let small = fits.1.0 in named_fits s (room 1) (put_token (Ctrl i)) takes_nothing (λ chan good. put_token_fits chan good (Ctrl i) (omega (arith, small))) nothing_on
  resources_fit (resources.In d s) fits = takes_in_fits d (reg core k s) (its s) (named_in here core k s)
  resources_fit (resources.Int d s) fits = named_fits s (tokens 1) take_byte (takes_into d) take_byte_fits (into_on d)
  resources_fit (resources.Inct d s) fits = named_fits s (tokens 1) take_ctrl (takes_into d) take_ctrl_fits (into_on d)
  resources_fit (resources.Chkct s x) fits = named_fits s (tokens 1) (check_token (reg core k x)) takes_nothing (λ chan good. check_fits chan good (reg core k x)) nothing_on
  resources_fit (resources.ChkctImm s i) fits = named_fits s (tokens 1) (check_token i) takes_nothing (λ chan good. check_fits chan good i) nothing_on
  resources_fit (resources.Testct d s) fits = named_fits s (tokens 1) look (takes_into d) look_fits (into_on d)
  resources_fit (resources.Testwct d s) fits = named_fits s (tokens 4) look_word (takes_into d) look_word_fits (into_on d)
  resources_fit (resources.Setd s x) fits = sets_data_fits (reg core k s) (reg core k x) (its s) (its x) (named_in here core k s)
  resources_fit (resources.Getd d s) fits = tells_data_fits d (reg core k s) (its s) (named_in here core k s)
  resources_fit (resources.Setn s x) fits = named_fits s no_wait (take_net (reg core k x)) takes_nothing (λ chan good. take_net_fits chan good (reg core k x)) nothing_on
  resources_fit (resources.Getn d s) fits = named_fits s no_wait tell_net (takes_into d) tell_net_fits (into_on d)
  resources_fit (resources.SetcImm s u) fits = mode_fits (reg core k s) u (its s) (named_in here core k s)
  resources_fit (resources.Setc s x) fits = mode_fits (reg core k s) (reg core k x) (its s) (named_in here core k s)
  resources_fit (resources.Setv s) fits = events_fit s (with_vector (reg core k 11)) (λ e good. (its 11, good.1))
  resources_fit (resources.Setev s) fits = events_fit s (with_environment (reg core k 11)) (λ e good. (good.0, its 11))
  resources_fit (resources.Eeu s) fits = events_fit s (enabled_for k true) (enables_on true)
  resources_fit (resources.Edu s) fits = events_fit s (enabled_for k false) (enables_on false)
  resources_fit (resources.Eet x s) fits = events_fit s (enabled_for k (not (reg core k x == 0))) (enables_on (not (reg core k x == 0)))
  resources_fit (resources.Eef x s) fits = events_fit s (enabled_for k (reg core k x == 0)) (enables_on (reg core k x == 0))
  resources_fit resources.Clre fits = goes (clears core k) clears_fits
  resources_fit resources.Waiteu fits = waits_fit true
  resources_fit (resources.Waitet x) fits = waits_fit (not (reg core k x == 0))
  resources_fit (resources.Waitef x) fits = waits_fit (reg core k x == 0)
  resources_fit (resources.Inpw d s b) fits = on_port_fits s (takes_word d) (λ p. take_part p b) IsWord (word_on d) (λ p. part_given p (port_of core p) (facts p) b)
  resources_fit (resources.Outpw s x b) fits = quiet_port s takes_no_word (puts_part x b core k) no_word_on
  resources_fit (resources.Inshr d s) fits = quiet_port s (shifts_in_from_above d) (λ p. take_in p None) (from_above_on d)
  resources_fit (resources.Outshr s d) fits = quiet_port s (shifts_out_below d) (puts_word d core k) (below_on d)
  resources_fit (resources.Peek d s) fits = on_port_fits s (takes_word d) (peeks here.outside) IsWord (word_on d) (λ p. level_given p (port_of core p) (facts p) _ (shown_word 0 here.outside p shown))
  resources_fit (resources.Endin d s) fits = on_port_fits s (takes_word d) (at_any end_in) IsWord (word_on d) (λ p. end_given p (port_of core p) (facts p))
  resources_fit (resources.Syncr s) fits = quiet_port s takes_no_word sync no_word_on
  resources_fit (resources.Getts d s) fits = on_port_fits s (takes_word d) (at_any tell_stamp) IsWord (word_on d) (λ p. stamp_given p (port_of core p) (facts p))
  resources_fit (resources.Setpt s x) fits = quiet_port s takes_no_word (at_any (set_time (reg core k x))) no_word_on
  resources_fit (resources.Clrpt s) fits = quiet_port s takes_no_word (at_any clear_time) no_word_on
  resources_fit (resources.Setclk s x) fits = quiet_port s takes_no_word (sets_clock here.id core (reg core k x)) no_word_on
  resources_fit (resources.Setrdy s x) fits = quiet_port s takes_no_word (sets_strobe core (reg core k x)) no_word_on
  resources_fit (resources.Settw s x) fits = quiet_port s takes_no_word (sets_transfer_width (reg core k x)) no_word_on

  pub effect_fits : (ins : Instr) → InRange ins → EffectFits (effect here core k ins)
  effect_fits (Words ins) fits = words_fit ins fits
  effect_fits (Memory ins) fits = on_own_fits (own_row k (own_of core k) (Memory ins)) (memory_left (own_of core k) own_fits ins fits)
  effect_fits (Flow ins) fits = on_own_fits (own_row k (own_of core k) (Flow ins)) (flow_left (own_of core k) own_fits ins fits)
  effect_fits (Kernel ins) fits = on_own_fits (own_row k (own_of core k) (Kernel ins)) (kernel_left (own_of core k) own_fits k few ins fits)
  effect_fits (Threads ins) fits = threads_fit ins
  effect_fits (Resources ins) fits = resources_fit ins fits
