-- What each row of the instruction table makes of a core, as changes; and where its thread pauses, which is there.
use Rattle.std.proofs.Common.{◌≡◌, ℕ, zero, suc, ◌+◌, ◌<◌, ◌≤◌, ◌%◌, Bool, true, false, not, ◌==◌, ◌&&◌, ◌||◌, is_some, is_none, length, slice_set, if◌then◌else◌, Option, Some, None, [], option_map, refl, sym, subst, inl, inr, arith}
use Rattle.std.proofs.lemmas.Bool.{cond_both, and_parts, eqb-true, not-true, eqb-false, false≢true}
use Rattle.std.specs.Prelude.{IfSome, IsTrue}
use Rattle.xs_base.specs.Numbers.{Word, Register, ThreadNumber, ChanNumber, PortNumber, Kind, Identifier}
use Rattle.xs_base.specs.Ids.{port_with, port_width}
use Rattle.xs_base.specs.declared.token.Token.TheVariants.{Byte, Ctrl}
use Rattle.xs_base.specs.declared.numbers.TheConstants.{PORTS, THREADS, CHAN_ENDS, TIMER_KIND, CHAN_END_KIND, SYNCHRONISER_KIND, THREAD_KIND, LOCK_KIND}
use Rattle.xs_model.specs.declared.clock.Clock.{Clock}
use Rattle.xs_model.specs.declared.clock.Clock.TheVariants.{Reference, Block}
use Rattle.xs_model.specs.declared.modes.TheConstants.{OFF, ON, NO_CONDITION, AFTER, EVENT, INTERRUPT, STOP, START}
use Rattle.xs_model.specs.declared.traps.TheConstants.{ILLEGAL_RESOURCE, RESOURCE_DEPENDENCY}
use Rattle.xs_model.specs.declared.status.TheConstants.{EEBLE, INENB}
use Rattle.xs_model.specs.declared.thread.Thread.{Thread}
use Rattle.xs_model.specs.declared.thread.Run.TheVariants.{Going}
use Rattle.xs_model.specs.declared.thread.Wait.{Wait}
use Rattle.xs_model.specs.declared.thread.Wait.TheVariants as wait
use Rattle.xs_model.specs.declared.resource.Res.{Res}
use Rattle.xs_model.specs.declared.resource.Res.TheVariants as res
use Rattle.xs_model.specs.declared.resource.Resource.{Resource}
use Rattle.xs_model.specs.declared.resource.Resource.TheVariants as resource
use Rattle.xs_model.specs.Status.{without_bits}
use Rattle.xs_model.specs.Threads.{with_register}
use Rattle.xs_model.specs.Record.{CoreRec, ChanRec, TimerRec, ClockRec, SyncRec, LockRec, PortRec, EnablingRec, unused_sync, unused_lock, thread_of, chan_of, timer_of, clock_of, sync_of, lock_of, port_of, with_thread, with_run, with_chan, with_port, with_enabled}
use Rattle.xs_model.specs.Syncs.{is_thread, freed_sync, Claimed, Owns, IsHeld, IsRefused, got_lock, free_lock, claimed_from, claimed, released, freed_lock}
use Rattle.xs_model.specs.Time.{timer_holds, with_value, divided_by, on_clock, turned_off, started, stopped, freed_timer, got_timer}
use Rattle.xs_model.specs.Enabling.{with_vector, with_environment, in_mode as giving, enabled_for, forgotten}
use Rattle.xs_model.specs.PortActions.{Acted, Did, Got as Gives, Waits as PausesAt, Refused as Refuses, in_mode, set_clock, set_strobe, may_strobe, set_value, tell_value, take_in, take_part, put_out, end_in, sync, tell_stamp, set_time, clear_time}
use Rattle.xs_model.specs.Waits.{is_in, all_in, division_is_over, is_waited_at, is_paused_on}
use Rattle.xs_instructions.specs.Instr.{InRange, is_width}
use Rattle.xs_instructions.specs.declared.instr.Instr.{Instr}
use Rattle.xs_instructions.specs.declared.instr.Instr.TheVariants.{Words, Memory, Flow, Kernel, Threads, Resources}
use Rattle.xs_instructions.specs.declared.instr.WordIns.{WordIns}
use Rattle.xs_instructions.specs.declared.instr.ThreadIns.{ThreadIns}
use Rattle.xs_instructions.specs.declared.instr.ThreadIns.TheVariants as threads
use Rattle.xs_instructions.specs.declared.instr.ResIns.{ResIns}
use Rattle.xs_instructions.specs.declared.instr.ResIns.TheVariants as resources
use Rattle.net_model.specs.Chans.{Found, Got, Waits, Refused, chan_named, freed_chan, found_at, put_token, put_word, take_word, take_byte, take_ctrl, check_token, look, look_word, take_dest, tell_dest, take_net, tell_net}
use Rattle.step_model.specs.Effect.{Setting, Effect, Done, Pause, Trap, Gone, Leaving, Leaves, Traps, Own, own_of, on_own, on_registers, reg, after_it, goes_on, goes_on_with, goes_on_in, pauses_at}
use Rattle.step_model.specs.DividerRows.{shares_divider, on_divider, words_effect}
use Rattle.step_model.specs.Named.{resource_named}
use Rattle.step_model.specs.ThreadRows.{thread_to_get, slave_got, by_master, as_master, slaves_go, slaves_are_freed, thread_is_freed, when_all_in, on_named_thread, on_thread, is_slave, may_start, sets_other, threads_row}
use Rattle.step_model.specs.TimeRows.{timer_becomes, clock_becomes, takes_time}
use Rattle.step_model.specs.EventRows.{eventful, with_changed, sets_events, clears, waits_where}
use Rattle.step_model.specs.ModeRows.{in_event_mode, timer_in_mode, with_restarted, clock_in_mode, resource_in_mode, turns_port, port_in_mode, sets_mode}
use Rattle.step_model.specs.PortRows.{clock_if_on, clock_named, strobe_if_allowed, strobe_named, ends_at_port, at_port, at_named_port, on_port, takes_no_word, takes_word, shifts_in_from_above, shifts_out_below, sets_where, sets_clock, sets_strobe, sets_transfer_width, puts_word, puts_part, peeks, at_any}
use Rattle.step_model.specs.ResourceRows.{resources_row, resource_got, chan_was_got, sync_was_got, thread_was_got, timer_was_got, lock_was_got, without_chan, without_timer, without_sync, without_lock, without, freed, claimed_there, takes_in, puts_out, sets_data, tells_data, named_in, found_there, on_named, room, tokens, no_wait, takes_nothing, takes_into}
use Rattle.step_model.specs.Rows.{effect}
use Rattle.step_laws.proofs.Named.{IsPort, port_is_there}
use Rattle.single_port.specs.Asks.{IsClock}
use Rattle.single_port.specs.States.{IsStrobeState}
use Rattle.core_step.specs.ThreadStates.{IsWaitState}
use Rattle.state_laws.proofs.Changes.{Change, Changes, no_change, and_then, PortRow}
use Rattle.state_laws.proofs.Changes as change
use Rattle.state_laws.proofs.Enabling.{IsByThread, changed_by, forgotten_by, enabled_by, cleared_stays}
use Rattle.state_laws.proofs.Found.{FoundStays, put_token_stays, put_word_stays, take_word_stays, take_byte_stays, take_ctrl_stays, check_stays, look_stays, look_word_stays, take_dest_stays, tell_dest_stays, take_net_stays, tell_net_stays, at_stays, chan_stays, got_stays, FreedStays, freed_stays}
use Rattle.state_laws.proofs.Names.{IsThere, NamesThere, NamesChan, chan_there, named_there}
use Rattle.state_laws.proofs.PortWaits.{WaitsThere, row_waits}
use Rattle.state_laws.proofs.Runs.{LeftDoes, OwnDoes, register_so, words_so, memory_so, flow_so, kernel_so}

-- ---- What is refused or done, whatever the core

released_owner : (k : ThreadNumber) (lock : LockRec) → IfSome (released k lock) (λ left. IfSome left.owner (λ owner. owner ≡ k))
released_owner k lock = by (lock.used && is_thread k lock.owner)
  where
    by : (test : Bool) → IfSome (if test then Some free_lock else None) (λ left. IfSome left.owner (λ owner. owner ≡ k))
    by true = tt
    by false = tt

freed_owner : (k : ThreadNumber) (lock : LockRec) → IfSome (freed_lock lock) (λ left. IfSome left.owner (λ owner. owner ≡ k))
freed_owner k lock = by (lock.used && is_none lock.owner)
  where
    by : (test : Bool) → IfSome (if test then Some unused_lock else None) (λ left. IfSome left.owner (λ owner. owner ≡ k))
    by true = tt
    by false = tt

freed_is_unused : (k : ThreadNumber) (sync : SyncRec) → IfSome (freed_sync k sync) (λ left. left ≡ unused_sync)
freed_is_unused k sync = by (is_thread k sync.master && (length sync.slaves == 0))
  where
    by : (test : Bool) → IfSome (if test then Some unused_sync else None) (λ left. left ≡ unused_sync)
    by true = refl
    by false = tt

abbrev OwnsRight : ThreadNumber → Claimed → Type 0
OwnsRight k (Owns lock) = IfSome lock.owner (λ owner. owner ≡ k)
OwnsRight k IsHeld = Unit {0}
OwnsRight k IsRefused = Unit {0}

claimed_right : (k : ThreadNumber) (lock : LockRec) → OwnsRight k (claimed k lock)
claimed_right k lock = by lock.used
  where
    if_own : (own : Bool) → OwnsRight k (if own then IsRefused else IsHeld)
    if_own true = tt
    if_own false = tt

    from : (owner : Option ThreadNumber) → OwnsRight k (claimed_from k owner)
    from None = refl
    from (Some owner) = if_own (owner == k)

    by : (used : Bool) → OwnsRight k (if used then claimed_from k lock.owner else IsRefused)
    by true = from lock.owner
    by false = tt

-- a port of one pin is one of the first sixteen
one_pin : (p : PortNumber) → port_width p ≡ 1 → p < 16
one_pin p one = grind (arith, one)

strobe_is : (p strobe : PortNumber) (port : PortRec) → may_strobe p strobe port ≡ true → IsStrobeState p strobe
strobe_is p strobe port may =
    let parts = and_parts (not (strobe == p)) ((port_width strobe == 1) && port.on) may in
    let one = and_parts (port_width strobe == 1) port.on parts.1 in
    record { other = eqb-false strobe p (not-true (strobe == p) parts.0); one = one_pin strobe (eqb-true (port_width strobe) 1 one.0) }

-- a part of a transfer has some bits
width_some : (b : ℕ) → IsTrue (is_width b) → 1 ≤ b
width_some b is = by b is
  where
    by : (b : ℕ) → IsTrue (is_width b) → 1 ≤ b
    by zero is = absurd (false≢true is)
    by (suc b) is = omega arith

none_if_not : {A : Type 0} (found : Option A) → is_some found ≡ false → found ≡ None
none_if_not None is = refl
none_if_not (Some a) is = cc

-- where a thread waits at a channel end
abbrev WaitsAtChan : (ChanNumber → Wait) → Type 0
WaitsAtChan wait = (c : ChanNumber) → c < CHAN_ENDS → IsWaitState (wait c)

-- ---- The rows

module _ (S : Type 0) (here : Setting) (core : CoreRec) (k : ThreadNumber) where
  abbrev pub Goes : CoreRec → Type 0
  Goes after = Changes S here k core after

  -- where an effect has a core
  abbrev pub EffectGoes : Effect → Type 0
  EffectGoes (Done after happened) = Goes after
  EffectGoes (Pause after wait happened) = Goes after × IsWaitState wait
  EffectGoes (Trap number value) = Unit {0}
  EffectGoes (Gone after happened) = Goes after

  stays : Goes core
  stays = no_change

  one : (after : CoreRec) → Change S here k core after → Goes after
  one after changes = and_then core after no_change changes

  -- an effect or another
  either : (holds : Bool) (x y : Effect) → EffectGoes x → EffectGoes y → EffectGoes (if holds then x else y)
  either true x y this that = this
  either false x y this that = that

  -- and the thread goes on, with other registers
  on_with : (mid : CoreRec) (th : Thread) → Goes mid → th.run ≡ (thread_of mid k).run → Goes (with_thread mid k th)
  on_with mid th goes same = and_then mid (with_thread mid k th) goes (change.sets k th (inl same))

  goes : (mid : CoreRec) → Goes mid → Goes (goes_on mid k)
  goes mid h = on_with mid (after_it (thread_of mid k)) h refl

  goes_with : (mid : CoreRec) (d : Register) (word : Word) → Goes mid → Goes (goes_on_with mid k d word)
  goes_with mid d word h =
      on_with mid (after_it (with_register (thread_of mid k) d word)) h (register_so (thread_of mid k).run (thread_of mid k) d word refl)

  on_registers_goes : (left : Leaving Thread) → LeftDoes (thread_of core k).run left → EffectGoes (on_registers core k left)
  on_registers_goes (Leaves th) same = on_with core (after_it th) stays same
  on_registers_goes (Traps number value) same = tt

  on_divider_goes : (left : Leaving Thread) → LeftDoes (thread_of core k).run left → EffectGoes (on_divider here.slot core k left)
  on_divider_goes (Leaves th) same =
      let set = with_thread core k (after_it th) in
      either (division_is_over core.slots.division here.slot) _ (Pause core wait.Divider [])
      (and_then set _ (on_with core (after_it th) stays same) change.divides) (stays, tt)
  on_divider_goes (Traps number value) same = tt

  words_goes : (ins : WordIns) → EffectGoes (words_effect here core k ins)
  words_goes ins =
      let same = words_so (thread_of core k).run (thread_of core k) ins refl in
      either (shares_divider here.edition ins) _ _ (on_divider_goes _ same) (on_registers_goes _ same)

  on_own_goes : (left : Leaving Own) → OwnDoes (thread_of core k).run left → EffectGoes (on_own core k left)
  on_own_goes (Leaves l) same = and_then (with_thread core k l.thread) _ (on_with core l.thread stays same) (change.stores l.memory)
  on_own_goes (Traps number value) same = tt

  -- ---- The rows on threads

  slave_got_goes : (d : Register) (n : ℕ) (got : Option ThreadNumber) → thread_to_get core ≡ got → is_thread k (sync_of core n).master ≡ true → Goes (slave_got here core k d n got)
  slave_got_goes d n None is master = goes_with core d 0 stays
  slave_got_goes d n (Some j) is master = goes_with _ d _ (one _ (change.gets_slave j n is master))

  abbrev MasterGoes : (ℕ → Effect) → Type 0
  MasterGoes does = (n : ℕ) → IsThere (resource.Sync n) → is_thread k (sync_of core n).master ≡ true → EffectGoes (does n)

  by_master_goes : (name : Identifier) (does : ℕ → Effect) → MasterGoes does → (named : Option Resource) → NamesThere named → EffectGoes (by_master core k name does named)
  by_master_goes name does h (Some (resource.Sync n)) there =
      cond_both (is_thread k (sync_of core n).master) (does n) (Trap ILLEGAL_RESOURCE name) EffectGoes (λ master. h n there master) (λ other. tt)
  by_master_goes name does h _ there = tt

  as_master_goes : (s : Register) (does : ℕ → Effect) → MasterGoes does → EffectGoes (as_master here core k s does)
  as_master_goes s does h = by_master_goes (reg core k s) does h (resource_named here.id (reg core k s)) (named_there here.id (reg core k s))

  when_in_goes : (becomes : CoreRec → ℕ → CoreRec) (n : ℕ) → IsThere (resource.Sync n) → Goes (becomes core n) → EffectGoes (when_all_in core k becomes n)
  when_in_goes becomes n there h = either (all_in core n) _ (Pause core (wait.Slaves n) []) (goes (becomes core n) h) (stays, there)

  named_thread_goes : (name : Identifier) (allowed : ThreadNumber → Bool) (after : ThreadNumber → CoreRec) → ((j : ThreadNumber) → Goes (after j)) → (named : Option Resource) → EffectGoes (on_named_thread core k name allowed after named)
  named_thread_goes name allowed after h (Some (resource.Thread j)) = either (allowed j) _ (Trap ILLEGAL_RESOURCE name) (goes (after j) (h j)) tt
  named_thread_goes name allowed after h _ = tt

  on_thread_goes : (s : Register) (allowed : ThreadNumber → Bool) (after : ThreadNumber → CoreRec) → ((j : ThreadNumber) → Goes (after j)) → EffectGoes (on_thread here core k s allowed after)
  on_thread_goes s allowed after h = named_thread_goes (reg core k s) allowed after h (resource_named here.id (reg core k s))

  sets_other_goes : (s : Register) (sets : Thread → Thread) → ((th : Thread) → (sets th).run ≡ th.run) → EffectGoes (sets_other here core k s sets)
  sets_other_goes s sets same =
      on_thread_goes s (λ j. is_in (thread_of core j).run) (λ j. with_thread core j (sets (thread_of core j)))
      (λ j. one _ (change.sets j (sets (thread_of core j)) (inl (same (thread_of core j)))))

  freed_itself_goes : (slave : Bool) → is_slave core k ≡ slave → EffectGoes (if slave then Trap ILLEGAL_RESOURCE 0 else Gone (thread_is_freed (goes_on core k) k) [])
  freed_itself_goes true is = tt
  freed_itself_goes false is = and_then (goes_on core k) _ (goes core stays) (change.frees_itself (none_if_not _ is))

  threads_goes : (ins : ThreadIns) → EffectGoes (threads_row here core k ins)
  threads_goes (threads.Getst d s) =
      as_master_goes s (λ n. Done (slave_got here core k d n (thread_to_get core)) []) (λ n there master. slave_got_goes d n _ refl master)
  threads_goes (threads.InitPc s x) = sets_other_goes s (λ th. record th { pc = reg core k x }) (λ th. refl)
  threads_goes (threads.InitSp s x) = sets_other_goes s (λ th. record th { sp = reg core k x }) (λ th. refl)
  threads_goes (threads.InitDp s x) = sets_other_goes s (λ th. record th { dp = reg core k x }) (λ th. refl)
  threads_goes (threads.InitCp s x) = sets_other_goes s (λ th. record th { cp = reg core k x }) (λ th. refl)
  threads_goes (threads.InitLr s x) = sets_other_goes s (λ th. record th { lr = reg core k x }) (λ th. refl)
  threads_goes (threads.SetOther s d x) = sets_other_goes s (λ th. with_register th d (reg core k x)) (λ th. register_so th.run th d (reg core k x) refl)
  threads_goes (threads.Start s) = on_thread_goes s (may_start core) (λ j. with_run core j Going) (λ j. one _ (change.sets j _ (inr (tt, refl))))
  threads_goes (threads.Msync s) =
      as_master_goes s (when_all_in core k slaves_go) (λ n there master. when_in_goes slaves_go n there (one _ (change.lets_slaves_go n)))
  threads_goes (threads.Mjoin s) =
      as_master_goes s (when_all_in core k slaves_are_freed) (λ n there master. when_in_goes slaves_are_freed n there (one _ (change.frees_slaves n)))
  threads_goes threads.Ssync =
      either (is_slave core k) _ (Trap ILLEGAL_RESOURCE 0) (and_then (goes_on core k) _ (goes core stays) (change.sets k _ (inr (tt, refl)))) tt
  threads_goes threads.Freet = freed_itself_goes (is_slave core k) refl

  -- ---- Getting a resource

  or_goes : (holds : Bool) (x y : CoreRec) → Goes x → Goes y → Goes (if holds then x else y)
  or_goes true x y this that = this
  or_goes false x y this that = that

  chan_got_goes : (d : Register) (got : Option ChanNumber) → Goes (chan_was_got here.id core k d got)
  chan_got_goes d None = goes_with core d 0 stays
  chan_got_goes d (Some c) = goes_with _ d _ (one _ (change.sets_chan c _ (got_stays (chan_of core c) (here.is_busy c))))

  sync_got_goes : (d : Register) (got : Option ℕ) → Goes (sync_was_got core k d got)
  sync_got_goes d None = goes_with core d 0 stays
  sync_got_goes d (Some n) = goes_with _ d _ (one _ (change.gets_sync n))

  thread_got_goes : (d : Register) (got : Option ThreadNumber) → thread_to_get core ≡ got → Goes (thread_was_got here.slot core k d got)
  thread_got_goes d None is = goes_with core d 0 stays
  thread_got_goes d (Some j) is = goes_with _ d _ (one _ (change.gets_thread j is))

  timer_got_goes : (d : Register) (got : Option ℕ) → Goes (timer_was_got core k d got)
  timer_got_goes d None = goes_with core d 0 stays
  timer_got_goes d (Some n) = goes_with _ d _ (one _ (change.sets_timer n (got_timer (timer_of core n))))

  lock_got_goes : (d : Register) (got : Option ℕ) → Goes (lock_was_got core k d got)
  lock_got_goes d None = goes_with core d 0 stays
  lock_got_goes d (Some n) = goes_with _ d _ (one _ (change.sets_lock n (got_lock (lock_of core n)) (inl refl)))

  got_goes : (d : Register) (kind : Kind) → Goes (resource_got here core k d kind)
  got_goes d kind =
      or_goes (kind == TIMER_KIND) _ _ (timer_got_goes d _)
      (or_goes (kind == CHAN_END_KIND) _ _ (chan_got_goes d _)
      (or_goes (kind == SYNCHRONISER_KIND) _ _ (sync_got_goes d _)
      (or_goes (kind == THREAD_KIND) _ _ (thread_got_goes d _ refl)
      (or_goes (kind == LOCK_KIND) _ _ (lock_got_goes d _) (goes_with core d 0 stays)))))

  -- ---- What is freed and set, where it is not refused

  abbrev LeftGoes : Option CoreRec → Type 0
  LeftGoes left = IfSome left Goes

  or_left : (holds : Bool) (x y : Option CoreRec) → LeftGoes x → LeftGoes y → LeftGoes (if holds then x else y)
  or_left true x y this that = this
  or_left false x y this that = that

  goes_in : (name : Identifier) (left : Option CoreRec) → LeftGoes left → EffectGoes (goes_on_in k name left)
  goes_in name None h = tt
  goes_in name (Some after) h = goes after h

  forgets : (mid : CoreRec) (r : Res) → Goes mid → Goes (with_enabled mid (forgotten mid.enabled r))
  forgets mid r h = and_then mid _ h (change.sets_enabled _ (λ thread all. forgotten_by mid.enabled r all))

  chan_left : (c : ChanNumber) (left : Option ChanRec) → FreedStays (chan_of core c) (here.is_busy c) left → LeftGoes (without_chan core c left)
  chan_left c None h = tt
  chan_left c (Some chan) h = forgets (with_chan core c chan) (res.Chan c) (one _ (change.sets_chan c chan h))

  timer_left : (n : ℕ) (left : Option TimerRec) → LeftGoes (without_timer core n left)
  timer_left n None = tt
  timer_left n (Some timer) = forgets _ (res.Timer n) (one _ (change.sets_timer n timer))

  sync_left : (n : ℕ) (left : Option SyncRec) → IfSome left (λ sync. sync ≡ unused_sync) → LeftGoes (without_sync core n left)
  sync_left n None h = tt
  sync_left n (Some sync) h = subst (λ (s : SyncRec). Goes (record core { syncs = slice_set core.syncs n s })) (sym h) (one _ (change.frees_sync n))

  lock_left : (n : ℕ) (left : Option LockRec) → IfSome left (λ lock. IfSome lock.owner (λ owner. owner ≡ k)) → LeftGoes (without_lock core n left)
  lock_left n None h = tt
  lock_left n (Some lock) h = one _ (change.sets_lock n lock (inr h))

  without_goes : (r : Resource) → LeftGoes (without here core k r)
  without_goes (resource.Chan c) = chan_left c (freed_chan (here.is_busy c) (chan_of core c)) (freed_stays (chan_of core c) (here.is_busy c))
  without_goes (resource.Timer n) = timer_left n (freed_timer (timer_of core n))
  without_goes (resource.Sync n) = sync_left n (freed_sync k (sync_of core n)) (freed_is_unused k (sync_of core n))
  without_goes (resource.Lock n) = lock_left n (freed_lock (lock_of core n)) (freed_owner k (lock_of core n))
  without_goes (resource.Thread j) = tt
  without_goes (resource.Clock n) = tt
  without_goes (resource.Port p) = tt

  freed_goes : (name : Identifier) (named : Option Resource) → EffectGoes (freed here core k name named)
  freed_goes name None = tt
  freed_goes name (Some r) = either (is_paused_on core r) (Trap ILLEGAL_RESOURCE name) _ tt (goes_in name (without here core k r) (without_goes r))

  timer_becomes_goes : (n : ℕ) (becomes : Option TimerRec) → LeftGoes (timer_becomes core n becomes)
  timer_becomes_goes n None = tt
  timer_becomes_goes n (Some timer) = one _ (change.sets_timer n timer)

  clock_becomes_goes : (n : ℕ) (becomes : Option ClockRec) → LeftGoes (clock_becomes core n becomes)
  clock_becomes_goes n None = tt
  clock_becomes_goes n (Some clock) = one _ (change.sets_clock n clock)

  restarted_goes : (n : ℕ) (becomes : Option ClockRec) → LeftGoes (option_map (with_restarted n) (clock_becomes core n becomes))
  restarted_goes n None = tt
  restarted_goes n (Some clock) = and_then _ _ (one _ (change.sets_clock n clock)) (change.starts_clock n)

  -- what a resource gives stays by threads
  abbrev ByThreads : (EnablingRec → EnablingRec) → Type 0
  ByThreads changes = (e : EnablingRec) → k < THREADS → IsByThread e → IsByThread (changes e)

  changed_goes : (changes : EnablingRec → EnablingRec) → ByThreads changes → (r : Option Res) → LeftGoes (with_changed core changes r)
  changed_goes changes by None = tt
  changed_goes changes by (Some r) = one _ (change.sets_enabled _ (λ thread all. changed_by core.enabled r changes (λ e h. by e thread h) all))

  event_mode_goes : (x : Word) (r : Option Res) → LeftGoes (in_event_mode core x r)
  event_mode_goes x r =
      or_left (x == EVENT) _ _ (changed_goes (giving false) (λ e thread h. h) r)
      (or_left (x == INTERRUPT) _ None (changed_goes (giving true) (λ e thread h. h) r) tt)

  timer_mode_goes : (n : ℕ) (x : Word) → LeftGoes (timer_in_mode core n x)
  timer_mode_goes n x =
      or_left (x == NO_CONDITION) _ _ (timer_becomes_goes n _)
      (or_left (x == AFTER) _ _ (timer_becomes_goes n _) (event_mode_goes x (eventful core (Some (resource.Timer n)))))

  clock_mode_goes : (n : ℕ) (x : Word) → LeftGoes (clock_in_mode core n x)
  clock_mode_goes n x =
      or_left (x == ON) _ _ (clock_becomes_goes n (Some on_clock))
      (or_left (x == OFF) _ _ (clock_becomes_goes n (turned_off (clock_of core n)))
      (or_left (x == START) _ _ (restarted_goes n (started (clock_of core n)))
      (or_left (x == STOP) _ None (clock_becomes_goes n (stopped (clock_of core n))) tt)))

  mode_left : (x : Word) (named : Option Resource) → LeftGoes (resource_in_mode core x named)
  mode_left x (Some (resource.Chan c)) = event_mode_goes x (eventful core (Some (resource.Chan c)))
  mode_left x (Some (resource.Timer n)) = timer_mode_goes n x
  mode_left x (Some (resource.Clock n)) = clock_mode_goes n x
  mode_left x _ = tt

  -- ---- Rows on a channel end

  pauses : (name : Identifier) (wait : Wait) → IsWaitState wait → EffectGoes (pauses_at core name wait)
  pauses name wait is = either (is_waited_at core wait) (Trap RESOURCE_DEPENDENCY name) (Pause core wait []) tt (stays, is)

  abbrev TakesOn : (Word → Thread → Thread) → Type 0
  TakesOn takes = (word : Word) (th : Thread) → (takes word th).run ≡ th.run

  nothing_on : TakesOn takes_nothing
  nothing_on word th = refl

  into_on : (d : Register) → TakesOn (takes_into d)
  into_on d word th = register_so th.run th d word refl

  there_goes : (name : Identifier) (c : ChanNumber) (wait : Wait) (takes : Word → Thread → Thread) → IsWaitState wait → TakesOn takes → (found : Found) → FoundStays (chan_of core c) found → EffectGoes (found_there core k name c wait takes found)
  there_goes name c wait takes is on (Got chan word) h =
      on_with (with_chan core c chan) _ (one _ (change.sets_chan c chan (chan_stays (chan_of core c) (here.is_busy c) chan h))) (on word (thread_of core k))
  there_goes name c wait takes is on Waits h = pauses name wait is
  there_goes name c wait takes is on Refused h = tt

  abbrev AtChan : (ChanRec → Found) → Type 0
  AtChan does = (chan : ChanRec) → FoundStays chan (does chan)

  at_goes : (name : Identifier) (wait : ChanNumber → Wait) (does : ChanRec → Found) (takes : Word → Thread → Thread) → WaitsAtChan wait → AtChan does → TakesOn takes → (c : ChanNumber) → c < CHAN_ENDS → EffectGoes (found_there core k name c (wait c) takes (found_at does (chan_of core c)))
  at_goes name wait does takes is stays on c there =
      there_goes name c (wait c) takes (is c there) on (found_at does (chan_of core c)) (at_stays (chan_of core c) does (stays (chan_of core c)))

  on_named_goes : (name : Identifier) (wait : ChanNumber → Wait) (does : ChanRec → Found) (takes : Word → Thread → Thread) → WaitsAtChan wait → AtChan does → TakesOn takes → (named : Option ChanNumber) → NamesChan named → EffectGoes (on_named core k name wait does takes named)
  on_named_goes name wait does takes is stays on None there = tt
  on_named_goes name wait does takes is stays on (Some c) there = at_goes name wait does takes is stays on c there

  named_goes : (s : Register) (wait : ChanNumber → Wait) (does : ChanRec → Found) (takes : Word → Thread → Thread) → WaitsAtChan wait → AtChan does → TakesOn takes → EffectGoes (on_named core k (reg core k s) wait does takes (chan_named here.id (reg core k s)))
  named_goes s wait does takes is stays on =
      on_named_goes (reg core k s) wait does takes is stays on (chan_named here.id (reg core k s)) (chan_there here.id (reg core k s))

  -- ---- Rows on a port

  -- a row that gives, done or not, a port
  ends_goes : (mid : CoreRec) (name : Identifier) (p : PortNumber) (takes : Word → Thread → Thread) → TakesOn takes → Goes mid → p < PORTS → (acted : Acted) → PortRow S p (port_of mid p) acted → WaitsThere acted → EffectGoes (ends_at_port mid k name p takes acted)
  ends_goes mid name p takes on h there (Did port change') row waits =
      on_with (with_port mid p port) _ (and_then mid _ h (change.sets_port p (Did port change') port there row refl)) (on 0 (thread_of mid k))
  ends_goes mid name p takes on h there (Gives port word) row waits =
      on_with (with_port mid p port) _ (and_then mid _ h (change.sets_port p (Gives port word) port there row refl)) (on word (thread_of mid k))
  ends_goes mid name p takes on h there (PausesAt port wait change') row waits =
      either (is_waited_at mid wait) (Trap RESOURCE_DEPENDENCY name) _ tt (and_then mid _ h (change.sets_port p (PausesAt port wait change') port there row refl), waits)
  ends_goes mid name p takes on h there Refuses row waits = tt

  abbrev PortTakes : (PortRec → Word → Thread → Thread) → Type 0
  PortTakes takes = (port : PortRec) → TakesOn (takes port)

  no_word_on : PortTakes takes_no_word
  no_word_on port word th = refl

  word_on : (d : Register) → PortTakes (takes_word d)
  word_on d port word th = register_so th.run th d word refl

  from_above_on : (d : Register) → PortTakes (shifts_in_from_above d)
  from_above_on d port word th = register_so th.run th d _ refl

  below_on : (d : Register) → PortTakes (shifts_out_below d)
  below_on d port word th = register_so th.run th d _ refl

  at_port_goes : (name : Identifier) (p : PortNumber) (takes : PortRec → Word → Thread → Thread) (does : PortRec → Acted) → PortTakes takes → p < PORTS → PortRow S p (port_of core p) (does (port_of core p)) → EffectGoes (at_port core k name p takes does)
  at_port_goes name p takes does on there row =
      ends_goes core name p (takes (port_of core p)) (on (port_of core p)) stays there (does (port_of core p)) row (row_waits p there S (port_of core p) (does (port_of core p)) row)

  at_named_port_goes : (name : Identifier) (takes : PortRec → Word → Thread → Thread) (does : PortNumber → PortRec → Acted) → PortTakes takes → ((p : PortNumber) → PortRow S p (port_of core p) (does p (port_of core p))) → (named : Option PortNumber) → IsPort named → EffectGoes (at_named_port core k name takes does named)
  at_named_port_goes name takes does on row None there = tt
  at_named_port_goes name takes does on row (Some p) there = at_port_goes name p takes (does p) on there (row p)

  on_port_goes : (s : Register) (takes : PortRec → Word → Thread → Thread) (does : PortNumber → PortRec → Acted) → PortTakes takes → ((p : PortNumber) → PortRow S p (port_of core p) (does p (port_of core p))) → EffectGoes (on_port core k s takes does)
  on_port_goes s takes does on row = at_named_port_goes (reg core k s) takes does on row (port_with (reg core k s)) (port_is_there (reg core k s))

  -- a port's clock and its strobe are named by a word
  clock_on_there : (named : Option Resource) → NamesThere named → IfSome (clock_if_on core named) IsClock
  clock_on_there (Some (resource.Clock n)) there = by (clock_of core n).on
    where
      by : (on : Bool) → IfSome (if on then Some (Block n) else None) IsClock
      by true = there
      by false = tt
  clock_on_there _ there = tt

  clock_there : (x : Word) → IfSome (clock_named here.id core x) IsClock
  clock_there x = by (x == 1)
    where
      by : (reference : Bool) → IfSome (if reference then Some Reference else clock_if_on core (resource_named here.id x)) IsClock
      by true = tt
      by false = clock_on_there (resource_named here.id x) (named_there here.id x)

  clock_row : (p : PortNumber) (port : PortRec) (found : Option Clock) → IfSome found IsClock → PortRow S p port (sets_where set_clock found port)
  clock_row p port None h = change.refused
  clock_row p port (Some clock) h = change.clock clock h

  abbrev IsStrobeFor : PortNumber → Option PortNumber → Type 0
  IsStrobeFor p strobe = IfSome strobe (IsStrobeState p)

  strobe_allowed : (p : PortNumber) (named : Option PortNumber) → IfSome (strobe_if_allowed core p named) (IsStrobeFor p)
  strobe_allowed p None = tt
  strobe_allowed p (Some strobe) =
      cond_both (may_strobe p strobe (port_of core strobe)) (Some (Some strobe)) None (λ (found : Option (Option PortNumber)). IfSome found (IsStrobeFor p))
      (λ may. strobe_is p strobe (port_of core strobe) may) (λ no. tt)

  strobe_there : (p : PortNumber) (x : Word) → IfSome (strobe_named core p x) (IsStrobeFor p)
  strobe_there p x = by (x == 0)
    where
      by : (none : Bool) → IfSome (if none then Some None else strobe_if_allowed core p (port_with x)) (IsStrobeFor p)
      by true = tt
      by false = strobe_allowed p (port_with x)

  strobe_row : (p : PortNumber) (port : PortRec) (found : Option (Option PortNumber)) → IfSome found (IsStrobeFor p) → PortRow S p port (sets_where set_strobe found port)
  strobe_row p port None h = change.refused
  strobe_row p port (Some strobe) h = change.strobe strobe h

  -- ---- Rows on several kinds

  puts_out_goes : (name : Identifier) (word : Word) (named : Option Resource) → NamesThere named → EffectGoes (puts_out core k name word named)
  puts_out_goes name word (Some (resource.Chan c)) there =
      at_goes name (room 4) (put_word word) takes_nothing (λ c h. (h, refl)) (λ chan. put_word_stays chan word) nothing_on c there
  puts_out_goes name word (Some (resource.Lock n)) there = goes_in name _ (lock_left n (released k (lock_of core n)) (released_owner k (lock_of core n)))
  puts_out_goes name word (Some (resource.Port p)) there = at_port_goes name p takes_no_word (put_out p word) no_word_on there (change.put word)
  puts_out_goes name word _ there = tt

  claimed_goes : (d : Register) (name : Identifier) (n : ℕ) (found : Claimed) → IsThere (resource.Lock n) → OwnsRight k found → EffectGoes (claimed_there core k d name n found)
  claimed_goes d name n (Owns lock) there right = goes_with _ d name (one _ (change.sets_lock n lock (inr right)))
  claimed_goes d name n IsHeld there right = (stays, there)
  claimed_goes d name n IsRefused there right = tt

  time_goes : (d : Register) (name : Identifier) (n : ℕ) → IsThere (resource.Timer n) → EffectGoes (takes_time here.slot core k d name n)
  time_goes d name n there =
      either (not (timer_of core n).used) (Trap ILLEGAL_RESOURCE name) _ tt
      (either (timer_holds here.slot (timer_of core n)) _ _ (goes_with core d _ stays) (pauses name (wait.Timer n) there))

  takes_in_goes : (d : Register) (name : Identifier) (named : Option Resource) → NamesThere named → EffectGoes (takes_in here.slot core k d name named)
  takes_in_goes d name (Some (resource.Chan c)) there =
      at_goes name (tokens 4) take_word (takes_into d) (λ c h. (h, refl)) take_word_stays (into_on d) c there
  takes_in_goes d name (Some (resource.Timer n)) there = time_goes d name n there
  takes_in_goes d name (Some (resource.Lock n)) there = claimed_goes d name n (claimed k (lock_of core n)) there (claimed_right k (lock_of core n))
  takes_in_goes d name (Some (resource.Port p)) there = at_port_goes name p (takes_word d) (take_in p None) (word_on d) there change.taken
  takes_in_goes d name _ there = tt

  sets_data_goes : (name : Identifier) (x : Word) (named : Option Resource) → NamesThere named → EffectGoes (sets_data core k name x named)
  sets_data_goes name x (Some (resource.Chan c)) there =
      at_goes name no_wait (take_dest x) takes_nothing (λ c h. tt) (λ chan. take_dest_stays chan x) nothing_on c there
  sets_data_goes name x (Some (resource.Timer n)) there = goes_in name _ (timer_becomes_goes n (with_value x (timer_of core n)))
  sets_data_goes name x (Some (resource.Clock n)) there = goes_in name _ (clock_becomes_goes n (divided_by x (clock_of core n)))
  sets_data_goes name x (Some (resource.Port p)) there = at_port_goes name p takes_no_word (set_value (port_width p) x) no_word_on there (change.value x)
  sets_data_goes name x _ there = tt

  tells_data_goes : (d : Register) (name : Identifier) (named : Option Resource) → NamesThere named → EffectGoes (tells_data core k d name named)
  tells_data_goes d name (Some (resource.Chan c)) there =
      at_goes name no_wait tell_dest (takes_into d) (λ c h. tt) tell_dest_stays (into_on d) c there
  tells_data_goes d name (Some (resource.Timer n)) there = either (timer_of core n).used _ (Trap ILLEGAL_RESOURCE name) (goes_with core d _ stays) tt
  tells_data_goes d name (Some (resource.Clock n)) there = either (clock_of core n).on _ (Trap ILLEGAL_RESOURCE name) (goes_with core d _ stays) tt
  tells_data_goes d name (Some (resource.Port p)) there = at_port_goes name p (takes_word d) tell_value (word_on d) there change.told_value
  tells_data_goes d name _ there = tt

  -- ---- Modes and events

  turned_goes : (name : Identifier) (p : PortNumber) (x : Word) (is_off : Bool) → p < PORTS → EffectGoes (ends_at_port (if is_off then with_enabled core (forgotten core.enabled (res.Port p)) else core) k name p (takes_no_word (port_of core p)) (in_mode (port_width p) x (port_of core p)))
  turned_goes name p x true there =
      let acted = in_mode (port_width p) x (port_of core p) in
      ends_goes (with_enabled core (forgotten core.enabled (res.Port p))) name p (takes_no_word (port_of core p)) (no_word_on (port_of core p)) (forgets core (res.Port p) stays) there acted (change.mode x) (row_waits p there S (port_of core p) acted (change.mode x))
  turned_goes name p x false there =
      let acted = in_mode (port_width p) x (port_of core p) in
      ends_goes core name p (takes_no_word (port_of core p)) (no_word_on (port_of core p)) stays there acted (change.mode x) (row_waits p there S (port_of core p) acted (change.mode x))

  port_mode_goes : (name : Identifier) (p : PortNumber) (x : Word) → p < PORTS → EffectGoes (port_in_mode core k name p x)
  port_mode_goes name p x there =
      let named = eventful core (Some (resource.Port p)) in
      let turns : EffectGoes (turns_port core k name p x) =
      either (is_paused_on core (resource.Port p)) (Trap ILLEGAL_RESOURCE name) _ tt (turned_goes name p x (x == OFF) there) in
      either ((x == EVENT) || (x == INTERRUPT)) (goes_on_in k name (in_event_mode core x named)) _ (goes_in name (in_event_mode core x named) (event_mode_goes x named))
      (either ((x == OFF) || (x == ON)) (turns_port core k name p x) _ turns (at_port_goes name p takes_no_word (in_mode (port_width p) x) no_word_on there (change.mode x)))

  mode_goes : (name : Identifier) (x : Word) (named : Option Resource) → NamesThere named → EffectGoes (sets_mode core k name x named)
  mode_goes name x (Some (resource.Port p)) there = port_mode_goes name p x there
  mode_goes name x named there = goes_in name (resource_in_mode core x named) (mode_left x named)

  events_goes : (name : Identifier) (changes : EnablingRec → EnablingRec) (named : Option Resource) → ByThreads changes → EffectGoes (sets_events core k name changes named)
  events_goes name changes named by = goes_in name _ (changed_goes changes by (eventful core named))

  clears_goes : Goes (clears core k)
  clears_goes =
      let th = thread_of core k in
      let cleared = with_thread core k (record th { sr = without_bits th.sr (EEBLE + INENB) }) in
      and_then cleared _ (on_with core _ stays refl) (change.sets_enabled _ (λ thread all. cleared_stays k core.enabled all))

  waits_goes : (holds : Bool) → EffectGoes (waits_where core k holds)
  waits_goes true = (on_with core _ stays refl, tt)
  waits_goes false = goes core stays

  named_in_there : (s : Register) → NamesThere (named_in here core k s)
  named_in_there s = named_there here.id (reg core k s)

  part_some : (s x b : ℕ) → (S → InRange (Resources (resources.Outpw s x b))) → S → 1 ≤ b
  part_some s x b fits holds = width_some b (fits holds).1.1.0

  in_part_some : (d s b : ℕ) → (S → InRange (Resources (resources.Inpw d s b))) → S → 1 ≤ b
  in_part_some d s b fits holds = width_some b (fits holds).1.1.0

  resources_goes : (ins : ResIns) → (S → InRange (Resources ins)) → EffectGoes (resources_row here core k ins)
  resources_goes (resources.Getr d i) fits = got_goes d i
  resources_goes (resources.Freer s) fits = freed_goes (reg core k s) (named_in here core k s)
  resources_goes (resources.Out s x) fits = puts_out_goes (reg core k s) (reg core k x) (named_in here core k s) (named_in_there s)
  resources_goes (resources.Outt s x) fits = named_goes s (room 1) (put_token (Byte (reg core k x % 256))) takes_nothing (λ c h. (h, refl)) (λ chan. put_token_stays chan _) nothing_on
  resources_goes (resources.Outct s x) fits = named_goes s (room 1) (put_token (Ctrl (reg core k x % 256))) takes_nothing (λ c h. (h, refl)) (λ chan. put_token_stays chan _) nothing_on
  resources_goes (resources.OutctImm s i) fits = named_goes s (room 1) (put_token (Ctrl i)) takes_nothing (λ c h. (h, refl)) (λ chan. put_token_stays chan _) nothing_on
  resources_goes (resources.In d s) fits = takes_in_goes d (reg core k s) (named_in here core k s) (named_in_there s)
  resources_goes (resources.Int d s) fits = named_goes s (tokens 1) take_byte (takes_into d) (λ c h. (h, refl)) take_byte_stays (into_on d)
  resources_goes (resources.Inct d s) fits = named_goes s (tokens 1) take_ctrl (takes_into d) (λ c h. (h, refl)) take_ctrl_stays (into_on d)
  resources_goes (resources.Chkct s x) fits = named_goes s (tokens 1) (check_token (reg core k x)) takes_nothing (λ c h. (h, refl)) (λ chan. check_stays chan _) nothing_on
  resources_goes (resources.ChkctImm s i) fits = named_goes s (tokens 1) (check_token i) takes_nothing (λ c h. (h, refl)) (λ chan. check_stays chan i) nothing_on
  resources_goes (resources.Testct d s) fits = named_goes s (tokens 1) look (takes_into d) (λ c h. (h, refl)) look_stays (into_on d)
  resources_goes (resources.Testwct d s) fits = named_goes s (tokens 4) look_word (takes_into d) (λ c h. (h, refl)) look_word_stays (into_on d)
  resources_goes (resources.Setd s x) fits = sets_data_goes (reg core k s) (reg core k x) (named_in here core k s) (named_in_there s)
  resources_goes (resources.Getd d s) fits = tells_data_goes d (reg core k s) (named_in here core k s) (named_in_there s)
  resources_goes (resources.Setn s x) fits = named_goes s no_wait (take_net (reg core k x)) takes_nothing (λ c h. tt) (λ chan. take_net_stays chan _) nothing_on
  resources_goes (resources.Getn d s) fits = named_goes s no_wait tell_net (takes_into d) (λ c h. tt) tell_net_stays (into_on d)
  resources_goes (resources.SetcImm s u) fits = mode_goes (reg core k s) u (named_in here core k s) (named_in_there s)
  resources_goes (resources.Setc s x) fits = mode_goes (reg core k s) (reg core k x) (named_in here core k s) (named_in_there s)
  resources_goes (resources.Setv s) fits = events_goes (reg core k s) (with_vector (reg core k 11)) (named_in here core k s) (λ e thread h. h)
  resources_goes (resources.Setev s) fits = events_goes (reg core k s) (with_environment (reg core k 11)) (named_in here core k s) (λ e thread h. h)
  resources_goes (resources.Eeu s) fits = events_goes (reg core k s) (enabled_for k true) (named_in here core k s) (enabled_by k true)
  resources_goes (resources.Edu s) fits = events_goes (reg core k s) (enabled_for k false) (named_in here core k s) (enabled_by k false)
  resources_goes (resources.Eet x s) fits = events_goes (reg core k s) (enabled_for k (not (reg core k x == 0))) (named_in here core k s) (enabled_by k (not (reg core k x == 0)))
  resources_goes (resources.Eef x s) fits = events_goes (reg core k s) (enabled_for k (reg core k x == 0)) (named_in here core k s) (enabled_by k (reg core k x == 0))
  resources_goes resources.Clre fits = goes (clears core k) clears_goes
  resources_goes resources.Waiteu fits = waits_goes true
  resources_goes (resources.Waitet x) fits = waits_goes (not (reg core k x == 0))
  resources_goes (resources.Waitef x) fits = waits_goes (reg core k x == 0)
  resources_goes (resources.Inpw d s b) fits = on_port_goes s (takes_word d) (λ p. take_part p b) (word_on d) (λ p. change.part_taken b (in_part_some d s b fits))
  resources_goes (resources.Outpw s x b) fits = on_port_goes s takes_no_word (puts_part x b core k) no_word_on (λ p. change.part_put b (reg core k x) (part_some s x b fits))
  resources_goes (resources.Inshr d s) fits = on_port_goes s (shifts_in_from_above d) (λ p. take_in p None) (from_above_on d) (λ p. change.taken)
  resources_goes (resources.Outshr s d) fits = on_port_goes s (shifts_out_below d) (puts_word d core k) (below_on d) (λ p. change.put (reg core k d))
  resources_goes (resources.Peek d s) fits = on_port_goes s (takes_word d) (peeks here.outside) (word_on d) (λ p. change.peeked _)
  resources_goes (resources.Endin d s) fits = on_port_goes s (takes_word d) (at_any end_in) (word_on d) (λ p. change.ended)
  resources_goes (resources.Syncr s) fits = on_port_goes s takes_no_word sync no_word_on (λ p. change.synced)
  resources_goes (resources.Getts d s) fits = on_port_goes s (takes_word d) (at_any tell_stamp) (word_on d) (λ p. change.told_stamp)
  resources_goes (resources.Setpt s x) fits = on_port_goes s takes_no_word (at_any (set_time (reg core k x))) no_word_on (λ p. change.time (reg core k x))
  resources_goes (resources.Clrpt s) fits = on_port_goes s takes_no_word (at_any clear_time) no_word_on (λ p. change.no_time)
  resources_goes (resources.Setclk s x) fits = on_port_goes s takes_no_word (sets_clock here.id core (reg core k x)) no_word_on (λ p. clock_row p (port_of core p) (clock_named here.id core (reg core k x)) (clock_there (reg core k x)))
  resources_goes (resources.Setrdy s x) fits = on_port_goes s takes_no_word (sets_strobe core (reg core k x)) no_word_on (λ p. strobe_row p (port_of core p) (strobe_named core p (reg core k x)) (strobe_there p (reg core k x)))
  resources_goes (resources.Settw s x) fits = on_port_goes s takes_no_word (sets_transfer_width (reg core k x)) no_word_on (λ p. change.transfer_width (reg core k x))

  pub effect_goes : (ins : Instr) → (S → InRange ins) → EffectGoes (effect here core k ins)
  effect_goes (Words ins) fits = words_goes ins
  effect_goes (Memory ins) fits = on_own_goes _ (memory_so (thread_of core k).run (own_of core k) ins refl)
  effect_goes (Flow ins) fits = on_own_goes _ (flow_so (thread_of core k).run (own_of core k) ins refl)
  effect_goes (Kernel ins) fits = on_own_goes _ (kernel_so (thread_of core k).run k (own_of core k) ins refl)
  effect_goes (Threads ins) fits = threads_goes ins
  effect_goes (Resources ins) fits = resources_goes ins fits
