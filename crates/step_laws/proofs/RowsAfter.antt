-- What an instruction does to last issues and to what ports drive: it changes no last issue but that of a thread that it gets,
-- which was free, and a port lets go of its pins where that is told.
use Rattle.std.proofs.Common.{◌≡◌, ℕ, ◌<◌, ◌%◌, Bool, true, false, not, ◌==◌, ◌||◌, if◌then◌else◌, Option, Some, None, List, [], slice_set, refl, sym, subst}
use Rattle.xs_base.specs.Numbers.{Slot, Word, Register, ThreadNumber, ChanNumber, PortNumber, Kind, Identifier}
use Rattle.xs_base.specs.Ids.{port_with, port_width}
use Rattle.xs_base.specs.declared.token.Token.TheVariants.{Byte, Ctrl}
use Rattle.xs_base.specs.declared.numbers.TheConstants.{PORTS, TIMER_KIND, CHAN_END_KIND, SYNCHRONISER_KIND, THREAD_KIND, LOCK_KIND}
use Rattle.xs_model.specs.declared.event.Happen.{Happen}
use Rattle.xs_model.specs.declared.modes.TheConstants.{OFF, ON, EVENT, INTERRUPT}
use Rattle.xs_model.specs.declared.traps.TheConstants.{ILLEGAL_RESOURCE, RESOURCE_DEPENDENCY}
use Rattle.xs_model.specs.declared.thread.Thread.{Thread}
use Rattle.xs_model.specs.declared.thread.Run.TheVariants.{Going}
use Rattle.xs_model.specs.declared.thread.Wait.{Wait}
use Rattle.xs_model.specs.declared.thread.Wait.TheVariants as wait
use Rattle.xs_model.specs.declared.resource.Resource.{Resource}
use Rattle.xs_model.specs.declared.resource.Resource.TheVariants as resource
use Rattle.xs_model.specs.declared.resource.Res.TheVariants as res
use Rattle.xs_model.specs.Threads.{fresh_thread, with_register}
use Rattle.xs_model.specs.Record.{CoreRec, ChanRec, PortRec, EnablingRec, EnabledRec, thread_of, timer_of, clock_of, sync_of, port_of, with_thread, with_run, with_enabled}
use Rattle.xs_model.specs.Syncs.{is_thread, Claimed, Owns, IsHeld, IsRefused}
use Rattle.xs_model.specs.Time.{timer_holds}
use Rattle.xs_model.specs.Enabling.{with_vector, with_environment, enabled_for, forgotten}
use Rattle.xs_model.specs.PortActions.{Acted, Did, Got as Gives, Waits as PausesAt, Refused as Refuses, in_mode, set_clock, set_strobe, set_value, tell_value, take_in, take_part, put_out, end_in, sync, tell_stamp, set_time, clear_time}
use Rattle.xs_model.specs.Waits.{is_in, all_in, division_is_over, is_waited_at, is_paused_on}
use Rattle.xs_instructions.specs.declared.instr.Instr.{Instr}
use Rattle.xs_instructions.specs.declared.instr.Instr.TheVariants.{Words, Memory, Flow, Kernel, Threads, Resources}
use Rattle.xs_instructions.specs.declared.instr.WordIns.{WordIns}
use Rattle.xs_instructions.specs.declared.instr.ThreadIns.{ThreadIns}
use Rattle.xs_instructions.specs.declared.instr.ThreadIns.TheVariants as threads
use Rattle.xs_instructions.specs.declared.instr.ResIns.{ResIns}
use Rattle.xs_instructions.specs.declared.instr.ResIns.TheVariants as resources
use Rattle.net_model.specs.Chans.{Found, Got, Waits, Refused, put_token, take_byte, take_ctrl, check_token, look, look_word, take_net, tell_net}
use Rattle.step_model.specs.Effect.{Setting, Effect, Done, Pause, Trap, Gone, Leaving, Leaves, Traps, Own, on_own, on_registers, reg, goes_on_in, pauses_at}
use Rattle.step_model.specs.DividerRows.{shares_divider, on_divider, words_effect}
use Rattle.step_model.specs.Named.{resource_named}
use Rattle.step_model.specs.ThreadRows.{is_taken, thread_to_get, slave_got, by_master, as_master, slaves_go, slaves_are_freed, when_all_in, on_named_thread, on_thread, is_slave, may_start, sets_other, threads_row}
use Rattle.step_model.specs.TimeRows.{takes_time}
use Rattle.step_model.specs.EventRows.{eventful, sets_events, waits_where}
use Rattle.step_model.specs.ModeRows.{in_event_mode, resource_in_mode, turns_port, port_in_mode, sets_mode}
use Rattle.step_model.specs.PortRows.{ends_at_port, at_port, at_named_port, on_port, takes_no_word, takes_word, shifts_in_from_above, shifts_out_below, sets_where, sets_clock, sets_strobe, sets_transfer_width, puts_word, puts_part, peeks, at_any}
use Rattle.step_model.specs.ResourceRows.{resources_row, resource_got, chan_was_got, sync_was_got, thread_was_got, timer_was_got, lock_was_got, freed, claimed_there, takes_in, puts_out, sets_data, tells_data, named_in, found_there, on_named, room, tokens, no_wait, takes_nothing, takes_into}
use Rattle.step_model.specs.Rows.{effect}
use Rattle.step_laws.proofs.Free.{lowest_is_free}
use Rattle.step_laws.proofs.Left.{Keeps, lock_keeps, without_keeps, timer_keeps, clock_keeps, changed_keeps, event_mode_keeps, mode_keeps}
use Rattle.step_laws.proofs.Named.{IsPort, NamesPort, port_is_there, named_is_there}
use Rattle.step_laws.proofs.PinsAfter.{PinsAfter, pins_stay, acts}
use Rattle.step_laws.proofs.PortActs.{ActsWell, in_mode_well, set_clock_well, set_strobe_well, set_transfer_width_well, set_value_well, set_time_well, clear_time_well, tell_value_well, tell_stamp_well, peek_well, take_in_well, take_part_well, end_in_well, put_out_well, put_part_well, sync_well}

-- last issues after something in a slot: those of the core, or with the slot for a thread that was free
pub data LastsAfter (core : CoreRec) (slot : Slot) : List (Option Slot) → Type 0 where
  as_before : LastsAfter core slot core.slots.last
  with_got : (j : ThreadNumber) → is_taken (thread_of core j).run ≡ false → LastsAfter core slot (slice_set core.slots.last j (Some slot))

-- both, and what happened
abbrev pub After : CoreRec → Slot → CoreRec → List Happen → Type 0
After core slot after happened = LastsAfter core slot after.slots.last × PinsAfter core.ports after.ports happened

-- where an effect has a core
abbrev pub EffectAfter : CoreRec → Slot → Effect → Type 0
EffectAfter core slot (Done after happened) = After core slot after happened
EffectAfter core slot (Pause after wait happened) = After core slot after happened
EffectAfter core slot (Trap number value) = Unit {0}
EffectAfter core slot (Gone after happened) = After core slot after happened

module _ (here : Setting) (core : CoreRec) (k : ThreadNumber) where
  stays : LastsAfter core here.slot core.slots.last × PinsAfter core.ports core.ports []
  stays = (as_before, pins_stay)

  -- an effect or another
  either : (holds : Bool) (x y : Effect) → EffectAfter core here.slot x → EffectAfter core here.slot y → EffectAfter core here.slot (if holds then x else y)
  either true x y one other = one
  either false x y one other = other

  on_registers_after : (left : Leaving Thread) → EffectAfter core here.slot (on_registers core k left)
  on_registers_after (Leaves th) = stays
  on_registers_after (Traps number value) = tt

  on_divider_after : (left : Leaving Thread) → EffectAfter core here.slot (on_divider here.slot core k left)
  on_divider_after (Leaves th) = either (division_is_over core.slots.division here.slot) _ (Pause core wait.Divider []) stays stays
  on_divider_after (Traps number value) = tt

  words_after : (ins : WordIns) → EffectAfter core here.slot (words_effect here core k ins)
  words_after ins = either (shares_divider here.edition ins) _ _ (on_divider_after _) (on_registers_after _)

  on_own_after : (left : Leaving Own) → EffectAfter core here.slot (on_own core k left)
  on_own_after (Leaves l) = stays
  on_own_after (Traps number value) = tt

  -- ---- The rows on threads

  to_get_is_free : (j : ThreadNumber) → thread_to_get core ≡ Some j → is_taken (thread_of core j).run ≡ false
  to_get_is_free j is = lowest_is_free (λ th. is_taken th.run) core.threads j fresh_thread is

  slave_got_after : (d : Register) (n : ℕ) (got : Option ThreadNumber) → thread_to_get core ≡ got → After core here.slot (slave_got here core k d n got) []
  slave_got_after d n None is = stays
  slave_got_after d n (Some j) is = (with_got j (to_get_is_free j is), pins_stay)

  by_master_after : (name : Identifier) (does : ℕ → Effect) → ((n : ℕ) → EffectAfter core here.slot (does n)) → (named : Option Resource) → EffectAfter core here.slot (by_master core k name does named)
  by_master_after name does h (Some (resource.Sync n)) = either (is_thread k (sync_of core n).master) (does n) _ (h n) tt
  by_master_after name does h _ = tt

  as_master_after : (s : Register) (does : ℕ → Effect) → ((n : ℕ) → EffectAfter core here.slot (does n)) → EffectAfter core here.slot (as_master here core k s does)
  as_master_after s does h = by_master_after (reg core k s) does h (resource_named here.id (reg core k s))

  named_thread_after : (name : Identifier) (allowed : ThreadNumber → Bool) (after : ThreadNumber → CoreRec) → ((j : ThreadNumber) → After core here.slot (after j) []) → (named : Option Resource) → EffectAfter core here.slot (on_named_thread core k name allowed after named)
  named_thread_after name allowed after h (Some (resource.Thread j)) = either (allowed j) _ _ (h j) tt
  named_thread_after name allowed after h _ = tt

  on_thread_after : (s : Register) (allowed : ThreadNumber → Bool) (after : ThreadNumber → CoreRec) → ((j : ThreadNumber) → After core here.slot (after j) []) → EffectAfter core here.slot (on_thread here core k s allowed after)
  on_thread_after s allowed after h = named_thread_after (reg core k s) allowed after h (resource_named here.id (reg core k s))

  sets_other_after : (s : Register) (sets : Thread → Thread) → EffectAfter core here.slot (sets_other here core k s sets)
  sets_other_after s sets =
      on_thread_after s (λ j. is_in (thread_of core j).run) (λ j. with_thread core j (sets (thread_of core j))) (λ j. stays)

  threads_after : (ins : ThreadIns) → EffectAfter core here.slot (threads_row here core k ins)
  threads_after (threads.Getst d s) = as_master_after s (λ n. Done (slave_got here core k d n (thread_to_get core)) []) (λ n. slave_got_after d n _ refl)
  threads_after (threads.InitPc s x) = sets_other_after s (λ th. record th { pc = reg core k x })
  threads_after (threads.InitSp s x) = sets_other_after s (λ th. record th { sp = reg core k x })
  threads_after (threads.InitDp s x) = sets_other_after s (λ th. record th { dp = reg core k x })
  threads_after (threads.InitCp s x) = sets_other_after s (λ th. record th { cp = reg core k x })
  threads_after (threads.InitLr s x) = sets_other_after s (λ th. record th { lr = reg core k x })
  threads_after (threads.SetOther s d x) = sets_other_after s (λ th. with_register th d (reg core k x))
  threads_after (threads.Start s) = on_thread_after s (may_start core) (λ j. with_run core j Going) (λ j. stays)
  threads_after (threads.Msync s) = as_master_after s (when_all_in core k slaves_go) (λ n. either (all_in core n) _ _ stays stays)
  threads_after (threads.Mjoin s) = as_master_after s (when_all_in core k slaves_are_freed) (λ n. either (all_in core n) _ _ stays stays)
  threads_after threads.Ssync = either (is_slave core k) _ _ stays tt
  threads_after threads.Freet = either (is_slave core k) _ _ tt stays

  -- ---- The rows on resources

  -- last issues of a core or another
  or_after : (holds : Bool) (x y : CoreRec) → After core here.slot x [] → After core here.slot y [] → After core here.slot (if holds then x else y) []
  or_after true x y one other = one
  or_after false x y one other = other

  chan_got_after : (d : Register) (got : Option ChanNumber) → After core here.slot (chan_was_got here.id core k d got) []
  chan_got_after d None = stays
  chan_got_after d (Some c) = stays

  sync_got_after : (d : Register) (got : Option ℕ) → After core here.slot (sync_was_got core k d got) []
  sync_got_after d None = stays
  sync_got_after d (Some n) = stays

  thread_got_after : (d : Register) (got : Option ThreadNumber) → thread_to_get core ≡ got → After core here.slot (thread_was_got here.slot core k d got) []
  thread_got_after d None is = stays
  thread_got_after d (Some j) is = (with_got j (to_get_is_free j is), pins_stay)

  timer_got_after : (d : Register) (got : Option ℕ) → After core here.slot (timer_was_got core k d got) []
  timer_got_after d None = stays
  timer_got_after d (Some n) = stays

  lock_got_after : (d : Register) (got : Option ℕ) → After core here.slot (lock_was_got core k d got) []
  lock_got_after d None = stays
  lock_got_after d (Some n) = stays

  got_after : (d : Register) (kind : Kind) → After core here.slot (resource_got here core k d kind) []
  got_after d kind =
      or_after (kind == TIMER_KIND) _ _ (timer_got_after d _)
      (or_after (kind == CHAN_END_KIND) _ _ (chan_got_after d _)
      (or_after (kind == SYNCHRONISER_KIND) _ _ (sync_got_after d _)
      (or_after (kind == THREAD_KIND) _ _ (thread_got_after d _ refl)
      (or_after (kind == LOCK_KIND) _ _ (lock_got_after d _) stays))))

  goes_on_after : (name : Identifier) (left : Option CoreRec) → Keeps core left → EffectAfter core here.slot (goes_on_in k name left)
  goes_on_after name None h = tt
  goes_on_after name (Some after) h = (subst (LastsAfter core here.slot) (sym h.1) as_before, h.2)

  freed_after : (name : Identifier) (named : Option Resource) → EffectAfter core here.slot (freed here core k name named)
  freed_after name None = tt
  freed_after name (Some r) = either (is_paused_on core r) _ _ tt (goes_on_after name _ (without_keeps core here k r))

  pauses_after : (name : Identifier) (wait : Wait) → EffectAfter core here.slot (pauses_at core name wait)
  pauses_after name wait = either (is_waited_at core wait) _ _ tt stays

  there_after : (name : Identifier) (c : ChanNumber) (wait : Wait) (takes : Word → Thread → Thread) (found : Found) → EffectAfter core here.slot (found_there core k name c wait takes found)
  there_after name c wait takes (Got chan word) = stays
  there_after name c wait takes Waits = pauses_after name wait
  there_after name c wait takes Refused = tt

  named_after : (name : Identifier) (wait : ChanNumber → Wait) (does : ChanRec → Found) (takes : Word → Thread → Thread) (named : Option ChanNumber) → EffectAfter core here.slot (on_named core k name wait does takes named)
  named_after name wait does takes None = tt
  named_after name wait does takes (Some c) = there_after name c (wait c) takes _

  -- ---- Rows on a port

  ends_after : (events : EnabledRec) (name : Identifier) (p : PortNumber) (takes : Word → Thread → Thread) (acted : Acted) → p < PORTS → ActsWell (port_of core p) acted → EffectAfter core here.slot (ends_at_port (with_enabled core events) k name p takes acted)
  ends_after events name p takes (Did port change) there well = (as_before, acts p port change there well)
  ends_after events name p takes (Gives port word) there well = (as_before, acts p port None there well)
  ends_after events name p takes (PausesAt port wait change) there well =
      either (is_waited_at core wait) (Trap RESOURCE_DEPENDENCY name) _ tt (as_before, acts p port change there well)
  ends_after events name p takes Refuses there well = tt

  at_port_after : (name : Identifier) (p : PortNumber) (takes : PortRec → Word → Thread → Thread) (does : PortRec → Acted) → p < PORTS → ActsWell (port_of core p) (does (port_of core p)) → EffectAfter core here.slot (at_port core k name p takes does)
  at_port_after name p takes does there well = ends_after core.enabled name p (takes (port_of core p)) (does (port_of core p)) there well

  at_named_after : (name : Identifier) (takes : PortRec → Word → Thread → Thread) (does : PortNumber → PortRec → Acted) → ((p : PortNumber) (port : PortRec) → ActsWell port (does p port)) → (named : Option PortNumber) → IsPort named → EffectAfter core here.slot (at_named_port core k name takes does named)
  at_named_after name takes does well None there = tt
  at_named_after name takes does well (Some p) there = at_port_after name p takes (does p) there (well p (port_of core p))

  on_port_after : (s : Register) (takes : PortRec → Word → Thread → Thread) (does : PortNumber → PortRec → Acted) → ((p : PortNumber) (port : PortRec) → ActsWell port (does p port)) → EffectAfter core here.slot (on_port core k s takes does)
  on_port_after s takes does well = at_named_after (reg core k s) takes does well (port_with (reg core k s)) (port_is_there (reg core k s))

  -- a port's clock and its strobe are named by a word
  sets_well : {A : Type 0} (sets : A → PortRec → Acted) (found : Option A) (port : PortRec) → ((x : A) → ActsWell port (sets x port)) → ActsWell port (sets_where sets found port)
  sets_well sets None port well = tt
  sets_well sets (Some x) port well = well x

  -- ---- Rows on several kinds

  puts_out_after : (name : Identifier) (word : Word) (named : Option Resource) → NamesPort named → EffectAfter core here.slot (puts_out core k name word named)
  puts_out_after name word (Some (resource.Chan c)) there = there_after name c (room 4 c) takes_nothing _
  puts_out_after name word (Some (resource.Lock n)) there = goes_on_after name _ (lock_keeps core n _)
  puts_out_after name word (Some (resource.Port p)) there = at_port_after name p takes_no_word (put_out p word) there (put_out_well p word (port_of core p))
  puts_out_after name word _ there = tt

  claimed_after : (d : Register) (name : Identifier) (n : ℕ) (found : Claimed) → EffectAfter core here.slot (claimed_there core k d name n found)
  claimed_after d name n (Owns lock) = stays
  claimed_after d name n IsHeld = stays
  claimed_after d name n IsRefused = tt

  time_after : (d : Register) (name : Identifier) (n : ℕ) → EffectAfter core here.slot (takes_time here.slot core k d name n)
  time_after d name n =
      either (not (timer_of core n).used) _ _ tt (either (timer_holds here.slot (timer_of core n)) _ _ stays (pauses_after name (wait.Timer n)))

  takes_in_after : (d : Register) (name : Identifier) (named : Option Resource) → NamesPort named → EffectAfter core here.slot (takes_in here.slot core k d name named)
  takes_in_after d name (Some (resource.Chan c)) there = there_after name c (tokens 4 c) (takes_into d) _
  takes_in_after d name (Some (resource.Timer n)) there = time_after d name n
  takes_in_after d name (Some (resource.Lock n)) there = claimed_after d name n _
  takes_in_after d name (Some (resource.Port p)) there = at_port_after name p (takes_word d) (take_in p None) there (take_in_well p None (port_of core p))
  takes_in_after d name _ there = tt

  sets_data_after : (name : Identifier) (x : Word) (named : Option Resource) → NamesPort named → EffectAfter core here.slot (sets_data core k name x named)
  sets_data_after name x (Some (resource.Chan c)) there = there_after name c (no_wait c) takes_nothing _
  sets_data_after name x (Some (resource.Timer n)) there = goes_on_after name _ (timer_keeps core n _)
  sets_data_after name x (Some (resource.Clock n)) there = goes_on_after name _ (clock_keeps core n _)
  sets_data_after name x (Some (resource.Port p)) there = at_port_after name p takes_no_word (set_value (port_width p) x) there (set_value_well (port_width p) x (port_of core p))
  sets_data_after name x _ there = tt

  tells_data_after : (d : Register) (name : Identifier) (named : Option Resource) → NamesPort named → EffectAfter core here.slot (tells_data core k d name named)
  tells_data_after d name (Some (resource.Chan c)) there = there_after name c (no_wait c) (takes_into d) _
  tells_data_after d name (Some (resource.Timer n)) there = either (timer_of core n).used _ _ stays tt
  tells_data_after d name (Some (resource.Clock n)) there = either (clock_of core n).on _ _ stays tt
  tells_data_after d name (Some (resource.Port p)) there = at_port_after name p (takes_word d) tell_value there (tell_value_well (port_of core p))
  tells_data_after d name _ there = tt

  -- ---- The rows on events

  events_after : (name : Identifier) (change : EnablingRec → EnablingRec) (named : Option Resource) → EffectAfter core here.slot (sets_events core k name change named)
  events_after name change named = goes_on_after name _ (changed_keeps core change (eventful core named))

  turned_after : (name : Identifier) (p : PortNumber) (is_off : Bool) (acted : Acted) → p < PORTS → ActsWell (port_of core p) acted → EffectAfter core here.slot (ends_at_port (if is_off then with_enabled core (forgotten core.enabled (res.Port p)) else core) k name p (takes_no_word (port_of core p)) acted)
  turned_after name p true acted there well =
      ends_after (forgotten core.enabled (res.Port p)) name p (takes_no_word (port_of core p)) acted there well
  turned_after name p false acted there well = ends_after core.enabled name p (takes_no_word (port_of core p)) acted there well

  port_mode_after : (name : Identifier) (p : PortNumber) (mode : Word) → p < PORTS → EffectAfter core here.slot (port_in_mode core k name p mode)
  port_mode_after name p mode there =
      let does = in_mode (port_width p) mode in
      let well = in_mode_well (port_width p) mode (port_of core p) in
      let named = eventful core (Some (resource.Port p)) in
      let turns : EffectAfter core here.slot (turns_port core k name p mode) = either (is_paused_on core (resource.Port p)) (Trap ILLEGAL_RESOURCE name) _ tt (turned_after name p (mode == OFF) (does (port_of core p)) there well) in
      either ((mode == EVENT) || (mode == INTERRUPT)) (goes_on_in k name (in_event_mode core mode named)) _ (goes_on_after name _ (event_mode_keeps core mode named))
      (either ((mode == OFF) || (mode == ON)) (turns_port core k name p mode) _ turns (at_port_after name p takes_no_word does there well))

  mode_after : (name : Identifier) (mode : Word) (named : Option Resource) → NamesPort named → EffectAfter core here.slot (sets_mode core k name mode named)
  mode_after name mode (Some (resource.Port p)) there = port_mode_after name p mode there
  mode_after name mode named there = goes_on_after name (resource_in_mode core mode named) (mode_keeps core mode named)

  -- what register s names is there
  names_port : (s : Register) → NamesPort (named_in here core k s)
  names_port s = named_is_there here.id (reg core k s)

  waits_after : (holds : Bool) → EffectAfter core here.slot (waits_where core k holds)
  waits_after true = stays
  waits_after false = stays

  resources_after : (ins : ResIns) → EffectAfter core here.slot (resources_row here core k ins)
  resources_after (resources.Getr d i) = got_after d i
  resources_after (resources.Freer s) = freed_after _ _
  resources_after (resources.Out s x) = puts_out_after _ _ _ (names_port s)
  resources_after (resources.Outt s x) = named_after _ (room 1) (put_token (Byte (reg core k x % 256))) takes_nothing _
  resources_after (resources.Outct s x) = named_after _ (room 1) (put_token (Ctrl (reg core k x % 256))) takes_nothing _
  resources_after (resources.OutctImm s i) = named_after _ (room 1) (put_token (Ctrl i)) takes_nothing _
  resources_after (resources.In d s) = takes_in_after d _ _ (names_port s)
  resources_after (resources.Int d s) = named_after _ (tokens 1) take_byte (takes_into d) _
  resources_after (resources.Inct d s) = named_after _ (tokens 1) take_ctrl (takes_into d) _
  resources_after (resources.Chkct s x) = named_after _ (tokens 1) (check_token (reg core k x)) takes_nothing _
  resources_after (resources.ChkctImm s i) = named_after _ (tokens 1) (check_token i) takes_nothing _
  resources_after (resources.Testct d s) = named_after _ (tokens 1) look (takes_into d) _
  resources_after (resources.Testwct d s) = named_after _ (tokens 4) look_word (takes_into d) _
  resources_after (resources.Setd s x) = sets_data_after _ _ _ (names_port s)
  resources_after (resources.Getd d s) = tells_data_after d _ _ (names_port s)
  resources_after (resources.Setn s x) = named_after _ no_wait (take_net (reg core k x)) takes_nothing _
  resources_after (resources.Getn d s) = named_after _ no_wait tell_net (takes_into d) _
  resources_after (resources.SetcImm s u) = mode_after (reg core k s) u (named_in here core k s) (names_port s)
  resources_after (resources.Setc s x) = mode_after (reg core k s) (reg core k x) (named_in here core k s) (names_port s)
  resources_after (resources.Setv s) = events_after _ (with_vector (reg core k 11)) (named_in here core k s)
  resources_after (resources.Setev s) = events_after _ (with_environment (reg core k 11)) (named_in here core k s)
  resources_after (resources.Eeu s) = events_after _ (enabled_for k true) (named_in here core k s)
  resources_after (resources.Edu s) = events_after _ (enabled_for k false) (named_in here core k s)
  resources_after (resources.Eet x s) = events_after _ (enabled_for k (not (reg core k x == 0))) (named_in here core k s)
  resources_after (resources.Eef x s) = events_after _ (enabled_for k (reg core k x == 0)) (named_in here core k s)
  resources_after resources.Clre = stays
  resources_after resources.Waiteu = waits_after true
  resources_after (resources.Waitet x) = waits_after (not (reg core k x == 0))
  resources_after (resources.Waitef x) = waits_after (reg core k x == 0)
  resources_after (resources.Inpw d s b) = on_port_after s (takes_word d) (λ p. take_part p b) (λ p. take_part_well p b)
  resources_after (resources.Outpw s x b) = on_port_after s takes_no_word (puts_part x b core k) (λ p. put_part_well p b (reg core k x))
  resources_after (resources.Inshr d s) = on_port_after s (shifts_in_from_above d) (λ p. take_in p None) (λ p. take_in_well p None)
  resources_after (resources.Outshr s d) = on_port_after s (shifts_out_below d) (puts_word d core k) (λ p. put_out_well p (reg core k d))
  resources_after (resources.Peek d s) = on_port_after s (takes_word d) (peeks here.outside) (λ p port. peek_well _ port)
  resources_after (resources.Endin d s) = on_port_after s (takes_word d) (at_any end_in) (λ p. end_in_well)
  resources_after (resources.Syncr s) = on_port_after s takes_no_word sync sync_well
  resources_after (resources.Getts d s) = on_port_after s (takes_word d) (at_any tell_stamp) (λ p. tell_stamp_well)
  resources_after (resources.Setpt s x) = on_port_after s takes_no_word (at_any (set_time (reg core k x))) (λ p. set_time_well (reg core k x))
  resources_after (resources.Clrpt s) = on_port_after s takes_no_word (at_any clear_time) (λ p. clear_time_well)
  resources_after (resources.Setclk s x) = on_port_after s takes_no_word (sets_clock here.id core (reg core k x)) (λ p port. sets_well set_clock _ port (λ clock. set_clock_well clock port))
  resources_after (resources.Setrdy s x) = on_port_after s takes_no_word (sets_strobe core (reg core k x)) (λ p port. sets_well set_strobe _ port (λ strobe. set_strobe_well strobe port))
  resources_after (resources.Settw s x) = on_port_after s takes_no_word (sets_transfer_width (reg core k x)) (λ p. set_transfer_width_well (port_width p) (reg core k x))

  pub effect_after : (ins : Instr) → EffectAfter core here.slot (effect here core k ins)
  effect_after (Words ins) = words_after ins
  effect_after (Memory ins) = on_own_after _
  effect_after (Flow ins) = on_own_after _
  effect_after (Kernel ins) = on_own_after _
  effect_after (Threads ins) = threads_after ins
  effect_after (Resources ins) = resources_after ins
