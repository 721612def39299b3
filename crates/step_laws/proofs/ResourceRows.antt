-- The rows on resources leave every thread with known bits.
use Rattle.std.proofs.Common.{ℕ, ◌+◌, ◌%◌, Bool, true, false, not, ◌==◌, ◌||◌, if◌then◌else◌, Option, Some, None, [], refl, sym, subst}
use Rattle.xs_base.specs.Numbers.{Word, Register, ThreadNumber, ChanNumber, PortNumber, Kind, Identifier}
use Rattle.xs_base.specs.Ids.{port_with, port_width}
use Rattle.xs_base.specs.declared.token.Token.TheVariants.{Byte, Ctrl}
use Rattle.xs_base.specs.declared.numbers.TheConstants.{TIMER_KIND, CHAN_END_KIND, SYNCHRONISER_KIND, THREAD_KIND, LOCK_KIND}
use Rattle.xs_model.specs.declared.status.TheConstants.{EEBLE, INENB, WAITING}
use Rattle.xs_model.specs.declared.modes.TheConstants.{OFF, ON, EVENT, INTERRUPT}
use Rattle.xs_model.specs.declared.thread.Thread.{Thread}
use Rattle.xs_model.specs.declared.thread.Wait.{Wait}
use Rattle.xs_model.specs.declared.thread.Wait.TheVariants as wait
use Rattle.xs_model.specs.declared.traps.TheConstants.{ILLEGAL_RESOURCE, RESOURCE_DEPENDENCY}
use Rattle.xs_model.specs.declared.resource.Resource.{Resource}
use Rattle.xs_model.specs.declared.resource.Resource.TheVariants as resource
use Rattle.xs_model.specs.declared.resource.Res.TheVariants as res
use Rattle.xs_model.specs.Threads.{HasKnownBits}
use Rattle.xs_model.specs.Record.{CoreRec, ChanRec, PortRec, EnablingRec, EnabledRec, thread_of, timer_of, clock_of, lock_of, port_of, with_port, with_enabled}
use Rattle.xs_model.specs.Free.{lowest_free}
use Rattle.xs_model.specs.Syncs.{is_sync_used, Claimed, Owns, IsHeld, IsRefused, claimed, released}
use Rattle.xs_model.specs.Time.{time_at, timer_holds, with_value, divided_by}
use Rattle.xs_model.specs.Enabling.{with_vector, with_environment, enabled_for, forgotten}
use Rattle.xs_model.specs.Ports.{pin_happens}
use Rattle.xs_model.specs.PortActions.{Acted, Did, Got as Gives, Waits as PausesAt, Refused as Refuses}
use Rattle.xs_model.specs.PortActions.{in_mode, set_value, tell_value, take_in, take_part, put_out, end_in, sync, tell_stamp, set_time, clear_time}
use Rattle.xs_model.specs.Waits.{is_waited_at, is_paused_on}
use Rattle.xs_instructions.specs.declared.instr.ResIns.{ResIns}
use Rattle.xs_instructions.specs.declared.instr.ResIns.TheVariants as resources
use Rattle.net_model.specs.Chans.{Found, Got, Waits, Refused, free_chan, put_token, take_byte, take_ctrl, check_token, look, look_word, take_net, tell_net}
use Rattle.step_model.specs.Effect.{Setting, Done, Pause, Trap, reg, goes_on_with, goes_on_in, pauses_at}
use Rattle.step_model.specs.ThreadRows.{thread_to_get, with_got_thread}
use Rattle.step_model.specs.TimeRows.{tells, takes_time}
use Rattle.step_model.specs.EventRows.{eventful, with_changed, sets_events, clears, waits_where}
use Rattle.step_model.specs.ModeRows.{in_event_mode, resource_in_mode, turns_port, port_in_mode, sets_mode}
use Rattle.step_model.specs.PortRows.{ends_at_port, at_port, at_named_port, on_port, takes_no_word, takes_word, shifts_in_from_above, shifts_out_below, sets_clock, sets_strobe, sets_transfer_width, puts_word, puts_part, peeks, at_any}
use Rattle.step_model.specs.ResourceRows.{resources_row, resource_got, chan_was_got, sync_was_got, thread_was_got, timer_was_got, lock_was_got, without_lock, without, freed, found_there, on_named, room, tokens, no_wait, takes_nothing, takes_into, claimed_there, takes_in, puts_out, sets_data, tells_data, named_in}
use Rattle.step_laws.specs.StatusBits.{AllKnown}
use Rattle.step_laws.proofs.Threads.{known, on_known, register_known, with_thread_known, goes_on_known, goes_on_with_known}
use Rattle.step_laws.proofs.Bits.{with_known, without_known}
use Rattle.step_laws.proofs.Left.{Keeps, lock_keeps, without_keeps, timer_keeps, clock_keeps, changed_keeps, event_mode_keeps, mode_keeps}
use Rattle.step_laws.proofs.Effects.{EffectKnown, branch_known}
use Rattle.step_laws.proofs.ThreadRows.{got_thread_known}

-- one core or another
either : (holds : Bool) (x y : CoreRec) → AllKnown x.threads → AllKnown y.threads → AllKnown (if holds then x else y).threads
either true x y one other = one
either false x y one other = other

module _ (here : Setting) (core : CoreRec) (k : ThreadNumber) (all : AllKnown core.threads) where
  -- the thread goes on where nothing but another thing changes
  goes_in_known : (name : Identifier) (left : Option CoreRec) → Keeps core left → EffectKnown (goes_on_in k name left)
  goes_in_known name None h = tt
  goes_in_known name (Some after) h = goes_on_known after k (subst AllKnown (sym h.0) all)

  pauses_known : (name : Identifier) (wait : Wait) → EffectKnown (pauses_at core name wait)
  pauses_known name wait = branch_known (is_waited_at core wait) (Trap RESOURCE_DEPENDENCY name) (Pause core wait []) tt all

  -- ---- Getting a resource

  chan_known : (d : Register) (got : Option ChanNumber) → AllKnown (chan_was_got here.id core k d got).threads
  chan_known d None = goes_on_with_known core k d 0 all
  chan_known d (Some c) = goes_on_with_known core k d _ all

  sync_known : (d : Register) (got : Option ℕ) → AllKnown (sync_was_got core k d got).threads
  sync_known d None = goes_on_with_known core k d 0 all
  sync_known d (Some n) = goes_on_with_known core k d _ all

  thread_known : (d : Register) (got : Option ThreadNumber) → AllKnown (thread_was_got here.slot core k d got).threads
  thread_known d None = goes_on_with_known core k d 0 all
  thread_known d (Some j) = goes_on_with_known (with_got_thread core j here.slot) k d _ (got_thread_known core j all)

  timer_known : (d : Register) (got : Option ℕ) → AllKnown (timer_was_got core k d got).threads
  timer_known d None = goes_on_with_known core k d 0 all
  timer_known d (Some n) = goes_on_with_known core k d _ all

  lock_known : (d : Register) (got : Option ℕ) → AllKnown (lock_was_got core k d got).threads
  lock_known d None = goes_on_with_known core k d 0 all
  lock_known d (Some n) = goes_on_with_known core k d _ all

  got_known : (d : Register) (kind : Kind) → AllKnown (resource_got here core k d kind).threads
  got_known d kind =
      either (kind == TIMER_KIND) _ _ (timer_known d (lowest_free (λ timer. timer.used) core.timers 0))
      (either (kind == CHAN_END_KIND) _ _ (chan_known d (free_chan core.chans 0))
      (either (kind == SYNCHRONISER_KIND) _ _ (sync_known d (lowest_free is_sync_used core.syncs 0))
      (either (kind == THREAD_KIND) _ _ (thread_known d (thread_to_get core))
      (either (kind == LOCK_KIND) _ _ (lock_known d (lowest_free (λ lock. lock.used) core.locks 0)) (goes_on_with_known core k d 0 all)))))

  -- ---- Freeing a resource

  freed_known : (name : Identifier) (named : Option Resource) → EffectKnown (freed here core k name named)
  freed_known name None = tt
  freed_known name (Some r) =
      branch_known (is_paused_on core r) (Trap ILLEGAL_RESOURCE name) _ tt (goes_in_known name (without here core k r) (without_keeps core here k r))

  -- ---- Rows on a channel end

  -- what a thread does with the word that it found leaves its status registers
  abbrev TakesKnown : (Word → Thread → Thread) → Type 0
  TakesKnown takes = (word : Word) (th : Thread) → HasKnownBits th → HasKnownBits (takes word th)

  nothing_known : TakesKnown takes_nothing
  nothing_known word th h = h

  into_known : (d : Register) → TakesKnown (takes_into d)
  into_known d word th h = register_known th d word h

  there_known : (name : Identifier) (c : ChanNumber) (wait : Wait) (takes : Word → Thread → Thread) → TakesKnown takes → (found : Found) → EffectKnown (found_there core k name c wait takes found)
  there_known name c wait takes h (Got chan word) =
      with_thread_known core k _ all (on_known _ (h word (thread_of core k) (all k)))
  there_known name c wait takes h Waits = pauses_known name wait
  there_known name c wait takes h Refused = tt

  named_known : (name : Identifier) (wait : ChanNumber → Wait) (does : ChanRec → Found) (takes : Word → Thread → Thread) → TakesKnown takes → (named : Option ChanNumber) → EffectKnown (on_named core k name wait does takes named)
  named_known name wait does takes h None = tt
  named_known name wait does takes h (Some c) = there_known name c (wait c) takes h _

  -- the two sorts of them: the thread takes nothing, or it takes a word into register d
  puts_known : (name : Identifier) (wait : ChanNumber → Wait) (does : ChanRec → Found) (named : Option ChanNumber) → EffectKnown (on_named core k name wait does takes_nothing named)
  puts_known name wait does named = named_known name wait does takes_nothing nothing_known named

  finds_known : (d : Register) (name : Identifier) (wait : ChanNumber → Wait) (does : ChanRec → Found) (named : Option ChanNumber) → EffectKnown (on_named core k name wait does (takes_into d) named)
  finds_known d name wait does named = named_known name wait does (takes_into d) (into_known d) named

  -- ---- Rows on a port

  ends_known : (events : EnabledRec) (name : Identifier) (p : PortNumber) (takes : Word → Thread → Thread) → TakesKnown takes → (acted : Acted) → EffectKnown (ends_at_port (with_enabled core events) k name p takes acted)
  ends_known events name p takes h (Did port change) =
      with_thread_known (with_port core p port) k _ all (on_known _ (h 0 (thread_of core k) (all k)))
  ends_known events name p takes h (Gives port word) =
      with_thread_known (with_port core p port) k _ all (on_known _ (h word (thread_of core k) (all k)))
  ends_known events name p takes h (PausesAt port wait change) =
      branch_known (is_waited_at core wait) (Trap RESOURCE_DEPENDENCY name) (Pause (with_port (with_enabled core events) p port) wait (pin_happens p change)) tt all
  ends_known events name p takes h Refuses = tt

  at_known : (name : Identifier) (p : PortNumber) (takes : PortRec → Word → Thread → Thread) → ((port : PortRec) → TakesKnown (takes port)) → (acts : PortRec → Acted) → EffectKnown (at_port core k name p takes acts)
  at_known name p takes h acts = ends_known core.enabled name p (takes (port_of core p)) (h (port_of core p)) (acts (port_of core p))

  at_named_known : (name : Identifier) (takes : PortRec → Word → Thread → Thread) → ((port : PortRec) → TakesKnown (takes port)) → (acts : PortNumber → PortRec → Acted) → (named : Option PortNumber) → EffectKnown (at_named_port core k name takes acts named)
  at_named_known name takes h acts None = tt
  at_named_known name takes h acts (Some p) = at_known name p takes h (acts p)

  -- the four sorts of them, by what the thread takes
  acts_known : (s : Register) (acts : PortNumber → PortRec → Acted) → EffectKnown (on_port core k s takes_no_word acts)
  acts_known s acts = at_named_known (reg core k s) takes_no_word (λ port word th h. h) acts (port_with (reg core k s))

  gives_known : (d s : Register) (acts : PortNumber → PortRec → Acted) → EffectKnown (on_port core k s (takes_word d) acts)
  gives_known d s acts = at_named_known (reg core k s) (takes_word d) (λ port word th h. register_known th d _ h) acts (port_with (reg core k s))

  shifts_in_known : (d s : Register) (acts : PortNumber → PortRec → Acted) → EffectKnown (on_port core k s (shifts_in_from_above d) acts)
  shifts_in_known d s acts = at_named_known (reg core k s) (shifts_in_from_above d) (λ port word th h. register_known th d _ h) acts (port_with (reg core k s))

  shifts_out_known : (d s : Register) (acts : PortNumber → PortRec → Acted) → EffectKnown (on_port core k s (shifts_out_below d) acts)
  shifts_out_known d s acts = at_named_known (reg core k s) (shifts_out_below d) (λ port word th h. register_known th d _ h) acts (port_with (reg core k s))

  -- ---- Rows on several kinds

  claimed_known : (d : Register) (name : Identifier) (n : ℕ) (found : Claimed) → EffectKnown (claimed_there core k d name n found)
  claimed_known d name n (Owns lock) = goes_on_with_known core k d name all
  claimed_known d name n IsHeld = all
  claimed_known d name n IsRefused = tt

  time_known : (d : Register) (name : Identifier) (n : ℕ) → EffectKnown (takes_time here.slot core k d name n)
  time_known d name n =
      let timer = timer_of core n in
      branch_known (not timer.used) (Trap ILLEGAL_RESOURCE name) _ tt
      (branch_known (timer_holds here.slot timer) (Done (goes_on_with core k d (time_at here.slot)) []) _ (goes_on_with_known core k d _ all) (pauses_known name (wait.Timer n)))

  takes_in_known : (d : Register) (name : Identifier) (named : Option Resource) → EffectKnown (takes_in here.slot core k d name named)
  takes_in_known d name (Some (resource.Chan c)) = there_known name c (tokens 4 c) (takes_into d) (into_known d) _
  takes_in_known d name (Some (resource.Timer n)) = time_known d name n
  takes_in_known d name (Some (resource.Lock n)) = claimed_known d name n (claimed k (lock_of core n))
  takes_in_known d name (Some (resource.Port p)) = at_known name p (takes_word d) (λ port word th h. register_known th d _ h) (take_in p None)
  takes_in_known d name _ = tt

  puts_out_known : (name : Identifier) (word : Word) (named : Option Resource) → EffectKnown (puts_out core k name word named)
  puts_out_known name word (Some (resource.Chan c)) = there_known name c (room 4 c) takes_nothing nothing_known _
  puts_out_known name word (Some (resource.Lock n)) =
      let left = released k (lock_of core n) in goes_in_known name (without_lock core n left) (lock_keeps core n left)
  puts_out_known name word (Some (resource.Port p)) = at_known name p takes_no_word (λ port word th h. h) (put_out p word)
  puts_out_known name word _ = tt

  sets_data_known : (name : Identifier) (x : Word) (named : Option Resource) → EffectKnown (sets_data core k name x named)
  sets_data_known name x (Some (resource.Chan c)) = there_known name c (no_wait c) takes_nothing nothing_known _
  sets_data_known name x (Some (resource.Timer n)) = goes_in_known name _ (timer_keeps core n (with_value x (timer_of core n)))
  sets_data_known name x (Some (resource.Clock n)) = goes_in_known name _ (clock_keeps core n (divided_by x (clock_of core n)))
  sets_data_known name x (Some (resource.Port p)) = at_known name p takes_no_word (λ port word th h. h) (set_value (port_width p) x)
  sets_data_known name x _ = tt

  tells_known : (d : Register) (name : Identifier) (is_used : Bool) (word : Word) → EffectKnown (tells core k d name is_used word)
  tells_known d name is_used word = branch_known is_used _ (Trap ILLEGAL_RESOURCE name) (goes_on_with_known core k d word all) tt

  tells_data_known : (d : Register) (name : Identifier) (named : Option Resource) → EffectKnown (tells_data core k d name named)
  tells_data_known d name (Some (resource.Chan c)) = there_known name c (no_wait c) (takes_into d) (into_known d) _
  tells_data_known d name (Some (resource.Timer n)) = tells_known d name (timer_of core n).used _
  tells_data_known d name (Some (resource.Clock n)) = tells_known d name (clock_of core n).on _
  tells_data_known d name (Some (resource.Port p)) = at_known name p (takes_word d) (λ port word th h. register_known th d _ h) tell_value
  tells_data_known d name _ = tt

  -- ---- The rows on events

  turned_known : (name : Identifier) (p : PortNumber) (mode : Word) (is_off : Bool) (acted : Acted) → EffectKnown (ends_at_port (if is_off then with_enabled core (forgotten core.enabled (res.Port p)) else core) k name p (takes_no_word (port_of core p)) acted)
  turned_known name p mode true acted =
      ends_known (forgotten core.enabled (res.Port p)) name p (takes_no_word (port_of core p)) (λ word th h. h) acted
  turned_known name p mode false acted = ends_known core.enabled name p (takes_no_word (port_of core p)) (λ word th h. h) acted

  port_mode_known : (name : Identifier) (p : PortNumber) (mode : Word) → EffectKnown (port_in_mode core k name p mode)
  port_mode_known name p mode =
      let acted = in_mode (port_width p) mode (port_of core p) in
      let gives = in_event_mode core mode (eventful core (Some (resource.Port p))) in
      let turns : EffectKnown (turns_port core k name p mode) = branch_known (is_paused_on core (resource.Port p)) (Trap ILLEGAL_RESOURCE name) _ tt (turned_known name p mode (mode == OFF) acted) in
      branch_known ((mode == EVENT) || (mode == INTERRUPT)) (goes_on_in k name gives) _ (goes_in_known name gives (event_mode_keeps core mode (eventful core (Some (resource.Port p)))))
      (branch_known ((mode == OFF) || (mode == ON)) (turns_port core k name p mode) _ turns (at_known name p takes_no_word (λ port word th h. h) (in_mode (port_width p) mode)))

  mode_known : (name : Identifier) (mode : Word) (named : Option Resource) → EffectKnown (sets_mode core k name mode named)
  mode_known name mode (Some (resource.Port p)) = port_mode_known name p mode
  mode_known name mode named = goes_in_known name (resource_in_mode core mode named) (mode_keeps core mode named)

  events_known : (name : Identifier) (change : EnablingRec → EnablingRec) (named : Option Resource) → EffectKnown (sets_events core k name change named)
  events_known name change named =
      goes_in_known name (with_changed core change (eventful core named)) (changed_keeps core change (eventful core named))

  clears_known : AllKnown (clears core k).threads
  clears_known = with_thread_known core k _ all (known _ (without_known (thread_of core k).sr (EEBLE + INENB) (all k).sr) (all k).ssr)

  waits_known : (holds : Bool) → EffectKnown (waits_where core k holds)
  waits_known true =
      with_thread_known core k _ all (known _ (with_known (thread_of core k).sr (EEBLE + WAITING) (all k).sr refl) (all k).ssr)
  waits_known false = goes_on_known core k all

  pub resources_known : (ins : ResIns) → EffectKnown (resources_row here core k ins)
  resources_known (resources.Getr d i) = got_known d i
  resources_known (resources.Freer s) = freed_known (reg core k s) (named_in here core k s)
  resources_known (resources.Out s x) = puts_out_known (reg core k s) (reg core k x) (named_in here core k s)
  resources_known (resources.Outt s x) = puts_known _ (room 1) (put_token (Byte (reg core k x % 256))) _
  resources_known (resources.Outct s x) = puts_known _ (room 1) (put_token (Ctrl (reg core k x % 256))) _
  resources_known (resources.OutctImm s i) = puts_known _ (room 1) (put_token (Ctrl i)) _
  resources_known (resources.In d s) = takes_in_known d (reg core k s) (named_in here core k s)
  resources_known (resources.Int d s) = finds_known d _ (tokens 1) take_byte _
  resources_known (resources.Inct d s) = finds_known d _ (tokens 1) take_ctrl _
  resources_known (resources.Chkct s x) = puts_known _ (tokens 1) (check_token (reg core k x)) _
  resources_known (resources.ChkctImm s i) = puts_known _ (tokens 1) (check_token i) _
  resources_known (resources.Testct d s) = finds_known d _ (tokens 1) look _
  resources_known (resources.Testwct d s) = finds_known d _ (tokens 4) look_word _
  resources_known (resources.Setd s x) = sets_data_known (reg core k s) (reg core k x) (named_in here core k s)
  resources_known (resources.Getd d s) = tells_data_known d (reg core k s) (named_in here core k s)
  resources_known (resources.Setn s x) = puts_known _ no_wait (take_net (reg core k x)) _
  resources_known (resources.Getn d s) = finds_known d _ no_wait tell_net _
  resources_known (resources.SetcImm s u) = mode_known (reg core k s) u (named_in here core k s)
  resources_known (resources.Setc s x) = mode_known (reg core k s) (reg core k x) (named_in here core k s)
  resources_known (resources.Setv s) = events_known (reg core k s) (with_vector (reg core k 11)) (named_in here core k s)
  resources_known (resources.Setev s) = events_known (reg core k s) (with_environment (reg core k 11)) (named_in here core k s)
  resources_known (resources.Eeu s) = events_known (reg core k s) (enabled_for k true) (named_in here core k s)
  resources_known (resources.Edu s) = events_known (reg core k s) (enabled_for k false) (named_in here core k s)
  resources_known (resources.Eet x s) = events_known (reg core k s) (enabled_for k (not (reg core k x == 0))) (named_in here core k s)
  resources_known (resources.Eef x s) = events_known (reg core k s) (enabled_for k (reg core k x == 0)) (named_in here core k s)
  resources_known resources.Clre = goes_on_known (clears core k) k clears_known
  resources_known resources.Waiteu = waits_known true
  resources_known (resources.Waitet x) = waits_known (not (reg core k x == 0))
  resources_known (resources.Waitef x) = waits_known (reg core k x == 0)
  resources_known (resources.Inpw d s b) = gives_known d s (λ p. take_part p b)
  resources_known (resources.Outpw s x b) = acts_known s (puts_part x b core k)
  resources_known (resources.Inshr d s) = shifts_in_known d s (λ p. take_in p None)
  resources_known (resources.Outshr s d) = shifts_out_known d s (puts_word d core k)
  resources_known (resources.Peek d s) = gives_known d s (peeks here.outside)
  resources_known (resources.Endin d s) = gives_known d s (at_any end_in)
  resources_known (resources.Syncr s) = acts_known s sync
  resources_known (resources.Getts d s) = gives_known d s (at_any tell_stamp)
  resources_known (resources.Setpt s x) = acts_known s (at_any (set_time (reg core k x)))
  resources_known (resources.Clrpt s) = acts_known s (at_any clear_time)
  resources_known (resources.Setclk s x) = acts_known s (sets_clock here.id core (reg core k x))
  resources_known (resources.Setrdy s x) = acts_known s (sets_strobe core (reg core k x))
  resources_known (resources.Settw s x) = acts_known s (sets_transfer_width (reg core k x))
