-- The rows on resources leave the memory as it was.
use Rattle.std.proofs.Common.{◌≡◌, ℕ, ◌%◌, Bool, true, false, not, ◌==◌, ◌||◌, if◌then◌else◌, Option, Some, None, [], refl}
use Rattle.xs_base.specs.Numbers.{Word, Register, ThreadNumber, ChanNumber, PortNumber, Kind, Identifier}
use Rattle.xs_base.specs.Ids.{port_with, port_width}
use Rattle.xs_base.specs.declared.token.Token.TheVariants.{Byte, Ctrl}
use Rattle.xs_base.specs.declared.numbers.TheConstants.{TIMER_KIND, CHAN_END_KIND, SYNCHRONISER_KIND, THREAD_KIND, LOCK_KIND}
use Rattle.xs_model.specs.declared.modes.TheConstants.{OFF, ON, EVENT, INTERRUPT}
use Rattle.xs_model.specs.declared.thread.Thread.{Thread}
use Rattle.xs_model.specs.declared.thread.Wait.{Wait}
use Rattle.xs_model.specs.declared.thread.Wait.TheVariants as wait
use Rattle.xs_model.specs.declared.traps.TheConstants.{ILLEGAL_RESOURCE, RESOURCE_DEPENDENCY}
use Rattle.xs_model.specs.declared.resource.Resource.{Resource}
use Rattle.xs_model.specs.declared.resource.Resource.TheVariants as resource
use Rattle.xs_model.specs.declared.resource.Res.TheVariants as res
use Rattle.xs_model.specs.Record.{CoreRec, ChanRec, PortRec, EnablingRec, EnabledRec, timer_of, clock_of, lock_of, port_of, with_enabled}
use Rattle.xs_model.specs.Free.{lowest_free}
use Rattle.xs_model.specs.Syncs.{is_sync_used, Claimed, Owns, IsHeld, IsRefused, claimed, released}
use Rattle.xs_model.specs.Time.{timer_holds, with_value, divided_by}
use Rattle.xs_model.specs.Enabling.{with_vector, with_environment, enabled_for, forgotten}
use Rattle.xs_model.specs.PortActions.{Acted, Did, Got as Gives, Waits as PausesAt, Refused as Refuses}
use Rattle.xs_model.specs.PortActions.{in_mode, set_value, tell_value, take_in, take_part, put_out, end_in, sync, tell_stamp, set_time, clear_time}
use Rattle.xs_model.specs.Waits.{is_waited_at, is_paused_on}
use Rattle.xs_instructions.specs.declared.instr.ResIns.{ResIns}
use Rattle.xs_instructions.specs.declared.instr.ResIns.TheVariants as resources
use Rattle.net_model.specs.Chans.{Found, Got, Waits, Refused, free_chan, chan_named, put_token, take_byte, take_ctrl, check_token, look, look_word, take_net, tell_net}
use Rattle.step_model.specs.Effect.{Setting, Pause, Trap, reg, goes_on_in, pauses_at}
use Rattle.step_model.specs.ThreadRows.{thread_to_get}
use Rattle.step_model.specs.TimeRows.{tells, takes_time}
use Rattle.step_model.specs.EventRows.{eventful, with_changed, sets_events, waits_where}
use Rattle.step_model.specs.ModeRows.{in_event_mode, resource_in_mode, turns_port, port_in_mode, sets_mode}
use Rattle.step_model.specs.PortRows.{ends_at_port, at_port, at_named_port, on_port, takes_no_word, takes_word, shifts_in_from_above, shifts_out_below}
use Rattle.step_model.specs.PortRows.{sets_clock, sets_strobe, sets_transfer_width, puts_word, puts_part, peeks, at_any}
use Rattle.step_model.specs.ResourceRows.{resources_row, resource_got, chan_was_got, sync_was_got, thread_was_got, timer_was_got, lock_was_got, without_lock, without, freed}
use Rattle.step_model.specs.ResourceRows.{found_there, on_named, on_chan, room, tokens, no_wait, takes_nothing, takes_into, claimed_there, takes_in, puts_out, sets_data, tells_data, named_in}
use Rattle.issue_laws.proofs.ThreadRows.{Stays, either_stays}
use Rattle.issue_laws.proofs.Left.{Left, lock_left, without_left, timer_left, clock_left, changed_left, event_mode_left, mode_left}

-- one core or another
either : (core : CoreRec) (holds : Bool) (x y : CoreRec) → x.memory ≡ core.memory → y.memory ≡ core.memory → (if holds then x else y).memory ≡ core.memory
either core true x y one other = one
either core false x y one other = other

module _ (here : Setting) (core : CoreRec) (k : ThreadNumber) where
  -- the thread goes on with the core that was left, or is refused
  goes_on_stays : (name : Identifier) (left : Option CoreRec) → Left core left → Stays core (goes_on_in k name left)
  goes_on_stays name None h = tt
  goes_on_stays name (Some after) h = h

  -- the thread pauses, or traps
  pauses_stays : (name : Identifier) (wait : Wait) → Stays core (pauses_at core name wait)
  pauses_stays name wait = either_stays core (is_waited_at core wait) (Trap RESOURCE_DEPENDENCY name) (Pause core wait []) tt refl

  -- ---- Getting a resource, and freeing one

  -- a channel end
  chan_stays : (d : Register) (got : Option ChanNumber) → (chan_was_got here.id core k d got).memory ≡ core.memory
  chan_stays d None = refl
  chan_stays d (Some c) = refl

  -- a synchroniser
  sync_stays : (d : Register) (got : Option ℕ) → (sync_was_got core k d got).memory ≡ core.memory
  sync_stays d None = refl
  sync_stays d (Some n) = refl

  -- a thread
  thread_stays : (d : Register) (got : Option ThreadNumber) → (thread_was_got here.slot core k d got).memory ≡ core.memory
  thread_stays d None = refl
  thread_stays d (Some j) = refl

  -- a timer
  timer_stays : (d : Register) (got : Option ℕ) → (timer_was_got core k d got).memory ≡ core.memory
  timer_stays d None = refl
  timer_stays d (Some n) = refl

  -- a lock
  lock_stays : (d : Register) (got : Option ℕ) → (lock_was_got core k d got).memory ≡ core.memory
  lock_stays d None = refl
  lock_stays d (Some n) = refl

  -- any of them
  got_stays : (d : Register) (kind : Kind) → (resource_got here core k d kind).memory ≡ core.memory
  got_stays d kind =
      either core (kind == TIMER_KIND) _ _ (timer_stays d (lowest_free (λ timer. timer.used) core.timers 0))
      (either core (kind == CHAN_END_KIND) _ _ (chan_stays d (free_chan core.chans 0))
      (either core (kind == SYNCHRONISER_KIND) _ _ (sync_stays d (lowest_free is_sync_used core.syncs 0))
      (either core (kind == THREAD_KIND) _ _ (thread_stays d (thread_to_get core))
      (either core (kind == LOCK_KIND) _ _ (lock_stays d (lowest_free (λ lock. lock.used) core.locks 0)) refl))))

  -- what is freed
  freed_stays : (name : Identifier) (named : Option Resource) → Stays core (freed here core k name named)
  freed_stays name None = tt
  freed_stays name (Some r) = either_stays core (is_paused_on core r) (Trap ILLEGAL_RESOURCE name) _ tt (goes_on_stays name (without here core k r) (without_left core here k r))

  -- ---- Rows on a channel end

  -- by what is found there
  there_stays : (name : Identifier) (c : ChanNumber) (wait : Wait) (takes : Word → Thread → Thread) (found : Found) → Stays core (found_there core k name c wait takes found)
  there_stays name c wait takes (Got chan word) = refl
  there_stays name c wait takes Waits = pauses_stays name wait
  there_stays name c wait takes Refused = tt

  -- where a word names a channel end, or none
  named_stays : (name : Identifier) (wait : ChanNumber → Wait) (does : ChanRec → Found) (takes : Word → Thread → Thread) (named : Option ChanNumber)
      → Stays core (on_named core k name wait does takes named)
  named_stays name wait does takes None = tt
  named_stays name wait does takes (Some c) = there_stays name c (wait c) takes _

  -- which a register has
  on_chan_stays : (s : Register) (wait : ChanNumber → Wait) (does : ChanRec → Found) (takes : Word → Thread → Thread) → Stays core (on_chan here core k s wait does takes)
  on_chan_stays s wait does takes = named_stays (reg core k s) wait does takes (chan_named here.id (reg core k s))

  -- ---- Rows on a port

  -- by what the port does, also where what is enabled has changed before
  ends_stay : (events : EnabledRec) (name : Identifier) (p : PortNumber) (takes : Word → Thread → Thread) (acted : Acted)
      → Stays core (ends_at_port (with_enabled core events) k name p takes acted)
  ends_stay events name p takes (Did port change) = refl
  ends_stay events name p takes (Gives port word) = refl
  ends_stay events name p takes (PausesAt port wait change) = either_stays core (is_waited_at core wait) (Trap RESOURCE_DEPENDENCY name) _ tt refl
  ends_stay events name p takes Refuses = tt

  -- at this port
  at_port_stays : (name : Identifier) (p : PortNumber) (takes : PortRec → Word → Thread → Thread) (does : PortRec → Acted) → Stays core (at_port core k name p takes does)
  at_port_stays name p takes does = ends_stay core.enabled name p (takes (port_of core p)) (does (port_of core p))

  -- where a word names a port, or none
  at_named_stays : (name : Identifier) (takes : PortRec → Word → Thread → Thread) (does : PortNumber → PortRec → Acted) (named : Option PortNumber)
      → Stays core (at_named_port core k name takes does named)
  at_named_stays name takes does None = tt
  at_named_stays name takes does (Some p) = at_port_stays name p takes (does p)

  -- which a register has
  on_port_stays : (s : Register) (takes : PortRec → Word → Thread → Thread) (does : PortNumber → PortRec → Acted) → Stays core (on_port core k s takes does)
  on_port_stays s takes does = at_named_stays (reg core k s) takes does (port_with (reg core k s))

  -- ---- Rows on several kinds

  -- a lock is owned, or waited for
  claimed_stays : (d : Register) (name : Identifier) (n : ℕ) (found : Claimed) → Stays core (claimed_there core k d name n found)
  claimed_stays d name n (Owns lock) = refl
  claimed_stays d name n IsHeld = refl
  claimed_stays d name n IsRefused = tt

  -- the time is taken, or waited for
  time_stays : (d : Register) (name : Identifier) (n : ℕ) → Stays core (takes_time here.slot core k d name n)
  time_stays d name n =
      either_stays core (not (timer_of core n).used) (Trap ILLEGAL_RESOURCE name) _ tt
      (either_stays core (timer_holds here.slot (timer_of core n)) _ _ refl (pauses_stays name (wait.Timer n)))

  -- `in`
  takes_in_stays : (d : Register) (name : Identifier) (named : Option Resource) → Stays core (takes_in here.slot core k d name named)
  takes_in_stays d name (Some (resource.Chan c)) = there_stays name c (tokens 4 c) (takes_into d) _
  takes_in_stays d name (Some (resource.Timer n)) = time_stays d name n
  takes_in_stays d name (Some (resource.Lock n)) = claimed_stays d name n (claimed k (lock_of core n))
  takes_in_stays d name (Some (resource.Port p)) = at_port_stays name p (takes_word d) (take_in p None)
  takes_in_stays d name _ = tt

  -- `out`
  puts_out_stays : (name : Identifier) (word : Word) (named : Option Resource) → Stays core (puts_out core k name word named)
  puts_out_stays name word (Some (resource.Chan c)) = there_stays name c (room 4 c) takes_nothing _
  puts_out_stays name word (Some (resource.Lock n)) = let left = released k (lock_of core n) in goes_on_stays name (without_lock core n left) (lock_left core n left)
  puts_out_stays name word (Some (resource.Port p)) = at_port_stays name p takes_no_word (put_out p word)
  puts_out_stays name word _ = tt

  -- `setd`
  sets_data_stays : (name : Identifier) (x : Word) (named : Option Resource) → Stays core (sets_data core k name x named)
  sets_data_stays name x (Some (resource.Chan c)) = there_stays name c (no_wait c) takes_nothing _
  sets_data_stays name x (Some (resource.Timer n)) = goes_on_stays name _ (timer_left core n (with_value x (timer_of core n)))
  sets_data_stays name x (Some (resource.Clock n)) = goes_on_stays name _ (clock_left core n (divided_by x (clock_of core n)))
  sets_data_stays name x (Some (resource.Port p)) = at_port_stays name p takes_no_word (set_value (port_width p) x)
  sets_data_stays name x _ = tt

  -- the thread takes a word of what is in use
  tells_stays : (d : Register) (name : Identifier) (is_used : Bool) (word : Word) → Stays core (tells core k d name is_used word)
  tells_stays d name is_used word = either_stays core is_used _ (Trap ILLEGAL_RESOURCE name) refl tt

  -- `getd`
  tells_data_stays : (d : Register) (name : Identifier) (named : Option Resource) → Stays core (tells_data core k d name named)
  tells_data_stays d name (Some (resource.Chan c)) = there_stays name c (no_wait c) (takes_into d) _
  tells_data_stays d name (Some (resource.Timer n)) = tells_stays d name (timer_of core n).used _
  tells_data_stays d name (Some (resource.Clock n)) = tells_stays d name (clock_of core n).on _
  tells_data_stays d name (Some (resource.Port p)) = at_port_stays name p (takes_word d) tell_value
  tells_data_stays d name _ = tt

  -- ---- The rows on events

  -- what a resource gives is set
  events_stay : (name : Identifier) (change : EnablingRec → EnablingRec) (named : Option Resource) → Stays core (sets_events core k name change named)
  events_stay name change named = goes_on_stays name (with_changed core change (eventful core named)) (changed_left core change (eventful core named))

  -- a port is turned on or off
  turned_stays : (name : Identifier) (p : PortNumber) (is_off : Bool) (acted : Acted)
      → Stays core (ends_at_port (if is_off then with_enabled core (forgotten core.enabled (res.Port p)) else core) k name p (takes_no_word (port_of core p)) acted)
  turned_stays name p true acted = ends_stay (forgotten core.enabled (res.Port p)) name p (takes_no_word (port_of core p)) acted
  turned_stays name p false acted = ends_stay core.enabled name p (takes_no_word (port_of core p)) acted

  -- a port in a mode
  port_mode_stays : (name : Identifier) (p : PortNumber) (mode : Word) → Stays core (port_in_mode core k name p mode)
  port_mode_stays name p mode =
      let does = in_mode (port_width p) mode in
      let named = eventful core (Some (resource.Port p)) in
      let paused = is_paused_on core (resource.Port p) in
      let turns : Stays core (turns_port core k name p mode) = either_stays core paused (Trap ILLEGAL_RESOURCE name) _ tt (turned_stays name p (mode == OFF) (does (port_of core p))) in
      either_stays core ((mode == EVENT) || (mode == INTERRUPT)) (goes_on_in k name (in_event_mode core mode named)) _ (goes_on_stays name _ (event_mode_left core mode named))
      (either_stays core ((mode == OFF) || (mode == ON)) (turns_port core k name p mode) _ turns (at_port_stays name p takes_no_word does))

  -- `setc`
  mode_stays : (name : Identifier) (mode : Word) (named : Option Resource) → Stays core (sets_mode core k name mode named)
  mode_stays name mode (Some (resource.Port p)) = port_mode_stays name p mode
  mode_stays name mode named = goes_on_stays name (resource_in_mode core mode named) (mode_left core mode named)

  -- the thread waits for an event, or goes on
  waits_stay : (holds : Bool) → Stays core (waits_where core k holds)
  waits_stay true = refl
  waits_stay false = refl

  -- each row on resources
  pub resources_stay : (ins : ResIns) → Stays core (resources_row here core k ins)
  resources_stay (resources.Getr d i) = got_stays d i
  resources_stay (resources.Freer s) = freed_stays _ (named_in here core k s)
  resources_stay (resources.Out s x) = puts_out_stays _ _ (named_in here core k s)
  resources_stay (resources.Outt s x) = on_chan_stays s (room 1) (put_token (Byte (reg core k x % 256))) takes_nothing
  resources_stay (resources.Outct s x) = on_chan_stays s (room 1) (put_token (Ctrl (reg core k x % 256))) takes_nothing
  resources_stay (resources.OutctImm s i) = on_chan_stays s (room 1) (put_token (Ctrl i)) takes_nothing
  resources_stay (resources.In d s) = takes_in_stays d _ (named_in here core k s)
  resources_stay (resources.Int d s) = on_chan_stays s (tokens 1) take_byte (takes_into d)
  resources_stay (resources.Inct d s) = on_chan_stays s (tokens 1) take_ctrl (takes_into d)
  resources_stay (resources.Chkct s x) = on_chan_stays s (tokens 1) (check_token (reg core k x)) takes_nothing
  resources_stay (resources.ChkctImm s i) = on_chan_stays s (tokens 1) (check_token i) takes_nothing
  resources_stay (resources.Testct d s) = on_chan_stays s (tokens 1) look (takes_into d)
  resources_stay (resources.Testwct d s) = on_chan_stays s (tokens 4) look_word (takes_into d)
  resources_stay (resources.Setd s x) = sets_data_stays _ _ (named_in here core k s)
  resources_stay (resources.Getd d s) = tells_data_stays d _ (named_in here core k s)
  resources_stay (resources.Setn s x) = on_chan_stays s no_wait (take_net (reg core k x)) takes_nothing
  resources_stay (resources.Getn d s) = on_chan_stays s no_wait tell_net (takes_into d)
  resources_stay (resources.SetcImm s u) = mode_stays (reg core k s) u (named_in here core k s)
  resources_stay (resources.Setc s x) = mode_stays (reg core k s) (reg core k x) (named_in here core k s)
  resources_stay (resources.Setv s) = events_stay _ (with_vector (reg core k 11)) (named_in here core k s)
  resources_stay (resources.Setev s) = events_stay _ (with_environment (reg core k 11)) (named_in here core k s)
  resources_stay (resources.Eeu s) = events_stay _ (enabled_for k true) (named_in here core k s)
  resources_stay (resources.Edu s) = events_stay _ (enabled_for k false) (named_in here core k s)
  resources_stay (resources.Eet x s) = events_stay _ (enabled_for k (not (reg core k x == 0))) (named_in here core k s)
  resources_stay (resources.Eef x s) = events_stay _ (enabled_for k (reg core k x == 0)) (named_in here core k s)
  resources_stay resources.Clre = refl
  resources_stay resources.Waiteu = refl
  resources_stay (resources.Waitet x) = waits_stay (not (reg core k x == 0))
  resources_stay (resources.Waitef x) = waits_stay (reg core k x == 0)
  resources_stay (resources.Inpw d s b) = on_port_stays s (takes_word d) (λ p. take_part p b)
  resources_stay (resources.Outpw s x b) = on_port_stays s takes_no_word (puts_part x b core k)
  resources_stay (resources.Inshr d s) = on_port_stays s (shifts_in_from_above d) (λ p. take_in p None)
  resources_stay (resources.Outshr s d) = on_port_stays s (shifts_out_below d) (puts_word d core k)
  resources_stay (resources.Peek d s) = on_port_stays s (takes_word d) (peeks here.outside)
  resources_stay (resources.Endin d s) = on_port_stays s (takes_word d) (at_any end_in)
  resources_stay (resources.Syncr s) = on_port_stays s takes_no_word sync
  resources_stay (resources.Getts d s) = on_port_stays s (takes_word d) (at_any tell_stamp)
  resources_stay (resources.Setpt s x) = on_port_stays s takes_no_word (at_any (set_time (reg core k x)))
  resources_stay (resources.Clrpt s) = on_port_stays s takes_no_word (at_any clear_time)
  resources_stay (resources.Setclk s x) = on_port_stays s takes_no_word (sets_clock here.id core (reg core k x))
  resources_stay (resources.Setrdy s x) = on_port_stays s takes_no_word (sets_strobe core (reg core k x))
  resources_stay (resources.Settw s x) = on_port_stays s takes_no_word (sets_transfer_width (reg core k x))
