-- Which event or interrupt a thread takes, worked out by hand.
use Rattle.std.specs.Prelude.{ℕ, ◌≡◌, true, false, Option, Some, None, [], ◌∷◌, ◌++◌, replicate}
use Rattle.xs_base.specs.Numbers.{ThreadNumber}
use Rattle.xs_base.specs.declared.token.Token.TheVariants.{Ctrl}
use Rattle.xs_model.specs.declared.resource.Res.{Res}
use Rattle.xs_model.specs.declared.resource.Res.TheVariants.{Chan, Timer, Port}
use Rattle.xs_model.specs.Status.{status}
use Rattle.xs_model.specs.Record.{CoreRec, ChanRec, PortRec, EnablingRec, EnabledRec, unused_chan, unused_timer, off_port, none_enabled}
use Rattle.xs_model.specs.Enabling.{with_enabling}
use Rattle.xs_model.specs.Choices.{choice}
use Rattle.net_model.specs.Chans.{got_chan}
use Rattle.worked_machine.specs.Slots.{start, first}
use Rattle.worked_machine.specs.Timers.{timer}

-- ---- A core in slot 10, whose time is 2

-- a channel end into which a token came, and a port that took in a transfer
abbrev pub with_token : ChanRec
with_token = record got_chan { input = Ctrl 1 ∷ [] }

abbrev pub with_transfer : PortRec
with_transfer = record off_port { on = true; transfer = Some (record { value = 1; bits = 1; time = None }) }

-- Channel ends 3, 4 and 31 are ready; timers 0, 2 and 9, the last of which is not in use; and ports 1 and 28. The
-- conditions of the other timers do not hold before slot 12, and port 5 puts a transfer out. Thread 0 has this status.
abbrev pub core_of : ℕ → EnabledRec → CoreRec
core_of bits events = record start.core {
  threads = record first { sr = status bits } ∷ replicate 7 (record first { sr = status 1 });
  chans = unused_chan ∷ got_chan ∷ unused_chan ∷ with_token ∷ with_token ∷ (replicate 26 unused_chan ++ with_token ∷ []);
  timers = timer 0 false ∷ timer 2 true ∷ timer 5 false ∷ (replicate 6 (timer 2 true) ++ unused_timer ∷ []);
  ports = off_port ∷ with_transfer ∷ off_port ∷ off_port ∷ off_port ∷ record with_transfer { output = true } ∷ (replicate 22 off_port ++ with_transfer ∷ []);
  enabled = events;
}

-- a thread enabled it for events, or for interrupts; its vector and its environment tell it from others
abbrev pub event : ℕ → ThreadNumber → EnablingRec
event n k = record { vector = n; environment = n; interrupt = false; thread = Some k }

abbrev pub interrupt : ℕ → ThreadNumber → EnablingRec
interrupt n k = record { vector = n; environment = n; interrupt = true; thread = Some k }

-- these two are enabled, and thread 0 with this status takes this
abbrev pub both : Res → EnablingRec → Res → EnablingRec → EnabledRec
both r e s f = with_enabling (with_enabling none_enabled r e) s f

abbrev pub Takes : ℕ → Res → EnablingRec → Res → EnablingRec → Option EnablingRec → Type 0
Takes bits r e s f taken = choice (core_of bits (both r e s f)) 10 0 ≡ taken

-- of two that thread 0 enabled it takes the first, whether both give events or both interrupts, and with either of them alone
pub record IsBefore (r s : Res) : Type 0 where
  pub events : Takes 1 r (event 1 0) s (event 2 0) (Some (event 1 0))
  pub interrupts : Takes 2 r (interrupt 1 0) s (interrupt 2 0) (Some (interrupt 1 0))
  pub other_order : Takes 3 s (event 2 0) r (event 1 0) (Some (event 1 0))
  pub interrupt_first : Takes 3 r (event 1 0) s (interrupt 2 0) (Some (interrupt 2 0))
  pub interrupt_before_event : Takes 3 r (interrupt 1 0) s (event 2 0) (Some (interrupt 1 0))
  pub second_alone : Takes 1 r (event 1 1) s (event 2 0) (Some (event 2 0))

pub record WorkedOrder : Type 0 where
  pub chans : IsBefore (Chan 3) (Chan 4)
  pub last_chan : IsBefore (Chan 4) (Chan 31)
  pub timers : IsBefore (Timer 0) (Timer 2)
  pub last_timer : IsBefore (Timer 2) (Timer 9)
  pub ports : IsBefore (Port 1) (Port 28)
  pub chan_before_timer : IsBefore (Chan 31) (Timer 0)
  pub chan_before_port : IsBefore (Chan 31) (Port 1)
  pub timer_before_port : IsBefore (Timer 9) (Port 1)

-- thread 0 takes this in a slot, where one is enabled
abbrev pub of_one : Res → ℕ → Option EnablingRec
of_one r slot = choice (core_of 1 (with_enabling none_enabled r (event 1 0))) slot 0

pub record WorkedReady : Type 0 where
  pub no_token : of_one (Chan 1) 10 ≡ None
  pub token : of_one (Chan 3) 10 ≡ Some (event 1 0)
  pub before_its_time : of_one (Timer 1) 11 ≡ None
  pub at_its_time : of_one (Timer 1) 12 ≡ Some (event 1 0)
  -- half of all times later: 2^31 * 4 slots
  pub before_half : of_one (Timer 1) 0x200000007 ≡ Some (event 1 0)
  pub at_half : of_one (Timer 1) 0x200000008 ≡ None
  pub without_condition : of_one (Timer 0) 10 ≡ Some (event 1 0)
  -- it is asked for nothing else
  pub not_in_use : of_one (Timer 9) 10 ≡ Some (event 1 0)
  pub port : of_one (Port 1) 10 ≡ Some (event 1 0)
  pub port_puts_out : of_one (Port 5) 10 ≡ None
  pub port_is_off : of_one (Port 0) 10 ≡ None
  -- what is not ready is passed over
  pub second_chan : Takes 1 (Chan 1) (event 1 0) (Chan 31) (event 2 0) (Some (event 2 0))
  pub timer_after_chan : Takes 1 (Chan 1) (event 1 0) (Timer 9) (event 2 0) (Some (event 2 0))
  pub event_after_interrupt : Takes 3 (Timer 3) (interrupt 1 0) (Port 28) (event 2 0) (Some (event 2 0))
  pub none : Takes 3 (Chan 1) (event 1 0) (Timer 3) (interrupt 2 0) None

-- what another thread enabled, or nobody
abbrev pub nobodys : EnablingRec
nobodys = record { vector = 1; environment = 1; interrupt = false; thread = None }

pub record WorkedOwn : Type 0 where
  pub other_event : Takes 3 (Chan 3) (event 1 1) (Timer 0) (event 2 0) (Some (event 2 0))
  pub other_interrupt : Takes 3 (Chan 3) (interrupt 1 7) (Timer 0) (event 2 0) (Some (event 2 0))
  pub others_alone : Takes 3 (Chan 3) (event 1 1) (Timer 0) (interrupt 2 7) None
  pub nobody : Takes 3 (Chan 3) nobodys (Timer 0) (event 2 0) (Some (event 2 0))
  pub nobody_alone : Takes 3 (Chan 3) nobodys (Timer 0) nobodys None
  -- each takes its own
  pub of_thread_7 : choice (core_of 1 (both (Chan 3) (event 1 0) (Port 28) (event 2 7))) 10 7 ≡ Some (event 2 7)
  pub of_thread_5 : choice (core_of 1 (both (Chan 3) (event 1 0) (Port 28) (event 2 7))) 10 5 ≡ None

-- what thread 0 with this status takes of an event of channel end 3 and an interrupt of channel end 4
abbrev pub with_status : ℕ → Option EnablingRec
with_status bits = choice (core_of bits (both (Chan 3) (event 1 0) (Chan 4) (interrupt 2 0))) 10 0

pub record WorkedAllowed : Type 0 where
  pub events : with_status 1 ≡ Some (event 1 0)
  pub interrupts : with_status 2 ≡ Some (interrupt 2 0)
  pub both : with_status 3 ≡ Some (interrupt 2 0)
  pub neither : with_status 0 ≡ None
  -- the other bits allow nothing, and forbid nothing
  pub others : with_status 0xdc ≡ None
  pub event_and_others : with_status 0xdd ≡ Some (event 1 0)
  pub interrupt_and_others : with_status 0xde ≡ Some (interrupt 2 0)
  pub all : with_status 0xdf ≡ Some (interrupt 2 0)
  pub no_interrupt_as_event : Takes 1 (Chan 3) (interrupt 1 0) (Chan 4) (interrupt 2 0) None
  pub no_event_as_interrupt : Takes 2 (Chan 3) (event 1 0) (Chan 4) (event 2 0) None

pub record WorkedChoices : Type 0 where
  pub order : WorkedOrder
  pub ready : WorkedReady
  pub own : WorkedOwn
  pub allowed : WorkedAllowed
