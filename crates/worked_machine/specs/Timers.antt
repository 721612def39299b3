-- The rows on timers and clock blocks, worked out by hand: slot 10, whose time is 2.
use Rattle.std.specs.Prelude.{ℕ, ◌≡◌, Bool, true, false, Some, List, [], ◌∷◌, ◌++◌, replicate}
use Rattle.xs_model.specs.declared.thread.Thread.{Thread}
use Rattle.xs_model.specs.declared.thread.Run.{Run}
use Rattle.xs_model.specs.declared.thread.Run.TheVariants.{Free, Halted, Paused}
use Rattle.xs_model.specs.declared.thread.Wait.TheVariants.{Timer, Choice}
use Rattle.xs_model.specs.Record.{NodeRec, TimerRec, ClockRec, EnablingRec, unused_timer, off_clock, not_enabled}
use Rattle.xs_instructions.specs.declared.instr.Instr.{Instr}
use Rattle.xs_instructions.specs.declared.instr.Instr.TheVariants.{Resources}
use Rattle.xs_instructions.specs.declared.instr.ResIns.TheVariants as resources
use Rattle.worked_machine.specs.Slots.{start, with_three}
use Rattle.worked_machine.specs.Threads.{other, next, in_10, leaves, by_0, trapped, RefusesIn, getr_of}
use Rattle.worked_machine.specs.Syncs.{freer_0}
use Rattle.worked_machine.specs.Time.{runs_by, rests_by}

-- ---- Nodes

-- a timer in use, with this value, and with the condition or without
abbrev pub timer : ℕ → Bool → TimerRec
timer value after = record { used = true; value = value; after = after }

-- Timer 0 has no condition, that of timer 1 does not hold at time 2, and that of timer 2 does. Timers 4 to 8 are in use.
abbrev pub timers_with : TimerRec → TimerRec → List TimerRec
timers_with three nine = timer 5 false ∷ timer 2 true ∷ timer 1 true ∷ three ∷ (replicate 5 (timer 7 true) ++ nine ∷ [])

abbrev pub clocks_with : ClockRec → List ClockRec
clocks_with one = off_clock ∷ one ∷ rests_by 3 ∷ off_clock ∷ off_clock ∷ runs_by 4 ∷ []

-- a thread 0, a thread 1 that does this, these timers, and this for clock block 1
abbrev pub timed : Thread → Run → List TimerRec → ClockRec → NodeRec
timed mine run timers clock = record start {
  core = record start.core {
    threads = mine ∷ other run ∷ replicate 6 (other Free);
    timers = timers;
    clocks = clocks_with clock;
  };
}

-- timers 3 and 9 are not in use; thread 0 has this name in r0 and this word in r1
abbrev pub some_used : List TimerRec
some_used = timers_with unused_timer unused_timer

abbrev pub holding : ℕ → ℕ → NodeRec
holding name word = timed (with_three name word 0) Halted some_used (runs_by 9)

-- the instruction leaves these words in r0 and r1, and nothing else changes
abbrev pub Gives : Instr → ℕ → ℕ → ℕ → Type 0
Gives ins name word given = in_10 ins (holding name word) ≡ leaves by_0 (timed (next (with_three name given 0)) Halted some_used (runs_by 9))

-- the instruction refuses the name, whatever r1 has
abbrev pub RefusesWith : Instr → ℕ → ℕ → Type 0
RefusesWith ins name word = RefusesIn (holding name word) ins name

abbrev pub Refuses : Instr → ℕ → Type 0
Refuses ins name = RefusesWith ins name 7

-- names of no timer in use: it is not in use, there is none of this number, or the name has upper bits
pub record RefusesNoTimer (ins : Instr) : Type 0 where
  pub unused : Refuses ins 0x301
  pub number_10 : Refuses ins 0xa01
  pub upper_half : Refuses ins 0x00010001
  pub nothing : Refuses ins 0

-- ---- getr r1, 1

-- thread 0 gets a timer where timers 3 and 9 are these; then they are these, and r1 is this
abbrev pub GetsTimer : TimerRec → TimerRec → TimerRec → TimerRec → ℕ → Type 0
GetsTimer three nine three_then nine_then word =
    in_10 (getr_of 1) (timed (with_three 1 7 0) Halted (timers_with three nine) off_clock) ≡
    leaves by_0 (timed (next (with_three 1 word 0)) Halted (timers_with three_then nine_then) off_clock)

-- a timer that is not in use, with this value, and with the condition or without
abbrev pub set_before : ℕ → Bool → TimerRec
set_before value after = record { used = false; value = value; after = after }

pub record WorkedGetTimer : Type 0 where
  pub lowest : GetsTimer unused_timer unused_timer (timer 0 false) unused_timer 0x301
  pub last : GetsTimer (timer 4 true) unused_timer (timer 4 true) (timer 0 false) 0x901
  pub all_used : GetsTimer (timer 4 true) (timer 6 true) (timer 4 true) (timer 6 true) 0
  -- one that is not in use keeps the value and the condition that it has, or either
  pub stays : GetsTimer (set_before 7 true) (set_before 8 true) (timer 7 true) (set_before 8 true) 0x301
  pub last_stays : GetsTimer (timer 4 true) (set_before 0xffffffff false) (timer 4 true) (timer 0xffffffff false) 0x901

-- ---- in r1, res[r0]

abbrev pub in_0 : Instr
in_0 = Resources (resources.In 1 0)

-- thread 1 is paused on a timer
abbrev pub beside : ℕ → ℕ → NodeRec
beside number name = timed (with_three name 7 0) (Paused (Timer number)) some_used (runs_by 9)

pub record WorkedInTimer : Type 0 where
  -- value and condition stay
  pub without_condition : Gives in_0 0x001 7 2
  pub holds : Gives in_0 0x201 7 2
  pub over_its_name : in_10 (Resources (resources.In 0 0)) (holding 0x201 7) ≡
      leaves by_0 (timed (next (with_three 2 7 0)) Halted some_used (runs_by 9))
  -- the thread waits at the instruction, and r1 stays
  pub waits : in_10 in_0 (holding 0x101 7) ≡
      leaves by_0 (timed (record (with_three 0x101 7 0) { run = Paused (Timer 1) }) Halted some_used (runs_by 9))
  -- another thread is paused on it, or on another timer, or on this one, whose condition holds
  pub waited_at : in_10 in_0 (beside 1 0x101) ≡ trapped (beside 1 0x101) 9 0x101
  pub other_waited_at : in_10 in_0 (beside 4 0x101) ≡
      leaves by_0 (timed (record (with_three 0x101 7 0) { run = Paused (Timer 1) }) (Paused (Timer 4)) some_used (runs_by 9))
  pub need_not_wait : in_10 in_0 (beside 2 0x201) ≡
      leaves by_0 (timed (next (with_three 0x201 2 0)) (Paused (Timer 2)) some_used (runs_by 9))
  -- a timer that is not in use is refused before anybody would wait
  pub refused_first : RefusesIn (timed (with_three 0x301 7 0) (Paused (Timer 3)) (timers_with (record { used = false; value = 2; after = true }) unused_timer) off_clock) in_0 0x301
  pub refused : RefusesNoTimer in_0
  pub clock : Refuses in_0 0x106

-- ---- setd res[r0], r1 and getd r1, res[r0], on timers

abbrev pub setd_0 : Instr
setd_0 = Resources (resources.Setd 0 1)

abbrev pub getd_0 : Instr
getd_0 = Resources (resources.Getd 1 0)

-- with these words in r0 and r1 the timers become these
abbrev pub TimersBecome : Instr → ℕ → ℕ → List TimerRec → Type 0
TimersBecome ins name word timers =
    in_10 ins (holding name word) ≡ leaves by_0 (timed (next (with_three name word 0)) Halted timers (runs_by 9))

-- the same timers, with this for timer 0, or for timer 1
abbrev pub first_is : TimerRec → List TimerRec
first_is zeroth = zeroth ∷ timer 2 true ∷ timer 1 true ∷ unused_timer ∷ (replicate 5 (timer 7 true) ++ unused_timer ∷ [])

abbrev pub second_is : TimerRec → List TimerRec
second_is first = timer 5 false ∷ first ∷ timer 1 true ∷ unused_timer ∷ (replicate 5 (timer 7 true) ++ unused_timer ∷ [])

pub record WorkedTimerData : Type 0 where
  pub setd : TimersBecome setd_0 0x101 0xffffffff (second_is (timer 0xffffffff true))
  pub setd_without_condition : TimersBecome setd_0 0x001 0 (first_is (timer 0 false))
  pub setd_refused : RefusesNoTimer setd_0
  pub getd : Gives getd_0 0x101 7 2
  pub getd_without_condition : Gives getd_0 0x001 7 5
  pub getd_refused : RefusesNoTimer getd_0

-- ---- setc on timers

abbrev pub setc_0 : ℕ → Instr
setc_0 mode = Resources (resources.SetcImm 0 mode)

-- the mode is in r1
abbrev pub setc_of_word : Instr
setc_of_word = Resources (resources.Setc 0 1)

pub record WorkedTimerModes : Type 0 where
  pub after : TimersBecome (setc_0 9) 0x001 7 (first_is (timer 5 true))
  pub after_again : TimersBecome (setc_0 9) 0x101 7 some_used
  pub after_of_word : TimersBecome setc_of_word 0x001 9 (first_is (timer 5 true))
  pub no_condition : TimersBecome (setc_0 1) 0x101 7 (second_is (timer 2 false))
  pub no_condition_again : TimersBecome (setc_0 1) 0x001 7 some_used
  pub no_condition_of_word : TimersBecome setc_of_word 0x101 1 (second_is (timer 2 false))
  pub after_refused : RefusesNoTimer (setc_0 9)
  pub no_condition_refused : RefusesNoTimer (setc_0 1)

-- ---- freer res[r0] on timers

-- what timer 1 gives
abbrev pub of_timer_1 : NodeRec → EnablingRec → NodeRec
of_timer_1 rec e = record rec {
  core = record rec.core {
    enabled = record { chans = replicate 32 not_enabled; timers = not_enabled ∷ e ∷ replicate 8 not_enabled; ports = replicate 29 not_enabled };
  };
}

abbrev pub given : EnablingRec
given = record { vector = 11; environment = 12; interrupt = true; thread = Some 5 }

pub record WorkedFreeTimer : Type 0 where
  -- all that was set of it is forgotten, whoever set it
  pub freed : in_10 freer_0 (of_timer_1 (holding 0x101 7) given) ≡
      leaves by_0 (timed (next (with_three 0x101 7 0)) Halted (second_is unused_timer) (runs_by 9))
  pub others_stay : in_10 freer_0 (of_timer_1 (holding 0x001 7) given) ≡
      leaves by_0 (of_timer_1 (timed (next (with_three 0x001 7 0)) Halted (first_is unused_timer) (runs_by 9)) given)
  pub waited_at : RefusesIn (beside 1 0x101) freer_0 0x101
  pub other_waited_at : in_10 freer_0 (beside 4 0x101) ≡
      leaves by_0 (timed (next (with_three 0x101 7 0)) (Paused (Timer 4)) (second_is unused_timer) (runs_by 9))
  -- a thread that waits for events is not paused on it
  pub event_waited_for : in_10 freer_0 (timed (with_three 0x101 7 0) (Paused Choice) some_used off_clock) ≡
      leaves by_0 (timed (next (with_three 0x101 7 0)) (Paused Choice) (second_is unused_timer) off_clock)
  pub refused : RefusesNoTimer freer_0
  pub clock : Refuses freer_0 0x106

-- ---- Clock blocks. Block 1 is this one; 0, 3 and 4 are off, and 2 and 5 are on.

abbrev pub clock_1 : ℕ → ℕ → ClockRec → NodeRec
clock_1 name word clock = timed (with_three name word 0) Halted some_used clock

-- with this in r1 the first becomes the second
abbrev pub ClockBecomes : Instr → ℕ → ClockRec → ClockRec → Type 0
ClockBecomes ins word before after =
    in_10 ins (clock_1 0x106 word before) ≡ leaves by_0 (timed (next (with_three 0x106 word 0)) Halted some_used after)

-- such a block is refused
abbrev pub ClockRefuses : Instr → ℕ → ClockRec → Type 0
ClockRefuses ins word clock = RefusesIn (clock_1 0x106 word clock) ins 0x106

-- a block that is off is refused, and so is a name of none: by its number, or by upper bits
pub record RefusesNoClock (ins : Instr) : Type 0 where
  pub is_off : ClockRefuses ins 7 off_clock
  pub other_is_off : Refuses ins 0x406
  pub number_6 : Refuses ins 0x606
  pub upper_half : Refuses ins 0x00010106

-- block 1 is this one, and r1 takes its divider
abbrev pub TellsDivider : ClockRec → ℕ → Type 0
TellsDivider clock divider =
    in_10 getd_0 (clock_1 0x106 7 clock) ≡ leaves by_0 (timed (next (with_three 0x106 divider 0)) Halted some_used clock)

pub record WorkedClockModes : Type 0 where
  pub on : ClockBecomes (setc_0 8) 7 off_clock (rests_by 0)
  pub on_again : ClockBecomes (setc_0 8) 7 (runs_by 3) (rests_by 0)
  pub on_refused : RefusesIn (holding 0x606 7) (setc_0 8) 0x606
  pub off : ClockBecomes (setc_0 0) 7 (rests_by 3) off_clock
  pub off_while_it_runs : ClockBecomes (setc_0 0) 7 (runs_by 3) off_clock
  pub off_refused : RefusesNoClock (setc_0 0)
  pub starts : ClockBecomes (setc_0 0xf) 7 (rests_by 3) (runs_by 3)
  pub starts_again : ClockBecomes (setc_0 0xf) 7 (runs_by 3) (runs_by 3)
  pub starts_of_word : ClockBecomes setc_of_word 0xf (rests_by 3) (runs_by 3)
  pub start_refused : RefusesNoClock (setc_0 0xf)
  pub stops : ClockBecomes (setc_0 7) 7 (runs_by 3) (rests_by 3)
  pub stops_again : ClockBecomes (setc_0 7) 7 (rests_by 3) (rests_by 3)
  pub stop_refused : RefusesNoClock (setc_0 7)

pub record WorkedDividers : Type 0 where
  pub greatest : ClockBecomes setd_0 255 (rests_by 3) (rests_by 255)
  pub least : ClockBecomes setd_0 0 (rests_by 3) (rests_by 0)
  -- the trap's data is the block's name, not the divider
  pub too_great : ClockRefuses setd_0 256 (rests_by 3)
  pub whole_word : ClockRefuses setd_0 0x00010004 (rests_by 3)
  pub while_it_runs : ClockRefuses setd_0 4 (runs_by 3)
  pub same_while_it_runs : ClockRefuses setd_0 3 (runs_by 3)
  pub setd_refused : RefusesNoClock setd_0
  pub getd : TellsDivider (rests_by 255) 255
  pub getd_while_it_runs : TellsDivider (runs_by 3) 3
  pub getd_of_0 : TellsDivider (rests_by 0) 0
  pub getd_refused : RefusesNoClock getd_0

pub record WorkedTimers : Type 0 where
  pub getr : WorkedGetTimer
  pub input : WorkedInTimer
  pub timer_data : WorkedTimerData
  pub timer_modes : WorkedTimerModes
  pub freer : WorkedFreeTimer
  pub clock_modes : WorkedClockModes
  pub dividers : WorkedDividers
