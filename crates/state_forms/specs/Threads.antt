-- How threads stand in bytes.
use Rattle.std.specs.Prelude.{ℕ, Bool, ◌==◌, ◌||◌, ◌&&◌, nat_lt, bit_and, if◌then◌else◌, List, [], ◌∷◌, slice_index, Option}
use Rattle.xs_base.specs.Numbers.{Slot}
use Rattle.xs_base.specs.declared.numbers.TheConstants.{CHAN_ENDS, TIMERS, SYNCHRONISERS, LOCKS, PORTS}
use Rattle.xs_model.specs.declared.status.Status.{Status}
use Rattle.xs_model.specs.declared.status.TheConstants.{STATUS_BITS}
use Rattle.xs_model.specs.declared.thread.Thread.{Thread}
use Rattle.xs_model.specs.declared.thread.Run.{Run}
use Rattle.xs_model.specs.declared.thread.Run.TheVariants.{Free, Unstarted, AtSync, Going, Paused, Halted}
use Rattle.xs_model.specs.declared.thread.Wait.{Wait}
use Rattle.xs_model.specs.declared.thread.Wait.TheVariants.{Room, Tokens, PortFull, PortEmpty, PortIdle, Timer, Lock, Slaves, Choice, Divider}
use Rattle.xs_model.specs.Status.{status}
use Rattle.byte_forms.specs.Forms.{Form, byte, word, below, option_below, where_is, both, seen_as, repeat}

-- ---- Status registers

-- a word that has the seven status bits only
abbrev pub is_status_word : ℕ → Bool
is_status_word w = bit_and w STATUS_BITS == w

abbrev pub bits_of : Status → ℕ
bits_of sr = sr.bits

unfoldable pub status_word : Form Status
status_word = seen_as (where_is word is_status_word) status bits_of

-- ---- What a thread does

-- How many kinds of wait there are behind the tag of a run. Only a paused thread waits, and the others have 0.
abbrev pub wait_kinds : ℕ → ℕ
wait_kinds tag = if tag == 4 then 10 else 1

-- how many things there are at which a wait of this kind may be
abbrev pub things_of : ℕ → ℕ
things_of kind =
    if nat_lt kind 2 then CHAN_ENDS
    else (if nat_lt kind 5 then PORTS
    else (if kind == 5 then TIMERS
    else (if kind == 6 then LOCKS
    else (if kind == 7 then SYNCHRONISERS
    else 1))))

abbrev pub wait_numbers : ℕ → ℕ → ℕ
wait_numbers tag kind = if tag == 4 then things_of kind else 1

-- a wait at a channel end is for one token or for the four of a word
abbrev pub is_wait_count : ℕ → ℕ → ℕ → Bool
is_wait_count tag kind count = if (tag == 4) && nat_lt kind 2 then (count == 1) || (count == 4) else count == 0

abbrev pub wait_of : ℕ → ℕ → ℕ → Wait
wait_of kind number count =
    if kind == 0 then Room number count
    else (if kind == 1 then Tokens number count
    else (if kind == 2 then PortFull number
    else (if kind == 3 then PortEmpty number
    else (if kind == 4 then PortIdle number
    else (if kind == 5 then Timer number
    else (if kind == 6 then Lock number
    else (if kind == 7 then Slaves number
    else (if kind == 8 then Choice
    else Divider))))))))

abbrev pub wait_fields : Wait → ℕ × (ℕ × ℕ)
wait_fields (Room chan count) = (0, (chan, count))
wait_fields (Tokens chan count) = (1, (chan, count))
wait_fields (PortFull port) = (2, (port, 0))
wait_fields (PortEmpty port) = (3, (port, 0))
wait_fields (PortIdle port) = (4, (port, 0))
wait_fields (Timer timer) = (5, (timer, 0))
wait_fields (Lock lock) = (6, (lock, 0))
wait_fields (Slaves sync) = (7, (sync, 0))
wait_fields Choice = (8, (0, 0))
wait_fields Divider = (9, (0, 0))

abbrev pub run_of : ℕ × (ℕ × (ℕ × ℕ)) → Run
run_of p =
    if p.0 == 0 then Free
    else (if p.0 == 1 then Unstarted
    else (if p.0 == 2 then AtSync
    else (if p.0 == 3 then Going
    else (if p.0 == 4 then Paused (wait_of p.1.0 p.1.1.0 p.1.1.1)
    else Halted))))

abbrev pub run_fields : Run → ℕ × (ℕ × (ℕ × ℕ))
run_fields Free = (0, (0, (0, 0)))
run_fields Unstarted = (1, (0, (0, 0)))
run_fields AtSync = (2, (0, (0, 0)))
run_fields Going = (3, (0, (0, 0)))
run_fields (Paused wait) = (4, wait_fields wait)
run_fields Halted = (5, (0, (0, 0)))

-- the tag of the run, then of the wait its tag, the number of what it is at and the count of tokens
unfoldable pub run : Form Run
run =
    seen_as
    (both (below byte 6) (λ tag. both (below byte (wait_kinds tag)) (λ kind. both (below byte (wait_numbers tag kind)) (λ number. where_is byte (is_wait_count tag kind)))))
    run_of run_fields

-- ---- Threads

-- r0 to r11; cp, dp, sp, lr and pc; sr, spc and ssr; et, ed, sed, kep and ksp; and what it does
abbrev pub ThreadFields : Type 0
ThreadFields = List ℕ × (List ℕ × (Status × (ℕ × (Status × (List ℕ × Run)))))

abbrev pub thread_of : ThreadFields → Thread
thread_of (r, (pointers, (sr, (spc, (ssr, (traps, run)))))) = record {
  r = r;
  cp = slice_index pointers 0;
  dp = slice_index pointers 1;
  sp = slice_index pointers 2;
  lr = slice_index pointers 3;
  pc = slice_index pointers 4;
  sr = sr;
  spc = spc;
  ssr = ssr;
  et = slice_index traps 0;
  ed = slice_index traps 1;
  sed = slice_index traps 2;
  kep = slice_index traps 3;
  ksp = slice_index traps 4;
  run = run;
}

abbrev pub pointers_of : Thread → List ℕ
pointers_of th = th.cp ∷ th.dp ∷ th.sp ∷ th.lr ∷ th.pc ∷ []

abbrev pub traps_of : Thread → List ℕ
traps_of th = th.et ∷ th.ed ∷ th.sed ∷ th.kep ∷ th.ksp ∷ []

abbrev pub thread_fields : Thread → ThreadFields
thread_fields th = (th.r, (pointers_of th, (th.sr, (th.spc, (th.ssr, (traps_of th, th.run))))))

unfoldable pub thread_state : Form Thread
thread_state =
    seen_as
    (both (repeat 12 word) (λ r. both (repeat 5 word) (λ pointers. both status_word (λ sr. both word (λ spc. both status_word (λ ssr. both (repeat 5 word) (λ traps. run)))))))
    thread_of thread_fields

-- a thread and its last issue, which was before this slot
unfoldable pub thread : Slot → Form (Thread × Option ℕ)
thread slot = both thread_state (λ th. option_below word slot)
