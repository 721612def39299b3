-- How traps, events and interrupts are entered, and how a thread returns from a trap or an interrupt.
use Rattle.std.specs.Prelude.{ℕ, ◌+◌, ◌==◌, if◌then◌else◌}
use Rattle.xs_base.specs.Numbers.{Word}
use Rattle.xs_base.specs.Words.{word_sum}
use Rattle.xs_model.specs.declared.status.Status.{Status}
use Rattle.xs_model.specs.declared.thread.Thread.{Thread}
use Rattle.xs_model.specs.declared.status.TheConstants.{EEBLE, IEBLE, INENB, ININT, INK, WAITING}
use Rattle.xs_model.specs.declared.traps.TheConstants.{KERNEL_CALL}
use Rattle.xs_model.specs.Status.{with_bits, without_bits}
use Rattle.xs_model.specs.Record.{EnablingRec}

-- ---- Traps

-- in the trap's handler
abbrev pub status_in_trap : Status → Status
status_in_trap sr = with_bits (without_bits sr (EEBLE + IEBLE + WAITING)) INK

-- the pc that a trap with this number returns to: a kernel call's is the next one
abbrev pub return_address : ℕ → Thread → Word
return_address number th = if number == KERNEL_CALL then word_sum th.pc 4 else th.pc

-- where the handler of a trap with this number stands: that of kernel calls has a place of its own
abbrev pub handler_address : ℕ → Thread → Word
handler_address number th = if number == KERNEL_CALL then word_sum th.kep 64 else th.kep

-- the thread in its handler for a trap with this number and data, to return to next
abbrev pub trapped : Thread → ℕ → Word → Word → Thread
trapped th number value next = record th {
  spc = next;
  ssr = th.sr;
  sed = th.ed;
  et = number;
  ed = value;
  sr = status_in_trap th.sr;
  pc = handler_address number th;
}

-- ---- Events and interrupts, with the vector and the environment of the resource that is ready

abbrev pub status_in_event : Status → Status
status_in_event sr = without_bits sr (EEBLE + INENB + WAITING)

-- an event leaves nothing to return to
abbrev pub in_event : Thread → Word → Word → Thread
in_event th vector environment = record th { pc = vector; ed = environment; sr = status_in_event th.sr }

abbrev pub status_in_interrupt : Status → Status
status_in_interrupt sr = with_bits (without_bits sr (EEBLE + IEBLE + INENB + WAITING)) ININT

abbrev pub in_interrupt : Thread → Word → Word → Thread
in_interrupt th vector environment = record th {
  spc = th.pc;
  ssr = th.sr;
  sed = th.ed;
  pc = vector;
  ed = environment;
  sr = status_in_interrupt th.sr;
}

-- what a thread takes of a resource that is ready
abbrev pub entered : EnablingRec → Thread → Thread
entered e th = if e.interrupt then in_interrupt th e.vector e.environment else in_event th e.vector e.environment

-- ---- The return

-- back where a trap or an interrupt came, as it was there; et stays, and spc, ssr and sed do
abbrev pub returned : Thread → Thread
returned th = record th { pc = th.spc; sr = th.ssr; ed = th.sed }
