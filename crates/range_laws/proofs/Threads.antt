-- What changes of a thread keep: its registers are words.
use Rattle.std.proofs.Common.{ℕ, ◌==◌, Bool, true, false, if◌then◌else◌, List, slice_set, replicate, refl, ◌∙◌, length-set, arith}
use Rattle.xs_base.specs.Numbers.{Word, Register}
use Rattle.xs_model.specs.declared.status.Status.{Status}
use Rattle.xs_model.specs.declared.thread.Thread.{Thread}
use Rattle.xs_model.specs.declared.thread.Run.{Run}
use Rattle.xs_model.specs.declared.traps.TheConstants.{KERNEL_CALL}
use Rattle.xs_model.specs.Threads.{register, with_register, fresh_thread, first_thread}
use Rattle.xs_model.specs.Record.{EnablingRec, free_thread}
use Rattle.xs_model.specs.Entry.{trapped, handler_address, in_event, in_interrupt, entered, returned}
use Rattle.step_model.specs.Effect.{after_it}
use Rattle.state_bridge.specs.Fits.{AreWords, ThreadFits}
use Rattle.range_laws.proofs.Words.{IsWord, low_word, either_word}
use Rattle.range_laws.proofs.Lists.{set_at, many_at}

-- ---- One of its registers

pub set_cp : (th : Thread) (word : Word) → ThreadFits th → IsWord word → ThreadFits (record th { cp = word })
set_cp th word h is = record { r = h.r; cp = is; dp = h.dp; sp = h.sp; lr = h.lr; pc = h.pc; spc = h.spc; et = h.et; ed = h.ed; sed = h.sed; kep = h.kep; ksp = h.ksp }

pub set_dp : (th : Thread) (word : Word) → ThreadFits th → IsWord word → ThreadFits (record th { dp = word })
set_dp th word h is = record { r = h.r; cp = h.cp; dp = is; sp = h.sp; lr = h.lr; pc = h.pc; spc = h.spc; et = h.et; ed = h.ed; sed = h.sed; kep = h.kep; ksp = h.ksp }

pub set_sp : (th : Thread) (word : Word) → ThreadFits th → IsWord word → ThreadFits (record th { sp = word })
set_sp th word h is = record { r = h.r; cp = h.cp; dp = h.dp; sp = is; lr = h.lr; pc = h.pc; spc = h.spc; et = h.et; ed = h.ed; sed = h.sed; kep = h.kep; ksp = h.ksp }

pub set_lr : (th : Thread) (word : Word) → ThreadFits th → IsWord word → ThreadFits (record th { lr = word })
set_lr th word h is = record { r = h.r; cp = h.cp; dp = h.dp; sp = h.sp; lr = is; pc = h.pc; spc = h.spc; et = h.et; ed = h.ed; sed = h.sed; kep = h.kep; ksp = h.ksp }

pub set_pc : (th : Thread) (word : Word) → ThreadFits th → IsWord word → ThreadFits (record th { pc = word })
set_pc th word h is = record { r = h.r; cp = h.cp; dp = h.dp; sp = h.sp; lr = h.lr; pc = is; spc = h.spc; et = h.et; ed = h.ed; sed = h.sed; kep = h.kep; ksp = h.ksp }

pub set_spc : (th : Thread) (word : Word) → ThreadFits th → IsWord word → ThreadFits (record th { spc = word })
set_spc th word h is = record { r = h.r; cp = h.cp; dp = h.dp; sp = h.sp; lr = h.lr; pc = h.pc; spc = is; et = h.et; ed = h.ed; sed = h.sed; kep = h.kep; ksp = h.ksp }

pub set_et : (th : Thread) (word : Word) → ThreadFits th → IsWord word → ThreadFits (record th { et = word })
set_et th word h is = record { r = h.r; cp = h.cp; dp = h.dp; sp = h.sp; lr = h.lr; pc = h.pc; spc = h.spc; et = is; ed = h.ed; sed = h.sed; kep = h.kep; ksp = h.ksp }

pub set_ed : (th : Thread) (word : Word) → ThreadFits th → IsWord word → ThreadFits (record th { ed = word })
set_ed th word h is = record { r = h.r; cp = h.cp; dp = h.dp; sp = h.sp; lr = h.lr; pc = h.pc; spc = h.spc; et = h.et; ed = is; sed = h.sed; kep = h.kep; ksp = h.ksp }

pub set_sed : (th : Thread) (word : Word) → ThreadFits th → IsWord word → ThreadFits (record th { sed = word })
set_sed th word h is = record { r = h.r; cp = h.cp; dp = h.dp; sp = h.sp; lr = h.lr; pc = h.pc; spc = h.spc; et = h.et; ed = h.ed; sed = is; kep = h.kep; ksp = h.ksp }

pub set_kep : (th : Thread) (word : Word) → ThreadFits th → IsWord word → ThreadFits (record th { kep = word })
set_kep th word h is = record { r = h.r; cp = h.cp; dp = h.dp; sp = h.sp; lr = h.lr; pc = h.pc; spc = h.spc; et = h.et; ed = h.ed; sed = h.sed; kep = is; ksp = h.ksp }

pub set_ksp : (th : Thread) (word : Word) → ThreadFits th → IsWord word → ThreadFits (record th { ksp = word })
set_ksp th word h is = record { r = h.r; cp = h.cp; dp = h.dp; sp = h.sp; lr = h.lr; pc = h.pc; spc = h.spc; et = h.et; ed = h.ed; sed = h.sed; kep = h.kep; ksp = is }

set_r : (th : Thread) (r : List Word) → ThreadFits th → AreWords 12 r → ThreadFits (record th { r = r })
set_r th r h are = record { r = are; cp = h.cp; dp = h.dp; sp = h.sp; lr = h.lr; pc = h.pc; spc = h.spc; et = h.et; ed = h.ed; sed = h.sed; kep = h.kep; ksp = h.ksp }

pub set_sr : (th : Thread) (sr : Status) → ThreadFits th → ThreadFits (record th { sr = sr })
set_sr th sr h = record { r = h.r; cp = h.cp; dp = h.dp; sp = h.sp; lr = h.lr; pc = h.pc; spc = h.spc; et = h.et; ed = h.ed; sed = h.sed; kep = h.kep; ksp = h.ksp }

pub set_ssr : (th : Thread) (ssr : Status) → ThreadFits th → ThreadFits (record th { ssr = ssr })
set_ssr th ssr h = record { r = h.r; cp = h.cp; dp = h.dp; sp = h.sp; lr = h.lr; pc = h.pc; spc = h.spc; et = h.et; ed = h.ed; sed = h.sed; kep = h.kep; ksp = h.ksp }

pub set_run : (th : Thread) (run : Run) → ThreadFits th → ThreadFits (record th { run = run })
set_run th run h = record { r = h.r; cp = h.cp; dp = h.dp; sp = h.sp; lr = h.lr; pc = h.pc; spc = h.spc; et = h.et; ed = h.ed; sed = h.sed; kep = h.kep; ksp = h.ksp }

-- ---- By its number

pub words_set : (words : List Word) (g : ℕ) (word : Word) → AreWords 12 words → IsWord word → AreWords 12 (slice_set words g word)
words_set words g word h is = record { count = length-set words g word ∙ h.count; each = λ i. set_at IsWord 0 words g word i is (h.each i) }

pub register_fits : (th : Thread) (g : Register) (word : Word) → ThreadFits th → IsWord word → ThreadFits (with_register th g word)
register_fits th g word h is = by (g == 12) (g == 13) (g == 14) (g == 15)
  where
    by : (a b c d : Bool)
        → ThreadFits (if a then record th { cp = word } else (if b then record th { dp = word } else (if c then record th { sp = word } else (if d then record th { lr = word } else record th { r = slice_set th.r g word }))))
    by true b c d = set_cp th word h is
    by false true c d = set_dp th word h is
    by false false true d = set_sp th word h is
    by false false false true = set_lr th word h is
    by false false false false = set_r th (slice_set th.r g word) h (words_set th.r g word h.r is)

pub register_word : (th : Thread) (g : Register) → ThreadFits th → IsWord (register th g)
register_word th g h =
    either_word (g == 12) th.cp _ h.cp
    (either_word (g == 13) th.dp _ h.dp
    (either_word (g == 14) th.sp _ h.sp
    (either_word (g == 15) th.lr _ h.lr (h.r.each g))))

-- ---- Where it goes on

pub goes_fits : (th : Thread) → ThreadFits th → ThreadFits (after_it th)
goes_fits th h = set_pc th _ h (low_word _)

-- ---- How threads begin

no_words : AreWords 12 (replicate 12 0)
no_words = record { count = refl; each = λ i. many_at IsWord 0 12 0 i (omega arith) (omega arith) }

pub fresh_fits : ThreadFits fresh_thread
fresh_fits = record { r = no_words; cp = omega arith; dp = omega arith; sp = omega arith; lr = omega arith; pc = omega arith; spc = omega arith; et = omega arith; ed = omega arith; sed = omega arith; kep = omega arith; ksp = omega arith }

pub free_fits : ThreadFits free_thread
free_fits = set_run fresh_thread free_thread.run fresh_fits

pub first_fits : (entry cp_at : Word) → IsWord entry → IsWord cp_at → ThreadFits (first_thread entry cp_at)
first_fits entry cp_at one other = record { r = no_words; cp = other; dp = omega arith; sp = omega arith; lr = omega arith; pc = one; spc = omega arith; et = omega arith; ed = omega arith; sed = omega arith; kep = omega arith; ksp = omega arith }

-- ---- Traps, events and interrupts

handler_word : (number : ℕ) (th : Thread) → ThreadFits th → IsWord (handler_address number th)
handler_word number th h = either_word (number == KERNEL_CALL) _ th.kep (low_word _) h.kep

pub trapped_fits : (th : Thread) (number : ℕ) (value next : Word) → ThreadFits th → IsWord number → IsWord value → IsWord next → ThreadFits (trapped th number value next)
trapped_fits th number value next h fn fv fx = record {
  r = h.r;
  cp = h.cp;
  dp = h.dp;
  sp = h.sp;
  lr = h.lr;
  kep = h.kep;
  ksp = h.ksp;
  pc = handler_word number th h;
  spc = fx;
  et = fn;
  ed = fv;
  sed = h.ed;
}

pub entered_fits : (taken : EnablingRec) (th : Thread) → IsWord taken.vector → IsWord taken.environment → ThreadFits th → ThreadFits (entered taken th)
entered_fits taken th fv fe h = by taken.interrupt
  where
    by : (interrupt : Bool) → ThreadFits (if interrupt then in_interrupt th taken.vector taken.environment else in_event th taken.vector taken.environment)
    by true = record {
      r = h.r;
      cp = h.cp;
      dp = h.dp;
      sp = h.sp;
      lr = h.lr;
      kep = h.kep;
      ksp = h.ksp;
      et = h.et;
      pc = fv;
      spc = h.pc;
      ed = fe;
      sed = h.ed;
    }
    by false = record {
      r = h.r;
      cp = h.cp;
      dp = h.dp;
      sp = h.sp;
      lr = h.lr;
      kep = h.kep;
      ksp = h.ksp;
      et = h.et;
      spc = h.spc;
      sed = h.sed;
      pc = fv;
      ed = fe;
    }

pub returned_fits : (th : Thread) → ThreadFits th → ThreadFits (returned th)
returned_fits th h = record {
  r = h.r;
  cp = h.cp;
  dp = h.dp;
  sp = h.sp;
  lr = h.lr;
  kep = h.kep;
  ksp = h.ksp;
  et = h.et;
  spc = h.spc;
  sed = h.sed;
  pc = h.spc;
  ed = h.sed;
}
