-- Threads whose registers are set, and threads of a core.
use Rattle.std.proofs.Common.{ℕ, zero, suc, ◌+◌, ◌==◌, Bool, true, false, if◌then◌else◌, List, [], ◌∷◌, replicate, slice_index_or, slice_set, refl}
use Rattle.xs_base.specs.Numbers.{Word, Register, ThreadNumber}
use Rattle.xs_model.specs.declared.thread.Thread.{Thread}
use Rattle.xs_model.specs.declared.thread.Run.{Run}
use Rattle.xs_model.specs.declared.status.TheConstants.{EEBLE, IEBLE, INENB, ININT, INK, WAITING}
use Rattle.xs_model.specs.Threads.{with_register, fresh_thread, first_thread, HasKnownBits}
use Rattle.xs_model.specs.Record.{CoreRec, EnablingRec, free_thread, thread_of, with_thread, with_run}
use Rattle.xs_model.specs.Entry.{trapped, in_event, in_interrupt, entered}
use Rattle.xs_model.specs.Status.{without_bits, IsKnown}
use Rattle.step_model.specs.Effect.{after_it, goes_on, goes_on_with}
use Rattle.step_laws.specs.StatusBits.{AllKnown}
use Rattle.step_laws.proofs.Bits.{with_known, without_known}

-- a thread whose status registers are known, by each of them
pub known : (th : Thread) → IsKnown th.sr → IsKnown th.ssr → HasKnownBits th
known th sr ssr = record { sr = sr; ssr = ssr }

-- one thread or another
either : (holds : Bool) (x y : Thread) → HasKnownBits x → HasKnownBits y → HasKnownBits (if holds then x else y)
either true x y one other = one
either false x y one other = other

pub register_known : (th : Thread) (g : Register) (v : Word) → HasKnownBits th → HasKnownBits (with_register th g v)
register_known th g v h =
    let sr = h.sr in
    let ssr = h.ssr in
    either (g == 12) _ _ (known _ sr ssr)
    (either (g == 13) _ _ (known _ sr ssr)
    (either (g == 14) _ _ (known _ sr ssr) (either (g == 15) _ _ (known _ sr ssr) (known _ sr ssr))))

pub on_known : (th : Thread) → HasKnownBits th → HasKnownBits (after_it th)
on_known th h = known _ h.sr h.ssr

-- with a word in a register, on to the next instruction
pub sets_known : (th : Thread) (g : Register) (v : Word) → HasKnownBits th → HasKnownBits (after_it (with_register th g v))
sets_known th g v h = on_known _ (register_known th g v h)

pub trapped_known : (th : Thread) (number : ℕ) (value next : Word) → HasKnownBits th → HasKnownBits (trapped th number value next)
trapped_known th number value next h =
    let cleared = EEBLE + IEBLE + WAITING in
    known _ (with_known (without_bits th.sr cleared) INK (without_known th.sr cleared h.sr) refl) h.sr

event_known : (th : Thread) (vector environment : Word) → HasKnownBits th → HasKnownBits (in_event th vector environment)
event_known th vector environment h = known _ (without_known th.sr (EEBLE + INENB + WAITING) h.sr) h.ssr

interrupt_known : (th : Thread) (vector environment : Word) → HasKnownBits th → HasKnownBits (in_interrupt th vector environment)
interrupt_known th vector environment h =
    let cleared = EEBLE + IEBLE + INENB + WAITING in
    known _ (with_known (without_bits th.sr cleared) ININT (without_known th.sr cleared h.sr) refl) h.sr

pub entered_known : (taken : EnablingRec) (th : Thread) → HasKnownBits th → HasKnownBits (entered taken th)
entered_known taken th h =
    either taken.interrupt _ _ (interrupt_known th taken.vector taken.environment h) (event_known th taken.vector taken.environment h)

-- one thread of some changes
set_known : (threads : List Thread) (th : Thread) (k i : ℕ) → HasKnownBits th → HasKnownBits (slice_index_or threads i fresh_thread) → HasKnownBits (slice_index_or (slice_set threads k th) i fresh_thread)
set_known [] th k i new old = old
set_known (x ∷ threads) th zero zero new old = new
set_known (x ∷ threads) th zero (suc i) new old = old
set_known (x ∷ threads) th (suc k) zero new old = old
set_known (x ∷ threads) th (suc k) (suc i) new old = set_known threads th k i new old

pub one_set_known : (threads : List Thread) (k : ThreadNumber) (th : Thread) → AllKnown threads → HasKnownBits th → AllKnown (slice_set threads k th)
one_set_known threads k th all new = λ i. set_known threads th k i new (all i)

pub with_thread_known : (core : CoreRec) (k : ThreadNumber) (th : Thread) → AllKnown core.threads → HasKnownBits th → AllKnown (with_thread core k th).threads
with_thread_known core k th all new = one_set_known core.threads k th all new

-- what a thread does changes no status, nor that it goes on
pub with_run_known : (core : CoreRec) (k : ThreadNumber) (run : Run) → AllKnown core.threads → AllKnown (with_run core k run).threads
with_run_known core k run all = with_thread_known core k _ all (known _ (all k).sr (all k).ssr)

pub goes_on_known : (core : CoreRec) (k : ThreadNumber) → AllKnown core.threads → AllKnown (goes_on core k).threads
goes_on_known core k all = with_thread_known core k _ all (on_known (thread_of core k) (all k))

pub goes_on_with_known : (core : CoreRec) (k : ThreadNumber) (g : Register) (word : Word) → AllKnown core.threads → AllKnown (goes_on_with core k g word).threads
goes_on_with_known core k g word all = with_thread_known core k _ all (sets_known (thread_of core k) g word (all k))

-- the threads of a core as it starts
free_known : (n k : ℕ) → HasKnownBits (slice_index_or (replicate n free_thread) k fresh_thread)
free_known zero k = known _ refl refl
free_known (suc n) zero = known _ refl refl
free_known (suc n) (suc k) = free_known n k

pub first_known : (entry cp_at : Word) → AllKnown (first_thread entry cp_at ∷ replicate 7 free_thread)
first_known entry cp_at zero = known _ refl refl
first_known entry cp_at (suc k) = free_known 7 k
