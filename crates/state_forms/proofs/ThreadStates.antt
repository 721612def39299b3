-- Which threads have the form: those with the seven status bits only, and with what they wait at there.
use Rattle.std.proofs.Common.{◌≡◌, ℕ, ◌<◌, ◌↔◌, ◌||◌, true, eqb, List, length, get_or, Option, refl, arith, inl, inr}
use Rattle.std.proofs.lemmas.Bool.{ltb-true, eqb-true, lt-ltb, eq-eqb, or_cases}
use Rattle.std.proofs.lemmas.Nat.{and_le_r}
use Rattle.std.proofs.lemmas.Slice.Zip.{length-zip}
use Rattle.std.specs.Prelude.{IfSome}
use Rattle.std.specs.List.{zip, AllByRecursion}
use Rattle.xs_base.specs.declared.numbers.TheConstants.{CHAN_ENDS, TIMERS, SYNCHRONISERS, LOCKS, PORTS}
use Rattle.xs_model.specs.declared.status.Status.{Status}
use Rattle.xs_model.specs.declared.thread.Thread.{Thread}
use Rattle.xs_model.specs.declared.thread.Run.{Run}
use Rattle.xs_model.specs.declared.thread.Run.TheVariants.{Free, Unstarted, AtSync, Going, Paused, Halted}
use Rattle.xs_model.specs.declared.thread.Wait.TheVariants.{Room, Tokens, PortFull, PortEmpty, PortIdle, Timer, Lock, Slaves, Choice, Divider}
use Rattle.xs_model.specs.Status.{IsKnown}
use Rattle.byte_forms.specs.Forms.{word, repeat}
use Rattle.state_forms.specs.Threads.{status_word, run, pointers_of, traps_of, thread_state, thread}
use Rattle.state_forms.proofs.Holding.{option_below_holds, option_below_of, repeat_holds, repeat_of, words_fit, each_as}
use Rattle.state_forms.proofs.Zips.{unzip_all, zip_all}

-- ---- Status registers

status_holds : (sr : Status) → status_word.Holds sr → IsKnown sr
unfolding status_word
status_holds sr h = eqb-true _ _ h.1

status_of : (sr : Status) → IsKnown sr → status_word.Holds sr
unfolding status_word
status_of sr known = (omega (arith, and_le_r sr.bits 223), eq-eqb _ _ known)

-- ---- What a thread does

-- a fact of runs that says of each wait that what is waited at is there, and that its count is of one token or of a word
pub record TellsWaits (P : Run → Type 0) : Type 0 where
  pub free : P Free
  pub unstarted : P Unstarted
  pub at_sync : P AtSync
  pub going : P Going
  pub halted : P Halted
  pub room : (chan count : ℕ) → P (Paused (Room chan count)) ↔ ((chan < CHAN_ENDS) × ((eqb count 1 || eqb count 4) ≡ true))
  pub tokens : (chan count : ℕ) → P (Paused (Tokens chan count)) ↔ ((chan < CHAN_ENDS) × ((eqb count 1 || eqb count 4) ≡ true))
  pub full : (port : ℕ) → P (Paused (PortFull port)) ↔ (port < PORTS)
  pub empty : (port : ℕ) → P (Paused (PortEmpty port)) ↔ (port < PORTS)
  pub idle : (port : ℕ) → P (Paused (PortIdle port)) ↔ (port < PORTS)
  pub timer : (timer : ℕ) → P (Paused (Timer timer)) ↔ (timer < TIMERS)
  pub lock : (lock : ℕ) → P (Paused (Lock lock)) ↔ (lock < LOCKS)
  pub slaves : (sync : ℕ) → P (Paused (Slaves sync)) ↔ (sync < SYNCHRONISERS)
  pub choice : P (Paused Choice)
  pub divider : P (Paused Divider)

few : (count : ℕ) → (eqb count 1 || eqb count 4) ≡ true → count < 256
few count h =
    elim (or_cases (eqb count 1) (eqb count 4) h) [
      | inl one ↦ omega (arith, eqb-true count 1 one)
      | inr four ↦ omega (arith, eqb-true count 4 four)
    ]

module _ {P : Run → Type 0} (tells : TellsWaits P) where
  pub run_holds : (r : Run) → run.Holds r → P r
  unfolding run
  run_holds Free h = tells.free
  run_holds Unstarted h = tells.unstarted
  run_holds AtSync h = tells.at_sync
  run_holds Going h = tells.going
  run_holds Halted h = tells.halted
  run_holds (Paused (Room chan count)) h = (tells.room chan count).1 (ltb-true chan 32 h.1.1.0.1, h.1.1.1.1)
  run_holds (Paused (Tokens chan count)) h = (tells.tokens chan count).1 (ltb-true chan 32 h.1.1.0.1, h.1.1.1.1)
  run_holds (Paused (PortFull port)) h = (tells.full port).1 (ltb-true port 29 h.1.1.0.1)
  run_holds (Paused (PortEmpty port)) h = (tells.empty port).1 (ltb-true port 29 h.1.1.0.1)
  run_holds (Paused (PortIdle port)) h = (tells.idle port).1 (ltb-true port 29 h.1.1.0.1)
  run_holds (Paused (Timer timer)) h = (tells.timer timer).1 (ltb-true timer 10 h.1.1.0.1)
  run_holds (Paused (Lock lock)) h = (tells.lock lock).1 (ltb-true lock 4 h.1.1.0.1)
  run_holds (Paused (Slaves sync)) h = (tells.slaves sync).1 (ltb-true sync 7 h.1.1.0.1)
  run_holds (Paused Choice) h = tells.choice
  run_holds (Paused Divider) h = tells.divider

  pub run_of_fact : (r : Run) → P r → run.Holds r
  unfolding run
  run_of_fact Free h = ((omega arith, refl), ((omega arith, refl), ((omega arith, refl), (omega arith, refl))))
  run_of_fact Unstarted h = ((omega arith, refl), ((omega arith, refl), ((omega arith, refl), (omega arith, refl))))
  run_of_fact AtSync h = ((omega arith, refl), ((omega arith, refl), ((omega arith, refl), (omega arith, refl))))
  run_of_fact Going h = ((omega arith, refl), ((omega arith, refl), ((omega arith, refl), (omega arith, refl))))
  run_of_fact Halted h = ((omega arith, refl), ((omega arith, refl), ((omega arith, refl), (omega arith, refl))))
  run_of_fact (Paused (Room chan count)) h =
      let k = (tells.room chan count).0 h in
      ((omega arith, refl), ((omega arith, refl), ((omega (arith, k.0), lt-ltb chan 32 k.0), (few count k.1, k.1))))
  run_of_fact (Paused (Tokens chan count)) h =
      let k = (tells.tokens chan count).0 h in
      ((omega arith, refl), ((omega arith, refl), ((omega (arith, k.0), lt-ltb chan 32 k.0), (few count k.1, k.1))))
  run_of_fact (Paused (PortFull port)) h =
      let k = (tells.full port).0 h in
      ((omega arith, refl), ((omega arith, refl), ((omega (arith, k), lt-ltb port 29 k), (omega arith, refl))))
  run_of_fact (Paused (PortEmpty port)) h =
      let k = (tells.empty port).0 h in
      ((omega arith, refl), ((omega arith, refl), ((omega (arith, k), lt-ltb port 29 k), (omega arith, refl))))
  run_of_fact (Paused (PortIdle port)) h =
      let k = (tells.idle port).0 h in
      ((omega arith, refl), ((omega arith, refl), ((omega (arith, k), lt-ltb port 29 k), (omega arith, refl))))
  run_of_fact (Paused (Timer timer)) h =
      let k = (tells.timer timer).0 h in
      ((omega arith, refl), ((omega arith, refl), ((omega (arith, k), lt-ltb timer 10 k), (omega arith, refl))))
  run_of_fact (Paused (Lock lock)) h =
      let k = (tells.lock lock).0 h in
      ((omega arith, refl), ((omega arith, refl), ((omega (arith, k), lt-ltb lock 4 k), (omega arith, refl))))
  run_of_fact (Paused (Slaves sync)) h =
      let k = (tells.slaves sync).0 h in
      ((omega arith, refl), ((omega arith, refl), ((omega (arith, k), lt-ltb sync 7 k), (omega arith, refl))))
  run_of_fact (Paused Choice) h = ((omega arith, refl), ((omega arith, refl), ((omega arith, refl), (omega arith, refl))))
  run_of_fact (Paused Divider) h = ((omega arith, refl), ((omega arith, refl), ((omega arith, refl), (omega arith, refl))))

-- ---- Threads

-- its registers are words
pub record HasWords (th : Thread) : Type 0 where
  pub len : length th.r ≡ 12
  pub r : (i : ℕ) → get_or th.r i 0 < 4294967296
  pub cp : th.cp < 4294967296
  pub dp : th.dp < 4294967296
  pub sp : th.sp < 4294967296
  pub lr : th.lr < 4294967296
  pub pc : th.pc < 4294967296
  pub spc : th.spc < 4294967296
  pub et : th.et < 4294967296
  pub ed : th.ed < 4294967296
  pub sed : th.sed < 4294967296
  pub kep : th.kep < 4294967296
  pub ksp : th.ksp < 4294967296

-- what the form says of a thread beside that
pub record IsOfForm (th : Thread) : Type 0 where
  pub sr : IsKnown th.sr
  pub ssr : IsKnown th.ssr
  pub run : run.Holds th.run

pub thread_state_holds : (th : Thread) → thread_state.Holds th → IsOfForm th
unfolding thread_state
thread_state_holds th h = record { sr = status_holds th.sr h.1.1.0; ssr = status_holds th.ssr h.1.1.1.1.0; run = h.1.1.1.1.1.1 }

pub thread_state_of : (th : Thread) → HasWords th → IsOfForm th → thread_state.Holds th
unfolding thread_state
thread_state_of th words h =
    let pointers = repeat_of word 5 (pointers_of th) refl (words.cp, (words.dp, (words.sp, (words.lr, (words.pc, tt))))) in
    let traps = repeat_of word 5 (traps_of th) refl (words.et, (words.ed, (words.sed, (words.kep, (words.ksp, tt))))) in
    (repeat_of word 12 th.r words.len (words_fit th.r words.r), (pointers, (status_of th.sr h.sr, (words.spc, (status_of th.ssr h.ssr, (traps, h.run))))))

-- ---- The threads of a core, and the slots of their last issues

abbrev IsBefore : ℕ → Option ℕ → Type 0
IsBefore slot last = IfSome last (λ s. s < slot)

thread_holds : (slot : ℕ) (p : Thread × Option ℕ) → (thread slot).Holds p → thread_state.Holds p.0 × IsBefore slot p.1
unfolding thread
thread_holds slot p h = (h.0, option_below_holds word slot p.1 h.1)

thread_of_facts : (slot : ℕ) (p : Thread × Option ℕ) → thread_state.Holds p.0 × (IsBefore 4294967296 p.1 × IsBefore slot p.1) → (thread slot).Holds p
unfolding thread
thread_of_facts slot p h = (h.0, option_below_of word slot (omega arith) p.1 h.1.0 h.1.1)

pub threads_hold : (slot : ℕ) (threads : List Thread) (last : List (Option ℕ)) → length last ≡ length threads → (repeat 8 (thread slot)).Holds (zip threads last)
    → AllByRecursion thread_state.Holds threads × AllByRecursion (λ (l : Option ℕ). IfSome l (λ s. s < slot)) last
threads_hold slot threads last len h =
    unzip_all (λ (th : Thread). thread_state.Holds th) (IsBefore slot) threads last len (each_as (thread_holds slot) (zip threads last) (repeat_holds (thread slot) 8 (zip threads last) h))

pub threads_of : (slot : ℕ) (threads : List Thread) (last : List (Option ℕ)) → length threads ≡ 8 → length last ≡ 8 → AllByRecursion thread_state.Holds threads
    → AllByRecursion (λ (l : Option ℕ). IfSome l (λ s. s < 4294967296) × IfSome l (λ s. s < slot)) last → (repeat 8 (thread slot)).Holds (zip threads last)
threads_of slot threads last len len_last h before =
    let pairs = zip_all (λ (th : Thread). thread_state.Holds th) (λ (l : Option ℕ). IsBefore 4294967296 l × IsBefore slot l) threads last h before in
    repeat_of (thread slot) 8 (zip threads last) (omega (arith, length-zip threads last)) (each_as (thread_of_facts slot) (zip threads last) pairs)
