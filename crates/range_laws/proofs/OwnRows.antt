-- What the rows on words, on memory, on the flow of control and on the kernel leave: words and bytes.
use Rattle.std.proofs.Common.{ℕ, ◌+◌, ◌*◌, ◌/◌, ◌^◌, ◌<◌, Bool, true, false, not, ◌==◌, if◌then◌else◌, Option, Some, None, List, bit_and, arith}
use Rattle.std.specs.Prelude.{ℤ, pos, ◌+ℤ◌, ◌*ℤ◌, IfSome}
use Rattle.std.proofs.Math.Nat.{mod-le, div-le_self}
use Rattle.std.proofs.lemmas.Nat.{or_of_32, xor_of_32}
use Rattle.xs_base.specs.Numbers.{Word, Register, ThreadNumber}
use Rattle.xs_base.specs.Words.{long, signed, word_sum}
use Rattle.xs_model.specs.declared.thread.Thread.{Thread}
use Rattle.xs_model.specs.declared.status.Status.{Status}
use Rattle.xs_model.specs.declared.status.TheConstants.{SETTABLE}
use Rattle.xs_model.specs.Status.{status_of, with_bits, without_bits}
use Rattle.xs_model.specs.Threads.{register, with_register}
use Rattle.xs_model.specs.Memory.{load_word, load_half, load_byte, store_word, store_half, store_byte}
use Rattle.xs_instructions.specs.Code.{place_address}
use Rattle.xs_instructions.specs.Instr.{WordsInRange, MemoryInRange, FlowInRange, KernelInRange}
use Rattle.xs_instructions.specs.declared.instr.WordIns.{WordIns}
use Rattle.xs_instructions.specs.declared.instr.WordIns.TheVariants as words
use Rattle.xs_instructions.specs.declared.instr.MemIns.{MemIns}
use Rattle.xs_instructions.specs.declared.instr.MemIns.TheVariants as memory
use Rattle.xs_instructions.specs.declared.instr.FlowIns.{FlowIns}
use Rattle.xs_instructions.specs.declared.instr.FlowIns.TheVariants as flow
use Rattle.xs_instructions.specs.declared.instr.KernelIns.{KernelIns}
use Rattle.xs_instructions.specs.declared.instr.KernelIns.TheVariants as kernel
use Rattle.step_model.specs.Effect.{Leaving, Leaves, Traps, Own, after_it}
use Rattle.step_model.specs.WordRows.{words_row, accumulated, sets_two, divides, divides_long}
use Rattle.step_model.specs.MemoryRows.{up, down, reg, memory_row, loads, stores, loads_word, loads_half, loads_byte, stores_word, stores_half, stores_byte}
use Rattle.step_model.specs.FlowRows.{after_branch, called, flow_row}
use Rattle.step_model.specs.KernelRows.{kernel_row, calls_where, loads_from_stack, stores_to_stack, sets_status}
use Rattle.state_bridge.specs.Fits.{ThreadFits}
use Rattle.range_laws.proofs.Words.{IsWord, low_word, at_most, and_word, and_short, truth_word, inverted_word, modulo_below, of_word, shl_word, shr_word, mkmsk_word, zext_word, sext_word, bitrev_word, byterev_word, clz_word, AreTwo, halves_words, carry_words, borrow_words, product_words, quotient_words}
use Rattle.range_laws.proofs.Threads.{set_cp, set_dp, set_sp, set_lr, set_pc, set_spc, set_et, set_sed, set_kep, set_ksp, set_sr, set_ssr, register_fits, register_word, goes_fits, returned_fits}
use Rattle.range_laws.proofs.Memory.{FoundWord, LeftMemory, loaded_word, loaded_half, loaded_byte, stored_word, stored_half, stored_byte}
use Rattle.range_laws.proofs.Core.{MemoryFits}

-- ---- Words

abbrev pub LeftWords : Leaving Thread → Type 0
LeftWords (Leaves th) = ThreadFits th
LeftWords (Traps number value) = IsWord number × IsWord value

accumulated_words : (d e : Word) (product : ℤ) → AreTwo (accumulated d e product)
accumulated_words d e product = halves_words _ (modulo_below 64 (pos (long d e) +ℤ product))

module _ (th : Thread) (h : ThreadFits th) where
  sets_words : (d : Register) (word : Word) → IsWord word → ThreadFits (with_register th d word)
  sets_words d word is = register_fits th d word h is

  two_words : (d e : Register) (both : Word × Word) → AreTwo both → LeftWords (sets_two th d e both)
  two_words d e both are = register_fits (with_register th d both.0) e both.1 (register_fits th d both.0 h are.0) are.1

  divides_words : (d : Register) (fails : Bool) (word : Word) → IsWord word → LeftWords (divides th d fails word)
  divides_words d true word is = (omega arith, omega arith)
  divides_words d false word is = register_fits th d word h is

  divides_long_words : (d e : Register) (found : Option (Word × Word)) → IfSome found AreTwo → LeftWords (divides_long th d e found)
  divides_long_words d e None are = (omega arith, omega arith)
  divides_long_words d e (Some both) are = two_words d e both are

  is_word : (g : Register) → IsWord (register th g)
  is_word g = register_word th g h

  pub words_left : (ins : WordIns) → WordsInRange ins → LeftWords (words_row th ins)
  words_left (words.Add d x y) fits = sets_words d _ (low_word _)
  words_left (words.AddImm d x i) fits = sets_words d _ (low_word _)
  words_left (words.Sub d x y) fits = sets_words d _ (low_word _)
  words_left (words.SubImm d x i) fits = sets_words d _ (low_word _)
  words_left (words.Neg d x) fits = sets_words d _ (low_word _)
  words_left (words.Not d x) fits = sets_words d _ (inverted_word _)
  words_left (words.And d x y) fits = sets_words d _ (and_word _ _ (is_word x))
  words_left (words.Or d x y) fits = sets_words d _ (or_of_32 _ _ (is_word x) (is_word y))
  words_left (words.Xor d x y) fits = sets_words d _ (xor_of_32 _ _ (is_word x) (is_word y))
  words_left (words.AndNot d x) fits = sets_words d _ (and_word _ _ (is_word d))
  words_left (words.Eq d x y) fits = sets_words d _ (truth_word _)
  words_left (words.EqImm d x i) fits = sets_words d _ (truth_word _)
  words_left (words.Lss d x y) fits = sets_words d _ (truth_word _)
  words_left (words.Lsu d x y) fits = sets_words d _ (truth_word _)
  words_left (words.Shl d x y) fits = sets_words d _ (shl_word _ _)
  words_left (words.ShlImm d x b) fits = sets_words d _ (shl_word _ _)
  words_left (words.Shr d x y) fits = sets_words d _ (shr_word _ _ (is_word x))
  words_left (words.ShrImm d x b) fits = sets_words d _ (shr_word _ _ (is_word x))
  words_left (words.Ashr d x y) fits = sets_words d _ (of_word _)
  words_left (words.AshrImm d x b) fits = sets_words d _ (of_word _)
  words_left (words.Mul d x y) fits = sets_words d _ (low_word _)
  words_left (words.Divu d x y) fits = divides_words d _ _ (at_most _ (register th x) (div-le_self _ _) (is_word x))
  words_left (words.Remu d x y) fits = divides_words d _ _ (at_most _ (register th x) (mod-le _ _) (is_word x))
  words_left (words.Divs d x y) fits = divides_words d _ _ (of_word _)
  words_left (words.Rems d x y) fits = divides_words d _ _ (of_word _)
  words_left (words.Mkmsk d x) fits = sets_words d _ (mkmsk_word _)
  words_left (words.MkmskImm d b) fits = sets_words d _ (mkmsk_word _)
  words_left (words.Sext d x) fits = sets_words d _ (sext_word _ (register th x) (is_word d))
  words_left (words.SextImm d b) fits = sets_words d _ (sext_word _ b (is_word d))
  words_left (words.Zext d x) fits = sets_words d _ (zext_word _ (register th x) (is_word d))
  words_left (words.ZextImm d b) fits = sets_words d _ (zext_word _ b (is_word d))
  words_left (words.Bitrev d x) fits = sets_words d _ (bitrev_word _)
  words_left (words.Byterev d x) fits = sets_words d _ (byterev_word _ (is_word x))
  words_left (words.Clz d x) fits = sets_words d _ (clz_word _)
  words_left (words.Ladd d e x y v) fits = two_words d e _ (carry_words _ _ _ (is_word x) (is_word y))
  words_left (words.Lsub d e x y v) fits = two_words d e _ (borrow_words (register th x) (register th y) (register th v))
  words_left (words.Lmul d e x y v w) fits = two_words d e _ (product_words (register th x) (register th y) (register th v) (register th w) (is_word x) (is_word y) (is_word v) (is_word w))
  words_left (words.Ldivu d e x y v) fits = divides_long_words d e _ (quotient_words (register th x) (register th y) (register th v) (is_word y) (is_word v))
  words_left (words.Maccu d e x y) fits =
      two_words d e _ (accumulated_words (register th d) (register th e) (pos (register th x * register th y)))
  words_left (words.Maccs d e x y) fits =
      two_words d e _ (accumulated_words (register th d) (register th e) (signed (register th x) *ℤ signed (register th y)))
  words_left (words.Ldc d u) fits = let short = fits.1.0 in sets_words d u (omega (arith, short))
  words_left words.Nop fits = h

-- ---- Memory

pub record OwnFits (l : Own) : Type 0 where
  pub thread : ThreadFits l.thread
  pub memory : MemoryFits l.memory

abbrev pub OwnLeft : Leaving Own → Type 0
OwnLeft (Leaves l) = OwnFits l
OwnLeft (Traps number value) = IsWord number × IsWord value

place_word : (place : ℕ) → place < 2 ^ 16 → IsWord (place_address place)
place_word place short = omega (arith, short)

module _ (l : Own) (h : OwnFits l) where
  becomes_fit : (th : Thread) → ThreadFits th → OwnFits (record l { thread = th })
  becomes_fit th new = record { thread = new; memory = h.memory }

  loads_fit : (at : Word) (found : Option Word) (after : Word → Thread) → IsWord at → FoundWord found → ((word : Word) → IsWord word → ThreadFits (after word)) → OwnLeft (loads l at found after)
  loads_fit at None after there is so = (omega arith, there)
  loads_fit at (Some word) after there is so = becomes_fit (after word) (so word is)

  stores_fit : (at : Word) (found : Option (List ℕ)) (th : Thread) → IsWord at → LeftMemory found → ThreadFits th → OwnLeft (stores at found th)
  stores_fit at None th there left new = (omega arith, there)
  stores_fit at (Some bytes) th there left new = record { thread = new; memory = left }

  its : (g : Register) → IsWord (reg l g)
  its g = register_word l.thread g h.thread

  goes : ThreadFits (after_it l.thread)
  goes = goes_fits l.thread h.thread

  with_word : (g : Register) (word : Word) → IsWord word → ThreadFits (after_it (with_register l.thread g word))
  with_word g word is = goes_fits (with_register l.thread g word) (register_fits l.thread g word h.thread is)

  sets_fit : (g : Register) (word : Word) → IsWord word → OwnFits (record l { thread = after_it (with_register l.thread g word) })
  sets_fit g word is = becomes_fit _ (with_word g word is)

  loads_word_left : (g : Register) (at : Word) → IsWord at → OwnLeft (loads_word l g at)
  loads_word_left g at there = loads_fit at (load_word l.memory at) _ there (loaded_word l.memory at h.memory) (with_word g)

  loads_half_left : (g : Register) (at : Word) → IsWord at → OwnLeft (loads_half l g at)
  loads_half_left g at there = loads_fit at (load_half l.memory at) _ there (loaded_half l.memory at h.memory) (with_word g)

  loads_byte_left : (g : Register) (at : Word) → IsWord at → OwnLeft (loads_byte l g at)
  loads_byte_left g at there = loads_fit at (load_byte l.memory at) _ there (loaded_byte l.memory at h.memory) (with_word g)

  stores_word_left : (g : Register) (at : Word) → IsWord at → OwnLeft (stores_word l g at)
  stores_word_left g at there = stores_fit at (store_word l.memory at (reg l g)) _ there (stored_word l.memory at (reg l g) h.memory) goes

  stores_half_left : (g : Register) (at : Word) → IsWord at → OwnLeft (stores_half l g at)
  stores_half_left g at there = stores_fit at (store_half l.memory at (reg l g)) _ there (stored_half l.memory at (reg l g) h.memory) goes

  stores_byte_left : (g : Register) (at : Word) → IsWord at → OwnLeft (stores_byte l g at)
  stores_byte_left g at there = stores_fit at (store_byte l.memory at (reg l g)) _ there (stored_byte l.memory at (reg l g) h.memory) goes

  pub memory_left : (ins : MemIns) → MemoryInRange ins → OwnLeft (memory_row l ins)
  memory_left (memory.LdwImm d x i) fits = loads_word_left d (up (reg l x) 4 i) (low_word _)
  memory_left (memory.Ldw d x y) fits = loads_word_left d (up (reg l x) 4 (reg l y)) (low_word _)
  memory_left (memory.LdwDp g u) fits = loads_word_left g (up l.thread.dp 4 u) (low_word _)
  memory_left (memory.LdwSp g u) fits = loads_word_left g (up l.thread.sp 4 u) (low_word _)
  memory_left (memory.LdwCp d u) fits = loads_word_left d (up l.thread.cp 4 u) (low_word _)
  memory_left (memory.StwImm d x i) fits = stores_word_left d (up (reg l x) 4 i) (low_word _)
  memory_left (memory.Stw d x y) fits = stores_word_left d (up (reg l x) 4 (reg l y)) (low_word _)
  memory_left (memory.StwDp g u) fits = stores_word_left g (up l.thread.dp 4 u) (low_word _)
  memory_left (memory.StwSp g u) fits = stores_word_left g (up l.thread.sp 4 u) (low_word _)
  memory_left (memory.Ld16s d x y) fits = loads_half_left d (up (reg l x) 2 (reg l y)) (low_word _)
  memory_left (memory.Ld8u d x y) fits = loads_byte_left d (up (reg l x) 1 (reg l y)) (low_word _)
  memory_left (memory.St16 d x y) fits = stores_half_left d (up (reg l x) 2 (reg l y)) (low_word _)
  memory_left (memory.St8 d x y) fits = stores_byte_left d (up (reg l x) 1 (reg l y)) (low_word _)
  memory_left (memory.Ldaw d x y) fits = sets_fit d (up (reg l x) 4 (reg l y)) (low_word _)
  memory_left (memory.LdawBack d x y) fits = sets_fit d (down (reg l x) 4 (reg l y)) (low_word _)
  memory_left (memory.LdawImm d x i) fits = sets_fit d (up (reg l x) 4 i) (low_word _)
  memory_left (memory.LdawBackImm d x i) fits = sets_fit d (down (reg l x) 4 i) (low_word _)
  memory_left (memory.LdawDp d u) fits = sets_fit d (up l.thread.dp 4 u) (low_word _)
  memory_left (memory.LdawSp d u) fits = sets_fit d (up l.thread.sp 4 u) (low_word _)
  memory_left (memory.LdawCp u) fits = sets_fit 11 (up l.thread.cp 4 u) (low_word _)
  memory_left (memory.Lda16 d x y) fits = sets_fit d (up (reg l x) 2 (reg l y)) (low_word _)
  memory_left (memory.Lda16Back d x y) fits = sets_fit d (down (reg l x) 2 (reg l y)) (low_word _)
  memory_left (memory.Ldap p) fits = sets_fit 11 (place_address p) (place_word p fits.0)

  -- ---- The flow of control

  -- a row of two cases
  either_left : (holds : Bool) (x y : Leaving Own) → OwnLeft x → OwnLeft y → OwnLeft (if holds then x else y)
  either_left true x y this that = this
  either_left false x y this that = that

  branch_fits : (taken : Bool) (place : ℕ) → place < 2 ^ 16 → OwnFits (record l { thread = after_branch taken place l.thread })
  branch_fits true place short = becomes_fit _ (set_pc l.thread (place_address place) h.thread (place_word place short))
  branch_fits false place short = becomes_fit _ goes

  called_fits : (at : Word) → IsWord at → ThreadFits (called l.thread at)
  called_fits at is = set_pc _ at (set_lr l.thread (word_sum l.thread.pc 4) h.thread (low_word _)) is

  -- the thread goes on with another sp or dp
  on_sp : (sp : Word) → IsWord sp → ThreadFits (after_it (record l.thread { sp = sp }))
  on_sp sp is = goes_fits _ (set_sp l.thread sp h.thread is)

  returned_to : (end word : Word) → IsWord end → IsWord word → ThreadFits (record l.thread { sp = end; lr = word; pc = word })
  returned_to end word fe fw = set_pc _ word (set_lr _ word (set_sp l.thread end h.thread fe) fw) fw

  pub flow_left : (ins : FlowIns) → FlowInRange ins → OwnLeft (flow_row l ins)
  flow_left (flow.Bt s p) fits = branch_fits (not (reg l s == 0)) p fits.1.0
  flow_left (flow.Bf s p) fits = branch_fits (reg l s == 0) p fits.1.0
  flow_left (flow.Bu p) fits = becomes_fit _ (set_pc l.thread (place_address p) h.thread (place_word p fits.0))
  flow_left (flow.Bru s) fits = becomes_fit _ (set_pc l.thread (up l.thread.pc 4 (1 + reg l s)) h.thread (low_word _))
  flow_left (flow.Bau s) fits = becomes_fit _ (set_pc l.thread (reg l s) h.thread (its s))
  flow_left (flow.Bl p) fits = becomes_fit _ (called_fits (place_address p) (place_word p fits.0))
  flow_left (flow.Bla s) fits = becomes_fit _ (called_fits (reg l s) (its s))
  flow_left (flow.BlaCp u) fits =
      let at = up l.thread.cp 4 u in loads_fit at (load_word l.memory at) (called l.thread) (low_word _) (loaded_word l.memory at h.memory) called_fits
  flow_left (flow.Entsp u) fits =
      either_left (u == 0) _ _ (becomes_fit _ goes)
      (stores_fit l.thread.sp (store_word l.memory l.thread.sp l.thread.lr) _ h.thread.sp (stored_word l.memory l.thread.sp l.thread.lr h.memory) (on_sp (down l.thread.sp 4 u) (low_word _)))
  flow_left (flow.Retsp u) fits =
      let end = up l.thread.sp 4 u in
      either_left (u == 0) _ _ (becomes_fit _ (set_pc l.thread l.thread.lr h.thread h.thread.lr))
      (loads_fit end (load_word l.memory end) _ (low_word _) (loaded_word l.memory end h.memory) (λ word is. returned_to end word (low_word _) is))
  flow_left (flow.Extsp u) fits = becomes_fit _ (on_sp (down l.thread.sp 4 u) (low_word _))
  flow_left (flow.Extdp u) fits = becomes_fit _ (goes_fits _ (set_dp l.thread (down l.thread.dp 4 u) h.thread (low_word _)))
  flow_left (flow.SetSp s) fits = becomes_fit _ (on_sp (reg l s) (its s))
  flow_left (flow.SetDp s) fits = becomes_fit _ (goes_fits _ (set_dp l.thread (reg l s) h.thread (its s)))
  flow_left (flow.SetCp s) fits = becomes_fit _ (goes_fits _ (set_cp l.thread (reg l s) h.thread (its s)))

  -- ---- The kernel

  calls_fit : (holds : Bool) (value : Word) → IsWord value → OwnLeft (calls_where l holds value)
  calls_fit true value is = (omega arith, is)
  calls_fit false value is = becomes_fit _ goes

  loads_stack : (n : ℕ) (with_it : Word → Thread) → ((word : Word) → IsWord word → ThreadFits (with_it word)) → OwnLeft (loads_from_stack l n with_it)
  loads_stack n with_it so =
      let at = up l.thread.sp 4 n in loads_fit at (load_word l.memory at) _ (low_word _) (loaded_word l.memory at h.memory) (λ word is. goes_fits (with_it word) (so word is))

  stores_stack : (n : ℕ) (word : Word) → OwnLeft (stores_to_stack l n word)
  stores_stack n word = let at = up l.thread.sp 4 n in stores_fit at (store_word l.memory at word) _ (low_word _) (stored_word l.memory at word h.memory) goes

  left_kernel : (end word : Word) → IsWord end → IsWord word → ThreadFits (after_it (record l.thread { ksp = end; sp = word }))
  left_kernel end word fe fw = goes_fits _ (set_sp _ word (set_ksp l.thread end h.thread fe) fw)

  status_fits : (sr : Status) → OwnLeft (sets_status l sr)
  status_fits sr = becomes_fit _ (goes_fits _ (set_sr l.thread sr h.thread))

  pub kernel_left : (k : ThreadNumber) → k < 8 → (ins : KernelIns) → KernelInRange ins → OwnLeft (kernel_row k l ins)
  kernel_left k few (kernel.KcallImm u) fits = let short = fits.0 in (omega arith, omega (arith, short))
  kernel_left k few (kernel.Kcall s) fits = (omega arith, its s)
  kernel_left k few kernel.Kret fits = becomes_fit _ (returned_fits l.thread h.thread)
  kernel_left k few (kernel.Kentsp u) fits =
      stores_fit l.thread.ksp (store_word l.memory l.thread.ksp l.thread.sp) _ h.thread.ksp (stored_word l.memory l.thread.ksp l.thread.sp h.memory) (on_sp (down l.thread.ksp 4 u) (low_word _))
  kernel_left k few (kernel.Krestsp u) fits =
      let end = up l.thread.sp 4 u in loads_fit end (load_word l.memory end) _ (low_word _) (loaded_word l.memory end h.memory) (λ word is. left_kernel end word (low_word _) is)
  kernel_left k few (kernel.Ecallt s) fits = calls_fit (not (reg l s == 0)) (reg l s) (its s)
  kernel_left k few (kernel.Ecallf s) fits = calls_fit (reg l s == 0) (reg l s) (its s)
  kernel_left k few kernel.SetKep fits = let word = its 11 in becomes_fit _ (goes_fits _ (set_kep l.thread (reg l 11 / 128 * 128) h.thread (omega (arith, word))))
  kernel_left k few kernel.GetKep fits = sets_fit 11 l.thread.kep h.thread.kep
  kernel_left k few kernel.GetKsp fits = sets_fit 11 l.thread.ksp h.thread.ksp
  kernel_left k few kernel.GetEd fits = sets_fit 11 l.thread.ed h.thread.ed
  kernel_left k few kernel.GetEt fits = sets_fit 11 l.thread.et h.thread.et
  kernel_left k few kernel.GetId fits = sets_fit 11 k (omega (arith, few))
  kernel_left k few (kernel.Getsr u) fits = sets_fit 11 (bit_and l.thread.sr.bits u) (and_short l.thread.sr.bits u fits.0)
  kernel_left k few kernel.LdwSpc fits = loads_stack 1 (λ word. record l.thread { spc = word }) (λ word is. set_spc l.thread word h.thread is)
  kernel_left k few kernel.LdwSsr fits = loads_stack 2 (λ word. record l.thread { ssr = status_of word }) (λ word is. set_ssr l.thread (status_of word) h.thread)
  kernel_left k few kernel.LdwSed fits = loads_stack 3 (λ word. record l.thread { sed = word }) (λ word is. set_sed l.thread word h.thread is)
  kernel_left k few kernel.LdwEt fits = loads_stack 4 (λ word. record l.thread { et = word }) (λ word is. set_et l.thread word h.thread is)
  kernel_left k few kernel.StwSpc fits = stores_stack 1 l.thread.spc
  kernel_left k few kernel.StwSsr fits = stores_stack 2 l.thread.ssr.bits
  kernel_left k few kernel.StwSed fits = stores_stack 3 l.thread.sed
  kernel_left k few kernel.StwEt fits = stores_stack 4 l.thread.et
  kernel_left k few (kernel.Setsr u) fits = status_fits (with_bits l.thread.sr (bit_and u SETTABLE))
  kernel_left k few (kernel.Clrsr u) fits = status_fits (without_bits l.thread.sr (bit_and u SETTABLE))
