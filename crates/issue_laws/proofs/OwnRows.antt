-- The rows on memory, on the flow of control and on the kernel store what they are said to store, and nothing else.
use Rattle.std.proofs.Common.{◌≡◌, ℕ, ◌%◌, ◌/◌, ◌==◌, Bool, true, false, if◌then◌else◌, Option, Some, None, List, [], ◌∷◌, refl, ap, ◌∙◌, arith}
use Rattle.std.specs.Prelude.{IfSome}
use Rattle.xs_base.specs.Numbers.{Word, ThreadNumber}
use Rattle.xs_model.specs.declared.thread.Run.{Run}
use Rattle.xs_model.specs.declared.thread.Thread.{Thread}
use Rattle.xs_model.specs.Threads.{register}
use Rattle.xs_model.specs.Memory.{with_bytes, bytes_of_word, bytes_of_half, low_byte, is_word_address, is_half_address, is_byte_address, store_word, store_half, store_byte}
use Rattle.xs_instructions.specs.declared.instr.MemIns.{MemIns}
use Rattle.xs_instructions.specs.declared.instr.MemIns.TheVariants as memory
use Rattle.xs_instructions.specs.declared.instr.FlowIns.{FlowIns}
use Rattle.xs_instructions.specs.declared.instr.FlowIns.TheVariants as flow
use Rattle.xs_instructions.specs.declared.instr.KernelIns.{KernelIns}
use Rattle.xs_instructions.specs.declared.instr.KernelIns.TheVariants as kernel
use Rattle.step_model.specs.Effect.{Leaving, Leaves, Traps, Own, after_it}
use Rattle.step_model.specs.MemoryRows.{up, down, memory_row, loads, stores}
use Rattle.step_model.specs.FlowRows.{returns, flow_row}
use Rattle.step_model.specs.KernelRows.{kernel_row, calls_where}
use Rattle.issue_model.specs.declared.Size.TheVariants as size
use Rattle.issue_model.specs.declared.Store.{Store}
use Rattle.issue_model.specs.Stores.{word_at, half_at, byte_at, memory_stores, flow_stores, kernel_stores}
use Rattle.issue_laws.specs.Followed.{bytes_of, with_store}

-- the low half of a word has the bytes of the word's, and its low byte that of the word
half_bytes : (w : Word) → bytes_of_half w ≡ bytes_of_half (w % 65536)
half_bytes w =
    let low : w % 256 ≡ w % 65536 % 256 = omega arith in
    let high : w / 256 % 256 ≡ w % 65536 / 256 % 256 = omega arith in
    ap (λ b. b ∷ (w / 256 % 256) ∷ []) low ∙ ap (λ b. (w % 65536 % 256) ∷ b ∷ []) high

low_bytes : (w : Word) → low_byte w ≡ low_byte (w % 256)
low_bytes w = let low : w % 256 ≡ w % 256 % 256 = omega arith in ap (λ b. b ∷ []) low

-- a thread does this while it issues, and this was the memory
module _ (run : Run) (bytes : List ℕ) where
  -- what is left is the memory with the store, if there was one; and then the thread does what it did
  abbrev pub Follows : Option Store → Leaving Own → Type 0
  Follows store (Leaves l) = (l.memory ≡ with_store bytes store) × IfSome store (λ stored. l.thread.run ≡ run)
  Follows store (Traps number value) = Unit {0}

  -- one or another that stores nothing
  or_follows : (holds : Bool) (x y : Leaving Own) → Follows None x → Follows None y → Follows None (if holds then x else y)
  or_follows true x y one other = one
  or_follows false x y one other = other

  -- a store or none, with the row that leaves it
  either : (none : Bool) (store : Option Store) (x y : Leaving Own) → Follows None x → Follows store y → Follows (if none then None else store) (if none then x else y)
  either true store x y one other = one
  either false store x y one other = other

  -- a load
  loads_follow : (l : Own) (at : Word) (found : Option Word) (after : Word → Thread) → l.memory ≡ bytes → Follows None (loads l at found after)
  loads_follow l at None after same = tt
  loads_follow l at (Some word) after same = (same, tt)

  -- a store, where the address may be one of its size
  stores_follow : (holds : Bool) (new : List ℕ) (store : Store) (after : Thread) → after.run ≡ run → new ≡ bytes_of store.size store.value
      → Follows (Some store) (stores store.at (if holds then Some (with_bytes bytes store.at new) else None) after)
  stores_follow true new store after does are = (ap (with_bytes bytes store.at) are, does)
  stores_follow false new store after does are = tt

  -- a store of a word, of the low half of one, and of its low byte
  word_follows : (at w : Word) (after : Thread) → after.run ≡ run → Follows (word_at at w) (stores at (store_word bytes at w) after)
  word_follows at w after does = stores_follow (is_word_address at) (bytes_of_word w) (record { size = size.Word; at = at; value = w }) after does refl

  half_follows : (at w : Word) (after : Thread) → after.run ≡ run → Follows (half_at at w) (stores at (store_half bytes at w) after)
  half_follows at w after does = stores_follow (is_half_address at) (bytes_of_half w) (record { size = size.Half; at = at; value = w % 65536 }) after does (half_bytes w)

  byte_follows : (at w : Word) (after : Thread) → after.run ≡ run → Follows (byte_at at w) (stores at (store_byte bytes at w) after)
  byte_follows at w after does = stores_follow (is_byte_address at) (low_byte w) (record { size = size.Byte; at = at; value = w % 256 }) after does (low_bytes w)

  -- a call of the exception handler
  calls_follow : (l : Own) (holds : Bool) (value : Word) → l.memory ≡ bytes → Follows None (calls_where l holds value)
  calls_follow l true value same = tt
  calls_follow l false value same = (same, tt)

  -- a return from a function, whose frame has words or not
  returns_follow : (l : Own) (u : ℕ) → l.memory ≡ bytes → Follows None (returns l u)
  returns_follow l u same = or_follows (u == 0) _ _ (same, tt) (loads_follow l _ _ _ same)

  module _ (th : Thread) where
    -- what the thread that issues has, and where it goes on to its next instruction
    abbrev pub own : Own
    own = record { thread = record th { run = run }; memory = bytes }

    abbrev on : Thread
    on = after_it own.thread

    -- each row on memory
    pub memory_follows : (ins : MemIns) → Follows (memory_stores th ins) (memory_row own ins)
    memory_follows (memory.LdwImm d x i) = loads_follow own _ _ _ refl
    memory_follows (memory.Ldw d x y) = loads_follow own _ _ _ refl
    memory_follows (memory.LdwDp g u) = loads_follow own _ _ _ refl
    memory_follows (memory.LdwSp g u) = loads_follow own _ _ _ refl
    memory_follows (memory.LdwCp d u) = loads_follow own _ _ _ refl
    memory_follows (memory.StwImm d x i) = word_follows (up (register th x) 4 i) (register th d) on refl
    memory_follows (memory.Stw d x y) = word_follows (up (register th x) 4 (register th y)) (register th d) on refl
    memory_follows (memory.StwDp g u) = word_follows (up th.dp 4 u) (register th g) on refl
    memory_follows (memory.StwSp g u) = word_follows (up th.sp 4 u) (register th g) on refl
    memory_follows (memory.Ld16s d x y) = loads_follow own _ _ _ refl
    memory_follows (memory.Ld8u d x y) = loads_follow own _ _ _ refl
    memory_follows (memory.St16 d x y) = half_follows (up (register th x) 2 (register th y)) (register th d) on refl
    memory_follows (memory.St8 d x y) = byte_follows (up (register th x) 1 (register th y)) (register th d) on refl
    memory_follows (memory.Ldaw d x y) = (refl, tt)
    memory_follows (memory.LdawBack d x y) = (refl, tt)
    memory_follows (memory.LdawImm d x i) = (refl, tt)
    memory_follows (memory.LdawBackImm d x i) = (refl, tt)
    memory_follows (memory.LdawDp d u) = (refl, tt)
    memory_follows (memory.LdawSp d u) = (refl, tt)
    memory_follows (memory.LdawCp u) = (refl, tt)
    memory_follows (memory.Lda16 d x y) = (refl, tt)
    memory_follows (memory.Lda16Back d x y) = (refl, tt)
    memory_follows (memory.Ldap p) = (refl, tt)

    -- a frame of no words keeps nothing
    pub flow_follows : (ins : FlowIns) → Follows (flow_stores th ins) (flow_row own ins)
    flow_follows (flow.BlaCp u) = loads_follow own _ _ _ refl
    flow_follows (flow.Entsp u) = either (u == 0) _ _ _ (refl, tt) (word_follows th.sp th.lr (after_it (record own.thread { sp = down th.sp 4 u })) refl)
    flow_follows (flow.Retsp u) = returns_follow own u refl
    flow_follows _ = (refl, tt)

    -- each row on the kernel
    pub kernel_follows : (k : ThreadNumber) (ins : KernelIns) → Follows (kernel_stores th ins) (kernel_row k own ins)
    kernel_follows k (kernel.KcallImm u) = tt
    kernel_follows k (kernel.Kcall s) = tt
    kernel_follows k (kernel.Kentsp u) = word_follows th.ksp th.sp (after_it (record own.thread { sp = down th.ksp 4 u })) refl
    kernel_follows k (kernel.Krestsp u) = loads_follow own _ _ _ refl
    kernel_follows k (kernel.Ecallt s) = calls_follow own _ _ refl
    kernel_follows k (kernel.Ecallf s) = calls_follow own _ _ refl
    kernel_follows k kernel.LdwSpc = loads_follow own _ _ _ refl
    kernel_follows k kernel.LdwSsr = loads_follow own _ _ _ refl
    kernel_follows k kernel.LdwSed = loads_follow own _ _ _ refl
    kernel_follows k kernel.LdwEt = loads_follow own _ _ _ refl
    kernel_follows k kernel.StwSpc = word_follows (up th.sp 4 1) th.spc on refl
    kernel_follows k kernel.StwSsr = word_follows (up th.sp 4 2) th.ssr.bits on refl
    kernel_follows k kernel.StwSed = word_follows (up th.sp 4 3) th.sed on refl
    kernel_follows k kernel.StwEt = word_follows (up th.sp 4 4) th.et on refl
    kernel_follows k _ = (refl, tt)
