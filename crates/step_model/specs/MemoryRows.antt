-- The rows on memory.
use Rattle.std.specs.Prelude.{ℕ, ◌*◌, ◌%◌, ◌^◌, Option, Some, None, List}
use Rattle.xs_base.specs.Numbers.{Word, Register}
use Rattle.xs_base.specs.Words.{word_sum, word_difference}
use Rattle.xs_model.specs.declared.thread.Thread.{Thread}
use Rattle.xs_model.specs.declared.traps.TheConstants.{LOAD_STORE}
use Rattle.xs_model.specs.Threads.{register, with_register}
use Rattle.xs_model.specs.Memory.{load_word, store_word, load_half, store_half, load_byte, store_byte}
use Rattle.xs_instructions.specs.declared.instr.MemIns.{MemIns}
use Rattle.xs_instructions.specs.declared.instr.MemIns.TheVariants as memory
use Rattle.xs_instructions.specs.Code.{place_address}
use Rattle.step_model.specs.Effect.{Leaving, Leaves, Traps, Own, after_it}

-- the address that lies n accesses of this size above a base, modulo 2 ^ 32
abbrev pub up : Word → ℕ → ℕ → Word
up base size n = word_sum base (size * n)

-- and below it
abbrev pub down : Word → ℕ → ℕ → Word
down base size n = word_difference base (size * n % 2 ^ 32)

-- the thread of a row becomes this; the memory stays
abbrev pub becomes : Own → Thread → Leaving Own
becomes l th = Leaves (record l { thread = th })

-- a register of the thread
abbrev pub reg : Own → Register → Word
reg l g = register l.thread g

-- a load of what was found at an address, from which the thread after the row is made
abbrev pub loads : Own → Word → Option Word → (Word → Thread) → Leaving Own
loads l at None after = Traps LOAD_STORE at
loads l at (Some word) after = becomes l (after word)

-- a store, of what it makes of the memory, with the thread after the row
abbrev pub stores : Word → Option (List ℕ) → Thread → Leaving Own
stores at None after = Traps LOAD_STORE at
stores at (Some bytes) after = Leaves (record { thread = after; memory = bytes })

-- the thread goes on with this word in a register
abbrev pub sets : Own → Register → Word → Leaving Own
sets l g word = becomes l (after_it (with_register l.thread g word))

-- loads into a register, and stores of one
abbrev pub loads_word : Own → Register → Word → Leaving Own
loads_word l g at = loads l at (load_word l.memory at) (λ word. after_it (with_register l.thread g word))

abbrev pub loads_half : Own → Register → Word → Leaving Own
loads_half l g at = loads l at (load_half l.memory at) (λ half. after_it (with_register l.thread g half))

abbrev pub loads_byte : Own → Register → Word → Leaving Own
loads_byte l g at = loads l at (load_byte l.memory at) (λ byte. after_it (with_register l.thread g byte))

abbrev pub stores_word : Own → Register → Word → Leaving Own
stores_word l g at = stores at (store_word l.memory at (reg l g)) (after_it l.thread)

abbrev pub stores_half : Own → Register → Word → Leaving Own
stores_half l g at = stores at (store_half l.memory at (reg l g)) (after_it l.thread)

abbrev pub stores_byte : Own → Register → Word → Leaving Own
stores_byte l g at = stores at (store_byte l.memory at (reg l g)) (after_it l.thread)

abbrev pub memory_row : Own → MemIns → Leaving Own
memory_row l (memory.LdwImm d x i) = loads_word l d (up (reg l x) 4 i)
memory_row l (memory.Ldw d x y) = loads_word l d (up (reg l x) 4 (reg l y))
memory_row l (memory.LdwDp g u) = loads_word l g (up l.thread.dp 4 u)
memory_row l (memory.LdwSp g u) = loads_word l g (up l.thread.sp 4 u)
memory_row l (memory.LdwCp d u) = loads_word l d (up l.thread.cp 4 u)
memory_row l (memory.StwImm d x i) = stores_word l d (up (reg l x) 4 i)
memory_row l (memory.Stw d x y) = stores_word l d (up (reg l x) 4 (reg l y))
memory_row l (memory.StwDp g u) = stores_word l g (up l.thread.dp 4 u)
memory_row l (memory.StwSp g u) = stores_word l g (up l.thread.sp 4 u)
memory_row l (memory.Ld16s d x y) = loads_half l d (up (reg l x) 2 (reg l y))
memory_row l (memory.Ld8u d x y) = loads_byte l d (up (reg l x) 1 (reg l y))
memory_row l (memory.St16 d x y) = stores_half l d (up (reg l x) 2 (reg l y))
memory_row l (memory.St8 d x y) = stores_byte l d (up (reg l x) 1 (reg l y))
memory_row l (memory.Ldaw d x y) = sets l d (up (reg l x) 4 (reg l y))
memory_row l (memory.LdawBack d x y) = sets l d (down (reg l x) 4 (reg l y))
memory_row l (memory.LdawImm d x i) = sets l d (up (reg l x) 4 i)
memory_row l (memory.LdawBackImm d x i) = sets l d (down (reg l x) 4 i)
memory_row l (memory.LdawDp d u) = sets l d (up l.thread.dp 4 u)
memory_row l (memory.LdawSp d u) = sets l d (up l.thread.sp 4 u)
memory_row l (memory.LdawCp u) = sets l 11 (up l.thread.cp 4 u)
memory_row l (memory.Lda16 d x y) = sets l d (up (reg l x) 2 (reg l y))
memory_row l (memory.Lda16Back d x y) = sets l d (down (reg l x) 2 (reg l y))
memory_row l (memory.Ldap p) = sets l 11 (place_address p)
