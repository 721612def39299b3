-- The rows on memory, worked out by hand.
use Rattle.std.specs.Prelude.{ℕ, ◌≡◌, List, [], ◌∷◌, ◌++◌, take, drop, replicate}
use Rattle.xs_model.specs.declared.thread.Thread.{Thread}
use Rattle.xs_model.specs.Record.{NodeRec, first_node}
use Rattle.xs_instructions.specs.declared.instr.Instr.{Instr}
use Rattle.xs_instructions.specs.declared.instr.Instr.TheVariants.{Memory}
use Rattle.xs_instructions.specs.declared.instr.MemIns.{MemIns}
use Rattle.xs_instructions.specs.declared.instr.MemIns.TheVariants as memory
use Rattle.step_model.specs.Effect.{Leaving, Leaves, Traps, Own}
use Rattle.step_model.specs.Rows.{own_row}
use Rattle.worked_machine.specs.Slots.{first, with_three, start, start_as, after_slots, thread_after}

-- a thread with this memory
abbrev pub with_memory : Thread → List ℕ → Own
with_memory th bytes = record { thread = th; memory = bytes }

-- a memory's first twelve bytes: the rows see no more of it here
abbrev pub first_four : List ℕ
first_four = 0x11 ∷ 0x22 ∷ 0x33 ∷ 0x44 ∷ []

abbrev pub next_four : List ℕ
next_four = 0x55 ∷ 0x66 ∷ 0x77 ∷ 0x88 ∷ []

abbrev pub last_four : List ℕ
last_four = 0x99 ∷ 0xaa ∷ 0xbb ∷ 0xcc ∷ []

abbrev pub twelve : List ℕ
twelve = first_four ++ (next_four ++ last_four)

-- what a row makes of a thread and these bytes
abbrev pub row_of : MemIns → Thread → Leaving Own
row_of ins th = own_row 0 (with_memory th twelve) (Memory ins)

abbrev pub row : MemIns → ℕ → ℕ → ℕ → Leaving Own
row ins a b c = row_of ins (with_three a b c)

-- the thread is at its next instruction, and the memory is as before
abbrev pub goes_on : Thread → Leaving Own
goes_on th = Leaves (with_memory (record th { pc = 0x00040004 }) twelve)

abbrev pub leaves : ℕ → ℕ → ℕ → Leaving Own
leaves a b c = goes_on (with_three a b c)

-- the thread is at its next instruction, and the memory's bytes are these
abbrev pub stores : Thread → List ℕ → List ℕ → List ℕ → Leaving Own
stores th a b c = Leaves (with_memory (record th { pc = 0x00040004 }) (a ++ (b ++ c)))

-- the bytes of 0xa4a3a2a1
abbrev pub stored_four : List ℕ
stored_four = 0xa1 ∷ 0xa2 ∷ 0xa3 ∷ 0xa4 ∷ []

-- and of 0x04030201
abbrev pub lr_four : List ℕ
lr_four = 1 ∷ 2 ∷ 3 ∷ 4 ∷ []

-- thread 0 with these in cp, dp, sp and lr
abbrev pub with_bases : ℕ → ℕ → ℕ → ℕ → Thread
with_bases cp dp sp lr = record first { cp = cp; dp = dp; sp = sp; lr = lr }

pub record WorkedLoads : Type 0 where
  -- the least significant byte stands first
  pub word : row (memory.LdwImm 2 0 0) 0x00010000 7 9 ≡ leaves 0x00010000 7 0x44332211
  pub next_word : row (memory.LdwImm 2 0 1) 0x00010000 7 9 ≡ leaves 0x00010000 7 0x88776655
  pub farthest : row (memory.LdwImm 2 0 11) 0x0000ffd4 7 9 ≡ leaves 0x0000ffd4 7 0x44332211
  pub over_its_base : row (memory.LdwImm 0 0 2) 0x00010000 7 9 ≡ leaves 0xccbbaa99 7 9
  pub at_index : row (memory.Ldw 2 0 1) 0x00010000 2 9 ≡ leaves 0x00010000 2 0xccbbaa99
  -- 4 times 0xffffffff is -4, and 4 times 0x40000001 is 4
  pub at_index_below : row (memory.Ldw 2 0 1) 0x00010004 0xffffffff 9 ≡ leaves 0x00010004 0xffffffff 0x44332211
  pub at_index_beyond : row (memory.Ldw 2 0 1) 0x00010000 0x40000001 9 ≡ leaves 0x00010000 0x40000001 0x88776655
  pub over_its_index : row (memory.Ldw 1 0 1) 0x00010000 1 9 ≡ leaves 0x00010000 0x88776655 9
  pub from_dp : row_of (memory.LdwDp 12 1) (with_bases 1 0x00010004 3 4) ≡ goes_on (with_bases 0xccbbaa99 0x00010004 3 4)
  pub over_dp : row_of (memory.LdwDp 13 0) (with_bases 1 0x00010004 3 4) ≡ goes_on (with_bases 1 0x88776655 3 4)
  pub from_sp : row_of (memory.LdwSp 15 2) (with_bases 1 2 0x00010000 4) ≡ goes_on (with_bases 1 2 0x00010000 0xccbbaa99)
  pub over_sp : row_of (memory.LdwSp 14 1) (with_bases 1 2 0x00010000 4) ≡ goes_on (with_bases 1 2 0x88776655 4)
  pub from_cp : row_of (memory.LdwCp 0 0) (with_bases 0x00010004 2 3 4) ≡ goes_on (record (with_bases 0x00010004 2 3 4) { r = 0x88776655 ∷ replicate 11 0 })
  -- 0xfffd0004 + 4 * 65535 is 2 ^ 32 + 0x00010000
  pub from_far : row_of (memory.LdwSp 15 65535) (with_bases 1 2 0xfffd0004 4) ≡ goes_on (with_bases 1 2 0xfffd0004 0x44332211)
  pub half : row (memory.Ld16s 2 0 1) 0x00010000 1 9 ≡ leaves 0x00010000 1 0x00004433
  pub negative_half : row (memory.Ld16s 2 0 1) 0x00010000 3 9 ≡ leaves 0x00010000 3 0xffff8877
  pub half_beyond : row (memory.Ld16s 2 0 1) 0x00010000 0x80000001 9 ≡ leaves 0x00010000 0x80000001 0x00004433
  pub byte : row (memory.Ld8u 2 0 1) 0x00010000 3 9 ≡ leaves 0x00010000 3 0x00000044
  -- no sign comes in, and no address is unaligned
  pub high_byte : row (memory.Ld8u 2 0 1) 0x00010001 10 9 ≡ leaves 0x00010001 10 0x000000cc
  pub byte_below : row (memory.Ld8u 2 0 1) 0x00010001 0xffffffff 9 ≡ leaves 0x00010001 0xffffffff 0x00000011

-- a row that traps leaves all as it was: its data is the address, modulo 2 ^ 32
pub record WorkedBadLoads : Type 0 where
  pub one_above : row (memory.LdwImm 2 0 0) 0x00010001 7 9 ≡ Traps 5 0x00010001
  pub two_above : row (memory.LdwImm 2 0 1) 0x00010002 7 9 ≡ Traps 5 0x00010006
  pub three_above : row (memory.LdwImm 2 0 0) 0x00010003 7 9 ≡ Traps 5 0x00010003
  pub below : row (memory.LdwImm 2 0 0) 0x0000fffc 7 9 ≡ Traps 5 0x0000fffc
  pub above : row (memory.LdwImm 2 0 1) 0x0001fffc 7 9 ≡ Traps 5 0x00020000
  pub wrapped : row (memory.LdwImm 2 0 3) 0xfffffffc 7 9 ≡ Traps 5 8
  pub at_index : row (memory.Ldw 2 0 1) 0x00010000 0xffffffff 9 ≡ Traps 5 0x0000fffc
  pub at_code : row (memory.Ldw 2 0 1) 0x00040000 0 9 ≡ Traps 5 0x00040000
  pub from_dp : row_of (memory.LdwDp 0 65535) (with_bases 1 0x00010000 3 4) ≡ Traps 5 0x0004fffc
  pub from_sp : row_of (memory.LdwSp 0 1) first ≡ Traps 5 0x00020000
  pub from_cp : row_of (memory.LdwCp 0 1) (with_bases 2 0x00010000 3 4) ≡ Traps 5 6
  pub odd_half : row (memory.Ld16s 2 0 1) 0x00010001 1 9 ≡ Traps 5 0x00010003
  pub half_below : row (memory.Ld16s 2 0 1) 0x0000fffe 0 9 ≡ Traps 5 0x0000fffe
  pub half_above : row (memory.Ld16s 2 0 1) 0x00020000 0 9 ≡ Traps 5 0x00020000
  pub byte_below : row (memory.Ld8u 2 0 1) 0x00010000 0xffffffff 9 ≡ Traps 5 0x0000ffff
  pub byte_above : row (memory.Ld8u 2 0 1) 0x0001ffff 1 9 ≡ Traps 5 0x00020000

pub record WorkedStores : Type 0 where
  pub word : row (memory.StwImm 2 0 1) 0x00010000 7 0xa4a3a2a1 ≡ stores (with_three 0x00010000 7 0xa4a3a2a1) first_four stored_four last_four
  pub farthest : row (memory.StwImm 2 0 11) 0x0000ffd4 7 0xa4a3a2a1 ≡ stores (with_three 0x0000ffd4 7 0xa4a3a2a1) stored_four next_four last_four
  pub its_base : row (memory.StwImm 0 0 0) 0x00010000 7 9 ≡ stores (with_three 0x00010000 7 9) (0 ∷ 0 ∷ 1 ∷ 0 ∷ []) next_four last_four
  pub at_index : row (memory.Stw 2 0 1) 0x00010000 2 0xa4a3a2a1 ≡ stores (with_three 0x00010000 2 0xa4a3a2a1) first_four next_four stored_four
  pub at_index_below : row (memory.Stw 2 0 1) 0x00010008 0xffffffff 0xa4a3a2a1 ≡ stores (with_three 0x00010008 0xffffffff 0xa4a3a2a1) first_four stored_four last_four
  pub to_dp : row_of (memory.StwDp 15 1) (with_bases 1 0x00010000 3 0x04030201) ≡ stores (with_bases 1 0x00010000 3 0x04030201) first_four lr_four last_four
  pub sp_to_sp : row_of (memory.StwSp 14 2) (with_bases 1 2 0x00010000 4) ≡ stores (with_bases 1 2 0x00010000 4) first_four next_four (0 ∷ 0 ∷ 1 ∷ 0 ∷ [])
  -- the low 16 bits, and the low 8
  pub half : row (memory.St16 2 0 1) 0x00010000 3 0xa4a3a2a1 ≡ stores (with_three 0x00010000 3 0xa4a3a2a1) first_four (0x55 ∷ 0x66 ∷ 0xa1 ∷ 0xa2 ∷ []) last_four
  pub first_half : row (memory.St16 2 0 1) 0x00010002 0xffffffff 0xa4a3a2a1 ≡ stores (with_three 0x00010002 0xffffffff 0xa4a3a2a1) (0xa1 ∷ 0xa2 ∷ 0x33 ∷ 0x44 ∷ []) next_four last_four
  pub byte : row (memory.St8 2 0 1) 0x00010000 6 0xa4a3a2a1 ≡ stores (with_three 0x00010000 6 0xa4a3a2a1) first_four (0x55 ∷ 0x66 ∷ 0xa1 ∷ 0x88 ∷ []) last_four
  pub first_byte : row (memory.St8 2 0 1) 0x00010001 0xffffffff 0xa4a3a2a1 ≡ stores (with_three 0x00010001 0xffffffff 0xa4a3a2a1) (0xa1 ∷ 0x22 ∷ 0x33 ∷ 0x44 ∷ []) next_four last_four

pub record WorkedBadStores : Type 0 where
  pub unaligned : row (memory.StwImm 2 0 0) 0x00010002 7 9 ≡ Traps 5 0x00010002
  pub at_the_end : row (memory.StwImm 2 0 0) 0x0001fffe 7 9 ≡ Traps 5 0x0001fffe
  pub above : row (memory.StwImm 2 0 11) 0x0001ffd8 7 9 ≡ Traps 5 0x00020004
  pub wrapped : row (memory.Stw 2 0 1) 0xfffffff8 3 9 ≡ Traps 5 4
  pub to_dp : row_of (memory.StwDp 0 0) (with_bases 1 0x0000fffc 3 4) ≡ Traps 5 0x0000fffc
  pub to_sp : row_of (memory.StwSp 0 1) first ≡ Traps 5 0x00020000
  pub at_code : row_of (memory.StwDp 0 0) (with_bases 1 0x00040000 3 4) ≡ Traps 5 0x00040000
  pub odd_half : row (memory.St16 2 0 1) 0x00010001 0 9 ≡ Traps 5 0x00010001
  pub half_above : row (memory.St16 2 0 1) 0x0001fffe 1 9 ≡ Traps 5 0x00020000
  pub byte_below : row (memory.St8 2 0 1) 0x0000ffff 0 9 ≡ Traps 5 0x0000ffff
  pub byte_above : row (memory.St8 2 0 1) 0x00020000 0 9 ≡ Traps 5 0x00020000

-- thread 0 with this in r11
abbrev pub with_r11 : ℕ → Thread
with_r11 word = record first { r = replicate 11 0 ++ word ∷ [] }

-- Addresses are not tested where nothing is loaded or stored.
pub record WorkedAddresses : Type 0 where
  pub words_up : row (memory.Ldaw 2 0 1) 0x00010001 3 9 ≡ leaves 0x00010001 3 0x0001000d
  pub words_up_wraps : row (memory.Ldaw 2 0 1) 0xfffffffc 2 9 ≡ leaves 0xfffffffc 2 4
  pub words_up_far : row (memory.Ldaw 2 0 1) 5 0xffffffff 9 ≡ leaves 5 0xffffffff 1
  pub words_down : row (memory.LdawBack 2 0 1) 0x00010000 3 9 ≡ leaves 0x00010000 3 0x0000fff4
  pub words_down_wraps : row (memory.LdawBack 2 0 1) 0 1 9 ≡ leaves 0 1 0xfffffffc
  pub words_down_far : row (memory.LdawBack 2 0 1) 5 0xffffffff 9 ≡ leaves 5 0xffffffff 9
  pub no_words_down : row (memory.LdawBack 2 0 1) 5 0x40000000 9 ≡ leaves 5 0x40000000 5
  pub number_up : row (memory.LdawImm 0 0 11) 0x00010000 7 9 ≡ leaves 0x0001002c 7 9
  pub no_number_up : row (memory.LdawImm 2 0 0) 0xffffffff 7 9 ≡ leaves 0xffffffff 7 0xffffffff
  pub number_down : row (memory.LdawBackImm 0 0 11) 0x00010000 7 9 ≡ leaves 0x0000ffd4 7 9
  pub number_down_wraps : row (memory.LdawBackImm 2 0 1) 3 7 9 ≡ leaves 3 7 0xffffffff
  pub no_number_down : row (memory.LdawBackImm 2 0 0) 3 7 9 ≡ leaves 3 7 3
  pub from_dp : row_of (memory.LdawDp 0 65535) first ≡ leaves 0x0004fffc 0 0
  pub from_sp : row_of (memory.LdawSp 0 1) first ≡ leaves 0x00020000 0 0
  pub from_cp : row_of (memory.LdawCp 3) first ≡ goes_on (with_r11 0x0001000c)
  pub halves_up : row (memory.Lda16 2 0 1) 0x00010001 3 9 ≡ leaves 0x00010001 3 0x00010007
  pub halves_up_wraps : row (memory.Lda16 2 0 1) 0xfffffffe 3 9 ≡ leaves 0xfffffffe 3 4
  pub no_halves_up : row (memory.Lda16 2 0 1) 5 0x80000000 9 ≡ leaves 5 0x80000000 5
  pub halves_down : row (memory.Lda16Back 2 0 1) 0x00010000 3 9 ≡ leaves 0x00010000 3 0x0000fffa
  pub halves_down_far : row (memory.Lda16Back 2 0 1) 5 0xffffffff 9 ≡ leaves 5 0xffffffff 7
  pub of_code : row_of (memory.Ldap 5) first ≡ goes_on (with_r11 0x00040014)
  -- a label at the end of the longest code
  pub at_codes_end : row_of (memory.Ldap 16384) first ≡ goes_on (with_r11 0x00050000)

-- so many bytes of the memory from a place on, after so many slots
abbrev pub bytes_after : List Instr → NodeRec → ℕ → ℕ → ℕ → List ℕ
bytes_after code rec slots place count = take count (drop place (after_slots code rec slots).core.memory)

abbrev pub store_and_load : List Instr
store_and_load = Memory (memory.StwDp 0 1) ∷ Memory (memory.LdwDp 2 1) ∷ Memory (memory.LdwDp 14 0) ∷ []

-- r0 to r11 after one row in slot 0, where the whole memory ends with these four bytes
abbrev pub loaded_at_end : MemIns → ℕ → List ℕ
loaded_at_end ins a = (thread_after (Memory ins ∷ []) (record start { core = record (start_as (with_three a 0 0)).core { memory = replicate 65532 0 ++ (0x81 ∷ 0x82 ∷ 0x83 ∷ 0x84 ∷ []) } }) 1).r

-- the last bytes of the memory, after one row in slot 0
abbrev pub stored_at_end : MemIns → ℕ → List ℕ
stored_at_end ins a = drop 65528 (after_slots (Memory ins ∷ []) (start_as (with_three a 0 0xa4a3a2a1)) 1).core.memory

-- slots, and the ends of the whole memory
pub record WorkedMemorySlots : Type 0 where
  pub stored : bytes_after store_and_load (start_as (with_three 0x04030201 7 9)) 1 0 12 ≡ 0 ∷ 0 ∷ 0 ∷ 0 ∷ 1 ∷ 2 ∷ 3 ∷ 4 ∷ 0 ∷ 0 ∷ 0 ∷ 0 ∷ []
  pub store_goes_on : thread_after store_and_load (start_as (with_three 0x04030201 7 9)) 1 ≡ record (with_three 0x04030201 7 9) { pc = 0x00040004 }
  pub loaded : thread_after store_and_load (start_as (with_three 0x04030201 7 9)) 5 ≡ record (with_three 0x04030201 7 0x04030201) { pc = 0x00040008 }
  -- register 14 is sp
  pub loaded_sp : thread_after store_and_load (start_as (with_three 0x04030201 7 9)) 9 ≡ record (with_three 0x04030201 7 0x04030201) { sp = 0; pc = 0x0004000c }
  -- register 12 is cp
  pub stored_cp : bytes_after (Memory (memory.StwDp 12 0) ∷ []) start 1 0 4 ≡ 0 ∷ 0 ∷ 1 ∷ 0 ∷ []
  pub first_bytes : (thread_after (Memory (memory.LdwDp 0 0) ∷ []) (first_node 0x00040000 0x00010000 (0xdd ∷ 0xcc ∷ 0xbb ∷ 0xaa ∷ [])) 1).r ≡ 0xaabbccdd ∷ replicate 11 0
  -- dp[16383] is the memory's last word
  pub last_word : bytes_after (Memory (memory.StwDp 0 16383) ∷ []) (start_as (with_three 1 0 0)) 1 65532 5 ≡ 1 ∷ 0 ∷ 0 ∷ 0 ∷ []
  pub last_word_loaded : loaded_at_end (memory.LdwImm 1 0 0) 0x0001fffc ≡ 0x0001fffc ∷ 0x84838281 ∷ replicate 10 0
  pub last_half_loaded : loaded_at_end (memory.Ld16s 1 0 2) 0x0001fffe ≡ 0x0001fffe ∷ 0xffff8483 ∷ replicate 10 0
  pub last_byte_loaded : loaded_at_end (memory.Ld8u 1 0 2) 0x0001ffff ≡ 0x0001ffff ∷ 0x84 ∷ replicate 10 0
  -- the memory keeps its length
  pub last_word_stored : stored_at_end (memory.StwImm 2 0 0) 0x0001fffc ≡ 0 ∷ 0 ∷ 0 ∷ 0 ∷ 0xa1 ∷ 0xa2 ∷ 0xa3 ∷ 0xa4 ∷ []
  pub last_half_stored : stored_at_end (memory.St16 2 0 1) 0x0001fffe ≡ 0 ∷ 0 ∷ 0 ∷ 0 ∷ 0 ∷ 0 ∷ 0xa1 ∷ 0xa2 ∷ []
  pub last_byte_stored : stored_at_end (memory.St8 2 0 1) 0x0001ffff ≡ 0 ∷ 0 ∷ 0 ∷ 0 ∷ 0 ∷ 0 ∷ 0 ∷ 0xa1 ∷ []

pub record WorkedMemory : Type 0 where
  pub loads : WorkedLoads
  pub bad_loads : WorkedBadLoads
  pub stores : WorkedStores
  pub bad_stores : WorkedBadStores
  pub addresses : WorkedAddresses
  pub slots : WorkedMemorySlots
