-- The rows on the kernel, and how traps, events and interrupts are entered, worked out by hand.
use Rattle.std.specs.Prelude.{ℕ, ◌≡◌, List, [], ◌∷◌, ◌++◌, replicate}
use Rattle.xs_model.specs.declared.status.Status.{Status}
use Rattle.xs_model.specs.declared.thread.Thread.{Thread}
use Rattle.xs_model.specs.declared.thread.Run.TheVariants.{Halted}
use Rattle.xs_model.specs.declared.event.Happen.TheVariants as happen
use Rattle.xs_model.specs.Status.{status}
use Rattle.xs_model.specs.Record.{NodeRec, thread_of}
use Rattle.xs_model.specs.Entry.{in_event, in_interrupt}
use Rattle.xs_model.specs.Outside.{in_slot}
use Rattle.xs_instructions.specs.declared.instr.Instr.{Instr}
use Rattle.xs_instructions.specs.declared.instr.Instr.TheVariants.{Words, Kernel}
use Rattle.xs_instructions.specs.declared.instr.WordIns.TheVariants as words
use Rattle.xs_instructions.specs.declared.instr.KernelIns.{KernelIns}
use Rattle.xs_instructions.specs.declared.instr.KernelIns.TheVariants as kernel
use Rattle.step_model.specs.Effect.{Leaving, Leaves, Traps, Own}
use Rattle.step_model.specs.Rows.{own_row}
use Rattle.worked_machine.specs.Slots.{first, with_three, start_as, start_two, after_slots, thread_after, events_of}
use Rattle.worked_machine.specs.Memory.{with_memory, first_four, next_four, last_four, twelve, goes_on, stores, stored_four, with_r11}

-- what a row makes of a thread, with the number 5, and the bytes 0x11, 0x22 to 0xcc
abbrev pub row_of : KernelIns → Thread → Leaving Own
row_of ins th = own_row 5 (with_memory th twelve) (Kernel ins)

-- a thread whose registers of traps are all different
abbrev pub busy : Thread
busy = record first {
  r = replicate 11 3 ++ 0x12345678 ∷ [];
  sr = status 0x93;
  spc = 0x00040abc;
  ssr = status 0xdf;
  et = 0xa4a3a2a1;
  ed = 22;
  sed = 33;
  kep = 0x00040080;
  ksp = 0x00010004;
}

pub record WorkedKernelCalls : Type 0 where
  pub kcall_greatest : row_of (kernel.KcallImm 65535) busy ≡ Traps 15 65535
  pub kcall_0 : row_of (kernel.KcallImm 0) busy ≡ Traps 15 0
  pub kcall_of_register : row_of (kernel.Kcall 11) busy ≡ Traps 15 0x12345678
  pub ecallt : row_of (kernel.Ecallt 0) busy ≡ Traps 8 3
  pub ecallt_of_0 : row_of (kernel.Ecallt 1) (with_three 5 0 9) ≡ goes_on (with_three 5 0 9)
  pub ecallf : row_of (kernel.Ecallf 0) busy ≡ goes_on busy
  pub ecallf_of_0 : row_of (kernel.Ecallf 1) (with_three 5 0 9) ≡ Traps 8 0
  -- all bits of ssr come back, waiting and in-kernel too
  pub kret : row_of kernel.Kret busy ≡ Leaves (with_memory (record busy { pc = 0x00040abc; sr = status 0xdf; ed = 33 }) twelve)

-- thread 0 with these in sp and ksp
abbrev pub with_stacks : ℕ → ℕ → Thread
with_stacks sp ksp = record first { sp = sp; ksp = ksp }

pub record WorkedKernelStack : Type 0 where
  pub kentsp : row_of (kernel.Kentsp 2) (with_stacks 0x0001fffc 0x00010004) ≡ stores (with_stacks 0x0000fffc 0x00010004) first_four (0xfc ∷ 0xff ∷ 1 ∷ 0 ∷ []) last_four
  -- without a frame sp is stored all the same
  pub kentsp_0 : row_of (kernel.Kentsp 0) (with_stacks 3 0x00010004) ≡ stores (with_stacks 0x00010004 0x00010004) first_four (3 ∷ 0 ∷ 0 ∷ 0 ∷ []) last_four
  pub kentsp_most : row_of (kernel.Kentsp 65535) (with_stacks 3 0x00010008) ≡ stores (with_stacks 0xfffd000c 0x00010008) first_four next_four (3 ∷ 0 ∷ 0 ∷ 0 ∷ [])
  pub kentsp_unaligned : row_of (kernel.Kentsp 1) (with_stacks 0x0001fffc 0x00010002) ≡ Traps 5 0x00010002
  pub kentsp_outside : row_of (kernel.Kentsp 0) first ≡ Traps 5 0
  -- sp is loaded at the new ksp
  pub krestsp : row_of (kernel.Krestsp 1) (with_stacks 0x00010000 7) ≡ goes_on (with_stacks 0x88776655 0x00010004)
  pub krestsp_0 : row_of (kernel.Krestsp 0) (with_stacks 0x00010000 7) ≡ goes_on (with_stacks 0x44332211 0x00010000)
  pub krestsp_most : row_of (kernel.Krestsp 65535) (with_stacks 0xfffd0004 7) ≡ goes_on (with_stacks 0x44332211 0x00010000)
  pub krestsp_unaligned : row_of (kernel.Krestsp 1) (with_stacks 0x00010002 7) ≡ Traps 5 0x00010006
  pub krestsp_above : row_of (kernel.Krestsp 1) first ≡ Traps 5 0x00020000

-- `busy` after a row that sets its r11
abbrev pub gives : ℕ → Leaving Own
gives word = goes_on (record busy { r = replicate 11 3 ++ word ∷ [] })

-- the same thread with this in sp
abbrev pub busy_at : ℕ → Thread
busy_at sp = record busy { sp = sp }

-- what `ldw ssr, sp[2]` leaves where the word there has these bytes
abbrev pub ssr_from : List ℕ → Leaving Own
ssr_from bytes = own_row 5 (with_memory (busy_at 0x0000fff8) bytes) (Kernel kernel.LdwSsr)

-- the thread with this ssr, at its next instruction
abbrev pub has_ssr : List ℕ → ℕ → Leaving Own
has_ssr bytes bits = Leaves (with_memory (record (busy_at 0x0000fff8) { ssr = status bits; pc = 0x00040004 }) bytes)

pub record WorkedKernelRegisters : Type 0 where
  -- the low seven bits are cleared
  pub set_kep : row_of kernel.SetKep (with_r11 0xffffffff) ≡ goes_on (record (with_r11 0xffffffff) { kep = 0xffffff80 })
  pub set_kep_below : row_of kernel.SetKep (with_r11 0x0004007f) ≡ goes_on (record (with_r11 0x0004007f) { kep = 0x00040000 })
  pub set_kep_whole : row_of kernel.SetKep (with_r11 0x00040080) ≡ goes_on (record (with_r11 0x00040080) { kep = 0x00040080 })
  pub get_kep : row_of kernel.GetKep busy ≡ gives 0x00040080
  pub get_ksp : row_of kernel.GetKsp busy ≡ gives 0x00010004
  pub get_ed : row_of kernel.GetEd busy ≡ gives 22
  pub get_et : row_of kernel.GetEt busy ≡ gives 0xa4a3a2a1
  pub get_id : row_of kernel.GetId busy ≡ gives 5
  pub getsr_all : row_of (kernel.Getsr 65535) busy ≡ gives 0x93
  pub getsr_some : row_of (kernel.Getsr 0x42) busy ≡ gives 2
  pub getsr_none : row_of (kernel.Getsr 0xff6c) busy ≡ gives 0
  pub ldw_spc : row_of kernel.LdwSpc (busy_at 0x0000fffc) ≡ goes_on (record (busy_at 0x0000fffc) { spc = 0x44332211 })
  pub ldw_sed : row_of kernel.LdwSed (busy_at 0x0000fff8) ≡ goes_on (record (busy_at 0x0000fff8) { sed = 0x88776655 })
  pub ldw_et : row_of kernel.LdwEt (busy_at 0x0000fff8) ≡ goes_on (record (busy_at 0x0000fff8) { et = 0xccbbaa99 })
  -- ssr keeps the seven status bits of the word
  pub ldw_ssr_all : ssr_from (replicate 4 0xff) ≡ has_ssr (replicate 4 0xff) 0xdf
  pub ldw_ssr_some : ssr_from (0xa5 ∷ 1 ∷ 2 ∷ 3 ∷ []) ≡ has_ssr (0xa5 ∷ 1 ∷ 2 ∷ 3 ∷ []) 0x85
  pub ldw_ssr_none : ssr_from (0x20 ∷ 0xff ∷ 0xff ∷ 0xff ∷ []) ≡ has_ssr (0x20 ∷ 0xff ∷ 0xff ∷ 0xff ∷ []) 0
  pub stw_spc : row_of kernel.StwSpc (busy_at 0x00010000) ≡ stores (busy_at 0x00010000) first_four (0xbc ∷ 0x0a ∷ 4 ∷ 0 ∷ []) last_four
  pub stw_ssr : row_of kernel.StwSsr (busy_at 0x00010000) ≡ stores (busy_at 0x00010000) first_four next_four (0xdf ∷ 0 ∷ 0 ∷ 0 ∷ [])
  pub stw_sed : row_of kernel.StwSed (busy_at 0x0000fff8) ≡ stores (busy_at 0x0000fff8) first_four (33 ∷ 0 ∷ 0 ∷ 0 ∷ []) last_four
  pub stw_et : row_of kernel.StwEt (busy_at 0x0000fff8) ≡ stores (busy_at 0x0000fff8) first_four next_four stored_four

-- loads and stores of the registers of traps above the last word of the memory, and between words
pub record WorkedBadKernelWords : Type 0 where
  pub ldw_spc : row_of kernel.LdwSpc (busy_at 0x0001fffc) ≡ Traps 5 0x00020000
  pub ldw_ssr : row_of kernel.LdwSsr (busy_at 0x0001fffc) ≡ Traps 5 0x00020004
  pub ldw_sed : row_of kernel.LdwSed (busy_at 0x0001fffc) ≡ Traps 5 0x00020008
  pub ldw_et : row_of kernel.LdwEt (busy_at 0x0001fffc) ≡ Traps 5 0x0002000c
  pub stw_spc : row_of kernel.StwSpc (busy_at 0x00010002) ≡ Traps 5 0x00010006
  pub stw_ssr : row_of kernel.StwSsr (busy_at 0xfffffffc) ≡ Traps 5 4
  pub stw_sed : row_of kernel.StwSed (busy_at 0x0001fffc) ≡ Traps 5 0x00020008
  pub stw_et : row_of kernel.StwEt (busy_at 0x0001fffc) ≡ Traps 5 0x0002000c

-- the status registers after an event and after an interrupt
abbrev pub status_in_event_of : ℕ → Status
status_in_event_of bits = (in_event (record first { sr = status bits }) 0x00040010 44).sr

abbrev pub status_in_interrupt_of : ℕ → Status
status_in_interrupt_of bits = (in_interrupt (record first { sr = status bits }) 0x00040010 44).sr

-- events and interrupts, with the vector 0x00040010 and the environment 44
pub record WorkedEntries : Type 0 where
  pub event : in_event busy 0x00040010 44 ≡ record busy { pc = 0x00040010; ed = 44; sr = status 0x92 }
  pub event_clears : status_in_event_of 0xdf ≡ status 0x9a
  pub event_sets_nothing : status_in_event_of 0 ≡ status 0
  pub interrupt : in_interrupt busy 0x00040010 44 ≡ record busy { spc = 0x00040000; ssr = status 0x93; sed = 22; pc = 0x00040010; ed = 44; sr = status 0x98 }
  pub interrupt_clears : status_in_interrupt_of 0xdf ≡ status 0x98
  pub interrupt_sets : status_in_interrupt_of 0x47 ≡ status 8

-- thread 0 may take events and interrupts, and its handlers begin at the first instruction
abbrev pub with_handler : Thread
with_handler = record first { kep = 0x00040000; sr = status 0x43; ed = 6 }

-- in the handler of the kernel call at 0x00040000
abbrev pub in_kernel_call : Thread
in_kernel_call = record with_handler { spc = 0x00040004; ssr = status 0x43; sed = 6; et = 15; ed = 3; sr = status 0x10; pc = 0x00040040 }

-- a kernel call, and so many instructions after it that do nothing
abbrev pub call_before : ℕ → List Instr
call_before count = Kernel (kernel.KcallImm 3) ∷ replicate count (Words words.Nop)

-- a kernel call whose handler returns at once
abbrev pub call_and_return : List Instr
call_and_return = call_before 15 ++ Kernel kernel.Kret ∷ []

-- a handler that traps itself, for the trap of the second instruction
abbrev pub bad_handler : List Instr
bad_handler = Kernel kernel.LdwSpc ∷ Kernel (kernel.Ecallt 0) ∷ []

abbrev pub before_bad_handler : NodeRec
before_bad_handler = start_as (record with_handler { r = 7 ∷ replicate 11 0; pc = 0x00040004 })

pub record WorkedKernelSlots : Type 0 where
  -- A kernel call returns to the next instruction, and its handler stands 64 bytes after the others: the seventeenth
  -- instruction. With sixteen the thread halts.
  pub kernel_call : thread_after (call_before 16) (start_as with_handler) 1 ≡ in_kernel_call
  pub kernel_call_told : events_of (call_before 16) (start_as with_handler) 0 ≡ in_slot 0 (happen.Trap 0 15 0x00040004 3) ∷ []
  pub kernel_call_halts : thread_after (call_before 15) (start_as with_handler) 1 ≡ record in_kernel_call { run = Halted }
  pub halt_told : events_of (call_before 15) (start_as with_handler) 0 ≡ in_slot 0 (happen.Trap 0 15 0x00040004 3) ∷ in_slot 0 (happen.Halt 0) ∷ []
  -- what the trap kept stays in its registers
  pub returned : thread_after call_and_return (start_as with_handler) 5 ≡ record in_kernel_call { pc = 0x00040004; sr = status 0x43; ed = 6 }
  pub return_tells_nothing : events_of call_and_return (start_as with_handler) 4 ≡ []
  -- a call of the exception handler would return to itself
  pub exception : thread_after bad_handler before_bad_handler 1 ≡
      record with_handler { r = 7 ∷ replicate 11 0; spc = 0x00040004; ssr = status 0x43; sed = 6; et = 8; ed = 7; sr = status 0x10; pc = 0x00040000 }
  pub exception_told : events_of bad_handler before_bad_handler 0 ≡ in_slot 0 (happen.Trap 0 8 0x00040004 7) ∷ []
  -- a trap in a handler overwrites what the first one kept
  pub second_trap : thread_after bad_handler before_bad_handler 5 ≡
      record with_handler { r = 7 ∷ replicate 11 0; spc = 0x00040000; ssr = status 0x10; sed = 7; et = 5; ed = 0x00020000; sr = status 0x10; pc = 0x00040000 }
  pub second_trap_told : events_of bad_handler before_bad_handler 4 ≡ in_slot 4 (happen.Trap 0 5 0x00040000 0x00020000) ∷ []
  pub id_of_thread_1 : thread_of (after_slots (Kernel kernel.GetId ∷ []) (start_two first) 2).core 1 ≡ record (with_r11 1) { pc = 0x00040004 }
  pub stacks : thread_after (Kernel (kernel.Kentsp 2) ∷ Kernel (kernel.Krestsp 2) ∷ []) (start_as (with_stacks 0x0001fffc 0x00010008)) 5 ≡
      record (with_stacks 0x0001fffc 0x00010008) { pc = 0x00040008 }

pub record WorkedKernel : Type 0 where
  pub calls : WorkedKernelCalls
  pub stack : WorkedKernelStack
  pub registers : WorkedKernelRegisters
  pub bad_words : WorkedBadKernelWords
  pub entries : WorkedEntries
  pub slots : WorkedKernelSlots
