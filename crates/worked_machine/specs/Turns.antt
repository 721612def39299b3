-- Who issues in each slot, worked out by hand, for threads that are always able and for five small programs.
use Rattle.std.specs.Prelude.{ℕ, zero, suc, ◌≡◌, ◌+◌, Option, Some, None, List, [], ◌∷◌, ◌++◌, replicate}
use Rattle.xs_base.specs.Numbers.{Slot, ThreadNumber}
use Rattle.xs_model.specs.Record.{NodeRec, free_thread}
use Rattle.xs_model.specs.Picks.{picked}
use Rattle.xs_instructions.specs.declared.instr.Instr.{Instr}
use Rattle.xs_instructions.specs.declared.instr.Instr.TheVariants.{Words, Memory, Flow, Kernel, Threads, Resources}
use Rattle.xs_instructions.specs.declared.instr.WordIns.TheVariants as words
use Rattle.xs_instructions.specs.declared.instr.MemIns.TheVariants as memory
use Rattle.xs_instructions.specs.declared.instr.FlowIns.TheVariants as flow
use Rattle.xs_instructions.specs.declared.instr.KernelIns.TheVariants as kernel
use Rattle.xs_instructions.specs.declared.instr.ThreadIns.TheVariants as threads
use Rattle.xs_instructions.specs.declared.instr.ResIns.TheVariants as resources
use Rattle.worked_machine.specs.Slots.{start, first, slot_of}

-- a node after so many slots, from one on
abbrev pub after_from : List Instr → NodeRec → Slot → ℕ → NodeRec
after_from code rec slot zero = rec
after_from code rec slot (suc count) = after_from code (slot_of code rec slot).rec (slot + 1) count

-- in a list of who issues: nobody does
abbrev pub nobody : ℕ
nobody = 8

abbrev pub number_or_nobody : Option ThreadNumber → ℕ
number_or_nobody None = nobody
number_or_nobody (Some k) = k

-- the threads that issue in each of so many slots, from one on
abbrev pub issuers_from : List Instr → NodeRec → Slot → ℕ → List ℕ
issuers_from code rec slot zero = []
issuers_from code rec slot (suc count) =
    number_or_nobody (picked rec.core slot) ∷ issuers_from code (slot_of code rec slot).rec (slot + 1) count

-- so many times these
abbrev pub times : ℕ → List ℕ → List ℕ
times zero turns = []
times (suc n) turns = turns ++ times n turns

-- a thread issues, and in the three slots after it nobody does
abbrev pub alone : ThreadNumber → List ℕ
alone k = k ∷ nobody ∷ nobody ∷ nobody ∷ []

-- ---- Threads that are always able: each branches to itself

abbrev pub spin : List Instr
spin = Flow (flow.Bu 0) ∷ []

-- the first so many threads go
abbrev pub spinning : ℕ → ℕ → NodeRec
spinning going free = record start {
  core = record start.core { threads = replicate going first ++ replicate free free_thread };
}

pub record WorkedAlwaysAble : Type 0 where
  pub one : issuers_from spin (spinning 1 7) 0 9 ≡ 0 ∷ nobody ∷ nobody ∷ nobody ∷ 0 ∷ nobody ∷ nobody ∷ nobody ∷ 0 ∷ []
  pub four : issuers_from spin (spinning 4 4) 0 8 ≡ times 2 (0 ∷ 1 ∷ 2 ∷ 3 ∷ [])
  pub five : issuers_from spin (spinning 5 3) 0 10 ≡ times 2 (0 ∷ 1 ∷ 2 ∷ 3 ∷ 4 ∷ [])
  pub eight : issuers_from spin (spinning 8 0) 0 16 ≡ times 2 (0 ∷ 1 ∷ 2 ∷ 3 ∷ 4 ∷ 5 ∷ 6 ∷ 7 ∷ [])

-- ---- Five programs

-- main:
--   add r0, r0, 1
--   bu main
abbrev pub one_thread : List Instr
one_thread = Words (words.AddImm 0 0 1) ∷ Flow (flow.Bu 0) ∷ []

-- main:
--   getr r0, 4
--   ldap r11, work
--   init t[r0]:pc, r11
--   start t[r0]
-- work:
--   add r1, r1, 1
--   bu work
abbrev pub two_threads : List Instr
two_threads =
    Resources (resources.Getr 0 4) ∷ Memory (memory.Ldap 4) ∷ Threads (threads.InitPc 0 11) ∷ Threads (threads.Start 0) ∷
    Words (words.AddImm 1 1 1) ∷ Flow (flow.Bu 4) ∷ []

-- main:
--   getr r0, 3
--   ldap r11, work
-- next:
--   getst r1, res[r0]
--   bf r1, go
--   init t[r1]:pc, r11
--   bu next
-- go:
--   msync res[r0]
-- work:
--   add r2, r2, 1
--   bu work
abbrev pub eight_threads : List Instr
eight_threads =
    Resources (resources.Getr 0 3) ∷ Memory (memory.Ldap 7) ∷
    Threads (threads.Getst 1 0) ∷ Flow (flow.Bf 1 6) ∷ Threads (threads.InitPc 1 11) ∷ Flow (flow.Bu 2) ∷
    Threads (threads.Msync 0) ∷
    Words (words.AddImm 2 2 1) ∷ Flow (flow.Bu 7) ∷ []

-- main:
--   getr r0, 3
--   getr r1, 5
--   ldap r11, work
-- next:
--   getst r2, res[r0]
--   bf r2, go
--   init t[r2]:pc, r11
--   set t[r2]:r1, r1
--   bu next
-- go:
--   msync res[r0]
-- work:
--   get r11, id
--   zext r11, 1
--   bf r11, loop
--   in r2, res[r1]
--   add r3, r3, 1
--   out res[r1], r2
-- loop:
--   add r4, r4, 1
--   bu loop
abbrev pub four_at_a_lock : List Instr
four_at_a_lock =
    Resources (resources.Getr 0 3) ∷ Resources (resources.Getr 1 5) ∷ Memory (memory.Ldap 9) ∷
    Threads (threads.Getst 2 0) ∷ Flow (flow.Bf 2 8) ∷ Threads (threads.InitPc 2 11) ∷ Threads (threads.SetOther 2 1 1) ∷
    Flow (flow.Bu 3) ∷
    Threads (threads.Msync 0) ∷
    Kernel kernel.GetId ∷ Words (words.ZextImm 11 1) ∷ Flow (flow.Bf 11 15) ∷
    Resources (resources.In 2 1) ∷ Words (words.AddImm 3 3 1) ∷ Resources (resources.Out 1 2) ∷
    Words (words.AddImm 4 4 1) ∷ Flow (flow.Bu 15) ∷ []

-- main:
--   getr r0, 3
--   ldap r11, work
-- next:
--   getst r1, res[r0]
--   bf r1, go
--   init t[r1]:pc, r11
--   bu next
-- go:
--   msync res[r0]
--   mjoin res[r0]
--   freet
-- work:
--   get r11, id
-- half:
--   shr r11, r11, 1
--   bt r11, half
--   ssync
abbrev pub seven_slaves : List Instr
seven_slaves =
    Resources (resources.Getr 0 3) ∷ Memory (memory.Ldap 9) ∷
    Threads (threads.Getst 1 0) ∷ Flow (flow.Bf 1 6) ∷ Threads (threads.InitPc 1 11) ∷ Flow (flow.Bu 2) ∷
    Threads (threads.Msync 0) ∷ Threads (threads.Mjoin 0) ∷ Threads threads.Freet ∷
    Kernel kernel.GetId ∷
    Words (words.ShrImm 11 11 1) ∷ Flow (flow.Bt 11 10) ∷ Threads threads.Ssync ∷ []

-- who issues in the first 64 slots, and in the 64 slots from one on
abbrev pub first_64 : List Instr → List ℕ
first_64 code = issuers_from code start 0 64

abbrev pub next_64 : List Instr → Slot → List ℕ
next_64 code slot = issuers_from code (after_from code start 0 slot) slot 64

-- Thread 0 alone issues while it gets and sets up the seven others, which takes it more than 64 slots: then all go.
pub record WorkedTurns : Type 0 where
  pub always_able : WorkedAlwaysAble
  pub one : first_64 one_thread ≡ times 16 (alone 0)
  -- thread 1 is started in slot 12
  pub two : first_64 two_threads ≡ times 3 (alone 0) ++ times 13 (0 ∷ 1 ∷ nobody ∷ nobody ∷ [])
  pub eight_set_up : first_64 eight_threads ≡ times 16 (alone 0)
  -- `msync` is issued in slot 128
  pub eight : next_64 eight_threads 128 ≡ times 8 (0 ∷ 1 ∷ 2 ∷ 3 ∷ 4 ∷ 5 ∷ 6 ∷ 7 ∷ [])
  pub lock_set_up : first_64 four_at_a_lock ≡ times 16 (alone 0)
  -- `msync` is issued in slot 160, and thread 1 gets the lock in slot 185. Threads 3, 5 and 7 pause in slots 187, 189 and
  -- 191; they come back in slots 199, 212 and 227.
  pub lock : next_64 four_at_a_lock 176 ≡
      0 ∷ 1 ∷ 2 ∷ 3 ∷ 4 ∷ 5 ∷ 6 ∷ 7 ∷
      0 ∷ 1 ∷ 2 ∷ 3 ∷ 4 ∷ 5 ∷ 6 ∷ 7 ∷
      0 ∷ 1 ∷ 2 ∷ 4 ∷ 6 ∷ 0 ∷ 1 ∷
      3 ∷ 2 ∷ 4 ∷ 6 ∷ 0 ∷ 1 ∷ 3 ∷ 2 ∷ 4 ∷ 6 ∷ 0 ∷ 1 ∷ 3 ∷
      5 ∷ 2 ∷ 4 ∷ 6 ∷ 0 ∷ 1 ∷ 3 ∷ 5 ∷ 2 ∷ 4 ∷ 6 ∷ 0 ∷ 1 ∷ 3 ∷ 5 ∷
      7 ∷ 2 ∷ 4 ∷ 6 ∷ 0 ∷ 1 ∷ 3 ∷ 5 ∷ 7 ∷ 2 ∷ 4 ∷ 6 ∷ 0 ∷ []
  pub slaves_set_up : first_64 seven_slaves ≡ times 16 (alone 0)
  -- `msync` is issued in slot 128. The master waits at `mjoin` in slot 136, and is done in slot 178.
  pub slaves : next_64 seven_slaves 128 ≡
      0 ∷ 1 ∷ 2 ∷ 3 ∷ 4 ∷ 5 ∷ 6 ∷ 7 ∷
      0 ∷ 1 ∷ 2 ∷ 3 ∷ 4 ∷ 5 ∷ 6 ∷ 7 ∷ 1 ∷ 2 ∷ 3 ∷ 4 ∷ 5 ∷ 6 ∷ 7 ∷
      1 ∷ 2 ∷ 3 ∷ 4 ∷ 5 ∷ 6 ∷ 7 ∷ 2 ∷ 3 ∷ 4 ∷ 5 ∷ 6 ∷ 7 ∷
      2 ∷ 3 ∷ 4 ∷ 5 ∷ 6 ∷ 7 ∷ 4 ∷ 5 ∷ 6 ∷ 7 ∷
      4 ∷ 5 ∷ 6 ∷ 7 ∷ (alone 0 ++ (alone 0 ++ replicate 6 nobody))
