-- The rows on the flow of control, worked out by hand.
use Rattle.std.specs.Prelude.{ℕ, ◌≡◌, List, [], ◌∷◌}
use Rattle.xs_model.specs.declared.thread.Thread.{Thread}
use Rattle.xs_model.specs.declared.event.Happen.TheVariants as happen
use Rattle.xs_model.specs.Outside.{in_slot}
use Rattle.xs_instructions.specs.declared.instr.Instr.{Instr}
use Rattle.xs_instructions.specs.declared.instr.Instr.TheVariants.{Words, Flow}
use Rattle.xs_instructions.specs.declared.instr.WordIns.TheVariants as words
use Rattle.xs_instructions.specs.declared.instr.FlowIns.{FlowIns}
use Rattle.xs_instructions.specs.declared.instr.FlowIns.TheVariants as flow
use Rattle.step_model.specs.Effect.{Leaving, Leaves, Traps, Own}
use Rattle.step_model.specs.Rows.{own_row}
use Rattle.worked_machine.specs.Slots.{first, with_three, start_as, thread_after, events_of, halted, trap_and_halt}
use Rattle.worked_machine.specs.Memory.{with_memory, first_four, next_four, last_four, twelve, stores, lr_four, with_bases, bytes_after}

-- what a row makes of a thread and the bytes 0x11, 0x22 to 0xcc
abbrev pub row_of : FlowIns → Thread → Leaving Own
row_of ins th = own_row 0 (with_memory th twelve) (Flow ins)

-- the thread is this, and the memory is as before
abbrev pub leaves : Thread → Leaving Own
leaves th = Leaves (with_memory th twelve)

-- where thread 0 is after one instruction at 0x00040000, with this in r0
abbrev pub place_after : FlowIns → ℕ → ℕ
place_after ins a = (thread_after (Flow ins ∷ []) (start_as (with_three a 0 0)) 1).pc

pub record WorkedBranches : Type 0 where
  pub bt_taken : place_after (flow.Bt 0 5) 0x80000000 ≡ 0x00040014
  pub bt_not_taken : place_after (flow.Bt 0 5) 0 ≡ 0x00040004
  pub bf_taken : place_after (flow.Bf 0 5) 0 ≡ 0x00040014
  pub bf_not_taken : place_after (flow.Bf 0 5) 1 ≡ 0x00040004
  pub bu : place_after (flow.Bu 16383) 7 ≡ 0x0004fffc
  pub bu_to_itself : place_after (flow.Bu 0) 7 ≡ 0x00040000
  -- so many instructions from the next one on
  pub bru_next : place_after (flow.Bru 0) 0 ≡ 0x00040004
  pub bru_over_two : place_after (flow.Bru 0) 2 ≡ 0x0004000c
  pub bru_to_itself : place_after (flow.Bru 0) 0xffffffff ≡ 0x00040000
  pub bru_back : place_after (flow.Bru 0) 0xfffffffe ≡ 0x0003fffc
  pub bru_beyond : place_after (flow.Bru 0) 0x40000001 ≡ 0x00040008
  pub bau : place_after (flow.Bau 0) 0x00040abc ≡ 0x00040abc
  pub bau_anywhere : place_after (flow.Bau 0) 3 ≡ 3
  -- a branch changes pc alone
  pub registers : thread_after (Flow (flow.Bt 1 2) ∷ []) (start_as (with_three 5 7 9)) 1 ≡ record (with_three 5 7 9) { pc = 0x00040008 }
  pub relative_registers : row_of (flow.Bru 1) (with_three 5 7 9) ≡ leaves (record (with_three 5 7 9) { pc = 0x00040020 })
  pub absolute_registers : row_of (flow.Bau 1) (with_three 5 7 9) ≡ leaves (record (with_three 5 7 9) { pc = 7 })

pub record WorkedCalls : Type 0 where
  pub bl : row_of (flow.Bl 5) (with_bases 1 2 3 4) ≡ leaves (record (with_bases 1 2 3 0x00040004) { pc = 0x00040014 })
  pub bl_to_itself : row_of (flow.Bl 2) (record first { pc = 0x00040008 }) ≡ leaves (record first { pc = 0x00040008; lr = 0x0004000c })
  pub bla : row_of (flow.Bla 0) (with_three 0x00040abc 7 9) ≡ leaves (record (with_three 0x00040abc 7 9) { pc = 0x00040abc; lr = 0x00040004 })
  pub bla_anywhere : row_of (flow.Bla 1) (with_three 5 7 9) ≡ leaves (record (with_three 5 7 9) { pc = 7; lr = 0x00040004 })
  -- the address is a word of the memory
  pub bla_cp : row_of (flow.BlaCp 1) (with_bases 0x00010000 2 3 4) ≡ leaves (record (with_bases 0x00010000 2 3 0x00040004) { pc = 0x88776655 })
  pub bla_cp_far : row_of (flow.BlaCp 65535) (with_bases 0xfffd0004 2 3 4) ≡ leaves (record (with_bases 0xfffd0004 2 3 0x00040004) { pc = 0x44332211 })
  -- it is loaded before lr is written
  pub bla_cp_unaligned : row_of (flow.BlaCp 1) (with_bases 0x00010002 2 3 4) ≡ Traps 5 0x00010006
  pub bla_cp_outside : row_of (flow.BlaCp 65535) (with_bases 0x00010000 2 3 4) ≡ Traps 5 0x0004fffc

pub record WorkedFrames : Type 0 where
  -- lr is stored at the old sp
  pub entsp : row_of (flow.Entsp 1) (with_bases 1 2 0x00010004 0x04030201) ≡ stores (with_bases 1 2 0x00010000 0x04030201) first_four lr_four last_four
  -- 0x00010008 - 4 * 65535
  pub entsp_most : row_of (flow.Entsp 65535) (with_bases 1 2 0x00010008 0x04030201) ≡ stores (with_bases 1 2 0xfffd000c 0x04030201) first_four next_four lr_four
  -- without a frame nothing is stored, so sp may be no address
  pub entsp_0 : row_of (flow.Entsp 0) (with_bases 1 2 0x00010004 4) ≡ leaves (record (with_bases 1 2 0x00010004 4) { pc = 0x00040004 })
  pub entsp_0_anywhere : row_of (flow.Entsp 0) (with_bases 1 2 3 4) ≡ leaves (record (with_bases 1 2 3 4) { pc = 0x00040004 })
  pub entsp_unaligned : row_of (flow.Entsp 1) (with_bases 1 2 0x00010006 4) ≡ Traps 5 0x00010006
  pub entsp_above : row_of (flow.Entsp 1) (with_bases 1 2 0x00020000 4) ≡ Traps 5 0x00020000
  -- lr and pc are loaded at the new sp
  pub retsp : row_of (flow.Retsp 1) (with_bases 1 2 0x00010000 4) ≡ leaves (record (with_bases 1 2 0x00010004 0x88776655) { pc = 0x88776655 })
  pub retsp_most : row_of (flow.Retsp 65535) (with_bases 1 2 0xfffd0004 4) ≡ leaves (record (with_bases 1 2 0x00010000 0x44332211) { pc = 0x44332211 })
  pub retsp_0 : row_of (flow.Retsp 0) (with_bases 1 2 0x00010004 0x00040abc) ≡ leaves (record (with_bases 1 2 0x00010004 0x00040abc) { pc = 0x00040abc })
  pub retsp_0_anywhere : row_of (flow.Retsp 0) (with_bases 1 2 3 4) ≡ leaves (record (with_bases 1 2 3 4) { pc = 4 })
  pub retsp_unaligned : row_of (flow.Retsp 1) (with_bases 1 2 0x00010002 4) ≡ Traps 5 0x00010006
  pub retsp_above : row_of (flow.Retsp 1) (with_bases 1 2 0x0001fffc 4) ≡ Traps 5 0x00020000
  pub extsp : row_of (flow.Extsp 2) (with_bases 1 2 0x00010008 4) ≡ leaves (record (with_bases 1 2 0x00010000 4) { pc = 0x00040004 })
  pub extsp_0 : row_of (flow.Extsp 0) (with_bases 1 2 3 4) ≡ leaves (record (with_bases 1 2 3 4) { pc = 0x00040004 })
  pub extsp_wraps : row_of (flow.Extsp 1) (with_bases 1 2 3 4) ≡ leaves (record (with_bases 1 2 0xffffffff 4) { pc = 0x00040004 })
  pub extdp : row_of (flow.Extdp 65535) (with_bases 1 0x00040000 3 4) ≡ leaves (record (with_bases 1 4 3 4) { pc = 0x00040004 })
  pub extdp_wraps : row_of (flow.Extdp 1) (with_bases 1 2 3 4) ≡ leaves (record (with_bases 1 0xfffffffe 3 4) { pc = 0x00040004 })
  pub set_sp : row_of (flow.SetSp 1) (with_three 5 7 9) ≡ leaves (record (with_three 5 7 9) { sp = 7; pc = 0x00040004 })
  pub set_dp : row_of (flow.SetDp 1) (with_three 5 7 9) ≡ leaves (record (with_three 5 7 9) { dp = 7; pc = 0x00040004 })
  pub set_cp : row_of (flow.SetCp 1) (with_three 5 7 9) ≡ leaves (record (with_three 5 7 9) { cp = 7; pc = 0x00040004 })

-- a call of the function at the third instruction, which has a frame of two words and returns to the second
abbrev pub call_and_return : List Instr
call_and_return = Flow (flow.Bl 2) ∷ Words words.Nop ∷ Flow (flow.Entsp 2) ∷ Flow (flow.Retsp 2) ∷ []

pub record WorkedFlowSlots : Type 0 where
  pub called : thread_after call_and_return (start_as first) 1 ≡ record first { lr = 0x00040004; pc = 0x00040008 }
  pub entered : thread_after call_and_return (start_as first) 5 ≡ record first { lr = 0x00040004; sp = 0x0001fff4; pc = 0x0004000c }
  pub kept : bytes_after call_and_return (start_as first) 5 65528 8 ≡ 0 ∷ 0 ∷ 0 ∷ 0 ∷ 4 ∷ 0 ∷ 4 ∷ 0 ∷ []
  pub returned : thread_after call_and_return (start_as first) 9 ≡ record first { lr = 0x00040004; pc = 0x00040004 }
  -- a frame whose first word lies outside of the memory: sp, lr and pc stay
  pub bad_entry : thread_after (Flow (flow.Entsp 1) ∷ []) (start_as (with_bases 1 2 0x00020000 4)) 1 ≡ halted (with_bases 1 2 0x00020000 4) 5 0x00020000
  pub bad_return : thread_after (Flow (flow.Retsp 1) ∷ []) (start_as first) 1 ≡ halted first 5 0x00020000
  pub bad_return_told : events_of (Flow (flow.Retsp 1) ∷ []) (start_as first) 0 ≡ trap_and_halt 5 0x00020000
  pub bad_call : thread_after (Flow (flow.BlaCp 0) ∷ []) (start_as (with_bases 1 2 3 4)) 1 ≡ halted (with_bases 1 2 3 4) 5 1
  -- a branch may lead anywhere: where no code stands, the next issue traps
  pub branched_away : events_of (Flow (flow.Bau 0) ∷ []) (start_as (with_three 3 0 0)) 0 ≡ []
  pub no_code_there : events_of (Flow (flow.Bau 0) ∷ []) (start_as (with_three 3 0 0)) 4 ≡ in_slot 4 (happen.Trap 0 2 3 3) ∷ in_slot 4 (happen.Halt 0) ∷ []

pub record WorkedFlow : Type 0 where
  pub branches : WorkedBranches
  pub calls : WorkedCalls
  pub frames : WorkedFrames
  pub slots : WorkedFlowSlots
