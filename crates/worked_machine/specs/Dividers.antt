-- The divider that the threads of a core share in edition 2, worked out by hand.
use Rattle.std.specs.Prelude.{ℕ, zero, suc, ◌≡◌, ◌+◌, Bool, true, false, Option, Some, None, List, [], ◌∷◌, ◌++◌, map, replicate}
use Rattle.xs_base.specs.Numbers.{Slot}
use Rattle.xs_model.specs.declared.event.Event.{Event}
use Rattle.xs_model.specs.declared.event.Happen.TheVariants as happen
use Rattle.xs_model.specs.declared.thread.Thread.{Thread}
use Rattle.xs_model.specs.declared.thread.Run.TheVariants.{Paused}
use Rattle.xs_model.specs.declared.thread.Wait.TheVariants.{Divider}
use Rattle.xs_model.specs.Outside.{in_slot, low_pins}
use Rattle.xs_model.specs.Picks.{picked}
use Rattle.xs_model.specs.Record.{NodeRec, free_thread, thread_of}
use Rattle.xs_instructions.specs.declared.instr.Instr.{Instr}
use Rattle.xs_instructions.specs.declared.instr.Instr.TheVariants.{Words}
use Rattle.xs_instructions.specs.declared.instr.WordIns.TheVariants as words
use Rattle.step_model.specs.DividerRows.{is_division}
use Rattle.step_model.specs.Fixed.{Fixed}
use Rattle.step_model.specs.Step.{Stepped, node_step}
use Rattle.worked_machine.specs.Slots.{node_of_code, no_arrivals, start, first, start_as, with_three, after_slots}
use Rattle.worked_machine.specs.Turns.{nobody, number_or_nobody, issuers_from, alone}

-- a node of this code, in a system of edition 2
abbrev pub shared : List Instr → Fixed
shared code = record (node_of_code code) { edition = 2 }

abbrev pub shared_slot : List Instr → NodeRec → Slot → Stepped
shared_slot code rec slot = node_step (shared code) rec slot no_arrivals low_pins

-- the node after so many slots, from slot 0 on
abbrev pub shared_after : List Instr → NodeRec → ℕ → NodeRec
shared_after code rec zero = rec
shared_after code rec (suc slot) = (shared_slot code (shared_after code rec slot) slot).rec

-- the threads that issue in each of so many slots, from one on
abbrev pub shared_issuers : List Instr → NodeRec → Slot → ℕ → List ℕ
shared_issuers code rec slot zero = []
shared_issuers code rec slot (suc count) =
    number_or_nobody (picked rec.core slot) ∷ shared_issuers code (shared_slot code rec slot).rec (slot + 1) count

-- divu r2, r0, r1
-- remu r3, r0, r1
-- nop
abbrev pub two_quotients : List Instr
two_quotients = Words (words.Divu 2 0 1) ∷ Words (words.Remu 3 0 1) ∷ Words words.Nop ∷ []

-- 100 is to be divided by 7
abbrev pub by_7 : Thread
by_7 = with_three 100 7 0

abbrev pub one_divides : NodeRec
one_divides = start_as by_7

-- threads 0 and 1 are to do the same
abbrev pub two_divide : NodeRec
two_divide = record start { core = record start.core { threads = by_7 ∷ by_7 ∷ replicate 6 free_thread } }

-- the node with this for thread 0, where the core divided in slot 0
abbrev pub busy : Thread → NodeRec
busy th = record (start_as th) { core = record (start_as th).core { slots = record start.core.slots { division = Some 0 } } }

-- thread 0 traps in slot 5, and halts
abbrev pub no_quotient_in_5 : List Event
no_quotient_in_5 = in_slot 5 (happen.Trap 0 7 0x00040000 0) ∷ in_slot 5 (happen.Halt 0) ∷ []

abbrev pub divide_signed : List Instr
divide_signed = Words (words.Divs 2 0 1) ∷ []

abbrev pub divide_long : List Instr
divide_long = Words (words.Ldivu 2 3 0 1 1) ∷ []

abbrev pub multiply_long : List Instr
multiply_long = Words (words.Lmul 2 3 0 1 1 1) ∷ []

pub record WorkedDividers : Type 0 where
  pub divisions : map is_division (words.Divu 0 0 0 ∷ words.Remu 0 0 0 ∷ words.Divs 0 0 0 ∷ words.Rems 0 0 0 ∷ words.Ldivu 0 1 0 0 0 ∷ []) ≡ replicate 5 true
  pub others : map is_division (words.Mul 0 0 0 ∷ words.Lmul 0 1 0 0 0 0 ∷ words.Maccu 0 1 0 0 ∷ words.Maccs 0 1 0 0 ∷ words.Shr 0 0 0 ∷ []) ≡ replicate 5 false
  -- the quotient in slot 0; `remu` waits from slot 4 on, and is issued anew in slot 32
  pub issuers : shared_issuers two_quotients one_divides 0 37 ≡ alone 0 ++ ((0 ∷ replicate 27 nobody) ++ (alone 0 ++ 0 ∷ []))
  pub quotient : (shared_after two_quotients one_divides 1).core.slots.division ≡ Some 0
  pub waits : thread_of (shared_after two_quotients one_divides 5).core 0 ≡ record by_7 { r = 100 ∷ 7 ∷ 14 ∷ replicate 9 0; pc = 0x00040004; run = Paused Divider }
  pub still : (shared_after two_quotients one_divides 5).core.slots.division ≡ Some 0
  pub both : thread_of (shared_after two_quotients one_divides 33).core 0 ≡ record by_7 { r = 100 ∷ 7 ∷ 14 ∷ 2 ∷ replicate 8 0; pc = 0x00040008 }
  pub second : (shared_after two_quotients one_divides 33).core.slots.division ≡ Some 32
  -- a thread that pauses in slot 30 rests up to slot 33, though the divider is free from slot 32 on
  pub rests : shared_issuers two_quotients (busy by_7) 30 5 ≡ alone 0 ++ 0 ∷ []
  -- two threads: thread 1 waits from slot 1 on and thread 0 from slot 4 on; in slot 32 thread 1 waited longer, and in slot 64 thread 0
  pub in_turn : shared_issuers two_quotients two_divide 0 69 ≡
      (0 ∷ 1 ∷ nobody ∷ nobody ∷ 0 ∷ replicate 27 nobody) ++ ((alone 1 ++ (1 ∷ replicate 27 nobody)) ++ (alone 0 ++ 0 ∷ []))
  -- edition 1: no row waits, and no slot is kept
  pub apart : issuers_from two_quotients one_divides 0 9 ≡ alone 0 ++ (alone 0 ++ 0 ∷ [])
  pub unkept : (after_slots two_quotients one_divides 9).core.slots.division ≡ None
  -- where there is no quotient the row traps at once, and is no division
  pub by_0 : (shared_slot two_quotients (busy (with_three 100 0 0)) 5).emitted.events ≡ no_quotient_in_5
  pub by_0_unkept : (shared_slot two_quotients (busy (with_three 100 0 0)) 5).rec.core.slots.division ≡ Some 0
  pub by_0_first : (shared_slot two_quotients (start_as (with_three 100 0 0)) 5).rec.core.slots.division ≡ None
  pub too_great : (shared_slot divide_signed (busy (with_three 0x80000000 0xffffffff 0)) 5).emitted.events ≡ no_quotient_in_5
  -- a long division waits too, with no quotient as well as others, and a long product does not
  pub long : (thread_of (shared_slot divide_long (busy (with_three 5 7 0)) 5).rec.core 0).run ≡ Paused Divider
  pub long_kept : (shared_slot divide_long (start_as (with_three 5 7 0)) 5).rec.core.slots.division ≡ Some 5
  pub long_traps : (shared_slot divide_long (busy (with_three 7 7 0)) 5).emitted.events ≡ no_quotient_in_5
  pub product : thread_of (shared_slot multiply_long (busy (with_three 5 7 0)) 5).rec.core 0 ≡ record first { r = 5 ∷ 7 ∷ 0 ∷ 49 ∷ replicate 8 0; pc = 0x00040004 }
