-- What is counted in a run: of each thread, of each instruction, and of each link end.
use Rattle.std.specs.Prelude.{ℕ, ◌+◌, ◌-◌, ◌/◌, ◌==◌, Bool, ◌&&◌, if◌then◌else◌, Option, Some, None, List, length, map, slice_index_or, false}
use Rattle.std.specs.List.{list_any}
use Rattle.xs_base.specs.Numbers.{Slot, Word, Position, ThreadNumber, EndNumber}
use Rattle.xs_base.specs.declared.numbers.TheConstants.{THREADS, BUFFER_TOKENS}
use Rattle.xs_model.specs.declared.thread.Run.{Run}
use Rattle.xs_model.specs.declared.thread.Run.TheVariants.{AtSync}
use Rattle.xs_model.specs.declared.thread.Thread.{Thread}
use Rattle.xs_instructions.specs.declared.instr.Instr.{Instr}
use Rattle.xs_instructions.specs.Code.{code_start, is_code_place}
use Rattle.link_ends.specs.declared.state.EndState.{EndState}
use Rattle.link_ends.specs.States.{absent_end}
use Rattle.core_step.specs.States.{link_state}
use Rattle.sys_plan.specs.declared.NodePlan.{NodePlan}
use Rattle.sys_plan.specs.Plan.{PlanRec}
use Rattle.issue_model.specs.Issues.{thread_in}
use Rattle.issue_model.specs.Seen.{node_after}
use Rattle.chart_model.specs.Marks.{mark_at}
use Rattle.chart_model.specs.Columns.{mark_char}
use Rattle.profile_model.specs.Sums.{sum_below, how_many}

-- ---- Threads

-- what a thread does in a slot, as a chart shows it
abbrev pub char_at : PlanRec → Position → NodePlan → ThreadNumber → Slot → ℕ
char_at plan n node k slot = mark_char (mark_at plan slot n node k)

-- in how many of the first slots it is shown by a character
abbrev pub slots_shown : PlanRec → Position → NodePlan → ThreadNumber → ℕ → ℕ → ℕ
slots_shown plan n node k c slots = how_many (λ slot. char_at plan n node k slot == c) slots

-- ---- Instructions

-- the place of the instruction at an address, counted from 0: that past the last one where none stands there
abbrev pub place_of : List Instr → Word → ℕ
place_of code pc = if is_code_place code pc then (pc - code_start) / 4 else length code

-- the address of the instruction that a thread is at: that of its next one, or of its `ssync`, right before that, where it is at sync
abbrev pub pc_of : Run → Word → Word
pc_of AtSync pc = pc - 4
pc_of _ pc = pc

abbrev pub pc_in : Thread → Word
pc_in th = pc_of th.run th.pc

-- the place at which a thread is before a slot
abbrev pub place_at : PlanRec → Position → NodePlan → ThreadNumber → Slot → ℕ
place_at plan n node k slot = place_of node.image.code (pc_in (thread_in (node_after plan slot n).core.threads k))

abbrev pub is_one_of : List ℕ → ℕ → Bool
is_one_of chars c = list_any (λ (x : ℕ). x == c) chars

-- how many threads of a node are at a place before a slot, and are shown in it by one of some characters
abbrev pub threads_at : PlanRec → Position → NodePlan → List ℕ → ℕ → Slot → ℕ
threads_at plan n node chars place slot =
    how_many (λ k. (place_at plan n node k slot == place) && is_one_of chars (char_at plan n node k slot)) THREADS

-- in all of the first slots together
abbrev pub times_at : PlanRec → Position → NodePlan → List ℕ → ℕ → ℕ → ℕ
times_at plan n node chars place slots = sum_below (threads_at plan n node chars place) slots

-- ---- Link ends

-- a link end of a node after a slot
abbrev pub end_after : PlanRec → Position → EndNumber → Slot → EndState
end_after plan n e slot = slice_index_or (map link_state (node_after plan (slot + 1) n).links) e absent_end

abbrev pub is_slot : Slot → Option Slot → Bool
is_slot slot None = false
is_slot slot (Some last) = last == slot

-- in how many of the first slots it sent a token
abbrev pub tokens_sent : PlanRec → Position → EndNumber → ℕ → ℕ
tokens_sent plan n e slots = how_many (λ slot. is_slot slot (end_after plan n e slot).last) slots

-- after how many of them it was without a credit
abbrev pub slots_full : PlanRec → Position → EndNumber → ℕ → ℕ
slots_full plan n e slots = how_many (λ slot. (end_after plan n e slot).window == BUFFER_TOKENS) slots
