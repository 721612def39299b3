-- What `issues SLOTS FROM` writes: a line for each issue.
use Rattle.std.specs.Prelude.{ℕ, zero, suc, ◌+◌, ◌-◌, Bool, true, false, ◌&&◌, ◌||◌, not, ◌==◌, if◌then◌else◌, Option, Some, None, List, [], ◌∷◌, ◌++◌, length, take, slice_index_or, codes, decimal}
use Rattle.std.specs.List.{flat_map}
use Rattle.xs_base.specs.Numbers.{Slot, Word, Position, Register, ThreadNumber, NodeId}
use Rattle.xs_model.specs.declared.thread.Thread.{Thread}
use Rattle.xs_model.specs.Threads.{fresh_thread}
use Rattle.xs_instructions.specs.declared.instr.Instr.{Instr}
use Rattle.xs_instructions.specs.Code.{code_at}
use Rattle.sys_plan.specs.declared.NodePlan.{NodePlan}
use Rattle.sys_plan.specs.Plan.{PlanRec}
use Rattle.processor.specs.declared.picks.NextIssue.{NextIssue}
use Rattle.trace_model.specs.EventLines.{hex_word}
use Rattle.trace_model.specs.Trace.{by_position, end_line}
use Rattle.look_model.specs.Places.{place_text}
use Rattle.look_model.specs.Waits.{thread_name}
use Rattle.issue_model.specs.declared.TheConstants.{REGISTERS, MOST_LINES}
use Rattle.issue_model.specs.declared.Size.{Size}
use Rattle.issue_model.specs.declared.Size.TheVariants as size
use Rattle.issue_model.specs.declared.Store.{Store}
use Rattle.issue_model.specs.declared.Ending.{Ending}
use Rattle.issue_model.specs.Seen.{seen_at}
use Rattle.issue_model.specs.Registers.{name_of, value_in}
use Rattle.issue_model.specs.Sets.{sets}
use Rattle.issue_model.specs.Stores.{stores}
use Rattle.issue_model.specs.Endings.{ending_of, is_done, ending_text}

-- ---- Registers

-- whether a register is told: one that was set, and one that is another than before
abbrev pub is_told : Bool → Word → Word → Bool
is_told is_set before after = is_set || not (after == before)

-- whose register it is, where it is not of the thread that issued
abbrev pub whose : ThreadNumber → ThreadNumber → List ℕ
whose k j = if j == k then [] else thread_name j ++ codes "."

-- `; NAME = VALUE`, where it is told
abbrev pub register_text : List ℕ → Bool → List ℕ → Word → Word → List ℕ
register_text owner is_set name before after =
    if is_told is_set before after then codes "; " ++ (owner ++ (name ++ (codes " = " ++ hex_word after))) else []

-- whether an instruction that was done, if one was, sets a register
abbrev pub set_by : Option Instr → Register → Bool
set_by None g = false
set_by (Some ins) g = sets ins g

-- those of these registers of thread j, where thread k issued
abbrev pub registers_text : ThreadNumber → Option Instr → ThreadNumber → Thread → Thread → List ℕ → List ℕ
registers_text k done j before after numbers =
    flat_map (λ i. register_text (whose k j) ((j == k) && set_by done i) (name_of i) (value_in before i) (value_in after i)) numbers

-- the pc of another thread; that of the thread that issued is told by how the issue ended, or is the next instruction's
abbrev pub pc_text : ThreadNumber → ThreadNumber → Word → Word → List ℕ
pc_text k j before after = if j == k then [] else register_text (whose k j) false (codes "pc") before after

-- all that is told of thread j
abbrev pub thread_text : ThreadNumber → Option Instr → ThreadNumber → Thread → Thread → List ℕ
thread_text k done j before after = registers_text k done j before after REGISTERS ++ pc_text k j before.pc after.pc

abbrev pub thread_in : List Thread → ThreadNumber → Thread
thread_in threads k = slice_index_or threads k fresh_thread

-- of all threads
abbrev pub threads_text : ThreadNumber → Option Instr → List Thread → List Thread → List ℕ
threads_text k done before after = by_position (λ j th. thread_text k done j th (thread_in after j)) 0 before

-- ---- Stores

abbrev pub size_name : Size → List ℕ
size_name size.Byte = codes "byte "
size_name size.Half = codes "half "
size_name size.Word = codes "word "

-- what an instruction that was done, if one was, stores
abbrev pub stored_by : Thread → Option Instr → Option Store
stored_by th None = None
stored_by th (Some ins) = stores th ins

-- `; SIZE ADDRESS = VALUE`
abbrev pub store_text : Option Store → List ℕ
store_text None = []
store_text (Some store) = codes "; " ++ (size_name store.size ++ (hex_word store.at ++ (codes " = " ++ hex_word store.value)))

-- ---- The line of an issue

-- the instruction that was done, if one was
abbrev pub done_by : Bool → Option Instr → Option Instr
done_by true ins = ins
done_by false ins = None

-- the instruction that was done by an issue, if one was, by the threads of its node before the slot and after it
abbrev pub done_in : List Instr → List Thread → List Thread → Bool → NextIssue → Option Instr
done_in code before after traps next =
    done_by (is_done (ending_of next.takes traps (thread_in after next.thread).run)) (code_at code (thread_in before next.thread).pc)

-- what was stored in a slot, if something was
abbrev pub stored_in : List Instr → List Thread → List Thread → Bool → Option NextIssue → Option Store
stored_in code before after traps None = None
stored_in code before after traps (Some next) = stored_by (thread_in before next.thread) (done_in code before after traps next)

-- what is told behind the instruction, where this was done
abbrev pub told_text : NodeId → ThreadNumber → List Thread → List Thread → Ending → Option Instr → List ℕ
told_text id k before after ending done =
    ending_text id (thread_in before k) (thread_in after k) ending
    ++ (threads_text k done before after ++ (store_text (stored_by (thread_in before k) done) ++ codes "\n"))

-- `SLOT nN.tT at PC line L LABEL+D: INSTRUCTION`
abbrev pub start_text : NodePlan → List ℕ → Slot → ThreadNumber → Word → List ℕ
start_text node lines slot k pc =
    decimal slot ++ (codes " n" ++ (decimal node.number ++ (codes "." ++ (thread_name k ++ place_text lines node.image pc))))

-- of the threads of a node before the slot and after it
abbrev pub line_of : NodePlan → List ℕ → Slot → List Thread → List Thread → ThreadNumber → Ending → List ℕ
line_of node lines slot before after k ending =
    let pc = (thread_in before k).pc in
    start_text node lines slot k pc ++ told_text node.id k before after ending (done_by (is_done ending) (code_at node.image.code pc))

-- of a slot: one line where somebody issued, and else none
abbrev pub lines_by : NodePlan → List ℕ → Slot → List Thread → List Thread → Bool → Option NextIssue → List (List ℕ)
lines_by node lines slot before after traps None = []
lines_by node lines slot before after traps (Some next) =
    line_of node lines slot before after next.thread (ending_of next.takes traps (thread_in after next.thread).run) ∷ []

-- ---- All lines

-- of a node of a plan, at a position, in a slot of the serial machine
abbrev pub node_lines : PlanRec → List (List ℕ) → Slot → Position → NodePlan → List (List ℕ)
node_lines plan lines slot n node =
    let seen = seen_at plan slot n node in
    lines_by node (slice_index_or lines n []) slot seen.before.core.threads seen.after.core.threads seen.traps seen.issue

-- of these nodes, the first of which stands at position n
abbrev pub nodes_lines : (Position → NodePlan → List (List ℕ)) → Position → List NodePlan → List (List ℕ)
nodes_lines told n [] = []
nodes_lines told n (node ∷ nodes) = told n node ++ nodes_lines told (n + 1) nodes

-- of so many slots from one on
abbrev pub lines_from : (Slot → List (List ℕ)) → Slot → ℕ → List (List ℕ)
lines_from told from zero = []
lines_from told from (suc count) = lines_from told from count ++ told (from + count)

-- of a slot
abbrev pub slot_lines : PlanRec → List (List ℕ) → Slot → List (List ℕ)
slot_lines plan lines slot = nodes_lines (node_lines plan lines slot) 0 plan.nodes

-- the first lines, one behind the other
abbrev pub kept_text : List (List ℕ) → List ℕ
kept_text lines = flat_map (λ line. line) (take MOST_LINES lines)

-- `more C`, where there are more
abbrev pub more_text : ℕ → List ℕ
more_text count = if count == 0 then [] else codes "more " ++ (decimal count ++ codes "\n")

abbrev pub lines_text : Slot → List (List ℕ) → List ℕ
lines_text slots lines = kept_text lines ++ (more_text (length lines - MOST_LINES) ++ end_line slots)

-- of a run of so many slots by a plan, from a slot on, where the instructions of each node are of these lines
abbrev pub issues_of : PlanRec → List (List ℕ) → ℕ → Slot → List ℕ
issues_of plan lines slots from = lines_text slots (lines_from (slot_lines plan lines) from (slots - from))
