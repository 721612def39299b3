-- What the rows of a chart show in a slot: a column of characters.
use Rattle.std.specs.Prelude.{ℕ, zero, suc, ◌+◌, ◌==◌, if◌then◌else◌, List, [], ◌∷◌, ◌++◌, length, map}
use Rattle.xs_base.specs.Numbers.{Slot, Position}
use Rattle.xs_base.specs.declared.numbers.TheConstants.{THREADS}
use Rattle.xs_model.specs.Record.{NodeRec}
use Rattle.chan_ends.specs.declared.state.ChanState.{ChanState}
use Rattle.chan_ends.specs.States.{chan_state}
use Rattle.link_ends.specs.declared.state.EndState.{EndState}
use Rattle.core_step.specs.States.{link_state}
use Rattle.sys_plan.specs.declared.NodePlan.{NodePlan}
use Rattle.sys_plan.specs.Plan.{PlanRec}
use Rattle.trace_model.specs.Trace.{by_position}
use Rattle.issue_model.specs.Seen.{node_after}
use Rattle.chart_model.specs.declared.Mark.{Mark}
use Rattle.chart_model.specs.declared.Mark.TheVariants as mark
use Rattle.chart_model.specs.Marks.{mark_at}

-- ---- Threads

-- XPTEIr.ioptlsdemuh-
abbrev pub mark_char : Mark → ℕ
mark_char mark.Done = 88
mark_char mark.Pauses = 80
mark_char mark.Traps = 84
mark_char mark.TakesEvent = 69
mark_char mark.TakesInterrupt = 73
mark_char mark.Ready = 114
mark_char mark.Between = 46
mark_char mark.Tokens = 105
mark_char mark.Room = 111
mark_char mark.Port = 112
mark_char mark.Timer = 116
mark_char mark.Lock = 108
mark_char mark.Slaves = 115
mark_char mark.Divider = 100
mark_char mark.Choice = 101
mark_char mark.AtSync = 109
mark_char mark.Unstarted = 117
mark_char mark.Halted = 104
mark_char mark.Free = 45

-- of so many threads of a node
abbrev pub thread_chars : PlanRec → Slot → Position → NodePlan → ℕ → List ℕ
thread_chars plan slot n node zero = []
thread_chars plan slot n node (suc k) = thread_chars plan slot n node k ++ mark_char (mark_at plan slot n node k) ∷ []

-- ---- Tokens, at the end of a slot

-- how many tokens wait, 0 to 8: `.` for none
abbrev pub count_char : ℕ → ℕ
count_char count = if count == 0 then 46 else 48 + count

abbrev pub link_char : EndState → ℕ
link_char end = count_char (length end.buffer.items)

abbrev pub taken_char : ChanState → ℕ
taken_char chan = count_char (length chan.input.items)

abbrev pub sent_char : ChanState → ℕ
sent_char chan = count_char (length chan.output.items)

-- the link ends of a node, its channel ends, and these as those that send
abbrev pub token_chars : NodeRec → List ℕ
token_chars rec =
    map link_char (map link_state rec.links) ++ (map taken_char (map chan_state rec.core.chans) ++ map sent_char (map chan_state rec.core.chans))

-- ---- Columns

-- the rows of a node
abbrev pub node_column : PlanRec → Slot → Position → NodePlan → List ℕ
node_column plan slot n node = thread_chars plan slot n node THREADS ++ token_chars (node_after plan (slot + 1) n)

-- the rows of all nodes
abbrev pub column_at : PlanRec → Slot → List ℕ
column_at plan slot = by_position (node_column plan slot) 0 plan.nodes

-- of so many slots from one on
abbrev pub columns_from : PlanRec → Slot → ℕ → List (List ℕ)
columns_from plan from zero = []
columns_from plan from (suc count) = columns_from plan from count ++ column_at plan (from + count) ∷ []
