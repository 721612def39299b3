-- What `chart SLOTS FROM` writes: blocks of rows.
use Rattle.std.specs.Prelude.{ℕ, zero, suc, ◌+◌, ◌-◌, ◌*◌, ◌/◌, ◌==◌, nat_lt, Bool, if◌then◌else◌, List, [], ◌++◌, length, map, min, replicate, slice_index_or, codes, decimal}
use Rattle.std.specs.List.{list_all}
use Rattle.xs_base.specs.Numbers.{Slot, Position}
use Rattle.xs_base.specs.declared.numbers.TheConstants.{THREADS, LINK_ENDS, CHAN_ENDS}
use Rattle.sys_plan.specs.declared.NodePlan.{NodePlan}
use Rattle.sys_plan.specs.Plan.{PlanRec}
use Rattle.trace_model.specs.Trace.{by_position, end_line}
use Rattle.look_model.specs.Waits.{thread_name}
use Rattle.issue_model.specs.Issues.{more_text}
use Rattle.chart_model.specs.declared.TheConstants.{BLOCK_SLOTS, MOST_CHARTED, NAME_COLUMNS, ROWS}
use Rattle.chart_model.specs.Columns.{columns_from}

-- filled up with blanks to so many columns
abbrev pub padded : ℕ → List ℕ → List ℕ
padded columns text = text ++ replicate (columns - length text) 32

-- ---- The ruler

-- the numbers of so many slots, each the tenth from the one before it, and each above its own column
abbrev pub ruler_numbers : Slot → ℕ → List ℕ
ruler_numbers from zero = []
ruler_numbers from (suc k) = padded (10 * k) (ruler_numbers from k) ++ decimal (from + 10 * k)

-- above so many slots
abbrev pub ruler_text : Slot → ℕ → List ℕ
ruler_text from count = padded NAME_COLUMNS (codes "slot") ++ (ruler_numbers from ((count + 9) / 10) ++ codes "\n")

-- ---- Rows

-- what a row of a node shows, by its number among them
abbrev pub chan_row_name : ℕ → List ℕ
chan_row_name i = if nat_lt i CHAN_ENDS then codes " chan " ++ decimal i else codes " chan " ++ (decimal (i - CHAN_ENDS) ++ codes " out")

abbrev pub token_row_name : ℕ → List ℕ
token_row_name i = if nat_lt i LINK_ENDS then codes " link " ++ decimal i else chan_row_name (i - LINK_ENDS)

abbrev pub row_name : ℕ → List ℕ
row_name i = if nat_lt i THREADS then codes "." ++ thread_name i else token_row_name (i - THREADS)

-- what a row shows in a slot in which there is nothing to see: a free thread, or no token
abbrev pub blank_char : ℕ → ℕ
blank_char i = if nat_lt i THREADS then 45 else 46

abbrev pub is_blank : ℕ → List ℕ → Bool
is_blank blank chars = list_all (λ (c : ℕ). c == blank) chars

-- a row of a node, where there is something to see
abbrev pub row_text : NodePlan → ℕ → List ℕ → List ℕ
row_text node i chars =
    if is_blank (blank_char i) chars then []
    else padded NAME_COLUMNS (codes "n" ++ (decimal node.number ++ row_name i)) ++ (chars ++ codes "\n")

-- the characters of a row, by its number among the rows of all nodes
abbrev pub row_of : List (List ℕ) → ℕ → List ℕ
row_of columns r = map (λ (column : List ℕ). slice_index_or column r 0) columns

-- so many rows of the node at a position
abbrev pub node_rows : List (List ℕ) → Position → NodePlan → ℕ → List ℕ
node_rows columns n node zero = []
node_rows columns n node (suc i) = node_rows columns n node i ++ row_text node i (row_of columns (ROWS * n + i))

-- of all nodes
abbrev pub rows_text : List (List ℕ) → List NodePlan → List ℕ
rows_text columns nodes = by_position (λ n node. node_rows columns n node ROWS) 0 nodes

-- ---- Blocks

-- of so many slots from one on
abbrev pub block_text : PlanRec → Slot → ℕ → List ℕ
block_text plan from count = ruler_text from count ++ (rows_text (columns_from plan from count) plan.nodes ++ codes "\n")

-- so many of the blocks of so many slots from one on
abbrev pub blocks_text : PlanRec → Slot → ℕ → ℕ → List ℕ
blocks_text plan from count zero = []
blocks_text plan from count (suc k) =
    blocks_text plan from count k ++ block_text plan (from + BLOCK_SLOTS * k) (min BLOCK_SLOTS (count - BLOCK_SLOTS * k))

-- how many blocks so many slots make
abbrev pub block_count : ℕ → ℕ
block_count count = (count + (BLOCK_SLOTS - 1)) / BLOCK_SLOTS

-- how many slots of a run are charted from one on
abbrev pub charted : ℕ → Slot → ℕ
charted slots from = min MOST_CHARTED (slots - from)

-- of a run of so many slots by a plan, from a slot on
abbrev pub chart_of : PlanRec → ℕ → Slot → List ℕ
chart_of plan slots from =
    blocks_text plan from (charted slots from) (block_count (charted slots from))
    ++ (more_text (slots - from - MOST_CHARTED) ++ end_line slots)
