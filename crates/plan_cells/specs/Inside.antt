-- What the cells of a plan are made of, and how their ends are dealt to the nodes.
use Rattle.std.specs.Prelude.{false, ℕ, ◌≡◌, ◌<◌, ◌++◌, ◌==◌, Some, None, List, [], ◌∷◌, length, map, slice_get, slice_set, slice_index_or}
use Rattle.std.specs.List.{AllByRecursion}
use Rattle.atomic_table.specs.Seated.{TableId}
use Rattle.xs_base.specs.Numbers.{EndNumber, Position, LinkNumber}
use Rattle.sys_plan.specs.Plan.{PlanRec, Arc, arcs, arc_count}
use Rattle.link_logs.specs.Logs.{new_write_end, new_read_end}
use Rattle.log_cells.specs.Ends.{CellRec}
use Rattle.plan_cells.specs.declared.ends.Outgoing.{Outgoing}
use Rattle.plan_cells.specs.declared.ends.Incoming.{Incoming}
use Rattle.plan_cells.specs.declared.ends.Ends.{Ends}
use Rattle.plan_cells.specs.Ends.{LinkAt, CellsRec, links_by, leaves_at, comes_at, IsOutgoing, IsIncoming, IsNewOutgoing, IsNewIncoming}

-- ---- Cells by number

abbrev pub tables_of : List (CellRec PlanRec) → List TableId
tables_of cells = map (λ (c : CellRec PlanRec). c.table) cells

abbrev pub cells_of : PlanRec → List (CellRec PlanRec) → CellsRec
cells_of plan cells = record { plan = plan; tables = tables_of cells }

-- a cell is that of the arc with a number
pub record IsCellOf (plan : PlanRec) (link : LinkNumber) (cell : CellRec PlanRec) : Type 0 where
  pub run : cell.run ≡ plan
  pub number : cell.number ≡ link

-- one cell for each arc of a plan, by number
pub record AreCells (plan : PlanRec) (cells : List (CellRec PlanRec)) : Type 0 where
  pub count : length cells ≡ arc_count plan
  pub each : (link : LinkNumber) (cell : CellRec PlanRec) → slice_get cells link ≡ Some cell → IsCellOf plan link cell

-- ---- Ends by node

abbrev pub outgoing_items : Ends → List Outgoing
outgoing_items ends = ends.outgoing.items

abbrev pub incoming_items : Ends → List Incoming
incoming_items ends = ends.incoming.items

abbrev pub outgoing_of : List Ends → List (List Outgoing)
outgoing_of all = map outgoing_items all

abbrev pub incoming_of : List Ends → List (List Incoming)
incoming_of all = map incoming_items all

-- one more stands in the list at a place, behind the others
abbrev pub handed : {X : Type 0} → List (List X) → ℕ → X → List (List X)
handed lists n x = slice_set lists n (slice_index_or lists n [] ++ x ∷ [])

-- of the arcs at a node, in order, each has one of these, and each of these is fit
pub record Lies {X : Type 0} (at : X → LinkAt) (site : Arc → Position) (end : Arc → EndNumber) (Fit : X → Type 0) (ds : List Arc) (n : Position) (xs : List X) : Type 0 where
  pub places : map at xs ≡ links_by (λ d. site d == n) end 0 ds
  pub fit : AllByRecursion Fit xs

abbrev pub AllLie : {X : Type 0} → (X → LinkAt) → (Arc → Position) → (Arc → EndNumber) → (X → Type 0) → List Arc → List (List X) → Type 0
AllLie at site end Fit ds lists = (n : Position) → n < length lists → Lies at site end Fit ds n (slice_index_or lists n [])

abbrev pub from_of : Arc → Position
from_of d = d.from

abbrev pub to_of : Arc → Position
to_of d = d.to

abbrev pub from_end_of : Arc → EndNumber
from_end_of d = d.from_end

abbrev pub to_end_of : Arc → EndNumber
to_end_of d = d.to_end

abbrev pub OutgoingLie : (Outgoing → Type 0) → List Arc → List (List Outgoing) → Type 0
OutgoingLie Fit ds lists = AllLie leaves_at from_of from_end_of Fit ds lists

abbrev pub IncomingLie : (Incoming → Type 0) → List Arc → List (List Incoming) → Type 0
IncomingLie Fit ds lists = AllLie comes_at to_of to_end_of Fit ds lists

-- ---- Dealing

-- the ends of a cell as they are made
abbrev pub outgoing_end : Arc → LinkNumber → PlanRec → TableId → Outgoing
outgoing_end d link plan table = record { end = d.from_end; link = link; w = record { table = table; end = new_write_end plan link; refused = 0; raised = 0 } }

abbrev pub incoming_end : Arc → LinkNumber → PlanRec → TableId → Incoming
incoming_end d link plan table = record { end = d.to_end; link = link; r = record { table = table; end = new_read_end plan link; refused = 0; turns = [] }; hand = None; busy = false }

-- the ends of one more cell go to its two nodes
pub record Deals (plan : PlanRec) (link : LinkNumber) (cell : CellRec PlanRec) (before after : List Ends) : Type 0 where
  pub arc : Arc
  pub here : slice_get (arcs plan) link ≡ Some arc
  pub from_there : arc.from < length plan.nodes
  pub to_there : arc.to < length plan.nodes
  pub outgoing : outgoing_of after ≡ handed (outgoing_of before) arc.from (outgoing_end arc link plan cell.table)
  pub incoming : incoming_of after ≡ handed (incoming_of before) arc.to (incoming_end arc link plan cell.table)

-- each end is a new one of a cell among these
abbrev pub IsDealtOutgoing : CellsRec → Outgoing → Type 0
IsDealtOutgoing cells o = IsOutgoing cells o × IsNewOutgoing cells.plan o

abbrev pub IsDealtIncoming : CellsRec → Incoming → Type 0
IsDealtIncoming cells i = IsIncoming cells i × IsNewIncoming cells.plan i

-- the ends of the first arcs are with their nodes
pub record AreDealt (cells : CellsRec) (ds : List Arc) (all : List Ends) : Type 0 where
  pub outgoing : OutgoingLie (IsDealtOutgoing cells) ds (outgoing_of all)
  pub incoming : IncomingLie (IsDealtIncoming cells) ds (incoming_of all)
