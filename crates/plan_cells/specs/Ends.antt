-- The cells of a plan's arcs, and the ends of these cells that the nodes hold.
use Rattle.std.specs.Prelude.{◌≡◌, ◌≤◌, ◌+◌, Bool, ◌==◌, if◌then◌else◌, Some, None, List, [], ◌∷◌, map, slice_get}
use Rattle.std.specs.List.{AllByRecursion}
use Rattle.atomic_table.specs.Seated.{TableId}
use Rattle.xs_base.specs.Numbers.{EndNumber, Position, LinkNumber}
use Rattle.sys_plan.specs.Plan.{PlanRec, Arc, arcs}
use Rattle.serial_model.specs.Serial.{history}
use Rattle.link_logs.specs.Logs.{LogRec, new_write_end, new_read_end}
use Rattle.plan_cells.specs.declared.ends.Outgoing.{Outgoing}
use Rattle.plan_cells.specs.declared.ends.Incoming.{Incoming}
use Rattle.plan_cells.specs.declared.ends.Ends.{Ends}

-- ---- Which ends a node holds

-- an arc at a node: its end there, and its number
abbrev pub LinkAt : Type 0
LinkAt = EndNumber × LinkNumber

-- the arcs among these, of which the first has the number k, that pass a test, each with one of its ends
abbrev pub links_by : (Arc → Bool) → (Arc → EndNumber) → LinkNumber → List Arc → List LinkAt
links_by test end k [] = []
links_by test end k (d ∷ ds) = if test d then (end d, k) ∷ links_by test end (k + 1) ds else links_by test end (k + 1) ds

-- the arcs that leave the node at a position, and those that come to it, by number
abbrev pub leaving : PlanRec → Position → List LinkAt
leaving plan n = links_by (λ d. d.from == n) (λ d. d.from_end) 0 (arcs plan)

abbrev pub coming : PlanRec → Position → List LinkAt
coming plan n = links_by (λ d. d.to == n) (λ d. d.to_end) 0 (arcs plan)

-- where an end is
abbrev pub leaves_at : Outgoing → LinkAt
leaves_at o = (o.end, o.link)

abbrev pub comes_at : Incoming → LinkAt
comes_at i = (i.end, i.link)

-- ---- The cells and their ends

-- the cells of a plan's arcs, by number: which table each of them is
pub record CellsRec : Type 0 where
  pub plan : PlanRec
  pub tables : List TableId

-- an end is one of the cell of its arc
pub record IsOutgoing (cells : CellsRec) (o : Outgoing) : Type 0 where
  pub table : slice_get cells.tables o.link ≡ Some o.w.table
  pub run : o.w.end.run ≡ cells.plan
  pub number : o.w.end.number ≡ o.link

pub record IsIncoming (cells : CellsRec) (i : Incoming) : Type 0 where
  pub table : slice_get cells.tables i.link ≡ Some i.r.table
  pub run : i.r.end.run ≡ cells.plan
  pub number : i.r.end.number ≡ i.link

-- the ends that the node at a position holds
pub record AreEnds (cells : CellsRec) (n : Position) (ends : Ends) : Type 0 where
  pub outgoing_at : map leaves_at ends.outgoing.items ≡ leaving cells.plan n
  pub incoming_at : map comes_at ends.incoming.items ≡ coming cells.plan n
  pub outgoing_fit : AllByRecursion (IsOutgoing cells) ends.outgoing.items
  pub incoming_fit : AllByRecursion (IsIncoming cells) ends.incoming.items

-- nothing was published by it, and its log is open
abbrev pub IsNewOutgoing : PlanRec → Outgoing → Type 0
IsNewOutgoing plan o = o.w.end ≡ new_write_end plan o.link

-- nothing was read by it, it has not looked, and nothing is in hand
pub record IsNewIncoming (plan : PlanRec) (i : Incoming) : Type 0 where
  pub end : i.r.end ≡ new_read_end plan i.link
  pub none_in_hand : i.hand ≡ None

-- the ends that a node holds at the start
pub record AreNewEnds (cells : CellsRec) (n : Position) (ends : Ends) : Type 0 where
  pub are_ends : AreEnds cells n ends
  pub outgoing_new : AllByRecursion (IsNewOutgoing cells.plan) ends.outgoing.items
  pub incoming_new : AllByRecursion (IsNewIncoming cells.plan) ends.incoming.items

-- ---- The logs at the end

-- the log of an arc: all that it carries from the base on and before the published slot
pub record IsLogOf (plan : PlanRec) (link : LinkNumber) (log : LogRec PlanRec) : Type 0 where
  pub run : log.run ≡ plan
  pub number : log.number ≡ link
  pub base : log.base ≤ log.published
  pub entries : log.entries ≡ history plan link log.base log.published

-- among logs by number, that of an end's arc is as the end has left it
pub record HasLeft (logs : List (LogRec PlanRec)) (o : Outgoing) : Type 0 where
  pub log : LogRec PlanRec
  pub log_at : slice_get logs o.link ≡ Some log
  pub published : log.published ≡ o.w.end.published
  pub cause : log.cause ≡ o.w.end.cause

-- and it begins where the end that reads it has read to
pub record HasRead (logs : List (LogRec PlanRec)) (i : Incoming) : Type 0 where
  pub log : LogRec PlanRec
  pub log_at : slice_get logs i.link ≡ Some log
  pub base : log.base ≡ i.r.end.got
