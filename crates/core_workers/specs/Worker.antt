-- A worker: one node that runs ahead of the others, with its ends of the cells of the plan's arcs.
use Rattle.std.specs.Prelude.{◌≡◌, ◌≢◌, ◌+◌, ◌<◌, ◌≤◌, min, Bool, true, false, ◌==◌, ◌&&◌, not, Option, Some, None, List, [], ◌∷◌, ◌++◌, All, Contains, length, map, filter, slice_index}
use Rattle.std.specs.List.{AllByRecursion, AllZip}
use Rattle.xs_base.specs.Numbers.{Slot, LinkNumber, EndNumber}
use Rattle.sys_plan.specs.Plan.{PlanRec, IsPlan, incoming, delay_of}
use Rattle.serial_model.specs.Serial.{history}
use Rattle.plan_stories.specs.Stories.{carried_at}
use Rattle.link_logs.specs.declared.answers.Cause.{Cause}
use Rattle.link_logs.specs.declared.answers.Got.{Got}
use Rattle.log_cells.specs.Ends.{one_more}
use Rattle.log_cells.specs.Tries.{LooksInTurn, reader_refused, writer_had, writer_refused}
use Rattle.plan_cells.specs.declared.ends.Hand.{Hand}
use Rattle.plan_cells.specs.declared.ends.Outgoing.{Outgoing}
use Rattle.plan_cells.specs.declared.ends.Incoming.{Incoming}
use Rattle.plan_cells.specs.declared.ends.Ends.{Ends}
use Rattle.plan_cells.specs.Ends.{CellsRec, leaving, coming, leaves_at, comes_at, IsOutgoing, IsIncoming}
use Rattle.sys_plan.specs.declared.system_plan.TheConstants.{ENDS}
use Rattle.ahead_limits.specs.declared.horizon.Seen.{Seen}
use Rattle.ahead_limits.specs.Horizon.{HorizonRec, Sees}
use Rattle.node_runners.specs.Runner.{RunnerRec}
pub use Rattle.node_runners.specs.Busy.{HasSteppedBusy, RunsOn}
use Rattle.core_workers.specs.declared.turn.Turn.{Turn}
use Rattle.core_workers.specs.declared.turn.Turn.TheVariants.{Ran, Blocked, Busy, Finished, Stopped, Memory}

-- what contracts see of a `Worker`, and of the `Part` that is left of it: the cells, the node, and its ends
pub record WorkerRec : Type 0 where
  pub cells : CellsRec
  pub runner : RunnerRec
  pub ends : Ends

-- ---- What a worker keeps

-- of an arc that was read up to a slot, the node was handed what stands before `seen`: the rest is in hand
abbrev pub IsInHand : PlanRec → LinkNumber → Slot → Slot → Option Hand → Type 0
IsInHand plan link seen got None = seen ≡ got
IsInHand plan link seen got (Some hand) = (seen ≤ got) × (hand.to ≡ got) × (hand.batch.entries ≡ history plan link seen got)

-- so much of an arc that comes to a node was handed to it, and the rest of what was read is in hand
pub record IsHeard (plan : PlanRec) (h : HorizonRec) (i : Incoming) : Type 0 where
  pub seen : Seen
  pub there : Sees h i.end seen
  pub delay : seen.delay ≡ delay_of plan i.link
  pub in_hand : IsInHand plan i.link seen.seen i.r.end.got i.hand

-- a node hears of the arcs that come to it by these ends, and of no others
pub record Listens (cells : CellsRec) (runner : RunnerRec) (ends : List Incoming) : Type 0 where
  pub places : map comes_at ends ≡ coming cells.plan runner.node
  pub fit : AllByRecursion (IsIncoming cells) ends
  pub heard : All (IsHeard cells.plan runner.horizon) ends
  pub no_others : (end : EndNumber) (s : Seen) → Sees runner.horizon end s → (link : LinkNumber) × (incoming cells.plan runner.node end ≡ Some link)

-- the node has published an arc that leaves it up to the same slot as the end that writes
abbrev pub IsTold : List Slot → Outgoing → Type 0
IsTold published o = slice_index published o.end ≡ o.w.end.published

-- a node tells by these ends what it sends
pub record Tells (cells : CellsRec) (runner : RunnerRec) (ends : List Outgoing) : Type 0 where
  pub places : map leaves_at ends ≡ leaving cells.plan runner.node
  pub fit : AllByRecursion (IsOutgoing cells) ends
  pub told : All (IsTold runner.published) ends
  pub all_ends : length runner.published ≡ ENDS

pub record IsWorker (w : WorkerRec) : Type 0 where
  pub plan_is : IsPlan w.cells.plan
  pub of_plan : w.runner.plan ≡ w.cells.plan
  pub listens : Listens w.cells w.runner w.ends.incoming.items
  pub tells : Tells w.cells w.runner w.ends.outgoing.items
  pub busy : HasSteppedBusy w.runner

-- the log of an arc that leaves the node is open
abbrev pub IsOpen : Outgoing → Type 0
IsOpen o = o.w.end.cause ≡ None

-- ---- What any turn leaves as it was

-- an end is that of the same arc and cell; it has read no less and looked no less often, and where it had found the log closed it still has
pub record StaysIncoming (before after : Incoming) : Type 0 where
  pub end : after.end ≡ before.end
  pub link : after.link ≡ before.link
  pub table : after.r.table ≡ before.r.table
  pub run : after.r.end.run ≡ before.r.end.run
  pub number : after.r.end.number ≡ before.r.end.number
  pub got : before.r.end.got ≤ after.r.end.got
  pub looks : before.r.end.looks ≤ after.r.end.looks
  pub shut : before.r.end.shut ≡ true → after.r.end.shut ≡ true

-- an end is that of the same arc and cell; it has published no less, and has not closed the log
pub record StaysOutgoing (before after : Outgoing) : Type 0 where
  pub end : after.end ≡ before.end
  pub link : after.link ≡ before.link
  pub table : after.w.table ≡ before.w.table
  pub rest : after.w.end ≡ record before.w.end { published = after.w.end.published }
  pub published : before.w.end.published ≤ after.w.end.published

pub record Stays (before after : WorkerRec) : Type 0 where
  pub cells : after.cells ≡ before.cells
  pub plan : after.runner.plan ≡ before.runner.plan
  pub node : after.runner.node ≡ before.runner.node
  pub limit : after.runner.horizon.limit ≡ before.runner.horizon.limit
  pub clock : before.runner.clock ≤ after.runner.clock
  pub incoming : AllZip StaysIncoming before.ends.incoming.items after.ends.incoming.items
  pub outgoing : AllZip StaysOutgoing before.ends.outgoing.items after.ends.outgoing.items

-- ---- A turn that had the memory

-- the log was looked at once
pub record Looked (before after : Incoming) : Type 0 where
  pub got : Got
  pub in_turn : LooksInTurn (carried_at before.r.end.run before.r.end.number) before.r got after.r
  pub looks : after.r.end.looks ≡ one_more before.r.end.looks

-- the log was to be looked at once: it was, or the cell was in use by its other end; and all that was read of it was handed to the node
pub record Tried (before after : Incoming) : Type 0 where
  pub looked : after.busy ≡ false → Looked before after
  pub refused : after.busy ≡ true → after.r ≡ reader_refused before.r
  pub none_in_hand : after.hand ≡ None

-- the arc was to be published up to a slot: it is already, and nobody is told; or it was, once; or the cell was in use by its other end
pub record Told (slot : Slot) (before after : Outgoing) : Type 0 where
  pub already : before.w.end.published ≡ slot → after.w ≡ before.w
  pub published : before.w.end.published ≢ slot → after.w.end.published ≡ slot → after.w ≡ writer_had before.w (record before.w.end { published = slot })
  pub refused : after.w.end.published ≢ slot → after.w ≡ writer_refused before.w

-- how far a node may run: to the limit, and of each arc that comes to it to the slot up to which it was read, and the arc's delay
abbrev pub reach : PlanRec → Slot → List Incoming → Slot
reach plan limit [] = limit
reach plan limit (i ∷ ends) = min (i.r.end.got + delay_of plan i.link) (reach plan limit ends)

-- each log was looked at or in use, the node has run as far as it may, and each arc was published up to there or its cell in use
pub record Exchanged (before after : WorkerRec) : Type 0 where
  pub tried : AllZip Tried before.ends.incoming.items after.ends.incoming.items
  pub ran : after.runner.clock ≡ reach after.cells.plan after.runner.horizon.limit after.ends.incoming.items
  pub told : AllZip (Told after.runner.clock) before.ends.outgoing.items after.ends.outgoing.items

-- ---- The answers. Beside `Memory`, exactly one fits where the logs were tried and what was sent was told

-- the arcs of which the logs were found closed
abbrev pub shut_links : List Incoming → List LinkNumber
shut_links ends = map (λ (i : Incoming). i.link) (filter (λ (i : Incoming). i.r.end.shut) ends)

-- an arc was looked at in the turn, and lets the node run no further
abbrev pub stops_here : PlanRec → Slot → Incoming → Bool
stops_here plan clock i = not i.busy && (i.r.end.got + delay_of plan i.link == clock)

-- the ends of such arcs
abbrev pub stopping_ends : PlanRec → Slot → List Incoming → List EndNumber
stopping_ends plan clock ends = map (λ (i : Incoming). i.end) (filter (stops_here plan clock) ends)

-- an arc is not published up to a slot
abbrev pub is_behind : Slot → Outgoing → Bool
is_behind slot o = not (o.w.end.published == slot)

-- the ends of arcs that were not looked at, since their cells were in use
abbrev pub unheard_ends : List Incoming → List EndNumber
unheard_ends ends = map (λ (i : Incoming). i.end) (filter (λ (i : Incoming). i.busy) ends)

-- the ends of arcs that are not published up to a slot
abbrev pub untold_ends : Slot → List Outgoing → List EndNumber
untold_ends clock ends = map (λ (o : Outgoing). o.end) (filter (is_behind clock) ends)

abbrev pub IsLeast : LinkNumber → List LinkNumber → Type 0
IsLeast link links = Contains links link × All (λ k. link ≤ k) links

-- the arc that comes to an end was read up to a slot
pub record IsReadTo (slot : Slot) (end : EndNumber) (ends : List Incoming) : Type 0 where
  pub reader : Incoming
  pub there : Contains ends reader
  pub at_end : reader.end ≡ end
  pub got : reader.r.end.got ≡ slot

-- where a turn began, where it came to, and how it left the ends of the arcs
pub record Outcome : Type 0 where
  pub plan : PlanRec
  pub from : Slot
  pub clock : Slot
  pub limit : Slot
  pub incoming : List Incoming
  pub outgoing : List Outgoing

abbrev pub outcome_of : WorkerRec → WorkerRec → Outcome
outcome_of before after = record {
  plan = after.cells.plan;
  from = before.runner.clock;
  clock = after.runner.clock;
  limit = after.runner.horizon.limit;
  incoming = after.ends.incoming.items;
  outgoing = after.ends.outgoing.items;
}

-- the node is at the limit, and each arc that leaves it is published up to there
abbrev pub IsAllDone : Outcome → Type 0
IsAllDone o = (o.clock ≡ o.limit) × All (λ (w : Outgoing). w.w.end.published ≡ o.limit) o.outgoing

-- no slot was run
abbrev pub IsIdle : Outcome → Type 0
IsIdle o = o.clock ≡ o.from

-- at the limit, or no log was found closed and each arc that stops the node was not looked at
abbrev pub IsUnexplained : Outcome → Type 0
IsUnexplained o = o.clock < o.limit → (shut_links o.incoming ≡ []) × (stopping_ends o.plan o.clock o.incoming ≡ [])

abbrev pub AnswersBy : Outcome → Turn → Type 0
AnswersBy o Finished = IsAllDone o
AnswersBy o (Ran from to) = (IsAllDone o → ⊥) × (from ≡ o.from) × (to ≡ o.clock) × (from < to)
AnswersBy o (Stopped link) = IsIdle o × (o.clock < o.limit) × IsLeast link (shut_links o.incoming)
AnswersBy o (Blocked end seen) =
    IsIdle o × (o.clock < o.limit) × (shut_links o.incoming ≡ []) × IsLeast end (stopping_ends o.plan o.clock o.incoming) × IsReadTo seen end o.incoming
AnswersBy o (Busy end) = (IsAllDone o → ⊥) × IsIdle o × IsUnexplained o × IsLeast end (unheard_ends o.incoming ++ untold_ends o.clock o.outgoing)
AnswersBy o Memory = Unit {0}

abbrev pub Answers : WorkerRec → Turn → WorkerRec → Type 0
Answers before turn after = AnswersBy (outcome_of before after) turn

-- ---- Stopping

-- why a log is closed that was closed for a cause, unless it had been before
abbrev pub closed_with : Cause → Option Cause → Option Cause
closed_with cause None = Some cause
closed_with cause (Some earlier) = Some earlier

-- the log is closed, and nothing else changes
pub record Closes (cause : Cause) (before after : Outgoing) : Type 0 where
  pub end : after.end ≡ before.end
  pub link : after.link ≡ before.link
  pub table : after.w.table ≡ before.w.table
  pub closed : after.w.end ≡ record before.w.end { cause = closed_with cause before.w.end.cause }

-- only the ends that write change
pub record KeepsAllElse (before after : WorkerRec) : Type 0 where
  pub cells : after.cells ≡ before.cells
  pub runner : after.runner ≡ before.runner
  pub incoming : after.ends.incoming ≡ before.ends.incoming
