-- A node with the batches that lie ready for it.
use Rattle.std.specs.Prelude.{◌≡◌, ◌≤◌, false, None, Some, IsSome, List, [], ◌∷◌, slice_index_or, slice_set}
use Rattle.xs_base.specs.Numbers.{Position, LinkNumber, EndNumber}
use Rattle.sys_plan.specs.Plan.{PlanRec, incoming}
use Rattle.serial_model.specs.Serial.{history}
use Rattle.ahead_limits.specs.declared.horizon.Seen.{Seen}
use Rattle.ahead_limits.specs.Horizon.{HorizonRec, Sees, seen_at, seen_to, horizon_at, may_run}
use Rattle.node_runners.specs.Runner.{RunnerRec}
use Rattle.node_runners.specs.Busy.{HasSteppedBusy}
use Rattle.node_rounds.specs.declared.seat.Handed.{Handed}
use Rattle.node_rounds.specs.declared.seat.Seat.{Seat}

-- ---- Before it works

-- what a node has seen once it has taken a batch
abbrev pub heard : HorizonRec → Handed → HorizonRec
heard h x = record h { ends = slice_set h.ends x.end (seen_to x.to (slice_index_or h.ends x.end None)) }

-- and once it has taken some, one after the other
abbrev pub heard_all : HorizonRec → List Handed → HorizonRec
heard_all h [] = h
heard_all h (x ∷ xs) = heard_all (heard h x) xs

-- a batch is what the arc that comes to its end carried from where the node has seen it on
pub record IsNext (plan : PlanRec) (n : Position) (h : HorizonRec) (x : Handed) : Type 0 where
  pub there : IsSome (incoming plan n x.end)
  pub on : seen_at h x.end ≤ x.to
  pub own : (link : LinkNumber) → incoming plan n x.end ≡ Some link → x.batch.entries ≡ history plan link (seen_at h x.end) x.to

-- so is each of these, once those before it were taken
abbrev pub AreNext : PlanRec → Position → HorizonRec → List Handed → Type 0
AreNext plan n h [] = Unit {0}
AreNext plan n h (x ∷ xs) = IsNext plan n h x × AreNext plan n (heard h x) xs

abbrev pub MayTake : Seat → Type 0
MayTake seat = AreNext seat.runner.plan seat.runner.node seat.runner.horizon seat.handed.items

-- the node as it will be once it has taken what lies ready for it
abbrev pub told : Seat → RunnerRec
told seat = record seat.runner { horizon = heard_all seat.runner.horizon seat.handed.items }

-- ---- After it

-- it has taken all that lay ready for it
pub record HasTaken (before after : Seat) : Type 0 where
  pub runner : after.runner ≡ told before
  pub none_left : after.handed.items ≡ []

-- no memory was wanting
abbrev pub IsNotShort : Seat → Type 0
IsNotShort seat = seat.short ≡ false

-- a node is no further than its horizon, and stands at it
pub record HasRunOut (runner : RunnerRec) : Type 0 where
  pub stops : may_run runner.horizon runner.clock ≡ false
  pub within : runner.clock ≤ runner.horizon.limit
  pub ahead : (end : EndNumber) (s : Seen) → Sees runner.horizon end s → runner.clock ≤ horizon_at s

-- it has taken all that lay ready for it, and run as far as it may
pub record HasWorked (before after : Seat) : Type 0 where
  pub ran : after.runner ≡ record (told before) { clock = after.runner.clock; stepped = after.runner.stepped }
  pub none_left : after.handed.items ≡ []
  pub run_out : HasRunOut after.runner
  pub busy : HasSteppedBusy after.runner
