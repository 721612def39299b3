-- The ends of a node before its first slot.
use Rattle.std.specs.Prelude.{◌≡◌, Option, Some, None, []}
use Rattle.xs_base.specs.Numbers.{Position, LinkNumber, EndNumber}
use Rattle.sys_plan.specs.Plan.{PlanRec, incoming, delay_of}
use Rattle.node_runners.specs.declared.wire_inlets.WireInlet.{WireInlet}
use Rattle.node_runners.specs.Queue.{InletRec, no_inlet}
use Rattle.node_runners.specs.Sent.{WireOutRec, no_batch}
use Rattle.node_runners.specs.Joins.{ComesTo, LeavesFrom}

-- what comes by an arc, where there is one, of which nothing was seen
abbrev pub first_inlet : PlanRec → Option LinkNumber → InletRec
first_inlet plan None = no_inlet
first_inlet plan (Some link) = record { delay = delay_of plan link; queue = [] }

-- the wire that comes to an end of the node at a position, of which nothing was seen
pub record FirstIn (plan : PlanRec) (n : Position) (end : EndNumber) (wire : WireInlet) : Type 0 where
  pub comes : ComesTo plan n end wire.port
  pub inlet : wire.inlet ≡ first_inlet plan (incoming plan n end)

-- the wire that leaves by an end of it, which was told nothing
pub record FirstOut (plan : PlanRec) (n : Position) (end : EndNumber) (wire : WireOutRec) : Type 0 where
  pub leaves : LeavesFrom plan n end wire.port
  pub nothing : wire ≡ record { port = wire.port; sent = 0; batch = no_batch }
