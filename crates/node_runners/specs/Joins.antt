-- The pins that the wires of a node join, by its ends.
use Rattle.std.specs.Prelude.{◌≡◌, ◌<◌, Some}
use Rattle.xs_base.specs.Numbers.{Position, LinkNumber, EndNumber, PortNumber}
use Rattle.xs_base.specs.declared.numbers.TheConstants.{PORTS}
use Rattle.sys_plan.specs.Plan.{PlanRec, Joined, incoming, wire_to}
use Rattle.locality_laws.specs.Locality.{Leaves}

-- the wire that comes to an end of the node at a position comes to the pin of this port
pub record ComesTo (plan : PlanRec) (n : Position) (end : EndNumber) (port : PortNumber) : Type 0 where
  pub there : port < PORTS
  pub wire : LinkNumber
  pub comes : incoming plan n end ≡ Some wire
  pub pin : wire_to plan n port ≡ Some wire

-- the wire that leaves by an end of it leaves the pin of this port
pub record LeavesFrom (plan : PlanRec) (n : Position) (end : EndNumber) (port : PortNumber) : Type 0 where
  pub there : port < PORTS
  pub wire : LinkNumber
  pub leaves : Leaves plan n end wire
  pub joined : Joined
  pub joins : leaves.arc.joins ≡ Some joined
  pub from : joined.from_port ≡ port
