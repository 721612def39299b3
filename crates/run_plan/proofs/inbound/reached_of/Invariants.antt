use Rattle.std.proofs.Common.{◌≤◌, drop}
use Rattle.std.specs.List.{AllByRecursion}
use Rattle.xs_base.specs.declared.numbers.TheConstants.{LINK_ENDS}
use Rattle.run_plan.specs.Inbound.{IsNowhere}
use Rattle.run_plan.proofs.inbound.reached_of.Given as goal

abbrev pub invariant-loop-reached : goal.invariant-loop-reached
invariant-loop-reached l = record { within : l.reached ≤ LINK_ENDS; rest : AllByRecursion IsNowhere (drop l.reached l.links) }

abbrev pub decreases-loop-reached : goal.decreases-loop-reached
decreases-loop-reached l = l.reached
