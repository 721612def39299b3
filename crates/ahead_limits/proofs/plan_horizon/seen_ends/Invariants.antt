use Rattle.std.proofs.Common.{◌≡◌, length}
use Rattle.std.specs.Prelude.{option_map}
use Rattle.sys_plan.specs.Plan.{incoming}
use Rattle.sys_plan.specs.declared.system_plan.TheConstants.{ENDS}
use Rattle.ahead_limits.specs.Schedule.{seen_of_link}
use Rattle.ahead_limits.specs.Bound.{NoneFrom}
use Rattle.ahead_limits.proofs.Told.{ToldBelow}
use Rattle.ahead_limits.proofs.plan_horizon.seen_ends.Given as goal

abbrev pub invariant-loop-end : goal.invariant-loop-end
invariant-loop-end l = record {
  long : length l.ends ≡ ENDS;
  told : ToldBelow (λ e. option_map (seen_of_link l.plan l.seen) (incoming l.plan l.node e)) l.end l.ends;
  none_from : NoneFrom l.end l.ends;
}
