-- No arc comes to any end.
use Rattle.std.proofs.Common.{refl, arith}
use Rattle.sys_plan.specs.declared.system_plan.TheConstants.{ENDS}
use Rattle.ahead_limits.proofs.Reached.{none-anywhere}
use Rattle.ahead_limits.proofs.horizon.Horizon.new.Goals as goal

pub invariant_of-result : goal.invariant_of-result
invariant_of-result c = (refl, c.from.ensures, omega arith, λ end far. none-anywhere ENDS end)
