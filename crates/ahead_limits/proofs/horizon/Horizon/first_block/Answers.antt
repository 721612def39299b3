use Rattle.ahead_limits.proofs.Ends.{stop_told, none_told}
use Rattle.sys_plan.specs.declared.system_plan.TheConstants.{ENDS}
use Rattle.ahead_limits.proofs.horizon.Horizon.first_block.Goals as goal

pub returns-clause-least : goal.returns-clause-least
returns-clause-least c = stop_told c.args.self.now c.args.clock c.first_stop.result c.first_stop.ensures

pub returns-clause-none : goal.returns-clause-none
returns-clause-none c = none_told c.args.self.now c.args.clock ENDS c.first_stop.result c.first_stop.ensures
