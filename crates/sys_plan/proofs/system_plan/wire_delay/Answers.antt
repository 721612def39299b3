use Rattle.std.proofs.Common.{[], sym}
use Rattle.sys_plan.proofs.Wires.{wire_delay_at}
use Rattle.sys_plan.proofs.system_plan.wire_delay.Goals as goal

pub returns : goal.returns
returns c = sym (wire_delay_at [] c.args.wires.now c.args.wire _ c.requires.number)
