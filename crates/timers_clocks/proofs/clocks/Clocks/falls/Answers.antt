use Rattle.std.proofs.Common.{sym, ◌-◌}
use Rattle.timers_clocks.proofs.Periods.{none_fall}
use Rattle.timers_clocks.proofs.clocks.Clocks.falls.Goals as goal

pub returns-in-None : goal.returns-in-None
returns-in-None c =
    record { value = sym (none_fall c.args.self.now c.args.clock c.args.from (c.args.to - c.args.from) c.in-None.ensures.never) }
