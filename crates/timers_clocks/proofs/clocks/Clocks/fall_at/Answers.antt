use Rattle.timers_clocks.proofs.Periods.{never_first}
use Rattle.timers_clocks.proofs.clocks.Clocks.fall_at.Goals as goal

pub returns-in-None : goal.returns-in-None
returns-in-None c =
    record { first = never_first c.args.self.now c.args.clock c.args.from c.args.bound c.args.k c.requires.counted c.in-None.ensures.never }
