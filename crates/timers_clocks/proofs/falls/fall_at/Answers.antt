use Rattle.std.proofs.Common.{◌≡◌, ◌+◌, ◌-◌, ◌*◌, ◌/◌, arith}
use Rattle.timers_clocks.proofs.Periods.{first_at, none_at}
use Rattle.timers_clocks.proofs.falls.fall_at.Goals as goal

pub returns-then-slot-from : goal.returns-then-slot-from
returns-then-slot-from c clocks clock every =
    let at : (c.from.result + c.from-2.result) * c.from-3.result + c.from-4.result ≡ (c.falls_before.result + (c.args.k - 1)) * c.args.period + c.args.period / 2 = cc in
    first_at c.args.period c.requires.some clocks clock every c.args.from c.args.bound c.falls_before.result c.args.k _
    c.requires.counted c.falls_before.ensures at (omega (arith, c.if-slot-from.true, c.from-5.ensures))

pub returns-else-slot-from : goal.returns-else-slot-from
returns-else-slot-from c clocks clock every =
    let at : (c.from.result + c.from-2.result) * c.from-3.result + c.from-4.result ≡ (c.falls_before.result + (c.args.k - 1)) * c.args.period + c.args.period / 2 = cc in
    none_at c.args.period c.requires.some clocks clock every c.args.from c.args.bound c.falls_before.result c.args.k _
    c.requires.counted c.falls_before.ensures at (omega (arith, c.if-slot-from.false, c.from-5.ensures))
