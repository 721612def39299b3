use Rattle.std.proofs.Common.{sym, ◌≤◌, arith}
use Rattle.timers_clocks.proofs.Periods.{no_slots, between}
use Rattle.timers_clocks.proofs.falls.falls_in.Goals as goal

pub returns-then-to-from : goal.returns-then-to-from
returns-then-to-from c clocks clock every = sym (no_slots clocks clock c.args.from c.args.to c.if-to-from.true)

pub returns : goal.returns
returns c clocks clock every =
    let upward : c.args.from ≤ c.args.to = omega (arith, c.if-to-from.false) in
    omega (arith, between c.args.period c.requires.some clocks clock every c.args.from c.args.to _ _ upward c.falls_before-2.ensures c.falls_before.ensures)
