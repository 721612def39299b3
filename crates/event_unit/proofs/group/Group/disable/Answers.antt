use Rattle.std.proofs.Common.{subst, sym, arith}
use Rattle.event_unit.proofs.Disabled.{AreDisabledBelow, all_disabled, none_disabled}
use Rattle.event_unit.proofs.group.Group.disable.Goals as goal

pub returns-after-loop-n : goal.returns-after-loop-n
returns-after-loop-n g c test agrees =
    all_disabled c.args.mask c.loop-n.n c.args.self.now c.loop-n.self test (omega (arith, c.count-count.ensures.length)) (λ i h. agrees i (omega (arith, c.count-count.ensures.length, h))) c.loop-n.invariant

pub returns-else-mask-ne0 : goal.returns-else-mask-ne0
returns-else-mask-ne0 g c test agrees =
    all_disabled c.args.mask g.row.N c.args.self.now c.args.self.now test (omega (arith, c.count-count.ensures.length)) (λ i h. agrees i (omega (arith, c.count-count.ensures.length, h))) (subst (λ m. AreDisabledBelow g.row.N m c.args.self.now c.args.self.now) (sym c.if-mask-ne0.false) (none_disabled g.row.N c.args.self.now))
